use Rattle.std.proofs.Common.{◌≡◌, drop}
use Rattle.zasn_tables.specs.Within.{all_meanings, whole_of}
use Rattle.zasn.proofs.Lists.{behind}
use Rattle.zasn.proofs.sequence_of.all_in.Given as goal

abbrev pub invariant-loop-node : goal.invariant-loop-node
invariant-loop-node g l = behind l.values.items (all_meanings (whole_of g.T.Tagged.place) (drop l.node-index l.nodes)) ≡ all_meanings (whole_of g.T.Tagged.place) l.nodes
