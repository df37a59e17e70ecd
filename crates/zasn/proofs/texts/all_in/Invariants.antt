use Rattle.std.proofs.Common.{◌≡◌, drop}
use Rattle.zasn_tables.specs.Within.{all_meanings}
use Rattle.zasn.specs.Places.{text_under}
use Rattle.zasn.proofs.Lists.{behind}
use Rattle.zasn.proofs.texts.all_in.Given as goal

abbrev pub invariant-loop-node : goal.invariant-loop-node
invariant-loop-node l = behind l.texts.items (all_meanings (text_under l.tag) (drop l.node-index l.nodes)) ≡ all_meanings (text_under l.tag) l.nodes
