use Rattle.std.proofs.Common.{◌≡◌}
use Rattle.std.specs.Vec.Iter.{into_iter_items}
use Rattle.zasn_tables.specs.Within.{all_meanings, whole_of}
use Rattle.zasn.proofs.Lists.{behind}
use Rattle.zasn.proofs.sequence_of.all_taken.Given as goal

abbrev pub invariant-loop-given : goal.invariant-loop-given
invariant-loop-given g l = behind l.values.items (all_meanings (whole_of g.T.Tagged.place) (into_iter_items l.given-iterator)) ≡ all_meanings (whole_of g.T.Tagged.place) l.fn.nodes.items
