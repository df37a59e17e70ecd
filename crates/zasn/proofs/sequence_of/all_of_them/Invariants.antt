use Rattle.std.proofs.Common.{◌≡◌, drop}
use Rattle.zasn_tables.specs.Within.{all_spellings}
use Rattle.zasn.proofs.Lists.{behind}
use Rattle.zasn.proofs.sequence_of.all_of_them.Given as goal

abbrev pub invariant-loop-value : goal.invariant-loop-value
invariant-loop-value g l = behind l.out (all_spellings g.T.Tagged.place.spelling (drop l.value-index l.values)) ≡ all_spellings g.T.Tagged.place.spelling l.values
