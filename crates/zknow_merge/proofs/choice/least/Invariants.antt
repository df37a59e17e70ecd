use Rattle.std.proofs.Common.{◌≡◌, ◌<◌, true, length, get_or}
use Rattle.std.specs.Prelude.{IfSome}
use Rattle.zknow_merge.specs.declared.source.Source.{Source}
use Rattle.zknow_merge.specs.Sources.{AreHeaded, IsLeastOf}
use Rattle.zknow_merge.proofs.choice.least.Given as goal

abbrev pub invariant-loop-k : goal.invariant-loop-k
invariant-loop-k l = record {
  among : IfSome l.found (λ j. j < length l.sources);
  waits : IfSome l.found (λ j. (d : Source) → (get_or l.sources j d).waiting ≡ true);
  least : AreHeaded l.sources → IsLeastOf l.sources l.k l.found;
}
