use Rattle.std.proofs.Common.{Some, None, refl, subst}
use Rattle.zknow.proofs.SavedTheory.LoadSteps.{sorted_above, above_sorted}
use Rattle.zknow_merge.specs.Sources.{IsLastHead}
use Rattle.zknow_merge.proofs.source.is_above.Goals as goal

pub returns-in-None : goal.returns-in-None
returns-in-None c = λ facts f last key sorted.
    let none = subst (IsLastHead facts) c.in-None.is last in
    (λ _. sorted_above facts f None none tt sorted, λ _. refl)

pub returns-in-Some : goal.returns-in-Some
returns-in-Some c = λ facts f last key sorted.
    let some = subst (IsLastHead facts) c.in-Some.is last in
    let below = c.is_below.ensures some.1 f some.3.key key in (
      λ true_now. sorted_above facts f (Some some.1) (some.0, some.2) (below.0 true_now) sorted,
      λ more. below.1 (above_sorted facts f (Some some.1) (some.0, some.2) more),
    )
