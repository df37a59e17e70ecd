-- After a tick at its time, one connection fewer is due.
use Rattle.std.proofs.Common.{◌≡◌, ℕ, zero, suc, ◌+◌, ◌<◌, ◌≤◌, Bool, false, true, cond, List, [], ◌∷◌, Option, None, Some, refl, ap, ◌∙◌, arith}
use Rattle.std.proofs.lemmas.List.Sums.{sum_by-cons}
use Rattle.std.specs.Prelude.{slice_get, slice_set, count_by}
use Rattle.zoom_clock.specs.declared.course.Course.{Course}
use Rattle.zoom_clock.specs.declared.signal.Signal.TheVariants as signals
use Rattle.zoom_clock.specs.Courses.{event, wake_of, step}
use Rattle.zoom_clock.specs.Clocks.{is_due}
use Rattle.zoom_clock.specs.Times.{IsTime, never}
use Rattle.zoom_clock.proofs.Choices.{has_come, has_not_come}
use Rattle.zoom_clock.proofs.Waking.{wakes_later}

not_due : (at w : ℕ) (r : Option ℕ) → at < w → IsTime w r → is_due at r ≡ false
not_due at w None lt t = refl
not_due at w (Some u) lt t = has_not_come u at (let e = t.0 in omega arith)

abbrev one_if : Bool → ℕ
one_if b = cond b 1 0

pub one_fewer : (at c : ℕ) (xs : List (Option ℕ)) (r : Option ℕ) (u : ℕ) → slice_get xs c ≡ Some (Some u) → u ≤ at
    → is_due at r ≡ false → count_by (is_due at) (slice_set xs c r) + 1 ≡ count_by (is_due at) xs
one_fewer at c [] r u get le off = absurd (cc)
one_fewer at zero (x ∷ xs) r u get le off =
    let is : x ≡ Some u = cc in
    let on : is_due at x ≡ true = ap (is_due at) is ∙ has_come u at le in
    let none : one_if (is_due at r) ≡ 0 = ap one_if off in
    let one : one_if (is_due at x) ≡ 1 = ap one_if on in
    let before : count_by (is_due at) (x ∷ xs) ≡ one_if (is_due at x) + count_by (is_due at) xs =
    sum_by-cons (λ y. one_if (is_due at y)) x xs in
    let after : count_by (is_due at) (r ∷ xs) ≡ one_if (is_due at r) + count_by (is_due at) xs =
    sum_by-cons (λ y. one_if (is_due at y)) r xs in
    let goal : count_by (is_due at) (r ∷ xs) + 1 ≡ count_by (is_due at) (x ∷ xs) = omega arith in goal
one_fewer at (suc c) (x ∷ xs) r u get le off =
    let h = one_fewer at c xs r u get le off in
    let before : count_by (is_due at) (x ∷ xs) ≡ one_if (is_due at x) + count_by (is_due at) xs =
    sum_by-cons (λ y. one_if (is_due at y)) x xs in
    let after : count_by (is_due at) (x ∷ slice_set xs c r)
    ≡ one_if (is_due at x) + count_by (is_due at) (slice_set xs c r) =
    sum_by-cons (λ y. one_if (is_due at y)) x (slice_set xs c r) in
    let goal : count_by (is_due at) (x ∷ slice_set xs c r) + 1 ≡ count_by (is_due at) (x ∷ xs) = omega arith in goal

pub none_due_after : (p : Course) (at : ℕ) (r : Option ℕ) → at < never → IsTime (wake_of (step (event at signals.Tick) p)) r
    → is_due at r ≡ false
none_due_after p at r fits t = not_due at (wake_of (step (event at signals.Tick) p)) r (wakes_later p at fits) t
