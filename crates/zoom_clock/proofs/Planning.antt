-- The connections at the start, as a loop goes over them.
use Rattle.std.proofs.Common.{◌≡◌, ◌⊎◌, inl, inr, ℕ, zero, suc, ◌+◌, ◌<◌, ◌≤◌, Bool, List, [], ◌∷◌, ◌++◌, length, take, Option, Some, refl, sym, ap, subst, ◌∙◌, arith, add-one}
use Rattle.std.proofs.lemmas.Option.{slice_get_within}
use Rattle.std.specs.Prelude.{slice_get, slice_set}
use Rattle.zoom_clock.specs.declared.plan.Plan.{Plan}
use Rattle.zoom_clock.specs.declared.course.Course.{Course}
use Rattle.zoom_clock.specs.Courses.{wake_of}
use Rattle.zoom_clock.specs.Times.{IsTime}
use Rattle.zoom_clock.specs.Clocks.{all_planned}
use Rattle.zoom_clock.specs.Plans.{planned}
use Rattle.zoom_clock.proofs.Places.{get_set, get_last, length_set}

-- the first `i` plans were made
pub record ArePlanned
    (start : ℕ) (wanted : Bool) (i : ℕ) (plans : List Plan) (courses : List Course)
    (wakes : List (Option ℕ)) : Type 0 where
  pub courses_are : courses ≡ all_planned start wanted (take i plans)
  pub size : length wakes ≡ length plans
  pub kept : (c : ℕ) (p : Course) (r : Option ℕ) → slice_get courses c ≡ Some p → slice_get wakes c ≡ Some r
      → IsTime (wake_of p) r

take_more : (i : ℕ) (plans : List Plan) (plan : Plan) → slice_get plans i ≡ Some plan
    → take (suc i) plans ≡ take i plans ++ plan ∷ []
take_more i [] plan at = absurd (cc)
take_more zero (x ∷ plans) plan at = let e : x ≡ plan = cc in ap (λ y. y ∷ []) e
take_more (suc i) (x ∷ plans) plan at = ap (λ l. x ∷ l) (take_more i plans plan at)

length_take : (i : ℕ) (plans : List Plan) → i ≤ length plans → length (take i plans) ≡ i
length_take zero plans le = refl
length_take (suc i) [] le = absurd (omega arith)
length_take (suc i) (x ∷ plans) le = ap suc (length_take i plans (omega arith))

planned_more : (start : ℕ) (wanted : Bool) (plans : List Plan) (plan : Plan)
    → all_planned start wanted (plans ++ plan ∷ []) ≡ all_planned start wanted plans ++ planned start wanted plan ∷ []
planned_more start wanted [] plan = refl
planned_more start wanted (x ∷ plans) plan = ap (λ l. planned start wanted x ∷ l) (planned_more start wanted plans plan)

planned_count : (start : ℕ) (wanted : Bool) (plans : List Plan) → length (all_planned start wanted plans) ≡ length plans
planned_count start wanted [] = refl
planned_count start wanted (x ∷ plans) = ap suc (planned_count start wanted plans)

pub none_planned : (start : ℕ) (wanted : Bool) (plans : List Plan) (courses : List Course)
    (wakes : List (Option ℕ)) → courses ≡ [] → length wakes ≡ length plans
    → ArePlanned start wanted 0 plans courses wakes
none_planned start wanted plans courses wakes none size = record {
  courses_are = none;
  size = size;
  kept = λ c p r at. absurd (subst (λ (l : List Course). slice_get l c ≡ Some p → ⊥) (sym none) (λ h. cc) at);
}

pub one_planned : (start : ℕ) (wanted : Bool) (i : ℕ) (plans : List Plan) (plan : Plan) (courses more : List Course)
    (wakes later : List (Option ℕ)) (q : Course) (r : Option ℕ)
    → ArePlanned start wanted i plans courses wakes → slice_get plans i ≡ Some plan
    → q ≡ planned start wanted plan → more ≡ courses ++ q ∷ [] → later ≡ slice_set wakes i r
    → IsTime (wake_of q) r → ArePlanned start wanted (i + 1) plans more later
one_planned start wanted i plans plan courses more wakes later q r a at made pushed set time = record {
  courses_are = pushed ∙ ap (λ l. l ++ q ∷ []) a.courses_are
      ∙ ap (λ y. all_planned start wanted (take i plans) ++ y ∷ []) made
      ∙ sym (planned_more start wanted (take i plans) plan) ∙ ap (all_planned start wanted) (sym longer);
  size = ap length set ∙ length_set wakes i r ∙ a.size;
  kept = λ d x s atx ats. by d x s
      (get_last courses d q x (subst (λ (l : List Course). slice_get l d ≡ Some x) pushed atx))
      (get_set wakes i d r s (subst (λ (l : List (Option ℕ)). slice_get l d ≡ Some s) set ats));
}
  where
    lt : i < length plans
    lt = slice_get_within plans i plan at

    longer : take (i + 1) plans ≡ take i plans ++ plan ∷ []
    longer = ap (λ k. take k plans) (add-one i) ∙ take_more i plans plan at

    so_far : length courses ≡ i
    so_far = ap length a.courses_are ∙ planned_count start wanted (take i plans) ∙ length_take i plans (omega (arith, lt))

    by : (d : ℕ) (x : Course) (s : Option ℕ) → (slice_get courses d ≡ Some x) ⊎ ((d ≡ length courses) × (q ≡ x))
        → ((d ≡ i) × (r ≡ s)) ⊎ ((d ≡ i → ⊥) × (slice_get wakes d ≡ Some s)) → IsTime (wake_of x) s
    by d x s (inl old) (inl new) = absurd (let l = slice_get_within courses d x old in let e = new.0 in omega (arith, so_far))
    by d x s (inl old) (inr other) = a.kept d x s old other.1
    by d x s (inr new) (inl set_now) =
        subst (λ y. IsTime (wake_of y) s) new.1 (subst (IsTime (wake_of q)) set_now.1 time)
    by d x s (inr new) (inr other) = absurd (other.0 (new.0 ∙ so_far))
