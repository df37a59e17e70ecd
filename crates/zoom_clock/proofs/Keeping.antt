-- The clock keeps the times to wake, and the connections before the turn are over.
use Rattle.std.proofs.Common.{◌≡◌, ◌⊎◌, inl, inr, ℕ, ◌<◌, ◌≤◌, ◌^◌, Bool, true, false, List, ◌++◌, length, Option, None, Some, refl, sym, ap, subst, ◌∙◌, arith, get_or}
use Rattle.std.proofs.lemmas.Option.{slice_get_within, slice_get-get_or}
use Rattle.std.specs.Prelude.{slice_get, slice_set}
use Rattle.std.specs.Option.{IfSome, IfNone}
use Rattle.zoom_clock.specs.declared.clock.Clock.{Clock}
use Rattle.zoom_clock.specs.declared.course.Course.{Course}
use Rattle.zoom_clock.specs.Actions.{all_for}
use Rattle.zoom_clock.specs.Courses.{Event, is_settled, is_idle, wake_of, step, tasks_of}
use Rattle.zoom_clock.specs.Times.{IsTime}
use Rattle.zoom_clock.specs.Wakes.{HasTime, NoneBefore}
use Rattle.zoom_clock.specs.Clocks.{IsOrderly, AfterNote, IsLeastWake, NoneIsDue}
use Rattle.zoom_clock.proofs.Places.{get_set, some_at}

-- a connection that is over stays so
pub settled_stays : (e : Event) (p : Course) → is_settled p.stage ≡ true → step e p ≡ p
settled_stays e p h = by (is_idle e p) refl
  where
    by : (b : Bool) → is_idle e p ≡ b → step e p ≡ p
    by true q = cc
    by false q = absurd (cc)

-- the time to wake that is kept
kept_wake : (k : Clock) (c : ℕ) (p : Course) → slice_get k.courses.items c ≡ Some p
    → (r : Option ℕ) × (slice_get k.wakes c ≡ Some r)
kept_wake k c p get =
    let within = slice_get_within k.courses.items c p get in
    let lt : c < length k.wakes = let s = k.sized in omega arith in
    (get_or k.wakes c None, slice_get-get_or k.wakes c None lt)

pub none_due : (k : Clock) → k.passed < 2 ^ 64
    → ((c t : ℕ) → slice_get k.wakes c ≡ Some (Some t) → k.passed < t) → IsOrderly k → NoneIsDue k.passed k.courses.items
none_due k fits none o c p get = let w = kept_wake k c p get in by w.0 w.1 (o.wakes c p w.0 get w.1)
  where
    by : (r : Option ℕ) → slice_get k.wakes c ≡ Some r → IsTime (wake_of p) r → k.passed < wake_of p
    by None at t = omega arith
    by (Some u) at t = let h = none c u at in let e = t.0 in omega arith

pub if_none : {A : Type 0} {P Q : Type 0} (r : Option A) → (P → Q) → IfNone r P → IfNone r Q
if_none None f h = f h
if_none (Some x) f h = tt

pub least_wake : (k : Clock) (r : Option ℕ) → IfSome r (λ t. HasTime k.wakes t × NoneBefore k.wakes t)
    → IfNone r ((c t : ℕ) → slice_get k.wakes c ≡ Some (Some t) → ⊥) → IsOrderly k → IsLeastWake k.courses.items r
least_wake k None some none o = record {
  least = λ c p get. let w = kept_wake k c p get in by c p w.0 w.1 (o.wakes c p w.0 get w.1);
  some = tt;
}
  where
    by : (c : ℕ) (p : Course) (r : Option ℕ) → slice_get k.wakes c ≡ Some r → IsTime (wake_of p) r → 2 ^ 64 ≤ wake_of p
    by c p None at t = t
    by c p (Some u) at t = absurd (none c u at)
least_wake k (Some u) some none o = record {
  least = λ c p get. let w = kept_wake k c p get in by c p w.0 w.1 (o.wakes c p w.0 get w.1);
  some = (some.0.0, at.0, at.1, sym known.0);
}
  where
    within : some.0.0 < length k.courses.items
    within = let w = slice_get_within k.wakes some.0.0 (Some u) some.0.1 in let s = k.sized in omega arith

    at : (p : Course) × (slice_get k.courses.items some.0.0 ≡ Some p)
    at = some_at k.courses.items some.0.0 within

    known : IsTime (wake_of at.0) (Some u)
    known = o.wakes some.0.0 at.0 (Some u) at.1 some.0.1

    by : (c : ℕ) (p : Course) (r : Option ℕ) → slice_get k.wakes c ≡ Some r → IsTime (wake_of p) r → u ≤ wake_of p
    by c p None at t = let fits = known.1 in omega arith
    by c p (Some v) at t = let h = some.1 c v at in let e = t.0 in omega arith

-- ---- one connection was told something

pub noted : (c : ℕ) (e : Event) (p q : Course) (r : Option ℕ) (old new : Clock) → slice_get old.courses.items c ≡ Some p
    → q ≡ step e p → new.courses.items ≡ slice_set old.courses.items c q
    → new.queue.items ≡ old.queue.items ++ all_for c (tasks_of e p) → new.wakes ≡ slice_set old.wakes c r
    → IsTime (wake_of q) r → new.passed ≡ old.passed → new.in_order ≡ old.in_order → new.turn ≡ old.turn
    → AfterNote c e old new
noted c e p q r old new get made courses queue wakes time passed in_order turn = record {
  course = λ x at. courses ∙ ap (λ y. slice_set old.courses.items c y) (made ∙ ap (λ y. step e y) (same x at));
  tasks = λ x at. queue ∙ ap (λ y. old.queue.items ++ all_for c (tasks_of e y)) (same x at);
  passed = passed;
  in_order = in_order;
  orderly = λ o. record {
    wakes = λ d x s atx ats. kept o d x s
        (subst (λ (l : List Course). slice_get l d ≡ Some x) courses atx)
        (subst (λ (l : List (Option ℕ)). slice_get l d ≡ Some s) wakes ats);
    before = λ d x lt atx. over o d x (subst (λ n. d < n) turn lt)
        (get_set old.courses.items c d q x (subst (λ (l : List Course). slice_get l d ≡ Some x) courses atx));
  };
}
  where
    same : (x : Course) → slice_get old.courses.items c ≡ Some x → p ≡ x
    same x at = cc

    kept : IsOrderly old → (d : ℕ) (x : Course) (s : Option ℕ) → slice_get (slice_set old.courses.items c q) d ≡ Some x
        → slice_get (slice_set old.wakes c r) d ≡ Some s → IsTime (wake_of x) s
    kept o d x s atx ats = elim (get_set old.courses.items c d q x atx) [
      | inl one ↦ elim (get_set old.wakes c d r s ats) [
        | inl two ↦ subst (λ y. IsTime (wake_of y) s) one.1 (subst (IsTime (wake_of q)) two.1 time)
        | inr two ↦ absurd (two.0 one.0)
      ]
      | inr one ↦ elim (get_set old.wakes c d r s ats) [
        | inl two ↦ absurd (one.0 two.0)
        | inr two ↦ o.wakes d x s one.1 two.1
      ]
    ]

    over : IsOrderly old → (d : ℕ) (x : Course) → d < old.turn
        → ((d ≡ c) × (q ≡ x)) ⊎ ((d ≡ c → ⊥) × (slice_get old.courses.items d ≡ Some x)) → is_settled x.stage ≡ true
    over o d x lt (inl one) =
        let settled = o.before c p (subst (λ n. n < old.turn) one.0 lt) get in
        let stays : q ≡ p = made ∙ settled_stays e p settled in
        subst (λ (y : Course). is_settled y.stage ≡ true) (sym stays ∙ one.1) settled
    over o d x lt (inr other) = o.before d x lt other.1
