-- The turn is given to the first connection that is not over.
use Rattle.std.proofs.Common.{◌≡◌, inl, inr, ℕ, zero, suc, ◌+◌, ◌<◌, ◌≤◌, Bool, true, false, cond, List, [], ◌∷◌, ◌++◌, length, Some, refl, sym, ap, subst, ◌∙◌, arith, append-nil, add-zero}
use Rattle.std.proofs.lemmas.Bool.Decides.{leb_tells}
use Rattle.std.specs.Prelude.{slice_get, slice_set}
use Rattle.zoom_clock.specs.declared.clock.Clock.{Clock}
use Rattle.zoom_clock.specs.declared.course.Course.{Course}
use Rattle.zoom_clock.specs.declared.signal.Signal.TheVariants as signals
use Rattle.zoom_clock.specs.Actions.{all_for}
use Rattle.zoom_clock.specs.Courses.{event, is_settled, step, tasks_of}
use Rattle.zoom_clock.specs.Clocks.{IsOrderly, AfterNote, AfterTurns, SomeIsOpen, with_turn, with_next_turn, turn_tasks, next_turn_tasks, courses_after_turns, turns_tasks}
use Rattle.zoom_clock.proofs.Places.{some_at, set_same}
use Rattle.zoom_clock.specs.Turns.{IsFirstOpen}

-- the connections before this one are over
abbrev AreOver : ℕ → List Course → Type 0
AreOver c ps = (d : ℕ) (p : Course) → d < c → slice_get ps d ≡ Some p → is_settled p.stage ≡ true

later_over : (c : ℕ) (q : Course) (ps : List Course) → AreOver (suc c) (q ∷ ps) → AreOver c ps
later_over c q ps over d p lt at = over (suc d) p (omega arith) at

turned_at : (at c : ℕ) (ps : List Course) (p : Course) → slice_get ps c ≡ Some p → is_settled p.stage ≡ false
    → AreOver c ps → with_next_turn at ps ≡ slice_set ps c (with_turn at p)
turned_at at c [] p get is_open over = absurd (cc)
turned_at at zero (q ∷ ps) p get is_open over =
    let e : p ≡ q = cc in
    let shut : is_settled q.stage ≡ false = subst (λ (x : Course). is_settled x.stage ≡ false) e is_open in
    ap (λ b. cond b (q ∷ with_next_turn at ps) (with_turn at q ∷ ps)) shut
    ∙ ap (λ x. with_turn at x ∷ ps) (sym e)
turned_at at (suc c) (q ∷ ps) p get is_open over =
    ap (λ b. cond b (q ∷ with_next_turn at ps) (with_turn at q ∷ ps)) (over 0 q (omega arith) refl)
    ∙ ap (λ l. q ∷ l) (turned_at at c ps p get is_open (later_over c q ps over))

tasks_at : (at i c : ℕ) (ps : List Course) (p : Course) → slice_get ps c ≡ Some p → is_settled p.stage ≡ false
    → AreOver c ps → next_turn_tasks at i ps ≡ turn_tasks at (i + c) p
tasks_at at i c [] p get is_open over = absurd (cc)
tasks_at at i zero (q ∷ ps) p get is_open over =
    let e : p ≡ q = cc in
    let shut : is_settled q.stage ≡ false = subst (λ (x : Course). is_settled x.stage ≡ false) e is_open in
    ap (λ b. cond b (next_turn_tasks at (i + 1) ps) (turn_tasks at i q)) shut
    ∙ ap (λ x. turn_tasks at i x) (sym e) ∙ ap (λ k. turn_tasks at k p) (sym (add-zero i))
tasks_at at i (suc c) (q ∷ ps) p get is_open over =
    let e : (i + 1) + c ≡ i + suc c = omega arith in
    ap (λ b. cond b (next_turn_tasks at (i + 1) ps) (turn_tasks at i q)) (over 0 q (omega arith) refl)
    ∙ tasks_at at (i + 1) c ps p get is_open (later_over c q ps over) ∙ ap (λ k. turn_tasks at k p) e

turned_none : (at : ℕ) (ps : List Course) → AreOver (length ps) ps → with_next_turn at ps ≡ ps
turned_none at [] over = refl
turned_none at (q ∷ ps) over =
    ap (λ b. cond b (q ∷ with_next_turn at ps) (with_turn at q ∷ ps)) (over 0 q (omega arith) refl)
    ∙ ap (λ l. q ∷ l) (turned_none at ps (later_over (length ps) q ps over))

tasks_none : (at i : ℕ) (ps : List Course) → AreOver (length ps) ps → next_turn_tasks at i ps ≡ []
tasks_none at i [] over = refl
tasks_none at i (q ∷ ps) over =
    ap (λ b. cond b (next_turn_tasks at (i + 1) ps) (turn_tasks at i q)) (over 0 q (omega arith) refl)
    ∙ tasks_none at (i + 1) ps (later_over (length ps) q ps over)

-- some connection is open, if the first that is stands before the end
pub open_found : (ps : List Course) (from first : ℕ) → IsFirstOpen ps from first → first < length ps → SomeIsOpen ps
open_found ps from first f lt = let s = some_at ps first lt in (first, s.0, s.1, f.at s.0 s.1)

-- ---- the clock

-- the turn was found
pub record HasTurn (old new : Clock) : Type 0 where
  pub found : IsFirstOpen old.courses.items old.turn new.turn
  pub courses : new.courses ≡ old.courses
  pub wakes : new.wakes ≡ old.wakes
  pub queue : new.queue ≡ old.queue
  pub passed : new.passed ≡ old.passed
  pub in_order : new.in_order ≡ old.in_order

over_before : (old new : Clock) → HasTurn old new → IsOrderly old → AreOver new.turn old.courses.items
over_before old new h o d p lt at = elim (leb_tells old.turn d) [
  | inl le ↦ h.found.passed d p le.1 lt at
  | inr less ↦ o.before d p (let n = less.1 in omega arith) at
]

pub still_orderly : (old new : Clock) → HasTurn old new → IsOrderly old → IsOrderly new
still_orderly old new h o = record {
  wakes = λ c p r atp atr. o.wakes c p r
      (subst (λ k. slice_get k.items c ≡ Some p) h.courses atp) (subst (λ k. slice_get k c ≡ Some r) h.wakes atr);
  before = λ c p lt at. over_before old new h o c p lt (subst (λ k. slice_get k.items c ≡ Some p) h.courses at);
}

-- nobody is given the turn
quiet : (at : ℕ) (old new : Clock) → HasTurn old new
    → (IsOrderly old → courses_after_turns old.in_order at old.courses.items ≡ old.courses.items)
    → (IsOrderly old → turns_tasks old.in_order at old.courses.items ≡ []) → AfterTurns at old new
quiet at old new h courses tasks = record {
  courses = λ o. ap (λ k. k.items) h.courses ∙ sym (courses o);
  tasks = λ o. ap (λ k. k.items) h.queue ∙ sym (append-nil old.queue.items) ∙ ap (λ l. old.queue.items ++ l) (sym (tasks o));
  passed = h.passed;
  in_order = h.in_order;
  orderly = λ o. still_orderly old new h o;
}

pub at_once : (at : ℕ) (old new : Clock) → HasTurn old new → old.in_order ≡ false → AfterTurns at old new
at_once at old new h e =
    quiet at old new h (λ o. ap (λ b. courses_after_turns b at old.courses.items) e)
    (λ o. ap (λ b. turns_tasks b at old.courses.items) e)

in_turn : (P : Bool → Type 0) (b : Bool) → P true → P false → P b
in_turn P true t f = t
in_turn P false t f = f

pub all_over : (at : ℕ) (old new : Clock) → HasTurn old new → length old.courses.items ≤ new.turn → AfterTurns at old new
all_over at old new h le =
    let over : IsOrderly old → AreOver (length old.courses.items) old.courses.items =
    λ o d p lt get. over_before old new h o d p (omega arith) get in
    quiet at old new h
    (λ o. in_turn (λ b. courses_after_turns b at old.courses.items ≡ old.courses.items) old.in_order
    (turned_none at old.courses.items (over o)) refl)
    (λ o. in_turn (λ b. turns_tasks b at old.courses.items ≡ []) old.in_order
    (tasks_none at 0 old.courses.items (over o)) refl)

module _ (at : ℕ) (old new : Clock) (h : HasTurn old new) (p : Course)
    (get : slice_get old.courses.items new.turn ≡ Some p)
  where
    open_at : is_settled p.stage ≡ false
    open_at = h.found.at p get

    courses_are : IsOrderly old → with_next_turn at old.courses.items ≡ slice_set old.courses.items new.turn (with_turn at p)
    courses_are o = turned_at at new.turn old.courses.items p get open_at (over_before old new h o)

    tasks_are : IsOrderly old → next_turn_tasks at 0 old.courses.items ≡ turn_tasks at (0 + new.turn) p
    tasks_are o = tasks_at at 0 new.turn old.courses.items p get open_at (over_before old new h o)

    pub has_turn : p.wanted ≡ true → AfterTurns at old new
    has_turn e = quiet at old new h
        (λ o. in_turn (λ b. courses_after_turns b at old.courses.items ≡ old.courses.items) old.in_order
        (courses_are o ∙ ap (λ b. slice_set old.courses.items new.turn (cond b p (step (event at signals.Turn) p))) e
        ∙ set_same old.courses.items new.turn p get) refl)
        (λ o. in_turn (λ b. turns_tasks b at old.courses.items ≡ []) old.in_order
        (tasks_are o ∙ ap (λ b. cond b [] (all_for (0 + new.turn) (tasks_of (event at signals.Turn) p))) e) refl)

    pub gets_turn : (last : Clock) → p.wanted ≡ false → old.in_order ≡ true
        → AfterNote new.turn (event at signals.Turn) new last → AfterTurns at old last
    gets_turn last e in_order n =
        let get_now : slice_get new.courses.items new.turn ≡ Some p =
        subst (λ k. slice_get k.items new.turn ≡ Some p) (sym h.courses) get in
        record {
          courses = λ o. n.course p get_now
              ∙ ap (λ k. slice_set k.items new.turn (step (event at signals.Turn) p)) h.courses
              ∙ sym (ap (λ b. courses_after_turns b at old.courses.items) in_order ∙ courses_are o
              ∙ ap (λ b. slice_set old.courses.items new.turn (cond b p (step (event at signals.Turn) p))) e);
          tasks = λ o. n.tasks p get_now
              ∙ ap (λ k. k.items ++ all_for new.turn (tasks_of (event at signals.Turn) p)) h.queue
              ∙ ap (λ l. old.queue.items ++ l)
              (sym (ap (λ b. turns_tasks b at old.courses.items) in_order ∙ tasks_are o
              ∙ ap (λ b. cond b [] (all_for (0 + new.turn) (tasks_of (event at signals.Turn) p))) e
              ∙ ap (λ k. all_for k (tasks_of (event at signals.Turn) p)) (let z : 0 + new.turn ≡ new.turn = omega arith in z)));
          passed = n.passed ∙ h.passed;
          in_order = n.in_order ∙ h.in_order;
          orderly = λ o. n.orderly (still_orderly old new h o);
        }
