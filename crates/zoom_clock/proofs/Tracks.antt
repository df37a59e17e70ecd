-- What becomes of each attempt: how often it is begun, and that it is left.
use Rattle.std.proofs.Common.{◌≡◌, ◌⊎◌, inl, inr, ℕ, zero, suc, ◌+◌, ◌<◌, ◌≤◌, true, cond, List, [], ◌∷◌, ◌++◌, slice_set, replicate, Some, refl, sym, ap, ◌∙◌, subst, arith}
use Rattle.zoom_clock.specs.declared.action.Task.{Task}
use Rattle.zoom_clock.specs.declared.action.Task.TheVariants.{Connect}
use Rattle.zoom_clock.specs.declared.attempt.Attempt.{Attempt}
use Rattle.zoom_clock.specs.declared.attempt.Attempt.TheVariants.{Ahead, Open, Waiting, Failed}
use Rattle.zoom_clock.specs.declared.signal.Signal.TheVariants as signals
use Rattle.zoom_clock.specs.Attempts.{is_open, next_of}
use Rattle.zoom_clock.specs.Courses.{Event, event}
use Rattle.zoom_clock.specs.Accounts.{WasTold, addresses_in, begun_in, is_no_socket}
use Rattle.zoom_clock.proofs.States.{state, state_after, open_is, open_within, IsNext, next_is, next_within, first_states}
use Rattle.zoom_clock.proofs.Addresses.{known_still}
use Rattle.zoom_clock.proofs.Counts.{times, same_test, other_test, begins, begins_more, lefts, lefts_more, lacks, lacks_next}

-- attempt k was left, or was told to have failed, or to have no socket
abbrev pub IsGone : ℕ → List Event → List Task → Type 0
IsGone k es ts = (0 < lefts k ts) ⊎ WasTold (signals.Unreachable k) es ⊎ WasTold (signals.NoSocket k) es

-- how often more than it lacked a socket an attempt in this state may be begun
abbrev pub spare : Attempt → ℕ
spare Ahead = 0
spare Open = 1
spare Waiting = 0
spare Failed = 1

pub spare_most : (x : Attempt) → spare x ≤ 1
spare_most Ahead = omega arith
spare_most Open = omega arith
spare_most Waiting = omega arith
spare_most Failed = omega arith

-- what the state of attempt k says of what was told and done
pub record IsTracked (n k : ℕ) (es : List Event) (ts : List Task) (x : Attempt) : Type 0 where
  pub once : begins k ts ≤ spare x + lacks k es
  pub tried : k < n → (x ≡ Ahead) ⊎ (0 < begins k ts)
  pub held : 0 < begins k ts → (x ≡ Open) ⊎ IsGone k es ts

pub record AreTracked (n : ℕ) (es : List Event) (ts : List Task) (xs : List Attempt) : Type 0 where
  pub known : addresses_in es ≡ Some n
  pub each : (k : ℕ) → IsTracked n k es ts (state xs k)

-- ---- more was told

pub gone_still : (k : ℕ) (e : Event) (es : List Event) (ts : List Task) → IsGone k es ts → IsGone k (e ∷ es) ts
gone_still k e es ts (inl h) = inl h
gone_still k e es ts (inr (inl h)) = inr (inl (inr h))
gone_still k e es ts (inr (inr h)) = inr (inr (inr h))

pub more_lacks : (k : ℕ) (e : Event) (es : List Event) → lacks k es ≤ lacks k (e ∷ es)
more_lacks k e es = let c = lacks_next k e es in omega arith

passed_one : (n k : ℕ) (e : Event) (es : List Event) (ts : List Task) (x : Attempt) → IsTracked n k es ts x
    → IsTracked n k (e ∷ es) ts x
passed_one n k e es ts x h = record {
  once = let c = more_lacks k e es in let o = h.once in omega arith;
  tried = h.tried;
  held = λ b. elim (h.held b) [ inl still ↦ inl still | inr gone ↦ inr (gone_still k e es ts gone) ];
}

failed_one : (n k : ℕ) (e : Event) (es : List Event) (ts : List Task) → e.what ≡ signals.Unreachable k
    → IsTracked n k es ts Open → IsTracked n k (e ∷ es) ts Failed
failed_one n k e es ts is h = record {
  once = let c = more_lacks k e es in let o = h.once in omega arith;
  tried = λ lt. elim (h.tried lt) [ inl a ↦ cc | inr b ↦ inr b ];
  held = λ b. inr (inr (inl (inl is)));
}

waiting_one : (n k : ℕ) (e : Event) (es : List Event) (ts : List Task) → e.what ≡ signals.NoSocket k
    → IsTracked n k es ts Open → IsTracked n k (e ∷ es) ts Waiting
waiting_one n k e es ts is h = record {
  once =
      let c = lacks_next k e es in
      let test : is_no_socket k e.what ≡ true = ap (is_no_socket k) is ∙ same_test k k refl in
      let one : cond {A = ℕ} (is_no_socket k e.what) 1 0 ≡ 1 = ap (λ b. cond b 1 0) test in
      let o = h.once in
      omega arith;
  tried = λ lt. elim (h.tried lt) [ inl a ↦ cc | inr b ↦ inr b ];
  held = λ b. inr (inr (inr (inl is)));
}

pub tracked_passed : (n : ℕ) (e : Event) (es : List Event) (ts : List Task) (xs : List Attempt) → AreTracked n es ts xs
    → AreTracked n (e ∷ es) ts xs
tracked_passed n e es ts xs h = record {
  known = known_still n e es h.known;
  each = λ k. passed_one n k e es ts (state xs k) (h.each k);
}

open_one : (n k j : ℕ) (es : List Event) (ts : List Task) (xs : List Attempt) → is_open j xs ≡ true → k ≡ j
    → AreTracked n es ts xs → IsTracked n k es ts Open
open_one n k j es ts xs o e h =
    subst (IsTracked n k es ts) (ap (state xs) e ∙ open_is (state xs j) o) (h.each k)

pub tracked_failed : (n at j : ℕ) (es : List Event) (ts : List Task) (xs : List Attempt) → is_open j xs ≡ true
    → AreTracked n es ts xs → AreTracked n (event at (signals.Unreachable j) ∷ es) ts (slice_set xs j Failed)
tracked_failed n at j es ts xs o h =
    let e = event at (signals.Unreachable j) in
    record {
      known = known_still n e es h.known;
      each = λ k. elim (state_after xs j k Failed (open_within xs j o)) [
        | inl s ↦
            subst (IsTracked n k (e ∷ es) ts) (sym s.1)
            (failed_one n k e es ts (ap signals.Unreachable (sym s.0)) (open_one n k j es ts xs o s.0 h))
        | inr s ↦ subst (IsTracked n k (e ∷ es) ts) (sym s.1) (passed_one n k e es ts (state xs k) (h.each k))
      ];
    }

pub tracked_waiting : (n at j : ℕ) (es : List Event) (ts : List Task) (xs : List Attempt) → is_open j xs ≡ true
    → AreTracked n es ts xs → AreTracked n (event at (signals.NoSocket j) ∷ es) ts (slice_set xs j Waiting)
tracked_waiting n at j es ts xs o h =
    let e = event at (signals.NoSocket j) in
    record {
      known = known_still n e es h.known;
      each = λ k. elim (state_after xs j k Waiting (open_within xs j o)) [
        | inl s ↦
            subst (IsTracked n k (e ∷ es) ts) (sym s.1)
            (waiting_one n k e es ts (ap signals.NoSocket (sym s.0)) (open_one n k j es ts xs o s.0 h))
        | inr s ↦ subst (IsTracked n k (e ∷ es) ts) (sym s.1) (passed_one n k e es ts (state xs k) (h.each k))
      ];
    }

-- ---- more is to be done

pub gone_more : (k : ℕ) (es : List Event) (ts us : List Task) → IsGone k es ts → IsGone k es (ts ++ us)
gone_more k es ts us (inl h) = inl (let c = lefts_more k ts us in omega arith)
gone_more k es ts us (inr h) = inr h

pub begun_before : (k : ℕ) (ts us : List Task) → begins k us ≡ 0 → begins k (ts ++ us) ≡ begins k ts
begun_before k ts us none = let c = begins_more k ts us in omega arith

pub more_one : (n k : ℕ) (es : List Event) (ts us : List Task) (x : Attempt) → begins k us ≡ 0 → IsTracked n k es ts x
    → IsTracked n k es (ts ++ us) x
more_one n k es ts us x none h =
    let same = begun_before k ts us none in
    let once = h.once in
    record {
      once = omega arith;
      tried = λ lt. elim (h.tried lt) [ inl a ↦ inl a | inr b ↦ inr (omega arith) ];
      held = λ b. elim (h.held (omega arith)) [ inl still ↦ inl still | inr gone ↦ inr (gone_more k es ts us gone) ];
    }

begun_one : (n k j : ℕ) (es : List Event) (ts : List Task) (x : Attempt) → k ≡ j → spare x ≡ 0 → IsTracked n k es ts x
    → IsTracked n k es (ts ++ (Connect j ∷ [])) Open
begun_one n k j es ts x e free h =
    let c = begins_more k ts (Connect j ∷ []) in
    let one : begins k (Connect j ∷ []) ≡ 1 = ap (λ b. 0 + cond b 1 0) (same_test k j e) in
    let once = h.once in
    record {
      once = omega arith;
      tried = λ lt. inr (omega arith);
      held = λ b. inl refl;
    }

other_begun : (k j : ℕ) → (k ≡ j → ⊥) → begins k (Connect j ∷ []) ≡ 0
other_begun k j other = ap (λ b. 0 + cond b 1 0) (other_test k j other)

next_free : (xs : List Attempt) (j : ℕ) → IsNext xs j → spare (state xs j) ≡ 0
next_free xs j (inl h) = ap spare h
next_free xs j (inr h) = ap spare h.0

pub tracked_begun : (n j : ℕ) (es : List Event) (ts : List Task) (xs : List Attempt) → next_of xs ≡ Some j
    → AreTracked n es ts xs → AreTracked n es (ts ++ (Connect j ∷ [])) (slice_set xs j Open)
tracked_begun n j es ts xs next h =
    let is = next_is xs j next in
    let us : List Task = Connect j ∷ [] in
    record {
      known = h.known;
      each = λ k. elim (state_after xs j k Open (next_within xs j is)) [
        | inl s ↦
            subst (IsTracked n k es (ts ++ us)) (sym s.1)
            (begun_one n k j es ts (state xs k) s.0 (ap (λ i. spare (state xs i)) s.0 ∙ next_free xs j is) (h.each k))
        | inr s ↦
            subst (IsTracked n k es (ts ++ us)) (sym s.1)
            (more_one n k es ts us (state xs k) (other_begun k j s.0) (h.each k))
      ];
    }

-- ---- the start

-- an attempt before any was begun
untouched_one : (n k : ℕ) (es : List Event) (ts : List Task) (x : Attempt) → begins k ts ≡ 0 → (k < n → x ≡ Ahead)
    → IsTracked n k es ts x
untouched_one n k es ts x none ahead = record {
  once = omega arith;
  tried = λ lt. inl (ahead lt);
  held = λ b. absurd (omega arith);
}

first_one : (n k : ℕ) (es : List Event) (ts : List Task) → 0 < n → begins k ts ≡ 0
    → IsTracked n k es (ts ++ (Connect 0 ∷ [])) (state (slice_set (replicate n Ahead) 0 Open) k)
first_one zero k es ts some none = absurd (omega arith)
first_one (suc n) zero es ts some none =
    begun_one (suc n) 0 0 es ts Ahead refl refl (untouched_one (suc n) 0 es ts Ahead none (λ _. refl))
first_one (suc n) (suc k) es ts some none =
    let x = state (slice_set (replicate (suc n) Ahead) 0 Open) (suc k) in
    more_one (suc n) (suc k) es ts (Connect 0 ∷ []) x (other_begun (suc k) 0 (λ e. omega arith))
    (untouched_one (suc n) (suc k) es ts x none (λ lt. first_states (suc n) (suc k) (omega arith) lt))

pub tracked_first : (n : ℕ) (es : List Event) (ts : List Task) → 0 < n → addresses_in es ≡ Some n → begun_in ts ≡ []
    → AreTracked n es (ts ++ (Connect 0 ∷ [])) (slice_set (replicate n Ahead) 0 Open)
tracked_first n es ts some known none = record {
  known = known;
  each = λ k. first_one n k es ts some (ap (times k) none);
}
