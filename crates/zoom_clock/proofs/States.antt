-- The states of the attempts, one by one.
use Rattle.std.proofs.Common.{◌≡◌, ◌⊎◌, inl, inr, ℕ, zero, suc, ◌<◌, ◌≤◌, Bool, true, List, [], ◌∷◌, length, slice_index_or, slice_set, replicate, position, is_some, Option, None, Some, refl, ap, ◌∙◌, arith}
use Rattle.std.proofs.lemmas.Bool.{cases_eq}
use Rattle.std.proofs.lemmas.Grind.{common_steps, get_or-set_at}
use Rattle.std.proofs.lemmas.List.{length-replicate, get_or-replicate, get_or-set_other}
use Rattle.std.proofs.lemmas.List.Quantifiers.{position-Some}
use Rattle.std.proofs.lemmas.List.Sums.{fails_before_first}
use Rattle.std.proofs.Math.ListN.{length-set}
use Rattle.std.specs.List.{list_all, position_or_len}
use Rattle.zoom_clock.specs.declared.attempt.Attempt.{Attempt}
use Rattle.zoom_clock.specs.declared.attempt.Attempt.TheVariants.{Ahead, Open, Waiting, Failed}
use Rattle.zoom_clock.specs.Attempts.{is_ahead, is_begun, is_waiting, has_failed, is_open, either, next_of}

-- the state of attempt k
abbrev pub state : List Attempt → ℕ → Attempt
state xs k = slice_index_or xs k Failed

-- ---- one state is changed

pub state_set : (xs : List Attempt) (k i : ℕ) (v : Attempt)
    → ((i ≡ k) × (state (slice_set xs k v) i ≡ v)) ⊎ (state (slice_set xs k v) i ≡ state xs i)
state_set [] k i v = inr refl
state_set (x ∷ xs) zero zero v = inl (refl, refl)
state_set (x ∷ xs) zero (suc i) v = inr refl
state_set (x ∷ xs) (suc k) zero v = inr refl
state_set (x ∷ xs) (suc k) (suc i) v = elim (state_set xs k i v) [ inl e ↦ inl (ap suc e.0, e.1) | inr e ↦ inr e ]

-- ---- what an open attempt, and attempts that have all failed, are

pub open_is : (x : Attempt) → is_begun x ≡ true → x ≡ Open
open_is Ahead h = cc
open_is Open h = refl
open_is Waiting h = cc
open_is Failed h = cc

pub all_failed : (xs : List Attempt) (k : ℕ) → list_all has_failed xs ≡ true → state xs k ≡ Failed
all_failed [] k h = refl
all_failed (Ahead ∷ xs) k h = cc
all_failed (Open ∷ xs) k h = cc
all_failed (Waiting ∷ xs) k h = cc
all_failed (Failed ∷ xs) zero h = refl
all_failed (Failed ∷ xs) (suc k) h = all_failed xs k h

pub waiting_is : (x : Attempt) → is_waiting x ≡ true → x ≡ Waiting
waiting_is Ahead h = cc
waiting_is Open h = cc
waiting_is Waiting h = refl
waiting_is Failed h = cc

pub ahead_is : (x : Attempt) → is_ahead x ≡ true → x ≡ Ahead
ahead_is Ahead h = refl
ahead_is Open h = cc
ahead_is Waiting h = cc
ahead_is Failed h = cc

-- an attempt that has not failed is within the list
pub within : (xs : List Attempt) (k : ℕ) → (state xs k ≡ Failed → ⊥) → k < length xs
within [] k h = absurd (h refl)
within (x ∷ xs) zero h = omega arith
within (x ∷ xs) (suc k) h = let lt = within xs k h in omega arith

-- the state of attempt k after that of attempt j was changed
pub state_after : (xs : List Attempt) (j k : ℕ) (v : Attempt) → j < length xs
    → ((k ≡ j) × (state (slice_set xs j v) k ≡ v)) ⊎ ((k ≡ j → ⊥) × (state (slice_set xs j v) k ≡ state xs k))
state_after xs j k v lt = elim (cases_eq k j) [
  | inl e ↦ inl (e, get_or-set_at xs j k v Failed e lt)
  | inr other ↦ inr (other, get_or-set_other xs j k v Failed other)
]

pub open_within : (xs : List Attempt) (k : ℕ) → is_open k xs ≡ true → k < length xs
open_within xs k h = within xs k (λ f. let o = open_is (state xs k) h in cc)

-- ---- the attempt to begin next

-- the first that waits for a socket, or the first that was not begun
abbrev pub IsNext : List Attempt → ℕ → Type 0
IsNext xs j =
    (state xs j ≡ Waiting)
    ⊎ ((state xs j ≡ Ahead) × ((k : ℕ) → k < j → state xs k ≡ Ahead → ⊥))

first_ahead : (xs : List Attempt) (j : ℕ) → position is_ahead xs ≡ Some j → IsNext xs j
first_ahead xs j h =
    let f = position-Some is_ahead xs j Failed h in
    inr (ahead_is (state xs j) f.1, λ k lt a. let n = f.2 k lt in cc)

next_by : (o : Option ℕ) (xs : List Attempt) (j : ℕ) → position is_waiting xs ≡ o
    → either o (position is_ahead xs) ≡ Some j → IsNext xs j
next_by None xs j e h = first_ahead xs j h
next_by (Some i) xs j e h =
    inl (waiting_is (state xs j) (position-Some is_waiting xs j Failed (e ∙ h)).1)

pub next_is : (xs : List Attempt) (j : ℕ) → next_of xs ≡ Some j → IsNext xs j
next_is xs j h = next_by (position is_waiting xs) xs j refl h

pub next_within : (xs : List Attempt) (j : ℕ) → IsNext xs j → j < length xs
next_within xs j (inl h) = within xs j (λ f. cc)
next_within xs j (inr h) = within xs j (λ f. let g = h.0 in cc)

no_position : (p : Attempt → Bool) (xs : List Attempt) → position p xs ≡ None → length xs ≤ position_or_len p xs
no_position p xs h = grind (arith, common_steps)

none_ahead : (xs : List Attempt) → position is_ahead xs ≡ None → (k : ℕ) → state xs k ≡ Ahead → ⊥
none_ahead xs h k a =
    let past = no_position is_ahead xs h in
    let lt = within xs k (λ f. cc) in
    let n = fails_before_first is_ahead xs k Failed (omega arith) in
    cc

none_by : (o : Option ℕ) (xs : List Attempt) → either o (position is_ahead xs) ≡ None → (k : ℕ) → state xs k ≡ Ahead → ⊥
none_by None xs h = none_ahead xs h
none_by (Some i) xs h = λ k a. cc

-- if none is to begin next, each was begun
pub next_none : (xs : List Attempt) → next_of xs ≡ None → (k : ℕ) → state xs k ≡ Ahead → ⊥
next_none xs h = none_by (position is_waiting xs) xs h

ahead_by : (o : Option ℕ) (xs : List Attempt) → position is_ahead xs ≡ o → is_some o ≡ true
    → (k : ℕ) × (state xs k ≡ Ahead)
ahead_by None xs e h = cc
ahead_by (Some k) xs e h = (k, ahead_is (state xs k) (position-Some is_ahead xs k Failed e).1)

pub some_ahead : (xs : List Attempt) → is_some (position is_ahead xs) ≡ true → (k : ℕ) × (state xs k ≡ Ahead)
some_ahead xs h = ahead_by (position is_ahead xs) xs refl h

-- ---- the states at the start

first_rest : (n k : ℕ) → k < n → state (replicate n Ahead) k ≡ Ahead
first_rest n k lt = get_or-replicate n k Ahead Failed lt

-- the first of n is open, and the others were not begun
pub first_states : (n k : ℕ) → 0 < k → k < n → state (slice_set (replicate n Ahead) 0 Open) k ≡ Ahead
first_states zero k some lt = absurd (omega arith)
first_states (suc n) zero some lt = absurd (omega arith)
first_states (suc n) (suc k) some lt = first_rest n k (omega arith)

pub first_length : (n : ℕ) → length (slice_set (replicate n Ahead) 0 Open) ≡ n
first_length n = length-set (replicate n Ahead) 0 Open ∙ length-replicate n Ahead
