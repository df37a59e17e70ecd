-- How often an attempt is begun and left by a list of tasks.
use Rattle.std.proofs.Common.{◌≡◌, inl, inr, ℕ, zero, suc, ◌+◌, ◌==◌, ◌<◌, Bool, true, false, cond, List, [], ◌∷◌, ◌++◌, map, length, slice_index_or, Contains, count_by, refl, sym, ap, ◌∙◌, subst, eq-eqb, arith}
use Rattle.std.proofs.lemmas.List.Elements.{filter_map-append}
use Rattle.std.proofs.lemmas.List.Sums.{sum_by-cons, sum_by-append}
use Rattle.std.proofs.lemmas.Bool.Decides.{eqb_tells}
use Rattle.zoom_clock.specs.declared.action.Task.{Task}
use Rattle.zoom_clock.specs.declared.action.Task.TheVariants.{Leave}
use Rattle.zoom_clock.specs.declared.attempt.Attempt.{Attempt}
use Rattle.zoom_clock.specs.declared.attempt.Attempt.TheVariants.{Ahead, Open, Waiting, Failed}
use Rattle.zoom_clock.specs.Attempts.{leaves, open_from}
use Rattle.zoom_clock.specs.Stages.{reading}
use Rattle.zoom_clock.specs.Courses.{Event}
use Rattle.zoom_clock.specs.Accounts.{begun_by, begun_in, left_by, left_in, is_no_socket}
use Rattle.zoom_clock.proofs.States.{state}

-- ---- how often a number is in a list

abbrev pub times : ℕ → List ℕ → ℕ
times k xs = count_by (λ j. k == j) xs

pub same_test : (k j : ℕ) → k ≡ j → (k == j) ≡ true
same_test k j e = eq-eqb k j e

pub other_test : (k j : ℕ) → (k ≡ j → ⊥) → (k == j) ≡ false
other_test k j other = elim (eqb_tells k j) [ inl e ↦ absurd (other e.1) | inr e ↦ e.0 ]

pub times_next : (k x : ℕ) (xs : List ℕ) → times k (x ∷ xs) ≡ cond (k == x) 1 0 + times k xs
times_next k x xs = sum_by-cons (λ j. cond (k == j) 1 0) x xs

pub times_more : (k : ℕ) (xs ys : List ℕ) → times k (xs ++ ys) ≡ times k xs + times k ys
times_more k xs ys = sum_by-append (λ j. cond (k == j) 1 0) xs ys

pub times_first : (k x : ℕ) (xs : List ℕ) → k ≡ x → 0 < times k (x ∷ xs)
times_first k x xs e =
    let c = times_next k x xs in
    let one : cond {A = ℕ} (k == x) 1 0 ≡ 1 = ap (λ b. cond b 1 0) (same_test k x e) in
    omega arith

times_at : (xs : List ℕ) (k i : ℕ) → i < length xs → slice_index_or xs i k ≡ k → 0 < times k xs
times_at [] k i lt e = absurd (omega arith)
times_at (x ∷ xs) k zero lt e = times_first k x xs (sym e)
times_at (x ∷ xs) k (suc i) lt e =
    let c = times_next k x xs in let h = times_at xs k i (omega arith) e in omega arith

-- it is in the list if it is there at least once
pub counted : (xs : List ℕ) (k : ℕ) → Contains xs k → 0 < times k xs
counted xs k h = times_at xs k h.0 h.1 h.2

pub contained : (xs : List ℕ) (k : ℕ) → 0 < times k xs → Contains xs k
contained [] k lt = absurd (omega arith)
contained (x ∷ xs) k lt = elim (eqb_tells k x) [
  | inl e ↦ (0, omega arith, sym e.1)
  | inr e ↦
      let c = times_next k x xs in
      let none : cond {A = ℕ} (k == x) 1 0 ≡ 0 = ap (λ b. cond b 1 0) e.0 in
      let r = contained xs k (omega arith) in
      let within = r.1 in
      (suc r.0, omega arith, r.2)
]

-- ---- the attempts that are begun and left

pub begun_more : (ts us : List Task) → begun_in (ts ++ us) ≡ begun_in ts ++ begun_in us
begun_more ts us = filter_map-append begun_by ts us

pub left_more : (ts us : List Task) → left_in (ts ++ us) ≡ left_in ts ++ left_in us
left_more ts us = filter_map-append left_by ts us

none_begun : (ys : List ℕ) → begun_in (map Leave ys) ≡ []
none_begun [] = refl
none_begun (y ∷ ys) = none_begun ys

all_left : (ys : List ℕ) → left_in (map Leave ys) ≡ ys
all_left [] = refl
all_left (y ∷ ys) = ap (λ l. y ∷ l) (all_left ys)

pub begun_leaves : (xs : List Attempt) → begun_in (leaves xs) ≡ []
begun_leaves xs = none_begun (open_from 0 xs)

begun_reading : (w : Bool) → begun_in (reading w) ≡ []
begun_reading true = refl
begun_reading false = refl

pub begun_won : (xs : List Attempt) (w : Bool) → begun_in (leaves xs ++ reading w) ≡ []
begun_won xs w =
    begun_more (leaves xs) (reading w) ∙ ap (λ l. l ++ begun_in (reading w)) (begun_leaves xs) ∙ begun_reading w

abbrev pub begins : ℕ → List Task → ℕ
begins k ts = times k (begun_in ts)

abbrev pub lefts : ℕ → List Task → ℕ
lefts k ts = times k (left_in ts)

pub begins_more : (k : ℕ) (ts us : List Task) → begins k (ts ++ us) ≡ begins k ts + begins k us
begins_more k ts us = ap (times k) (begun_more ts us) ∙ times_more k (begun_in ts) (begun_in us)

pub lefts_more : (k : ℕ) (ts us : List Task) → lefts k (ts ++ us) ≡ lefts k ts + lefts k us
lefts_more k ts us = ap (times k) (left_more ts us) ∙ times_more k (left_in ts) (left_in us)

-- each open attempt is left
open_at : (xs : List Attempt) (i j m : ℕ) → m ≡ i + j → state xs j ≡ Open → 0 < times m (open_from i xs)
open_at [] i j m e h = cc
open_at (Open ∷ xs) i zero m e h = times_first m i (open_from (i + 1) xs) (omega arith)
open_at (Open ∷ xs) i (suc j) m e h =
    let c = times_next m i (open_from (i + 1) xs) in let r = open_at xs (i + 1) j m (omega arith) h in omega arith
open_at (Ahead ∷ xs) i zero m e h = cc
open_at (Ahead ∷ xs) i (suc j) m e h = open_at xs (i + 1) j m (omega arith) h
open_at (Waiting ∷ xs) i zero m e h = cc
open_at (Waiting ∷ xs) i (suc j) m e h = open_at xs (i + 1) j m (omega arith) h
open_at (Failed ∷ xs) i zero m e h = cc
open_at (Failed ∷ xs) i (suc j) m e h = open_at xs (i + 1) j m (omega arith) h

pub open_left : (xs : List Attempt) (k : ℕ) → state xs k ≡ Open → 0 < lefts k (leaves xs)
open_left xs k h =
    subst (λ l. 0 < times k l) (sym (all_left (open_from 0 xs))) (open_at xs 0 k k (omega arith) h)

-- ---- how often the system had no socket for an attempt

abbrev pub lacks : ℕ → List Event → ℕ
lacks k es = count_by (λ (e : Event). is_no_socket k e.what) es

pub lacks_next : (k : ℕ) (e : Event) (es : List Event)
    → lacks k (e ∷ es) ≡ cond (is_no_socket k e.what) 1 0 + lacks k es
lacks_next k e es = sum_by-cons (λ (e : Event). cond (is_no_socket k e.what) 1 0) e es
