-- A list that is asked has as many positions as a Present asks for, at most; and the search found them all.
use Rattle.std.proofs.Common.{◌≡◌, inl, inr, ℕ, zero, suc, ◌-◌, ◌*◌, ◌<◌, ◌≤◌, Bool, true, false, cond, List, [], ◌∷◌, length, take, drop, sym, subst, refl, arith, length-drop}
use Rattle.std.proofs.lemmas.Bool.Decides.{nat_tests}
use Rattle.std.specs.Prelude.{nat_le}
use Rattle.zplan.specs.Positions.{up_to, join_or_start, is_followed, runs, presents, IsIn, IsWanted}
use Rattle.zplan.specs.Plan.{Present, Replies, IsPlanned, cut, rest, count_in}
use Rattle.zplan.proofs.Asking.{pieces, asked_tail, tail_in, above_none, in_wanted}

take_short : (n : ℕ) (ps : List ℕ) → length (take n ps) ≤ n
take_short zero [] = omega arith
take_short (suc n) [] = omega arith
take_short zero (p ∷ ps) = omega arith
take_short (suc n) (p ∷ ps) = let s = take_short n ps in omega (arith, s)

put_short : (n : ℕ) (b : Bool) (p : ℕ) (ls : List (List ℕ)) → ((m : List ℕ) → IsIn m ls → length m ≤ n)
    → (l : List ℕ) → IsIn l (join_or_start b p ls) → length l ≤ suc n
put_short n b p [] h l (inl e) = subst (λ z. length z ≤ suc n) (sym e) (omega arith)
put_short n b p [] h l (inr i) = absurd i
put_short n false p (m ∷ ls) h l (inl e) = subst (λ z. length z ≤ suc n) (sym e) (omega arith)
put_short n false p (m ∷ ls) h l (inr i) = let s = h l i in omega (arith, s)
put_short n true p (m ∷ ls) h l (inl e) =
    let s = h m (inl refl) in subst (λ z. length z ≤ suc n) (sym e) (omega (arith, s))
put_short n true p (m ∷ ls) h l (inr i) = let s = h l (inr i) in omega (arith, s)

runs_short : (ps l : List ℕ) → IsIn l (runs ps) → length l ≤ length ps
runs_short [] l i = absurd i
runs_short (p ∷ ps) l i = put_short (length ps) (is_followed p ps) p (runs ps) (λ m j. runs_short ps m j) l i

presents_short : (three : Bool) (ps l : List ℕ) → IsIn l (presents three ps) → length l ≤ length ps
presents_short true ps l (inl e) = subst (λ z. length z ≤ length ps) (sym e) (omega arith)
presents_short true ps l (inr i) = absurd i
presents_short false ps l i = runs_short ps l i

pub asked_short : (wanted : List ℕ) (step : ℕ) (replies : Replies) (l : List ℕ)
    → IsPlanned wanted step replies (Present l) → length l ≤ step
asked_short wanted step replies l (cut three count i m a o h lt x) =
    let ps : List ℕ = drop (i * step) (up_to count wanted) in
    let s = presents_short three (take step ps) l x in
    let t = take_short step ps in
    omega (arith, s, t)
asked_short wanted step replies l (rest m k a h lo hi) =
    let s = asked_short wanted step replies m a in
    let n : length (drop k m) ≡ length m - k = length-drop k m in
    omega (arith, s, n)

up_to_count : (count p : ℕ) (ps : List ℕ) → IsIn p (up_to count ps) → p ≤ count
up_to_count count p [] i = absurd i
up_to_count count p (q ∷ ps) i =
    let later = up_to_count count p ps in
    elim (nat_le q count) as (λ b. nat_le q count ≡ b → IsIn p (cond b (q ∷ up_to count ps) (up_to count ps))
    → p ≤ count) [
      | true ↦ λ t j. elim j [
        | inl e ↦ let le : q ≤ count = grind (arith, nat_tests) in subst (λ z. z ≤ count) (sym e) le
        | inr k ↦ later k
      ]
      | false ↦ λ t j. later j
    ] refl i

pub asked_found : (wanted : List ℕ) (step : ℕ) (replies : Replies) (l : List ℕ) (p : ℕ) → IsWanted wanted → 0 < step
    → IsPlanned wanted step replies (Present l) → IsIn p l → (1 ≤ p) × (p ≤ count_in replies)
asked_found wanted zero replies l p w pos a i = absurd (omega arith)
asked_found wanted (suc last) replies l p w pos a i = (
  above_none wanted last replies w p (tail_in p l (pieces wanted last replies) (asked_tail wanted last replies l a) i),
  up_to_count (count_in replies) p wanted (in_wanted wanted last replies l p a i),
)
