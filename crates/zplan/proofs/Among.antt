-- A list among others that are in order.
use Rattle.std.proofs.Common.{◌≡◌, inl, inr, ℕ, ◌+◌, ◌<◌, true, false, cond, not, ◌==◌, List, [], ◌∷◌, ◌++◌, take, drop, refl, sym, ap, subst, ◌∙◌, arith, append_assoc}
use Rattle.std.proofs.lemmas.Bool.Decides.{nat_tests}
use Rattle.std.proofs.lemmas.List.{take-append-drop}
use Rattle.std.specs.Prelude.{nat_lt}
use Rattle.std.specs.List.{concat}
use Rattle.zplan.specs.Positions.{IsIn, IsFrom, AreAscending, IsWanted, first_of}
use Rattle.zplan.specs.Agenda.{put_list, without_start}
use Rattle.zplan.proofs.Cuts.{in_right, AllSome}
use Rattle.zplan.proofs.Ends.{ascends_right}

-- each list begins before p, or after it
abbrev pub AllBefore : ℕ → List (List ℕ) → Type 0
AllBefore p [] = Unit {0}
AllBefore p (l ∷ ls) = (first_of l < p) × AllBefore p ls

abbrev pub AllAfter : ℕ → List (List ℕ) → Type 0
AllAfter p [] = Unit {0}
AllAfter p (l ∷ ls) = (p < first_of l) × AllAfter p ls

put_front : (l : List ℕ) (ls : List (List ℕ)) → AllAfter (first_of l) ls → put_list l ls ≡ l ∷ ls
put_front l [] h = refl
put_front l (m ∷ ms) h =
    let a = h.0 in
    let e : nat_lt (first_of l) (first_of m) ≡ true = grind (arith, nat_tests, a) in
    ap (λ b. cond b (l ∷ m ∷ ms) (m ∷ put_list l ms)) e

pub put_between : (l : List ℕ) (ks ms : List (List ℕ)) → AllBefore (first_of l) ks → AllAfter (first_of l) ms → put_list l (ks ++ ms) ≡ ks ++ l ∷ ms
put_between l [] ms b a = put_front l ms a
put_between l (k ∷ ks) ms b a =
    let c = b.0 in
    let e : nat_lt (first_of l) (first_of k) ≡ false = grind (arith, nat_tests, c) in
    ap (λ t. cond t (l ∷ k ∷ (ks ++ ms)) (k ∷ put_list l (ks ++ ms))) e ∙ ap (λ z. k ∷ z) (put_between l ks ms b.1 a)

without_before : (p : ℕ) (ks ms : List (List ℕ)) → AllBefore p ks → without_start p (ks ++ ms) ≡ ks ++ without_start p ms
without_before p [] ms b = refl
without_before p (k ∷ ks) ms b =
    let c = b.0 in
    let e : (first_of k == p) ≡ false = grind (arith, nat_tests, c) in
    ap (λ t. cond (not t) (k ∷ without_start p (ks ++ ms)) (without_start p (ks ++ ms))) e ∙ ap (λ z. k ∷ z) (without_before p ks ms b.1)

without_after : (p : ℕ) (ms : List (List ℕ)) → AllAfter p ms → without_start p ms ≡ ms
without_after p [] a = refl
without_after p (m ∷ ms) a =
    let c = a.0 in
    let e : (first_of m == p) ≡ false = grind (arith, nat_tests, c) in
    ap (λ t. cond (not t) (m ∷ without_start p ms) (without_start p ms)) e ∙ ap (λ z. m ∷ z) (without_after p ms a.1)

pub without_between : (l : List ℕ) (ks ms : List (List ℕ)) → AllBefore (first_of l) ks → AllAfter (first_of l) ms → without_start (first_of l) (ks ++ l ∷ ms) ≡ ks ++ ms
without_between l ks ms b a =
    let e : (first_of l == first_of l) ≡ true = grind (arith, nat_tests) in
    without_before (first_of l) ks (l ∷ ms) b
    ∙ ap (λ z. ks ++ z) (ap (λ t. cond (not t) (l ∷ without_start (first_of l) ms) (without_start (first_of l) ms)) e ∙ without_after (first_of l) ms a)

pub before_some : (p : ℕ) (ls : List (List ℕ)) → ((l : List ℕ) → IsIn l ls → first_of l < p) → AllBefore p ls
before_some p [] h = tt
before_some p (l ∷ ls) h = (h l (inl refl), before_some p ls (λ m i. h m (inr i)))

pub after_some : (p : ℕ) (ls : List (List ℕ)) → ((l : List ℕ) → IsIn l ls → p < first_of l) → AllAfter p ls
after_some p [] h = tt
after_some p (l ∷ ls) h = (h l (inl refl), after_some p ls (λ m i. h m (inr i)))

pub after_append : (p : ℕ) (ks ls : List (List ℕ)) → AllAfter p ks → AllAfter p ls → AllAfter p (ks ++ ls)
after_append p [] ls h g = g
after_append p (k ∷ ks) ls h g = (h.0, after_append p ks ls h.1 g)

-- a first position stands in the lists' positions
pub first_there : (l : List ℕ) (ls : List (List ℕ)) → AllSome ls → IsIn l ls → IsIn (first_of l) (concat ls)
first_there l [] s i = absurd i
first_there l ([] ∷ ls) s i = absurd (let z : 0 < 0 = s.0 in omega arith)
first_there l ((p ∷ ps) ∷ ls) s (inl e) = inl (ap first_of e)
first_there l ((p ∷ ps) ∷ ls) s (inr i) = in_right (first_of l) (p ∷ ps) (concat ls) (first_there l ls s.1 i)

pub concat_append : (ks ls : List (List ℕ)) → concat (ks ++ ls) ≡ concat ks ++ concat ls
concat_append [] ls = refl
concat_append (k ∷ ks) ls = ap (λ z. k ++ z) (concat_append ks ls) ∙ sym (append_assoc k (concat ks) (concat ls))

-- ---- positions in order stay so where some are left out

from_without : (low : ℕ) (xs ys zs : List ℕ) → IsFrom low (xs ++ (ys ++ zs)) → IsFrom low (xs ++ zs)
from_without low [] [] zs h = h
from_without low [] (y ∷ ys) zs h = from_without low [] ys zs h.1
from_without low (x ∷ xs) ys zs h = (h.0, from_without low xs ys zs h.1)

ascends_without : (xs ys zs : List ℕ) → AreAscending (xs ++ (ys ++ zs)) → AreAscending (xs ++ zs)
ascends_without [] ys zs h = ascends_right ys zs h
ascends_without (x ∷ xs) ys zs h = (from_without (x + 1) xs ys zs h.0, ascends_without xs ys zs h.1)

pub wanted_without : (xs ys zs : List ℕ) → IsWanted (xs ++ (ys ++ zs)) → IsWanted (xs ++ zs)
wanted_without xs ys zs h = (from_without 1 xs ys zs h.0, ascends_without xs ys zs h.1)

pub wanted_drop : (xs : List ℕ) (k : ℕ) (l zs : List ℕ) → IsWanted (xs ++ (l ++ zs)) → IsWanted (xs ++ (drop k l ++ zs))
wanted_drop xs k l zs h =
    wanted_without xs (take k l) (drop k l ++ zs)
    (subst (λ z. IsWanted (xs ++ z)) (ap (λ z. z ++ zs) (sym (take-append-drop k l)) ∙ append_assoc (take k l) (drop k l) zs) h)
