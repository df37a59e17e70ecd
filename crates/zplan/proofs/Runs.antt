-- Without version 3 each list asked is one run, so it is one range.
use Rattle.std.proofs.Common.{◌≡◌, inl, inr, ℕ, zero, suc, ◌+◌, ◌-◌, ◌<◌, Bool, true, false, ◌==◌, List, [], ◌∷◌, length, drop, Some, refl, sym, ap, subst, ◌∙◌, arith, length-drop, append-nil, true≢false}
use Rattle.std.proofs.lemmas.Bool.Decides.{nat_tests}
use Rattle.std.specs.List.{range_with_len}
use Rattle.zplan.specs.Positions.{up_to, cut_of, join_or_start, is_followed, runs, first_of, IsIn}
use Rattle.zplan.specs.Plan.{Init, Present, InitReply, Replies, IsPlanned, cut, rest, IsRunList}
use Rattle.zplan.proofs.Parts.{drop_range}

abbrev heads : List (List ℕ) → ℕ
heads [] = 0
heads (m ∷ ms) = first_of m

heads_put : (b : Bool) (q : ℕ) (ls : List (List ℕ)) → heads (join_or_start b q ls) ≡ q
heads_put b q [] = refl
heads_put false q (l ∷ ls) = refl
heads_put true q (l ∷ ls) = refl

follow_run : (p : ℕ) (m : List ℕ) → IsRunList m → first_of m ≡ p + 1 → IsRunList (p ∷ m)
follow_run p m h e = ap (λ l. p ∷ l) (h ∙ ap (λ s. range_with_len s (length m)) e)

in_put : (p : ℕ) (ps l : List ℕ) → ((m : List ℕ) → IsIn m (runs ps) → IsRunList m) → IsIn l (join_or_start (is_followed p ps) p (runs ps)) → IsRunList l
in_put p [] l h (inl e) = subst IsRunList (sym e) refl
in_put p [] l h (inr i) = absurd i
in_put p (q ∷ qs) l h i = go (q == p + 1) (runs (q ∷ qs)) (heads_put (is_followed q qs) q (runs qs)) h refl i
  where
    go : (b : Bool) (ls : List (List ℕ)) → heads ls ≡ q → ((m : List ℕ) → IsIn m ls → IsRunList m) → (q == p + 1) ≡ b → IsIn l (join_or_start b p ls) → IsRunList l
    go b [] e f t (inl g) = subst IsRunList (sym g) refl
    go b [] e f t (inr j) = absurd j
    go false (m ∷ ms) e f t (inl g) = subst IsRunList (sym g) refl
    go false (m ∷ ms) e f t (inr j) = f l j
    go true (m ∷ ms) e f t (inl g) = let n : q ≡ p + 1 = grind (arith, nat_tests) in subst IsRunList (sym g) (follow_run p m (f m (inl refl)) (e ∙ n))
    go true (m ∷ ms) e f t (inr j) = f l (inr j)

pub all_runs : (ps l : List ℕ) → IsIn l (runs ps) → IsRunList l
all_runs [] l i = absurd i
all_runs (p ∷ ps) l i = in_put p ps l (all_runs ps) i

range_first : (n s : ℕ) → 0 < n → first_of (range_with_len s n) ≡ s
range_first zero s h = absurd (omega arith)
range_first (suc n) s h = refl

drop_run : (k : ℕ) (l : List ℕ) → k < length l → IsRunList l → IsRunList (drop k l)
drop_run k l lt h =
    let s : ℕ = first_of l in
    let n : length (drop k l) ≡ length l - k = length-drop k l in
    let e : length l ≡ k + (length l - k) = omega arith in
    let d : drop k l ≡ range_with_len (s + k) (length l - k) =
    ap (drop k) h ∙ ap (λ m. drop k (range_with_len s m)) e ∙ ap (drop k) (sym (append-nil (range_with_len s (k + (length l - k))))) ∙ drop_range k (length l - k) s [] ∙ append-nil (range_with_len (s + k) (length l - k)) in
    let f : first_of (drop k l) ≡ s + k = ap first_of d ∙ range_first (length l - k) (s + k) (omega arith) in
    d ∙ ap (λ m. range_with_len (s + k) m) (sym n) ∙ ap (λ t. range_with_len t (length (drop k l))) (sym f)

pub asked_run : (wanted : List ℕ) (step : ℕ) (replies : Replies) → replies Init ≡ Some (InitReply true false) → (l : List ℕ) → IsPlanned wanted step replies (Present l) → IsRunList l
asked_run wanted step replies o l (cut true count i m a g h lt x) = absurd (true≢false (let e : Some (InitReply true true) ≡ Some (InitReply true false) = sym g ∙ o in cc))
asked_run wanted step replies o l (cut false count i m a g h lt x) = all_runs (cut_of step (up_to count wanted) i) l x
asked_run wanted step replies o l (rest m k a h lo hi) = drop_run k m hi (asked_run wanted step replies o m a)
