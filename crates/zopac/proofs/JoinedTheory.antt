-- What is joined are the texts that have anything, with the separator between each two.
use Rattle.std.proofs.Common.{◌≡◌, ℕ, false, List, [], ◌∷◌, ◌++◌, length, refl, sym, ap, append_assoc, ◌∙◌}
use Rattle.std.specs.Prelude.{filter, fold}
use Rattle.std.specs.List.{flat_map}
use Rattle.std.proofs.Math.Dec.{eqb, eqb-suc-zero}
use Rattle.std.proofs.lemmas.List.{append-nil}
use Rattle.zopac.specs.Joined.{joined_to, joined, is_filled, between}

filled : (x : ℕ) (xs : List ℕ) → eqb (length (x ∷ xs)) 0 ≡ false
filled x xs = eqb-suc-zero (length xs)

kept : (x : ℕ) (xs : List ℕ) (pieces : List (List ℕ))
    → filter is_filled ((x ∷ xs) ∷ pieces) ≡ (x ∷ xs) ∷ filter is_filled pieces
kept x xs pieces = let e = filled x xs in rw e refl

first : (separator : List ℕ) (x : ℕ) (xs : List ℕ) → joined_to separator [] (x ∷ xs) ≡ x ∷ xs
unfolding joined_to
first separator x xs = let e = filled x xs in rw e refl

next : (separator : List ℕ) (c : ℕ) (cs : List ℕ) (x : ℕ) (xs : List ℕ)
    → joined_to separator (c ∷ cs) (x ∷ xs) ≡ (c ∷ cs) ++ separator ++ (x ∷ xs)
unfolding joined_to
next separator c cs x xs = let e = filled x xs in let d = filled c cs in rw (e, d) refl

skipped : (separator line : List ℕ) → joined_to separator line [] ≡ line
unfolding joined_to
skipped separator line = refl

-- texts behind a line that has something
behind : (separator : List ℕ) (c : ℕ) (cs : List ℕ) (pieces : List (List ℕ))
    → fold (joined_to separator) (c ∷ cs) pieces
    ≡ (c ∷ cs) ++ flat_map (λ u. separator ++ u) (filter is_filled pieces)
behind separator c cs [] = sym (append-nil (c ∷ cs))
behind separator c cs ([] ∷ pieces) =
    ap (λ l. fold (joined_to separator) l pieces) (skipped separator (c ∷ cs)) ∙ behind separator c cs pieces
behind separator c cs ((x ∷ xs) ∷ pieces) =
    let rest : List ℕ = flat_map (λ u. separator ++ u) (filter is_filled pieces) in
    ap (λ l. fold (joined_to separator) l pieces) (next separator c cs x xs)
    ∙ behind separator c ((cs ++ separator) ++ x ∷ xs) pieces
    ∙ append_assoc ((c ∷ cs) ++ separator) (x ∷ xs) rest
    ∙ append_assoc (c ∷ cs) separator ((x ∷ xs) ++ rest)
    ∙ ap (λ t. (c ∷ cs) ++ t) (sym (append_assoc separator (x ∷ xs) rest))
    ∙ ap (λ ps. (c ∷ cs) ++ flat_map (λ u. separator ++ u) ps) (sym (kept x xs pieces))

pub joined_between : (separator : List ℕ) (pieces : List (List ℕ))
    → joined separator pieces ≡ between separator (filter is_filled pieces)
joined_between separator [] = refl
joined_between separator ([] ∷ pieces) =
    ap (λ l. fold (joined_to separator) l pieces) (skipped separator []) ∙ joined_between separator pieces
joined_between separator ((x ∷ xs) ∷ pieces) =
    ap (λ l. fold (joined_to separator) l pieces) (first separator x xs) ∙ behind separator x xs pieces
    ∙ ap (between separator) (sym (kept x xs pieces))
