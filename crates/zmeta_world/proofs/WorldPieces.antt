-- Texts that are split at an octet.
use Rattle.std.proofs.Common.{◌≡◌, ◌≢◌, ◌∙◌, ap, refl, ℕ, List, [], ◌∷◌, ◌++◌, false, ◌==◌, Option, Some, None, append-nil, All, sym, ◌<◌, length, arith}
use Rattle.std.specs.List.{slice_split}
use Rattle.std.proofs.lemmas.Bool.{ne_eqb, eq-eqb}
use Rattle.std.proofs.lemmas.List.Splits.{slice_split_at, slice_split_none, length-slice_split}
use Rattle.zmeta_world.specs.World.{pieces, behind}
use Rattle.zmeta_world.specs.WorldWants.{is_hyphen, two}

-- no octet of the text passes the test
plain : (at : ℕ) (xs : List ℕ) → All (λ x. x ≢ at) xs → All (λ x. (x == at) ≡ false) xs
plain at xs h = λ k x l. ne_eqb _ at (h k x l)

pub cut_at : (at : ℕ) (xs : List ℕ) (rest : Option (List ℕ)) (text : List ℕ) → text ≡ xs ++ behind at rest → All (λ x. x ≢ at) xs → slice_split (λ b. b == at) text ≡ xs ∷ pieces at rest
cut_at at xs None text e h = ap (slice_split (λ b. b == at)) (e ∙ append-nil xs) ∙ slice_split_none (λ b. b == at) xs (plain at xs h)
cut_at at xs (Some rest) text e h = ap (slice_split (λ b. b == at)) e ∙ slice_split_at (λ b. b == at) xs at rest (plain at xs h) (eq-eqb at at refl)

more_than_two : (a b : List ℕ) (xs : List (List ℕ)) → 0 < length xs → two (a ∷ b ∷ xs) ≡ None
more_than_two a b [] h = absurd (omega (arith, h))
more_than_two a b (x ∷ xs) h = refl

some_piece : (xs : List ℕ) → 0 < length (slice_split is_hyphen xs)
some_piece xs = rw (length-slice_split is_hyphen xs) (omega arith)

pub two_pieces : (a b : List ℕ) (rest : List ℕ) (s : Option (List ℕ)) → slice_split is_hyphen rest ≡ b ∷ pieces 45 s → s ≡ None → Some (a, b) ≡ two (a ∷ slice_split is_hyphen rest)
two_pieces a b rest s g h = sym (ap (λ z. two (a ∷ z)) g ∙ ap (λ z. two (a ∷ b ∷ pieces 45 z)) h)

pub more_pieces : (a b : List ℕ) (rest last : List ℕ) (s : Option (List ℕ)) → slice_split is_hyphen rest ≡ b ∷ pieces 45 s → s ≡ Some last → None ≡ two (a ∷ slice_split is_hyphen rest)
more_pieces a b rest last s g h = sym (ap (λ z. two (a ∷ z)) g ∙ ap (λ z. two (a ∷ b ∷ pieces 45 z)) h ∙ more_than_two a b _ (some_piece last))

pub first_piece : (text a rest : List ℕ) (s : Option (List ℕ)) → slice_split is_hyphen text ≡ a ∷ pieces 45 s → s ≡ Some rest → two (a ∷ slice_split is_hyphen rest) ≡ two (slice_split is_hyphen text)
first_piece text a rest s g h = sym (ap two g ∙ ap (λ z. two (a ∷ pieces 45 z)) h)

pub one_piece : (text a : List ℕ) (s : Option (List ℕ)) → slice_split is_hyphen text ≡ a ∷ pieces 45 s → s ≡ None → None ≡ two (slice_split is_hyphen text)
one_piece text a s g h = sym (ap two g ∙ ap (λ z. two (a ∷ pieces 45 z)) h)
