-- Names that are chosen among those of catalogues or questions.
use Rattle.std.specs.Prelude.{◌≡◌, ℕ, ◌<◌, Bool, true, false, List, [], ◌∷◌, length, slice_get, Option, Some, None}
use Rattle.std.specs.List.{list_any}
use Rattle.std.specs.Str.{bytes_eq}

-- the name is among the names
abbrev pub is_among : List (List ℕ) → List ℕ → Bool
is_among names name = list_any (λ known. bytes_eq known name) names

-- the name is among `only`, or `only` is empty
abbrev pub is_picked : List (List ℕ) → List ℕ → Bool
is_picked [] name = true
is_picked (first ∷ only) name = is_among (first ∷ only) name

-- each of the first n names is a question's
abbrev pub AreKnown : List (List ℕ) → List (List ℕ) → ℕ → Type 0
AreKnown only names n =
    (c : ℕ) (name : List ℕ) → c < n → slice_get only c ≡ Some name → is_among names name ≡ true

-- each of the names is a question's
abbrev pub AreAllKnown : List (List ℕ) → List (List ℕ) → Type 0
AreAllKnown only names = AreKnown only names (length only)

-- the name is the first that no question has
pub record IsFirstUnknown (only names : List (List ℕ)) (name : List ℕ) : Type 0 where
  pub at : ℕ
  pub stands : slice_get only at ≡ Some name
  pub unknown : is_among names name ≡ false
  pub known : AreKnown only names at

-- each of the names is known, or this is the first that is not
abbrev pub FirstUnknownResult : List (List ℕ) → List (List ℕ) → Option (List ℕ) → Type 0
FirstUnknownResult only names None = AreAllKnown only names
FirstUnknownResult only names (Some name) = IsFirstUnknown only names name
