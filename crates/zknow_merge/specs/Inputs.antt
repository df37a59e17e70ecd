-- The inputs of a merge: what has come of each file.
use Rattle.std.specs.Prelude.{◌≡◌, ℕ, zero, suc, ◌∷◌, ◌<◌, Bool, true, false, List, [], ◌++◌, length, slice_index_or, slice_set, if◌then◌else◌}

-- what has come of one file, and whether nothing more comes
pub record Input : Type 0 where
  pub octets : List ℕ
  pub ended : Bool

-- an input of which nothing has come
abbrev pub no_input : Input
no_input = record { octets = []; ended = false }

-- the input after a piece of its file came; at its end it takes no more
abbrev pub fed : List ℕ → Input → Input
fed piece i = if i.ended then i else record i { octets = i.octets ++ piece }

-- the input after its end came
abbrev pub at_end : Input → Input
at_end i = record i { ended = true }

-- the input with this number
abbrev pub input_at : List Input → ℕ → Input
input_at inputs k = slice_index_or inputs k no_input

-- the inputs after the one with this number changed
abbrev pub changed_at : ℕ → (Input → Input) → List Input → List Input
changed_at k change inputs = slice_set inputs k (change (input_at inputs k))

-- A file that the input is the front of. If the input is at its end, it is that file.
pub record IsFileOf (i : Input) (file : List ℕ) : Type 0 where
  pub more : List ℕ
  pub cut : file ≡ i.octets ++ more
  pub whole : i.ended ≡ true → more ≡ []

-- the octets of an input
abbrev pub octets_of : Input → List ℕ
octets_of i = i.octets

-- all inputs are at their ends
abbrev pub AreWhole : List Input → Type 0
AreWhole inputs = (k : ℕ) → k < length inputs → (input_at inputs k).ended ≡ true

-- so many inputs of which nothing has come
abbrev pub fresh : ℕ → List Input
fresh zero = []
fresh (suc n) = no_input ∷ fresh n
