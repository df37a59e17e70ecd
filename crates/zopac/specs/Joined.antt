-- Texts behind one another, with separators between them.
use Rattle.std.specs.Prelude.{◌≡◌, ℕ, ◌==◌, Bool, not, if◌then◌else◌, Option, Some, None, List, [], ◌∷◌, ◌++◌, length, fold, filter}
use Rattle.std.specs.List.{flat_map}
use Rattle.zmarc.specs.declared.charset.Charset.TheVariants.{Utf8}
use Rattle.zmarc.specs.Charsets.{text}

-- what is shown of a text: nothing where there is none
abbrev pub shown : Option (List ℕ) → List ℕ
shown None = []
shown (Some octets) = text Utf8 octets

-- a word and a text behind it; nothing where the text is empty
abbrev pub labelled : List ℕ → List ℕ → List ℕ
labelled word piece = if length piece == 0 then [] else word ++ piece

-- a text behind a line, with the separator between them if the line has anything; an empty text adds nothing
unfoldable pub joined_to : List ℕ → List ℕ → List ℕ → List ℕ
joined_to separator line piece =
    if length piece == 0 then line else (if length line == 0 then piece else line ++ separator ++ piece)

-- the texts that are not empty, with the separator between each two
abbrev pub joined : List ℕ → List (List ℕ) → List ℕ
joined separator pieces = fold (joined_to separator) [] pieces

-- ---- what the texts are together

-- the text has anything
abbrev pub is_filled : List ℕ → Bool
is_filled piece = not (length piece == 0)

-- texts with the separator between each two
abbrev pub between : List ℕ → List (List ℕ) → List ℕ
between separator [] = []
between separator (t ∷ ts) = t ++ flat_map (λ u. separator ++ u) ts

-- the texts that are joined are those that have anything, with the separator between each two
abbrev pub JoinedLaw : Type 0
JoinedLaw = (separator : List ℕ) (pieces : List (List ℕ))
    → joined separator pieces ≡ between separator (filter is_filled pieces)
