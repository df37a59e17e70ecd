-- The names of catalogues, as they are shown.
use Rattle.std.specs.Prelude.{ℕ, nat_le, if◌then◌else◌, Option, Some, None, List, [], ◌∷◌, ◌++◌, codes, map, slice_get}
use Rattle.std.specs.Fmt.{decimal}
use Rattle.zmarc.specs.declared.charset.Charset.TheVariants.{Utf8}
use Rattle.zmarc.specs.Charsets.{text}

-- each name as safe text
abbrev pub shown_names : List (List ℕ) → List (List ℕ)
shown_names names = map (text Utf8) names

-- # and the number for a target without a name
abbrev pub name_or_number : ℕ → Option (List ℕ) → List ℕ
name_or_number target None = 0x23 ∷ decimal target
name_or_number target (Some name) = name

-- the number of a set other than the connection and the first
abbrev pub set_part : ℕ → List ℕ
set_part set = if nat_le set 1 then [] else codes " set " ++ decimal set

-- a target's set: the target's name, and the number of the set
abbrev pub label : List (List ℕ) → ℕ → ℕ → List ℕ
label shown target set = name_or_number target (slice_get shown target) ++ set_part set
