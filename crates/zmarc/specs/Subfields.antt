-- Subfields: a delimiter, a code of one octet, and data (ISO 2709 with the identifier length 2).
use Rattle.std.specs.Prelude.{ℕ, Bool, ◌==◌, if◌then◌else◌, Option, Some, None, List, [], ◌∷◌, length, drop, find}
use Rattle.std.specs.List.{slice_split, filter_map}
use Rattle.std.specs.Option.{option_map, option_or, option_and_then}
use Rattle.zmarc.specs.Records.{first_field}

-- the delimiter of subfields, hexadecimal 1F
abbrev pub is_delimiter : ℕ → Bool
is_delimiter x = x == 0x1F

-- what stands behind each delimiter of a field; what stands before the first are the indicators
unfoldable pub parts : List ℕ → List (List ℕ)
parts field = drop 1 (slice_split is_delimiter field)

-- a subfield of a field: its code, and its octets
pub record Subfield : Type 0 where
  pub code : ℕ
  pub octets : List ℕ

-- the subfield behind one delimiter: its first octet is the code, and the rest the data
abbrev pub subfield_of : List ℕ → Option Subfield
subfield_of [] = None
subfield_of (code ∷ octets) = Some (record { code = code; octets = octets })

-- the subfields, in order; a delimiter with no code behind it makes none
abbrev pub subfields : List ℕ → List Subfield
subfields field = filter_map subfield_of (parts field)

-- the data of the first subfield that has this code
unfoldable pub first_subfield : ℕ → List ℕ → Option (List ℕ)
first_subfield code field = option_map (λ s. s.octets) (find (λ s. s.code == code) (subfields field))

-- data, unless they are empty
abbrev pub filled : List ℕ → Option (List ℕ)
filled octets = if length octets == 0 then None else Some octets

-- the data of the first subfield that has this code in the first field that has this tag; where they are empty there
-- are none
unfoldable pub subfield_in : List ℕ → ℕ → List ℕ → Option (List ℕ)
subfield_in tag code octets = option_and_then filled (option_and_then (first_subfield code) (first_field tag octets))

-- the first that any of these fields gives, in their order
abbrev pub first_given : (List ℕ → Option (List ℕ)) → List (List ℕ) → Option (List ℕ)
first_given of [] = None
first_given of (field ∷ rest) = option_or (of field) (first_given of rest)
