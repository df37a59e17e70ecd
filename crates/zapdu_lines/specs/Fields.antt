-- The fields of an APDU's line.
use Rattle.std.specs.Prelude.{ℕ, ℤ, List, ◌++◌, Option, Some, None, Bool, if◌then◌else◌, map, codes}
use Rattle.std.specs.List.{flat_map}
use Rattle.std.specs.Fmt.{signed_decimal}
use Rattle.hex.specs.Hex.{encode_lower}
use Rattle.zapdu.specs.Text.{quoted_or_dash}
use Rattle.zapdu.specs.declared.apdu.Kind.{Kind}
use Rattle.zapdu.specs.Apdus.{apdu_kind_name}

-- a reference id in hexadecimal, or a dash if there is none
abbrev pub reference_text : Option (List ℕ) → List ℕ
reference_text None = codes "-"
reference_text (Some octets) = encode_lower octets

-- a space and a number
abbrev pub number_text : ℤ → List ℕ
number_text n = codes " " ++ signed_decimal n

-- numbers in decimal, each after a space
abbrev pub numbers_text : List ℤ → List ℕ
numbers_text ns = flat_map number_text ns

-- a bit as a digit
abbrev pub bit_text : Bool → ℕ
bit_text b = if b then 49 else 48

-- a space and bits as digits
abbrev pub bits_text : List Bool → List ℕ
bits_text bits = codes " " ++ map bit_text bits

-- a space and `true` or `false`
abbrev pub truth_text : Bool → List ℕ
truth_text b = if b then codes " true" else codes " false"

-- a space and a name in quotes, or a dash if there is none
abbrev pub name_field : Option (List ℕ) → List ℕ
name_field name = codes " " ++ quoted_or_dash name

-- the kind's name and the reference id
unfoldable pub start_text : Kind → Option (List ℕ) → List ℕ
start_text kind reference = apdu_kind_name kind ++ codes " " ++ reference_text reference

-- the line of the kind's name, the reference id and numbers
unfoldable pub head_line : Kind → Option (List ℕ) → List ℤ → List ℕ
head_line kind reference ns =
    apdu_kind_name kind ++ codes " " ++ reference_text reference ++ numbers_text ns ++ codes "\n"
