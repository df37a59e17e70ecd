-- The ISBN of a record: the first of its ISBN fields that begins with a number gives it.
use Rattle.std.specs.Prelude.{ℕ, ◌==◌, if◌then◌else◌, Option, Some, None, List, [], ◌∷◌, codes}
use Rattle.std.specs.Char.{is_ascii_digit}
use Rattle.std.specs.List.{before_first, list_any}
use Rattle.std.specs.Option.{option_and_then}
use Rattle.std.specs.Str.{byte}
use Rattle.zmarc.specs.declared.format.Format.{Format}
use Rattle.zmarc.specs.declared.format.Format.TheVariants.{Marc21, Unimarc}
use Rattle.zmarc.specs.Records.{tagged_fields}
use Rattle.zmarc.specs.Subfields.{first_subfield, first_given}

-- the field of the ISBN
abbrev pub isbn_tag : Format → List ℕ
isbn_tag Marc21 = codes "020"
isbn_tag Unimarc = codes "010"

-- a word, if there is a digit in it
abbrev pub numbered : List ℕ → Option (List ℕ)
numbered word = if list_any is_ascii_digit word then Some word else None

-- what stands before the first space, if there is a digit in it
unfoldable pub leading_number : List ℕ → Option (List ℕ)
leading_number octets = numbered (before_first (λ x. x == 0x20) octets)

-- that of the first $a of a field
abbrev pub isbn_of_field : List ℕ → Option (List ℕ)
isbn_of_field field = option_and_then leading_number (first_subfield (byte "a") field)

-- the ISBN of the first field with the tag that has one
unfoldable pub isbn_number : Format → List ℕ → Option (List ℕ)
isbn_number format octets = first_given isbn_of_field (tagged_fields (isbn_tag format) octets)

-- `ISBN` and the number; nothing where there is no number
abbrev pub labelled_isbn : Option (List ℕ) → List (List ℕ)
labelled_isbn None = []
labelled_isbn (Some number) = codes "ISBN" ∷ number ∷ []

-- the word and the number, if there is one
unfoldable pub isbn : Format → List ℕ → List (List ℕ)
isbn format octets = labelled_isbn (isbn_number format octets)
