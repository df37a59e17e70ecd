-- The year of a record: the first four digits side by side, where the record tells of its publication.
use Rattle.std.specs.Prelude.{ℕ, ◌&&◌, nat_le, if◌then◌else◌, Option, Some, None, is_some, List, [], ◌∷◌, length}
use Rattle.std.specs.Prelude.{take, drop, codes}
use Rattle.std.specs.Option.{option_or, option_and_then}
use Rattle.std.specs.Str.{byte}
use Rattle.zmarc.specs.declared.format.Format.{Format}
use Rattle.zmarc.specs.declared.format.Format.TheVariants.{Marc21, Unimarc}
use Rattle.zmarc.specs.Numbers.{number}
use Rattle.zmarc.specs.Records.{first_field, tagged_fields}
use Rattle.zmarc.specs.Subfields.{first_subfield, first_given, subfield_in}

-- the first four octets, if they are digits
unfoldable pub four_digits : List ℕ → Option (List ℕ)
four_digits octets = if nat_le 4 (length octets) && is_some (number (take 4 octets)) then Some (take 4 octets) else None

-- the first four digits side by side, at whatever octet they begin
abbrev pub first_four_digits : List ℕ → Option (List ℕ)
first_four_digits [] = None
first_four_digits (x ∷ xs) = option_or (four_digits (x ∷ xs)) (first_four_digits xs)

-- the first four digits that stand side by side
unfoldable pub first_year : List ℕ → Option (List ℕ)
first_year octets = first_four_digits octets

-- the first four digits side by side in the first subfield of a field that has this code
abbrev pub year_of_field : ℕ → List ℕ → Option (List ℕ)
year_of_field code field = option_and_then first_year (first_subfield code field)

-- the first four digits side by side in the first subfield with this code, of the first field with this tag that has
-- some there
unfoldable pub year_in : List ℕ → ℕ → List ℕ → Option (List ℕ)
year_in tag code octets = first_given (year_of_field code) (tagged_fields tag octets)

-- the first date of the coded field (MARC 21: 008, positions 7 to 10; UNIMARC: 100 $a, positions 9 to 12)
abbrev pub coded_year : Format → List ℕ → Option (List ℕ)
coded_year Marc21 octets = option_and_then (λ field. four_digits (drop 7 field)) (first_field (codes "008") octets)
coded_year Unimarc octets =
    option_and_then (λ field. four_digits (drop 9 field)) (subfield_in (codes "100") (byte "a") octets)

-- MARC 21: of the publication (264 $c, 260 $c), of the manufacture (260 $g), else the first date of the coded field.
-- UNIMARC: of the publication (214 $d, 210 $d), else the first date of the coded field.
unfoldable pub year : Format → List ℕ → Option (List ℕ)
year Marc21 octets =
    option_or (year_in (codes "264") (byte "c") octets)
    (option_or (year_in (codes "260") (byte "c") octets)
    (option_or (year_in (codes "260") (byte "g") octets) (coded_year Marc21 octets)))
year Unimarc octets =
    option_or (year_in (codes "214") (byte "d") octets)
    (option_or (year_in (codes "210") (byte "d") octets) (coded_year Unimarc octets))
