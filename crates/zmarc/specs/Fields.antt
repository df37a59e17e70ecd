-- Fields of a record, each as a text of its own: its year, its title, who made it, its ISBN.
use Rattle.std.specs.Prelude.{ℕ, Bool, ◌||◌, ◌==◌, if◌then◌else◌, Option, Some, None, List, [], ◌∷◌, codes}
use Rattle.std.specs.List.{list_any, flat_map}
use Rattle.std.specs.Option.{option_map, option_or, option_to_list}
use Rattle.zmarc.specs.declared.format.Format.{Format}
use Rattle.zmarc.specs.declared.format.Format.TheVariants.{Marc21, Unimarc}
use Rattle.zmarc.specs.declared.format.Reading.{Reading}
use Rattle.zmarc.specs.Briefs.{title_tag, maker_code, title_part, heading, charset, joined}
use Rattle.zmarc.specs.Charsets.{text}
use Rattle.zmarc.specs.Isbns.{isbn_number}
use Rattle.zmarc.specs.Records.{first_field, is_record}
use Rattle.zmarc.specs.Subfields.{Subfield, subfields, subfield_in, filled}
use Rattle.zmarc.specs.Years.{year}

-- ---- marks at the end

-- a space, or one of the marks that ISBD has between the parts of a description: `/`, `:`, `;`, `,` and `=`
abbrev pub is_mark : ℕ → Bool
is_mark x = x == 0x20 || x == 0x2F || x == 0x3A || x == 0x3B || x == 0x2C || x == 0x3D

-- an octet before those that are left: a mark is left off where none is left behind it
abbrev pub octet_before : ℕ → List ℕ → List ℕ
octet_before x [] = if is_mark x then [] else x ∷ []
octet_before x (y ∷ ys) = x ∷ y ∷ ys

-- octets without the marks at their end: a full stop is none, as it may belong to an abbreviation
unfoldable pub without_marks : List ℕ → List ℕ
without_marks [] = []
without_marks (x ∷ xs) = octet_before x (without_marks xs)

-- a piece before those that are left: where none is left behind it, what is left of it
abbrev pub piece_before : List ℕ → List (List ℕ) → List (List ℕ)
piece_before piece [] = option_to_list (filled (without_marks piece))
piece_before piece (p ∷ ps) = piece ∷ p ∷ ps

-- pieces without the marks at the end of the last, and without those at the end that are marks alone
unfoldable pub without_end_marks : List (List ℕ) → List (List ℕ)
without_end_marks [] = []
without_end_marks (p ∷ ps) = piece_before p (without_end_marks ps)

-- ---- the fields

-- the subfields of the title without the statement of responsibility, which says who made it
abbrev pub title_alone_codes : Format → List ℕ
title_alone_codes Marc21 = codes "abnp"
title_alone_codes Unimarc = codes "ae"

-- what is shown of a subfield: of these what the line of the record has of them
abbrev pub title_alone_part : Format → Subfield → List (List ℕ)
title_alone_part format s =
    if list_any (λ code. code == s.code) (title_alone_codes format) then title_part format s else []

-- what is shown of the field of the title; nothing where the record has no such field
abbrev pub title_alone_parts : Format → Option (List ℕ) → List (List ℕ)
title_alone_parts format None = []
title_alone_parts format (Some field) = flat_map (title_alone_part format) (subfields field)

-- the title without the statement of responsibility (MARC 21: 245 $a, $b, $n and $p; UNIMARC: 200 $a and $e)
unfoldable pub title_alone : Format → List ℕ → List (List ℕ)
title_alone format octets = title_alone_parts format (first_field (title_tag format) octets)

-- who made it: the main heading, else the statement of responsibility (MARC 21: 245 $c; UNIMARC: 200 $f)
unfoldable pub author : Format → List ℕ → Option (List ℕ)
author format octets =
    option_or (heading format octets) (subfield_in (title_tag format) (maker_code format) octets)

-- ---- their texts

-- octets as the line of the record shows them; nothing where there are none
abbrev pub shown_of : Reading → List ℕ → Option (List ℕ) → List ℕ
shown_of reading octets None = []
shown_of reading octets (Some found) = text (charset reading octets) found

-- the year, four digits
unfoldable pub year_text : Reading → List ℕ → List ℕ
year_text reading octets = if is_record octets then shown_of reading octets (year reading.format octets) else []

-- the title without the statement of responsibility, and without the marks at its end
unfoldable pub title_text : Reading → List ℕ → List ℕ
title_text reading octets =
    if is_record octets
    then joined (charset reading octets) [] (without_end_marks (title_alone reading.format octets))
    else []

-- who made it, without the marks at the end
unfoldable pub author_text : Reading → List ℕ → List ℕ
author_text reading octets =
    if is_record octets then shown_of reading octets (option_map without_marks (author reading.format octets)) else []

-- the number of the ISBN, without the word
unfoldable pub isbn_text : Reading → List ℕ → List ℕ
isbn_text reading octets = if is_record octets then shown_of reading octets (isbn_number reading.format octets) else []
