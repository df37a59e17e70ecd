-- The line that is shown of a record: its title and who made it, and its ISBN.
use Rattle.std.specs.Prelude.{ℕ, Bool, false, not, ◌&&◌, ◌||◌, ◌==◌, nat_le, if◌then◌else◌, Option, Some, None}
use Rattle.std.specs.Prelude.{is_some, unwrap_or, List, [], ◌∷◌, ◌++◌, length, slice_index, map, fold, codes}
use Rattle.std.specs.List.{slice_range, list_any, flat_map}
use Rattle.std.specs.Option.{option_or, option_to_list}
use Rattle.std.specs.Str.{bytes_eq, byte}
use Rattle.zmarc.specs.declared.charset.Charset.{Charset}
use Rattle.zmarc.specs.declared.charset.Charset.TheVariants.{Utf8, Marc8, Ascii}
use Rattle.zmarc.specs.declared.format.Format.{Format}
use Rattle.zmarc.specs.declared.format.Format.TheVariants.{Marc21, Unimarc}
use Rattle.zmarc.specs.declared.format.Reading.{Reading}
use Rattle.zmarc.specs.Charsets.{is_utf8_beyond_ascii, text}
use Rattle.zmarc.specs.Isbns.{isbn}
use Rattle.zmarc.specs.Records.{first_field, is_record, own_octets}
use Rattle.zmarc.specs.Subfields.{Subfield, subfields, subfield_in}

-- ---- the title, and who made it

-- the field of the title
abbrev pub title_tag : Format → List ℕ
title_tag Marc21 = codes "245"
title_tag Unimarc = codes "200"

-- the subfields that are shown of it
abbrev pub title_codes : Format → List ℕ
title_codes Marc21 = codes "abnpc"
title_codes Unimarc = codes "aefg"

-- the subfield that says who made it
abbrev pub maker_code : Format → ℕ
maker_code Marc21 = byte "c"
maker_code Unimarc = byte "f"

-- the mark of ISBD that stands before a subfield: in UNIMARC it is not in the data
abbrev pub mark_before : Format → ℕ → Option (List ℕ)
mark_before Marc21 code = None
mark_before Unimarc code =
    if code == byte "e" then Some (codes ":")
    else (if code == byte "f" then Some (codes "/") else (if code == byte "g" then Some (codes ";") else None))

-- what is shown of a subfield: nothing where it is empty
abbrev pub title_part : Format → Subfield → List (List ℕ)
title_part format s =
    if list_any (λ code. code == s.code) (title_codes format) && not (length s.octets == 0)
    then option_to_list (mark_before format s.code) ++ s.octets ∷ []
    else []

-- what is shown of the field of the title; nothing where the record has no such field
abbrev pub title_parts : Format → Option (List ℕ) → List (List ℕ)
title_parts format None = []
title_parts format (Some field) = flat_map (title_part format) (subfields field)

-- those of the field, in its order
unfoldable pub title : Format → List ℕ → List (List ℕ)
title format octets = title_parts format (first_field (title_tag format) octets)

-- the main heading
unfoldable pub heading : Format → List ℕ → Option (List ℕ)
heading Marc21 octets =
    option_or (subfield_in (codes "100") (byte "a") octets)
    (option_or (subfield_in (codes "110") (byte "a") octets) (subfield_in (codes "111") (byte "a") octets))
heading Unimarc octets =
    option_or (subfield_in (codes "700") (byte "a") octets) (subfield_in (codes "710") (byte "a") octets)

-- a slash and the main heading; nothing where there is no heading
abbrev pub slash_and_heading : Option (List ℕ) → List (List ℕ)
slash_and_heading None = []
slash_and_heading (Some found) = codes "/" ∷ found ∷ []

-- where the title does not say who made it: a slash and the main heading
unfoldable pub maker : Format → List ℕ → List (List ℕ)
maker format octets =
    if is_some (subfield_in (title_tag format) (maker_code format) octets) then []
    else slash_and_heading (heading format octets)

-- ---- the text

-- what is shown: octets of the record, with marks and words between them
unfoldable pub pieces : Format → List ℕ → List (List ℕ)
pieces format octets =
    title format octets ++ maker format octets ++ isbn format octets

-- positions 26 and 27 of the coded field name UTF-8
abbrev pub names_utf8 : Option (List ℕ) → Bool
names_utf8 None = false
names_utf8 (Some field) = nat_le 28 (length field) && bytes_eq (slice_range field 26 28) (codes "50")

-- the record says that it is in UTF-8 (MARC 21: leader, position 9; UNIMARC: 100 $a, positions 26 and 27)
abbrev pub declares_utf8 : Format → List ℕ → Bool
declares_utf8 Marc21 octets = nat_le 10 (length octets) && slice_index octets 9 == byte "a"
declares_utf8 Unimarc octets = names_utf8 (subfield_in (codes "100") (byte "a") octets)

-- the set of a record that does not say that it is in UTF-8
abbrev pub other_charset : Format → Charset
other_charset Marc21 = Marc8
other_charset Unimarc = Ascii

-- the character set that a record is read in by itself: UTF-8 also where it does not say so, and its own octets are
-- UTF-8 as a whole, with octets beyond ASCII
abbrev pub own_charset : Format → List ℕ → Charset
own_charset format octets =
    if declares_utf8 format octets || is_utf8_beyond_ascii (own_octets octets) then Utf8 else other_charset format

-- the character set that a record is read in: the one that is known from elsewhere, else its own
abbrev pub charset : Reading → List ℕ → Charset
charset reading octets = unwrap_or reading.charset (own_charset reading.format octets)

-- in this format, and in the character set that is known from elsewhere, if one is
abbrev pub read_in : Format → Option Charset → Reading
read_in format known = record { format = format; charset = known }

-- a piece behind a line, with a space between them unless the line is empty
abbrev pub with_piece : List ℕ → List ℕ → List ℕ
with_piece line piece = if length line == 0 then piece else line ++ 0x20 ∷ piece

-- the pieces, as they are shown, behind this line, each with a space before it unless the line is empty by then
unfoldable pub joined : Charset → List ℕ → List (List ℕ) → List ℕ
joined set line found = fold with_piece line (map (text set) found)

-- the line that is shown of a record: nothing, where the octets are no record
unfoldable pub brief : Reading → List ℕ → List ℕ
brief reading octets =
    if is_record octets then joined (charset reading octets) [] (pieces reading.format octets) else []
