-- How records in a syntax are read (Z39.50-2003, Appendix REC). A syntax is the list of the numbers of its object
-- identifier, empty where no identifier names it.
use Rattle.std.specs.Prelude.{ℕ, Bool, ◌&&◌, ◌||◌, ◌==◌, nat_le, if◌then◌else◌, Option, Some, None, List, [], ◌∷◌, length}
use Rattle.std.specs.Prelude.{take, slice_index}
use Rattle.std.specs.Str.{bytes_eq}
use Rattle.zmarc.specs.declared.format.Format.{Format}
use Rattle.zmarc.specs.declared.format.Format.TheVariants.{Marc21, Unimarc}
use Rattle.zmarc.specs.Records.{is_record}

-- the syntax UNIMARC: 1.2.840.10003.5.1
abbrev pub unimarc : List ℕ
unimarc = 1 ∷ 2 ∷ 840 ∷ 10003 ∷ 5 ∷ 1 ∷ []

-- the syntax SUTRS, plain text without structure: 1.2.840.10003.5.101
abbrev pub sutrs : List ℕ
sutrs = 1 ∷ 2 ∷ 840 ∷ 10003 ∷ 5 ∷ 101 ∷ []

-- the syntax XML: 1.2.840.10003.5.109.10
abbrev pub xml : List ℕ
xml = 1 ∷ 2 ∷ 840 ∷ 10003 ∷ 5 ∷ 109 ∷ 10 ∷ []

-- the formats of MARC: 1.2.840.10003.5.0 to 1.2.840.10003.5.99
abbrev pub is_marc : List ℕ → Bool
is_marc syntax =
    length syntax == 6 && bytes_eq (take 5 syntax) (1 ∷ 2 ∷ 840 ∷ 10003 ∷ 5 ∷ []) && nat_le (slice_index syntax 5) 99

-- The format that octets in a syntax are read in: UNIMARC in its own syntax; MARC 21 in another syntax of MARC, and in
-- any syntax but SUTRS and XML where they are a record. None is read of others.
unfoldable pub format_of : List ℕ → List ℕ → Option Format
format_of syntax octets =
    if bytes_eq syntax sutrs || bytes_eq syntax xml then None
    else if bytes_eq syntax unimarc then Some Unimarc
    else if is_marc syntax || is_record octets then Some Marc21
    else None
