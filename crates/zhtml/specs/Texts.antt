-- What is shown of octets: visible characters, and the five marks that HTML reads as markup as character references.
use Rattle.std.specs.Prelude.{ℕ, Bool, not, ◌&&◌, ◌||◌, ◌==◌, nat_le, if◌then◌else◌, Option, Some, None, unwrap_or}
use Rattle.std.specs.Prelude.{List, [], ◌∷◌, map, codes}
use lib.Utf8.{scalar}
use Rattle.std.specs.Int.{is_in_range}
use Rattle.std.specs.List.{flat_map}
use Rattle.std.specs.Str.{chars, encode_utf8_all}
use Rattle.std.specs.Str.Lossy.{utf8_lossy}

-- ---- visible characters

-- a tab, a line feed, a carriage return
abbrev pub is_white : ℕ → Bool
is_white c = c == 0x09 || c == 0x0A || c == 0x0D

-- one of five characters that nobody sees: the Arabic letter mark, the zero width space, the two directional marks, the
-- byte order mark
abbrev pub is_unseen : ℕ → Bool
is_unseen c = c == 0x061C || c == 0x200B || c == 0x200E || c == 0x200F || c == 0xFEFF

-- a character of Unicode that is no control character and no separator of lines or paragraphs, that does not turn the
-- direction of text, and that is none of those five
abbrev pub is_visible : ℕ → Bool
is_visible c = scalar c && nat_le 0x20 c && not (is_in_range 0x7F 0x9F c) && not (is_in_range 0x2028 0x202E c)
    && not (is_in_range 0x2066 0x2069 c) && not (is_unseen c)

-- what is shown of a character: white space as a space, and what is not visible as U+FFFD
abbrev pub shown : ℕ → ℕ
shown c = if is_white c then 0x20 else (if is_visible c then c else 0xFFFD)

-- what is shown of octets: their characters in UTF-8, with U+FFFD in place of what is none
unfoldable pub visible : List ℕ → List ℕ
visible octets = encode_utf8_all (map shown (chars (utf8_lossy octets)))

-- ---- character references (HTML Standard, 13.1.4)

-- the reference that stands for a mark of markup
abbrev pub reference_to : ℕ → Option (List ℕ)
reference_to x =
    if x == 0x26 then Some (codes "&amp;")
    else (if x == 0x3C then Some (codes "&lt;")
    else (if x == 0x3E then Some (codes "&gt;")
    else (if x == 0x22 then Some (codes "&quot;")
    else (if x == 0x27 then Some (codes "&#39;") else None))))

-- an octet as it stands in a text or in a quoted value
abbrev pub escaped_octet : ℕ → List ℕ
escaped_octet x = unwrap_or (reference_to x) (x ∷ [])

-- octets as they stand there
unfoldable pub escaped : List ℕ → List ℕ
escaped octets = flat_map escaped_octet octets

-- a text
unfoldable pub text : List ℕ → List ℕ
text octets = escaped (visible octets)
