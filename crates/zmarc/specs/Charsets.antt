-- The characters that octets mean, and the text that is shown of them.
use Rattle.std.specs.Prelude.{ℕ, Bool, ◌&&◌, ◌==◌, nat_lt, if◌then◌else◌, Option, None, List, map, slice_get, unwrap_or}
use Rattle.std.specs.List.{list_any}
use Rattle.std.specs.Str.{chars, is_utf8}
use Rattle.std.specs.Str.Lossy.{utf8_lossy}
use Rattle.unicode_normalization.specs.Forms.{nfc}
use Rattle.zmarc.specs.declared.charset.Charset.{Charset}
use Rattle.zmarc.specs.declared.charset.Charset.TheVariants.{Utf8, Marc8, Ascii, Latin1}
use Rattle.zmarc.specs.Marc8.{ascii, marc8}
use Rattle.zmarc.specs.Shown.{shown_text}

-- ---- UTF-8

-- there are octets above those of ASCII
abbrev pub is_beyond_ascii : List ℕ → Bool
is_beyond_ascii octets = list_any (λ x. nat_lt 0x7F x) octets

-- the octets are UTF-8, and more than ASCII
abbrev pub is_utf8_beyond_ascii : List ℕ → Bool
is_utf8_beyond_ascii octets = is_beyond_ascii octets && is_utf8 octets

-- ---- ISO 8859-1

-- the character of an octet: the one of that number, or a mark for sorting (ISO 6630)
abbrev pub latin1 : ℕ → ℕ
latin1 x = if x == 0x88 then 0x98 else (if x == 0x89 then 0x9C else x)

-- ---- any set

-- the characters of octets
abbrev pub characters : Charset → List ℕ → List ℕ
characters Utf8 octets = chars (utf8_lossy octets)
characters Marc8 octets = marc8 octets
characters Ascii octets = map ascii octets
characters Latin1 octets = map latin1 octets

-- the text that is shown of octets: their characters in NFC (The Unicode Standard, D120), as far as they are safe
unfoldable pub text : Charset → List ℕ → List ℕ
text charset octets = shown_text (nfc (characters charset octets))

-- ---- the sets of targets

-- the set that the records of a target are in, if it is known: a target beyond the end of the list has none
abbrev pub charset_at : List (Option Charset) → ℕ → Option Charset
charset_at charsets target = unwrap_or (slice_get charsets target) None
