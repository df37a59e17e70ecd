-- What is shown of a character: text that is safe for a terminal.
use Rattle.std.specs.Prelude.{◌≡◌, ◌≢◌, ℕ, ◌≤◌, Bool, not, ◌&&◌, ◌||◌, ◌==◌, nat_le, if◌then◌else◌, List, map, filter}
use Rattle.std.specs.Prelude.{All}
use lib.Utf8.{scalar}
use Rattle.std.specs.Char.{IsScalar}
use Rattle.std.specs.Int.{is_in_range}
use Rattle.std.specs.Str.{IsUtf8, encode_utf8_all}

-- a tab, a line feed, a carriage return
abbrev pub is_white : ℕ → Bool
is_white c = c == 0x09 || c == 0x0A || c == 0x0D

-- one of five characters that nobody sees: the Arabic letter mark, the zero width space, the two directional marks, the
-- byte order mark
abbrev pub is_invisible : ℕ → Bool
is_invisible c = c == 0x061C || c == 0x200B || c == 0x200E || c == 0x200F || c == 0xFEFF

-- a character of Unicode that is no control character and no separator of lines or paragraphs, that does not turn the
-- direction of text, and that is none of those five
abbrev pub is_safe : ℕ → Bool
is_safe c = scalar c && nat_le 0x20 c && not (is_in_range 0x7F 0x9F c) && not (is_in_range 0x2028 0x202E c)
    && not (is_in_range 0x2066 0x2069 c) && not (is_invisible c)

-- the marks round what is left out in sorting, as a first article (ISO 6630; NON-SORT BEGIN and END of MARC 21)
abbrev pub is_sort_mark : ℕ → Bool
is_sort_mark c = c == 0x98 || c == 0x9C

-- what is shown of a character: white space as a space, and what is not safe as U+FFFD
abbrev pub shown : ℕ → ℕ
shown c = if is_white c then 0x20 else (if is_safe c then c else 0xFFFD)

-- the octets of what is shown of these characters; of marks for sorting nothing is shown
unfoldable pub shown_text : List ℕ → List ℕ
shown_text cs = encode_utf8_all (map shown (filter (λ c. not (is_sort_mark c)) cs))

-- ---- what safe text is

-- the character is a scalar value and no control character, so a terminal shows it as text
pub record IsSafe (c : ℕ) : Type 0 where
  pub scalar_value : IsScalar c
  pub no_control : 0x20 ≤ c
  pub no_later_control : 0x7F ≤ c → c ≤ 0x9F → ⊥
  pub no_separator_or_embedding : 0x2028 ≤ c → c ≤ 0x202E → ⊥
  pub no_isolate : 0x2066 ≤ c → c ≤ 0x2069 → ⊥
  pub no_arabic_letter_mark : c ≢ 0x061C
  pub no_directional_mark : (c ≢ 0x200E) × (c ≢ 0x200F)
  pub no_zero_width_space : c ≢ 0x200B
  pub no_byte_order_mark : c ≢ 0xFEFF

-- no control character of ASCII
pub record IsSafeOctet (octet : ℕ) : Type 0 where
  pub no_control : 0x20 ≤ octet
  pub no_delete : octet ≢ 0x7F

-- the octets are UTF-8, of characters that are safe
pub record IsSafeText (octets : List ℕ) : Type 0 where
  pub characters : List ℕ
  pub spelled : encode_utf8_all characters ≡ octets
  pub safe : All IsSafe characters
  pub utf8 : IsUtf8 octets
  pub plain : All IsSafeOctet octets
