-- Texts in the columns of a terminal.
use Rattle.std.specs.Prelude.{ℕ, zero, suc, false, ◌-◌, nat_le, if◌then◌else◌, unwrap_or, List, [], ◌∷◌, ◌++◌, replicate}
use Rattle.std.specs.Str.{chars, encode_utf8_all}
use Rattle.unicode_width.specs.Width.{char_width, str_width}

-- the columns that a text takes
abbrev pub width : List ℕ → ℕ
width text = str_width false (chars text)

-- the columns of one character
abbrev pub char_columns : ℕ → ℕ
char_columns c = unwrap_or (char_width false c) 0

-- the characters at the front that fit so many columns
abbrev pub fitting : ℕ → List ℕ → List ℕ
fitting room [] = []
fitting room (c ∷ cs) = if nat_le (char_columns c) room then c ∷ fitting (room - char_columns c) cs else []

-- the horizontal ellipsis, U+2026
abbrev pub ellipsis : List ℕ
ellipsis = 0xE2 ∷ 0x80 ∷ 0xA6 ∷ []

-- the characters at the front that fit so many columns, and an ellipsis
abbrev pub cut : ℕ → List ℕ → List ℕ
cut room cs = encode_utf8_all (fitting room cs) ++ ellipsis

-- The first cut that takes at most so many columns, of those with this room, with one column less, and so on. A text
-- can be wider than its characters by themselves: U+2764 takes one column, and two before U+FE0F.
abbrev pub widest_cut : ℕ → ℕ → List ℕ → List ℕ
widest_cut most zero cs = ellipsis
widest_cut most (suc room) cs =
    if nat_le (width (cut (suc room) cs)) most then cut (suc room) cs else widest_cut most room cs

-- the text, or its front and an ellipsis where it is wider than so many columns
unfoldable pub clipped : ℕ → List ℕ → List ℕ
clipped most text = if nat_le (width text) most then text else widest_cut most (most - 1) (chars text)

-- so many spaces
abbrev pub spaces : ℕ → List ℕ
spaces n = replicate n 0x20

-- the text, filled up with spaces to so many columns
abbrev pub padded : ℕ → List ℕ → List ℕ
padded columns text = text ++ spaces (columns - width text)
