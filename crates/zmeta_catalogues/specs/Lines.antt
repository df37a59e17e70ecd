-- Lines of a file, and what may stand before and behind a key on its line.
use Rattle.std.specs.Prelude.{ℕ, ◌+◌, ◌==◌, ◌&&◌, ◌||◌, not, nat_eq, min, ◌^◌, ◌-◌, Bool, true, List, [], ◌∷◌, length, take, drop, position, Option, Some, None}
use Rattle.std.specs.Char.{is_ascii_alphanumeric}
use Rattle.std.specs.Cmp.Lexicographic.{pointwise}
use Rattle.std.specs.List.{slice_split}

-- the octet is a line feed
abbrev pub is_feed : ℕ → Bool
is_feed b = b == 10

-- the lines, with a line feed between each two
abbrev pub lines_of : List ℕ → List (List ℕ)
lines_of text = slice_split is_feed text

-- the octet may stand before a key on its line: a blank, a tab, a bracket or a quote
unfoldable pub is_front : ℕ → Bool
is_front b = (b == 32) || (b == 9) || (b == 91) || (b == 34) || (b == 39)

-- it may not
abbrev pub is_no_front : ℕ → Bool
is_no_front b = not (is_front b)

-- the octet belongs to a bare key (TOML 1.0, keys)
unfoldable pub is_bare : ℕ → Bool
is_bare b = is_ascii_alphanumeric b || (b == 45) || (b == 95)

-- the line from this place on
abbrev pub behind : List ℕ → Option ℕ → List ℕ
behind line None = []
behind line (Some at) = drop at line

-- the line behind what may stand before a key
abbrev pub behind_front : List ℕ → List ℕ
behind_front line = behind line (position is_no_front line)

-- no octet of a bare key is at the front of the text
abbrev pub ends_key : List ℕ → Bool
ends_key [] = true
ends_key (b ∷ bs) = not (is_bare b)

-- the key is at the front of the text, and ends there
abbrev pub is_key_at : List ℕ → List ℕ → Bool
is_key_at key text = pointwise nat_eq key (take (length key) text) && ends_key (drop (length key) text)

-- the line begins with the key, behind blanks, brackets and quotes
unfoldable pub begins : List ℕ → List ℕ → Bool
begins key line = is_key_at key (behind_front line)

-- the number of the line at this place, from 1; 0 if there is none
abbrev pub number_at : Option ℕ → ℕ
number_at None = 0
number_at (Some at) = at + 1

-- the number of the first line that begins with the name, from 1; 0 if none does
abbrev pub line_of : List ℕ → List ℕ → ℕ
line_of text name = number_at (position (begins name) (lines_of text))
