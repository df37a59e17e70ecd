-- Texts of a user, as they stand among words: printable, and cut if they are long.
use Rattle.std.specs.Prelude.{ℕ, Bool, ◌==◌, ◌&&◌, ◌||◌, not, nat_le, if◌then◌else◌, List, ◌++◌, codes, length, take}
use Rattle.std.specs.Char.{is_ascii_alphanumeric}
use Rattle.std.specs.List.{list_all}
use Rattle.zapdu.specs.Text.{quoted}

-- in quotes, the first 40 octets; two dots if there are more
abbrev pub shown_text : List ℕ → List ℕ
shown_text text = if nat_le (length text) 40 then quoted text else quoted (take 40 text) ++ codes ".."

-- a letter of ASCII, a digit, or one of `.-_/:`
abbrev pub is_bare_octet : ℕ → Bool
is_bare_octet x = is_ascii_alphanumeric x || x == 0x2E || x == 0x2D || x == 0x5F || x == 0x2F || x == 0x3A

-- a name that needs no quotes: of 1 to 60 such octets
abbrev pub is_bare : List ℕ → Bool
is_bare text = not (length text == 0) && nat_le (length text) 60 && list_all is_bare_octet text

-- the name of a host, a file or a syntax: as it is, if it has 1 to 60 octets of these kinds; else in quotes and cut
-- behind 40 octets
abbrev pub name_text : List ℕ → List ℕ
name_text text = if is_bare text then text else shown_text text
