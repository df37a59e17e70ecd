-- Places in a text: what stands before and from the first octet of a kind.
use Rattle.std.specs.Prelude.{ℕ, Bool, ◌==◌, ◌||◌, not, List, drop}
use Rattle.std.specs.List.{position_or_len}

-- white space between tokens
abbrev pub is_space : ℕ → Bool
is_space x = x == 0x20 || x == 0x09 || x == 0x0A || x == 0x0D

abbrev pub is_quote : ℕ → Bool
is_quote x = x == 0x22

abbrev pub is_colon : ℕ → Bool
is_colon x = x == 0x3A

abbrev pub is_feed : ℕ → Bool
is_feed x = x == 0x0A

abbrev pub is_hyphen : ℕ → Bool
is_hyphen x = x == 0x2D

-- no white space
abbrev pub is_token_octet : ℕ → Bool
is_token_octet x = not (is_space x)

-- what stands from the first such octet on, or nothing
abbrev pub from_first : (ℕ → Bool) → List ℕ → List ℕ
from_first p xs = drop (position_or_len p xs) xs
