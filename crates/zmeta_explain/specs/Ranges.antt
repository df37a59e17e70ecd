-- What is wrong with wanted positions, in words.
use Rattle.std.specs.Prelude.{ℕ, Bool, false, not, ◌&&◌, ◌||◌, ◌==◌, nat_lt, if◌then◌else◌, Option, Some, None, is_some, List, codes, drop}
use Rattle.std.specs.Char.{is_ascii_digit}
use Rattle.std.specs.List.{list_all, before_first}
use Rattle.zquery.specs.Notation.Numbers.{number_of_text}
use Rattle.zmeta_explain.specs.Places.{is_hyphen, from_first}

-- the numbers in front of the first hyphen and behind it, each if it is one
abbrev pub first_number : List ℕ → Option ℕ
first_number text = number_of_text 2147483647 (before_first is_hyphen text)

abbrev pub last_number : List ℕ → Option ℕ
last_number text = number_of_text 2147483647 (drop 1 (from_first is_hyphen text))

abbrev pub is_above : Option ℕ → Option ℕ → Bool
is_above (Some high) (Some low) = nat_lt low high
is_above (Some high) None = false
is_above None last = false

abbrev pub is_zero : Option ℕ → Bool
is_zero (Some n) = n == 0
is_zero None = false

-- a range that counts down
abbrev pub is_down : List ℕ → Bool
is_down text = is_above (first_number text) (last_number text)

-- a range from 0 on
abbrev pub has_zero : List ℕ → Bool
has_zero text = is_zero (first_number text) && is_some (last_number text)

-- a digit, a hyphen or a comma
abbrev pub is_want_octet : ℕ → Bool
is_want_octet x = is_ascii_digit x || x == 0x2D || x == 0x2C

-- it cannot be wanted positions
abbrev pub is_no_want : List ℕ → Bool
is_no_want text = not (list_all is_want_octet text) || is_down text || has_zero text

-- what to write in its place
abbrev pub want_advice : List ℕ → List ℕ
want_advice text =
    if is_down text then codes "write the lower number of a range first"
    else if has_zero text then codes "count them from 1"
    else codes "write a number, or ranges that ascend"
