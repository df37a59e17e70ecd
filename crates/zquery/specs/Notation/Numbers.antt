-- Numbers in decimal.
use Rattle.std.specs.Prelude.{ℕ, ◌-◌, ◌^◌, ℤ, pos, neg_ℤ, List, [], ◌∷◌, drop, Bool, false, ◌==◌, ◌&&◌, not, length, Option, Some, None, nat_le, if◌then◌else◌}
use Rattle.std.specs.Option.{option_map}
use Rattle.std.specs.Char.{is_ascii_digit}
use Rattle.std.specs.List.{list_all}
use Rattle.std.specs.Str.Parse.{digits_value}

-- one decimal digit or more
abbrev pub is_numeral : List ℕ → Bool
is_numeral text = not (length text == 0) && list_all is_ascii_digit text

-- the number that the text writes, if the text is digits and the number is at most `most`
unfoldable pub number_of_text : ℕ → List ℕ → Option ℕ
number_of_text most text =
    if is_numeral text && nat_le (digits_value 10 text) most then Some (digits_value 10 text) else None

-- the integer that digits with no minus before them write
abbrev pub plus : ℕ → ℤ
plus n = pos n

-- the integer that digits with a minus before them write; with a minus, 0 is 0 also
abbrev pub minus : ℕ → ℤ
minus n = neg_ℤ (pos n)

-- the text begins with a minus
abbrev pub has_minus : List ℕ → Bool
has_minus [] = false
has_minus (b ∷ bs) = b == 45

-- the number that digits write, with or without a minus before them, if it is of 64 bits
unfoldable pub integer_of : List ℕ → Option ℤ
integer_of text =
    if has_minus text then option_map minus (number_of_text (2 ^ 63) (drop 1 text))
    else option_map plus (number_of_text (2 ^ 63 - 1) text)
