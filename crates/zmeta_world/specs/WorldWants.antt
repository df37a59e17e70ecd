-- The positions that a question of a world file wants.
use Rattle.std.specs.Prelude.{ℕ, ◌+◌, ◌-◌, pos, Bool, ◌==◌, nat_le, if◌then◌else◌, List, [], ◌∷◌, Option, Some, None}
use Rattle.std.specs.List.{slice_split}
use Rattle.std.specs.Option.{option_map, option_and_then, option_or}
use Rattle.zquery.specs.Notation.Numbers.{number_of_text}
use Rattle.zplan.specs.declared.range.Range.{Range}

-- the number that decimal digits write, if it is within these bounds
abbrev pub number_in : ℕ → ℕ → List ℕ → Option ℕ
number_in least most text = option_and_then (λ n. if nat_le least n then Some n else None) (number_of_text most text)

-- ---- a list of ranges, as 1-3,10-12

-- the octet is a comma
abbrev pub is_comma : ℕ → Bool
is_comma b = b == 44

-- the octet is a hyphen
abbrev pub is_hyphen : ℕ → Bool
is_hyphen b = b == 45

-- the highest position that a Present can name
abbrev pub highest : ℕ
highest = 2147483647

-- the most positions that a question may want
abbrev pub most_wanted : ℕ
most_wanted = 1000000

-- the two texts, if there are two
abbrev pub two : List (List ℕ) → Option (List ℕ × List ℕ)
two [] = None
two (a ∷ []) = None
two (a ∷ b ∷ []) = Some (a, b)
two (a ∷ b ∷ x ∷ xs) = None

-- the first and the last position of a range that begins at `low` or later
abbrev pub ends_of : ℕ → List ℕ × List ℕ → Option (ℕ × ℕ)
ends_of low texts =
    option_and_then
    (λ first. option_map (λ last. (first, last)) (number_in first highest texts.1))
    (number_in low highest texts.0)

-- the number of positions from the first to the last
abbrev pub count : ℕ × ℕ → ℕ
count ends = ends.1 - ends.0 + 1

-- two numbers with a hyphen between them: a range from `low` on, with no more positions than are allowed
unfoldable pub ends_in : ℕ → ℕ → List ℕ → Option (ℕ × ℕ)
ends_in low room text =
    option_and_then
    (λ ends. if nat_le (count ends) room then Some ends else None)
    (option_and_then (ends_of low) (two (slice_split is_hyphen text)))

-- the range with these ends
abbrev pub range : ℕ × ℕ → Range
range ends = record { start = pos ends.0; n = pos (count ends) }

-- ranges from `low` on, at least one position apart, with no more positions than are allowed
abbrev pub ranges_in : ℕ → ℕ → List (List ℕ) → Option (List Range)
ranges_in low room [] = Some []
ranges_in low room (text ∷ texts) =
    option_and_then
    (λ ends. option_map (λ ranges. range ends ∷ ranges) (ranges_in (ends.1 + 2) (room - count ends) texts))
    (ends_in low room text)

-- ---- what can be wanted

-- the positions from 1 to this number
abbrev pub firsts : ℕ → List Range
firsts n = if n == 0 then [] else record { start = pos 1; n = pos n } ∷ []

-- a number of positions from 1 on; or ranges that ascend, at least one position apart; at most 1,000,000
-- positions, none above 2,147,483,647
unfoldable pub wanted_of : List ℕ → Option (List Range)
wanted_of text =
    option_or (option_map firsts (number_in 0 most_wanted text)) (ranges_in 1 most_wanted (slice_split is_comma text))
