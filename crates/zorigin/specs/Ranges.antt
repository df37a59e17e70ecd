-- Ranges of positions of a result set, and which ranges a Present can ask for (Z39.50-2003, 3.2.3.1).
use Rattle.std.specs.Prelude.{ℕ, ℤ, pos, ◌+ℤ◌, ◌-ℤ◌, int_le, int_lt, Bool, true, false, ◌&&◌, List, [], ◌∷◌}
use Rattle.std.specs.List.{list_any}
use Rattle.zplan.specs.declared.range.Range.{Range}

-- the one range of `n` positions from `start` on
abbrev pub one_range : ℤ → ℤ → List Range
one_range start n = record { start = start; n = n } ∷ []

-- ---- ranges that can be asked for, whatever the set's count is

-- the last position of a range
abbrev pub last_of : Range → ℤ
last_of r = (r.start +ℤ r.n) -ℤ pos 1

-- it begins at 1 or later, has a position, and none above 2,147,483,647
abbrev pub is_range : Range → Bool
is_range r = int_le (pos 1) r.start && int_le (pos 1) r.n && int_le (last_of r) (pos 2147483647)

-- each begins after the end of the one before, the first after this position
abbrev pub are_ranges_after : ℤ → List Range → Bool
are_ranges_after last [] = true
are_ranges_after last (r ∷ rs) = is_range r && int_lt last r.start && are_ranges_after (last_of r) rs

-- there is a range, and each begins after the end of the one before
abbrev pub are_ranges : List Range → Bool
are_ranges [] = false
are_ranges (r ∷ rs) = are_ranges_after (pos 0) (r ∷ rs)

-- one of the positions is above the count
abbrev pub is_past : ℤ → List ℕ → Bool
is_past count asked = list_any (λ p. int_lt count (pos p)) asked
