-- Ranges of positions, as a caller gives them and as they are kept (Z39.50-2003, 3.2.3.1).
use Rattle.std.specs.Prelude.{◌≡◌, ℕ, ℤ, pos, negsuc, ◌+◌, ◌-◌, ◌^◌, ◌<◌, ◌≤◌, nat_le, if◌then◌else◌, List, [], ◌∷◌, map, flat_map}
use Rattle.std.specs.List.{range_with_len}
use Rattle.zplan.specs.declared.range.Range.{Range}
use Rattle.zplan.specs.declared.span.Span.{Span}

-- the number; 0 if it is negative
abbrev pub natural : ℤ → ℕ
natural (pos n) = n
natural (negsuc n) = 0

-- the positions of a range, in order
abbrev pub positions_of : Range → List ℕ
positions_of r = range_with_len (natural r.start) (natural r.n)

-- the positions of ranges, in the order of the ranges
abbrev pub positions : List Range → List ℕ
positions ranges = flat_map positions_of ranges

-- ---- as they are kept

-- the positions of a span, in order
abbrev pub places_of : Span → List ℕ
places_of s = range_with_len s.start s.n

-- the positions of spans, in the order of the spans
abbrev pub places : List Span → List ℕ
places = flat_map places_of

-- the span of a range
abbrev pub span_of : Range → Span
span_of r = record { start = natural r.start; n = natural r.n }

-- the range of a span
abbrev pub range_of : Span → Range
range_of s = record { start = pos s.start; n = pos s.n }

-- ---- which can be wanted

-- they ascend from `low` on, have positions, and neither touch nor overlap
abbrev pub IsApart : ℕ → List Span → Type 0
IsApart low [] = Unit {0}
IsApart low (s ∷ ss) = (low ≤ s.start) × (0 < s.n) × IsApart (s.start + s.n + 1) ss

-- none of their positions is past 2,147,483,647, the highest that a Present can name
abbrev pub IsBounded : List Span → Type 0
IsBounded [] = Unit {0}
IsBounded (s ∷ ss) = (s.start + s.n ≤ 2 ^ 31) × IsBounded ss

-- each has positions
abbrev pub AreNonempty : List Span → Type 0
AreNonempty [] = Unit {0}
AreNonempty (s ∷ ss) = (0 < s.n) × AreNonempty ss

-- there is a range, and each has positions
abbrev pub IsNonemptyList : List Span → Type 0
IsNonemptyList [] = ⊥
IsNonemptyList (s ∷ ss) = (0 < s.n) × AreNonempty ss

-- Ranges that can be wanted: their positions are from 1 to 2,147,483,647; each has positions; they are in order, with
-- gaps between them.
pub record AreWanted (ranges : List Range) : Type 0 where
  pub apart : IsApart 1 (map span_of ranges)
  pub bounded : IsBounded (map span_of ranges)

-- each range has positions and begins after the end of the one before, the first at `low` or later
abbrev pub AreInOrder : ℕ → List Range → Type 0
AreInOrder low [] = Unit {0}
AreInOrder low (r ∷ rs) =
    (low ≤ natural r.start) × (0 < natural r.n) × AreInOrder (natural r.start + natural r.n) rs

-- Ranges that a Present can ask for: there is one at least; each begins after the end of the one before, the first at
-- position 1 or later; no position is above 2,147,483,647.
pub record ArePresentRanges (ranges : List Range) : Type 0 where
  pub some : ranges ≡ [] → ⊥
  pub order : AreInOrder 1 ranges
  pub bounded : IsBounded (map span_of ranges)

-- how many positions of the range are up to the count, if it begins there
abbrev pub most_of : ℕ → Span → ℕ
most_of count s = if nat_le s.n (count - s.start) then s.n else count - s.start + 1

-- the ranges without the positions above the count
abbrev pub clip : ℕ → List Span → List Span
clip count [] = []
clip count (s ∷ ss) =
    if nat_le s.start count
    then record { start = s.start; n = most_of count s } ∷ clip count ss
    else clip count ss
