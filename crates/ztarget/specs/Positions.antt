-- The positions of a result set that a Present asks for, in the order sent (Z39.50-2003, 3.2.3.1).
use Rattle.std.specs.Prelude.{ℕ, ◌+◌, ◌-◌, nat_le, List, [], ◌∷◌, map, take, drop, slice_index_or, Bool, ◌&&◌, Option, Some, None}
use Rattle.std.specs.List.{flat_map, list_all}
use Rattle.zapdu.specs.declared.productions.range.Range.{Range as SentRange}
use Rattle.zplan.specs.declared.range.Range.{Range}
use Rattle.zapdu.specs.declared.productions.present_request.PresentRequest.{PresentRequest}
use Rattle.zplan.specs.Ranges.{natural}

-- a range as it is sent
abbrev pub received_range : SentRange → Range
received_range r = record { start = r.starting_position; n = r.number_of_records }

-- the additional ranges as they are sent
abbrev pub received_additional : Option (List SentRange) → List Range
received_additional None = []
received_additional (Some ranges) = map received_range ranges

-- the first range, then the additional ones
abbrev pub ranges_of : PresentRequest → List Range
ranges_of r =
    record { start = r.result_set_start_point; n = r.number_of_records_requested }
    ∷ received_additional r.additional_ranges

-- these positions, at least one, are positions of a set of `count` records
abbrev pub is_in_set : ℕ → ℕ → ℕ → Bool
is_in_set start number count = (nat_le 1 start && nat_le 1 number) && nat_le (start + number) (count + 1)

-- each range begins at 1 or later, and has a position, but none past `count`
abbrev pub are_in_set : ℕ → List Range → Bool
are_in_set count ranges =
    list_all (λ (r : Range). is_in_set (natural r.start) (natural r.n) count) ranges

-- the items at the positions
abbrev pub at_positions : {X : Type 0} → List X → List ℕ → List X
at_positions found asked = flat_map (λ p. take 1 (drop (p - 1) found)) asked

-- the last of the first k positions, or 0 if there are not so many (k is 1 at least)
abbrev pub last_position : List ℕ → ℕ → ℕ
last_position asked k = slice_index_or asked (k - 1) 0
