-- How ranges are cut into lists, and the parts that are read from them.
use Rattle.std.specs.Prelude.{◌≡◌, ◌⊎◌, ℕ, zero, suc, ◌+◌, ◌-◌, ◌^◌, ◌<◌, ◌≤◌, drop, Bool, false, ◌||◌, List, [], ◌∷◌, ◌++◌, length}
use Rattle.zplan.specs.declared.span.Span.{Span}
use Rattle.zplan.specs.declared.part.Place.{Place}
use Rattle.zplan.specs.declared.part.Part.{Part}
use Rattle.zplan.specs.declared.part.Run.{Run}
use Rattle.zplan.specs.Positions.{join_or_start, is_followed, IsFrom}
use Rattle.zplan.specs.Ranges.{places, places_of, IsApart, AreNonempty, IsBounded}

-- The lists that positions are cut into. A list has at most last + 1 positions, the first one at most m + 1. With
-- version 3 (`three`) a list may have gaps, else it is one run.
abbrev pub deal : (three : Bool) (last : ℕ) → ℕ → List ℕ → List (List ℕ)
deal three last m [] = []
deal three last zero (p ∷ ps) = join_or_start false p (deal three last last ps)
deal three last (suc m) (p ∷ ps) = join_or_start (three || is_followed p ps) p (deal three last m ps)

-- the positions at a place of ranges and after it
abbrev pub left_at : List Span → Place → List ℕ
left_at ranges place = drop place.used (places (drop place.at ranges))

-- fewer positions are used than the first range has, if there is one
abbrev pub IsWithinFirst : ℕ → List Span → Type 0
IsWithinFirst used [] = Unit {0}
IsWithinFirst used (s ∷ ss) = used < s.n

-- the range at the place, if there is one, has positions that are not yet read
abbrev pub IsReadingPlace : List Span → Place → Type 0
IsReadingPlace ranges place = IsWithinFirst place.used (drop place.at ranges)

-- after the part comes a gap, or no position
abbrev pub HasGapAfter : List Span → Part → Type 0
HasGapAfter ranges part = IsFrom (part.range.start + part.range.n + 1) (left_at ranges part.next)

-- A part has the next positions. It has `room` positions, or a gap comes after it.
pub record IsNextPart (ranges : List Span) (place : Place) (room : ℕ) (part : Part) : Type 0 where
  pub comes : left_at ranges place ≡ places_of part.range ++ left_at ranges part.next
  pub some : 0 < part.range.n
  pub fits : part.range.n ≤ room
  pub ends : (part.range.n ≡ room) ⊎ HasGapAfter ranges part
  pub stays : IsReadingPlace ranges part.next
  pub bounded : part.range.start + part.range.n ≤ 2 ^ 31

-- With version 3: the list has the next positions, `step` of them or all that are left. Its ranges have gaps between
-- them.
pub record IsNextList (ranges : List Span) (place : Place) (step : ℕ) (list : List Span) (next : Place) : Type 0 where
  pub comes : left_at ranges place ≡ places list ++ left_at ranges next
  pub some : length list ≤ length (places list)
  pub have : AreNonempty list
  pub gaps : IsApart 1 list
  pub size : (length (places list) ≡ step) ⊎ ((length (places list) ≤ step) × (left_at ranges next ≡ []))
  pub stays : IsReadingPlace ranges next
  pub bounded : IsBounded list

-- Without version 3: the run has the next positions. `run.room` is how many more its cut of `step` may have.
pub record IsNextRun (ranges : List Span) (place : Place) (room step : ℕ) (run : Run) : Type 0 where
  pub comes : left_at ranges place ≡ places_of run.range ++ left_at ranges run.next
  pub first : deal false (step - 1) (room - 1) (left_at ranges place)
      ≡ places_of run.range ∷ deal false (step - 1) (run.room - 1) (left_at ranges run.next)
  pub stays : IsReadingPlace ranges run.next
  pub room_left : 0 < run.room
  pub some : 0 < run.range.n
  pub bounded : run.range.start + run.range.n ≤ 2 ^ 31
