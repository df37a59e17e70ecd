-- What a schedule keeps, and its agenda.
use Rattle.std.specs.Prelude.{◌≡◌, ℕ, zero, suc, ◌-◌, ◌<◌, Bool, true, false, not, ◌||◌, if◌then◌else◌, List, [], ◌∷◌, ◌++◌, length, Option, None, Some}
use Rattle.std.specs.List.{concat}
use Rattle.zplan.specs.declared.span.Span.{Span}
use Rattle.zplan.specs.declared.entry.Entry.{Entry}
use Rattle.zplan.specs.declared.uncut.Uncut.{Uncut}
use Rattle.zplan.specs.declared.uncut.Cut.{Cut}
use Rattle.zplan.specs.declared.part.Place.{Place}
use Rattle.zplan.specs.Positions.{IsWanted, IsIn, first_of}
use Rattle.zplan.specs.Ranges.{places, IsApart, IsBounded, IsNonemptyList}
use Rattle.zplan.specs.Cutting.{deal, left_at, IsReadingPlace}
use Rattle.zplan.specs.Agenda.{Agenda}

-- the positions of the lists that were cut off, list by list
abbrev pub lists_of : List Entry → List (List ℕ)
lists_of [] = []
lists_of (e ∷ es) = places e.list.items ∷ lists_of es

-- the positions of the lists that are due
abbrev pub due_of : List Entry → List (List ℕ)
due_of [] = []
due_of (e ∷ es) = if e.sent then due_of es else places e.list.items ∷ due_of es

-- the positions of the lists that wait
abbrev pub waiting_of : List Entry → List (List ℕ)
waiting_of [] = []
waiting_of (e ∷ es) = if e.sent then places e.list.items ∷ waiting_of es else waiting_of es

-- one of the lists is due
abbrev pub has_due : List Entry → Bool
has_due [] = false
has_due (e ∷ es) = not e.sent || has_due es

-- the positions that no list was cut off yet
abbrev pub uncut_positions : Uncut → List ℕ
uncut_positions u = left_at u.ranges.items u.place

-- the lists that they are cut into
abbrev pub uncut_lists : Uncut → List (List ℕ)
uncut_lists u = deal u.three (u.step - 1) (u.room - 1) (uncut_positions u)

-- the agenda of the lists that were cut off and of the positions that were not
abbrev pub agenda_of : List Entry → Uncut → Agenda
agenda_of entries u = record {
  due = due_of entries ++ uncut_lists u;
  waiting = waiting_of entries;
  ready = has_due entries;
  three = u.three;
}

-- the list is one range, if version 3 is not in force
abbrev pub IsSingle : Bool → List Span → Type 0
IsSingle three list = three ≡ false → length list ≡ 1

-- a Present can ask for the list
pub record IsAskableList (three : Bool) (list : List Span) : Type 0 where
  pub begun : IsNonemptyList list
  pub gaps : IsApart 1 list
  pub bounded : IsBounded list
  pub single : IsSingle three list

-- a Present can ask for each list
abbrev pub AreAskableLists : Bool → List Entry → Type 0
AreAskableLists three [] = Unit {0}
AreAskableLists three (e ∷ es) = IsAskableList three e.list.items × AreAskableLists three es

-- the ranges can be wanted, the place is one of them, and the limits are 1 or more
pub record IsUncut (u : Uncut) : Type 0 where
  pub wanted : IsApart 1 u.ranges.items
  pub bounded : IsBounded u.ranges.items
  pub stands : IsReadingPlace u.ranges.items u.place
  pub steps : 0 < u.step
  pub room : 0 < u.room
  pub whole : u.three ≡ true → u.room ≡ u.step

-- The positions of the lists that were cut off, and then those that are not cut yet, ascend.
pub record IsSound (entries : List Entry) (u : Uncut) : Type 0 where
  pub uncut : IsUncut u
  pub listed : AreAskableLists u.three entries
  pub all_wanted : IsWanted (concat (lists_of entries) ++ uncut_positions u)

-- ---- what the parts return

-- the same, from another place on
abbrev pub after_cut : Uncut → Place → ℕ → Uncut
after_cut u place room = record u { place = place; room = room }

-- the list is the first of the uncut ones, and the others begin at the place of the cut
pub record IsFirstCut (u : Uncut) (cut : Cut) : Type 0 where
  pub listed : IsAskableList u.three cut.list.items
  pub first : uncut_lists u ≡ places cut.list.items ∷ uncut_lists (after_cut u cut.place cut.room)
  pub comes : uncut_positions u ≡ places cut.list.items ++ uncut_positions (after_cut u cut.place cut.room)
  pub rest : IsUncut (after_cut u cut.place cut.room)

-- the cut is the first list; with none, no list is left
abbrev pub IsCutOf : Uncut → Option Cut → Type 0
IsCutOf u None = uncut_lists u ≡ []
IsCutOf u (Some cut) = IsFirstCut u cut

-- the list at this index is due, and none before it
abbrev pub IsDueAt : List Entry → ℕ → Type 0
IsDueAt [] at = ⊥
IsDueAt (e ∷ es) zero = e.sent ≡ false
IsDueAt (e ∷ es) (suc at) = (e.sent ≡ true) × IsDueAt es at

-- the list waits, and begins at this position
abbrev pub IsWaitingFrom : ℕ → Entry → Type 0
IsWaitingFrom first e = (e.sent ≡ true) × (first_of (places e.list.items) ≡ first)

-- the list at this index waits, and begins at this position
abbrev pub IsWaitingAt : ℕ → List Entry → ℕ → Type 0
IsWaitingAt first [] at = ⊥
IsWaitingAt first (e ∷ es) zero = IsWaitingFrom first e
IsWaitingAt first (e ∷ es) (suc at) = IsWaitingAt first es at

-- no list that waits begins at this position
abbrev pub HasNoneWaiting : ℕ → List Entry → Type 0
HasNoneWaiting first es = (l : List ℕ) → IsIn l (waiting_of es) → first_of l ≡ first → ⊥
