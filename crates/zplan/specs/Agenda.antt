-- The agenda of a schedule: the lists that are due, and those that wait for an answer.
use Rattle.std.specs.Prelude.{◌≡◌, ℕ, ◌-◌, ◌&&◌, not, ◌==◌, nat_lt, Bool, true, false, if◌then◌else◌, List, [], ◌∷◌, map, filter, drop, length, Option, None, Some, Vec}
use Rattle.zplan.specs.declared.range.Range.{Range}
use Rattle.zplan.specs.Positions.{first_of, IsIn, AreAscending}
use Rattle.zplan.specs.Ranges.{positions, span_of, IsApart, ArePresentRanges}
use Rattle.zplan.specs.Plan.{Present, PlanEvent, asked_in, replies_in, IsDue}
use Rattle.zplan.specs.Cutting.{deal}

-- `due` has the lists whose Presents are due, by first position. `waiting` has those whose Presents were sent and are
-- not answered, by first position. `ready` says that the first list due was cut off, so that its Present can be sent.
-- `three` says that version 3 is in force.
pub record Agenda : Type 0 where
  pub due : List (List ℕ)
  pub waiting : List (List ℕ)
  pub ready : Bool
  pub three : Bool

-- the lists with one more, before the first that begins later
abbrev pub put_list : List ℕ → List (List ℕ) → List (List ℕ)
put_list l [] = l ∷ []
put_list l (m ∷ ms) = if nat_lt (first_of l) (first_of m) then l ∷ m ∷ ms else m ∷ put_list l ms

-- the lists without those that begin at p
abbrev pub without_start : ℕ → List (List ℕ) → List (List ℕ)
without_start p = filter (λ l. not (first_of l == p))

-- the agenda at first: all lists of the wanted positions are due, and none waits
abbrev pub whole_agenda : Bool → ℕ → List ℕ → Agenda
whole_agenda three step wanted =
    record { due = deal three (step - 1) (step - 1) wanted; waiting = []; ready = false; three = three }

-- The agenda has exactly the lists whose Presents are due, and those whose Presents wait, each once and by first
-- position.
pub record IsAgenda (wanted : List ℕ) (step : ℕ) (events : List PlanEvent) (a : Agenda) : Type 0 where
  pub only : (l : List ℕ) → IsIn l a.due → IsDue wanted step events (Present l)
  pub all : (l : List ℕ) → IsDue wanted step events (Present l) → IsIn l a.due
  pub ascends : AreAscending (map first_of a.due)
  pub asked : (l : List ℕ) → IsIn l a.waiting → IsIn (Present l) (asked_in events)
  pub unanswered : (l : List ℕ) → IsIn l a.waiting → replies_in events (Present l) ≡ None
  pub waits : (l : List ℕ) → IsIn (Present l) (asked_in events) → replies_in events (Present l) ≡ None
      → IsIn l a.waiting
  pub in_order : AreAscending (map first_of a.waiting)

-- the same lists are due, and the same wait
pub record SameAgenda (old new : Agenda) : Type 0 where
  pub due : new.due ≡ old.due
  pub waiting : new.waiting ≡ old.waiting
  pub three : new.three ≡ old.three

-- the ranges have the positions of the first list due, and a Present can ask for them
pub record IsFirst (a : Agenda) (list : List Range) : Type 0 where
  pub others : List (List ℕ)
  pub due : a.due ≡ positions list ∷ others
  pub ready : a.ready ≡ true
  pub asked : ArePresentRanges list
  -- a gap is between any two ranges, so no run is asked for in parts
  pub gaps : IsApart 1 (map span_of list)
  -- there is one range if version 3 is not in force
  pub single : a.three ≡ false → length list ≡ 1

-- the first list due is this one; with none, no list is due
abbrev pub IsFirstOf : {A : Type 0} → Agenda → Option (Vec Range A) → Type 0
IsFirstOf a None = a.due ≡ []
IsFirstOf a (Some v) = IsFirst a v.items

-- before and after `note_sent`: the first list due now waits
pub record AfterNoteSent (old new : Agenda) : Type 0 where
  pub list : List ℕ
  pub due : old.due ≡ list ∷ new.due
  pub waiting : new.waiting ≡ put_list list old.waiting
  pub three : new.three ≡ old.three

-- the lists due, after an answer with k records for this list: the rest of the list is due if it has some records and
-- not all
abbrev pub with_rest : List ℕ → ℕ → List (List ℕ) → List (List ℕ)
with_rest l k due = if nat_lt 0 k && nat_lt k (length l) then put_list (drop k l) due else due

-- a list that begins at p waits
abbrev pub HasWaiting : ℕ → Agenda → Type 0
HasWaiting p a = (l : List ℕ) × IsIn l a.waiting × (first_of l ≡ p)

-- before and after `note_answered`: the list that waits and begins at p was answered with k records
pub record AfterNoteAnswered (p k : ℕ) (old new : Agenda) : Type 0 where
  pub list : List ℕ
  pub waited : IsIn list old.waiting
  pub begins : first_of list ≡ p
  pub waiting : new.waiting ≡ without_start p old.waiting
  pub due : new.due ≡ with_rest list k old.due
  -- if a Present could be sent before, one can be sent after
  pub ready : old.ready ≡ true → new.ready ≡ true
  pub three : new.three ≡ old.three
