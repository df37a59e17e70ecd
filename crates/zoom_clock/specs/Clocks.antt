-- The courses of many connections.
use Rattle.std.specs.Prelude.{◌≡◌, ℕ, ◌+◌, ◌<◌, ◌≤◌, ◌^◌, nat_le, count_by, Bool, true, false, if◌then◌else◌, List, [], ◌∷◌, ◌++◌, map, slice_get, slice_set, Option, None, Some}
use Rattle.zoom_clock.specs.declared.action.Action.{Action}
use Rattle.zoom_clock.specs.declared.clock.Clock.{Clock}
use Rattle.zoom_clock.specs.declared.course.Course.{Course}
use Rattle.zoom_clock.specs.declared.plan.Plan.{Plan}
use Rattle.zoom_clock.specs.declared.signal.Signal.TheVariants as signals
use Rattle.zoom_clock.specs.Actions.{AreAdded, all_for}
use Rattle.zoom_clock.specs.Courses.{Event, event, is_settled, wake_of, step, tasks_of}
use Rattle.zoom_clock.specs.Plans.{planned}
use Rattle.zoom_clock.specs.Times.{IsTime}

-- the time to wake of each connection is kept, and the connections before the turn are over or not chosen
pub record IsOrderly (k : Clock) : Type 0 where
  pub wakes : (c : ℕ) (p : Course) (r : Option ℕ) → slice_get k.courses.items c ≡ Some p → slice_get k.wakes c ≡ Some r
      → IsTime (wake_of p) r
  pub before : (c : ℕ) (p : Course) → c < k.turn → slice_get k.courses.items c ≡ Some p → is_settled p.stage ≡ true

-- one connection was told something: its course made its step, and its tasks were added
pub record AfterNote (c : ℕ) (e : Event) (old new : Clock) : Type 0 where
  pub course : (p : Course) → slice_get old.courses.items c ≡ Some p
      → new.courses.items ≡ slice_set old.courses.items c (step e p)
  pub tasks : (p : Course) → slice_get old.courses.items c ≡ Some p
      → AreAdded c (tasks_of e p) old.queue.items new.queue.items
  pub passed : new.passed ≡ old.passed
  pub in_order : new.in_order ≡ old.in_order
  pub orderly : IsOrderly old → IsOrderly new

-- ---- turns

-- its turn has come, if it had not before
abbrev pub with_turn : ℕ → Course → Course
with_turn at p = if p.wanted then p else step (event at signals.Turn) p

-- the turn is that of the first connection that is not over
abbrev pub with_next_turn : ℕ → List Course → List Course
with_next_turn at [] = []
with_next_turn at (p ∷ ps) = if is_settled p.stage then p ∷ with_next_turn at ps else with_turn at p ∷ ps

-- what is to be done because its turn has come
abbrev pub turn_tasks : ℕ → ℕ → Course → List Action
turn_tasks at c p = if p.wanted then [] else all_for c (tasks_of (event at signals.Turn) p)

-- the same, of the first connection that is not over; the first of the list has number c
abbrev pub next_turn_tasks : ℕ → ℕ → List Course → List Action
next_turn_tasks at c [] = []
next_turn_tasks at c (p ∷ ps) = if is_settled p.stage then next_turn_tasks at (c + 1) ps else turn_tasks at c p

-- at once, nobody waits for a turn
abbrev pub courses_after_turns : Bool → ℕ → List Course → List Course
courses_after_turns in_order at ps = if in_order then with_next_turn at ps else ps

abbrev pub turns_tasks : Bool → ℕ → List Course → List Action
turns_tasks in_order at ps = if in_order then next_turn_tasks at 0 ps else []

-- the turns were given
pub record AfterTurns (at : ℕ) (old new : Clock) : Type 0 where
  pub courses : IsOrderly old → new.courses.items ≡ courses_after_turns old.in_order at old.courses.items
  pub tasks : IsOrderly old → new.queue.items ≡ old.queue.items ++ turns_tasks old.in_order at old.courses.items
  pub passed : new.passed ≡ old.passed
  pub in_order : new.in_order ≡ old.in_order
  pub orderly : IsOrderly old → IsOrderly new

-- ---- what a caller asks

-- each connection is over, or was not chosen
abbrev pub AreSettled : List Course → Type 0
AreSettled ps = (c : ℕ) (p : Course) → slice_get ps c ≡ Some p → is_settled p.stage ≡ true

-- some connection is neither over nor not chosen
abbrev pub SomeIsOpen : List Course → Type 0
SomeIsOpen ps = (c : ℕ) × (p : Course) × (slice_get ps c ≡ Some p) × (is_settled p.stage ≡ false)

-- no connection is to be looked at before this time; with none, no clock of 64 bits gets to the time of any
abbrev pub NoneWakesBefore : Option ℕ → List Course → Type 0
NoneWakesBefore None ps = (c : ℕ) (p : Course) → slice_get ps c ≡ Some p → 2 ^ 64 ≤ wake_of p
NoneWakesBefore (Some t) ps = (c : ℕ) (p : Course) → slice_get ps c ≡ Some p → t ≤ wake_of p

-- some connection is to be looked at at this time, if there is one
abbrev pub SomeWakesAt : Option ℕ → List Course → Type 0
SomeWakesAt None ps = Unit {0}
SomeWakesAt (Some t) ps = (c : ℕ) × (p : Course) × (slice_get ps c ≡ Some p) × (wake_of p ≡ t)

-- the first time at which a tick does something to some connection
pub record IsLeastWake (ps : List Course) (r : Option ℕ) : Type 0 where
  pub least : NoneWakesBefore r ps
  pub some : SomeWakesAt r ps

-- a tick at this time does nothing to any connection
abbrev pub NoneIsDue : ℕ → List Course → Type 0
NoneIsDue now ps = (c : ℕ) (p : Course) → slice_get ps c ≡ Some p → now < wake_of p

-- so many connections are to be looked at by this time
abbrev pub is_due : ℕ → Option ℕ → Bool
is_due now None = false
is_due now (Some t) = nat_le t now

abbrev pub due_count : ℕ → Clock → ℕ
due_count now k = count_by (is_due now) k.wakes

-- ---- the beginning

-- the courses of all
abbrev pub all_planned : ℕ → Bool → List Plan → List Course
all_planned start wanted plans = map (planned start wanted) plans
