-- All connections of an inquiry, after a history of reports.
use Rattle.std.specs.Prelude.{◌≡◌, ℕ, max, Bool, true, false, if◌then◌else◌, List, [], ◌∷◌, ◌++◌, map, filter, ◌==◌, not, length, slice_get, slice_set, Option, None, Some}
use Rattle.zoom_questions.specs.declared.question.Question.{Question}
use Rattle.zoom_pool.specs.Transcripts.{given}
use Rattle.zoom_pool.specs.History.{History, events_on}
use Rattle.zoom_pool.specs.Metas.{MetaAfter}
use Rattle.zoom_clock.specs.declared.action.Action.{Action}
use Rattle.zoom_clock.specs.declared.action.Task.{Task}
use Rattle.zoom_clock.specs.declared.action.Task.TheVariants.{Send}
use Rattle.zoom_clock.specs.declared.clock.Clock.{Clock}
use Rattle.zoom_clock.specs.Actions.{for_connection, all_for}
use Rattle.zoom_clock.specs.Clocks.{IsOrderly, IsLeastWake}
use Rattle.zoom_clock.specs.declared.signal.Signal.{Signal}
use Rattle.zoom_clock.specs.declared.signal.Signal.TheVariants as signals
use Rattle.zoom_clock.specs.Courses.{event, is_settled, step, tasks_of}
use Rattle.zoom_asking.specs.declared.asking.Asking.{Asking}
use Rattle.zoom_asking.specs.declared.inquiry.Manner.{Manner}
use Rattle.zoom_asking.specs.declared.inquiry.Manner.TheVariants as manners
use Rattle.zoom_asking.specs.Buffers.{octets_in}
use Rattle.zoom_asking.specs.Talks.{Relation}
use Rattle.zoom_asking.specs.Steps.{IsExtended}
use Rattle.zoom_asking.specs.Inquiries.{Inquiry, is_at_once, Entry, Event, Reported, Passed, GivenUp, own_event, passed_in}
use Rattle.zoom_asking.specs.Hosts.{AskedConnection, IsNoted, IsFed, IsTold, first_host, new_sends}

-- what an entry tells of a connection, if anything
abbrev pub IsToldIf : Inquiry → Question → Option Event → AskedConnection → AskedConnection → Type 0
IsToldIf i question None old new = new ≡ old
IsToldIf i question (Some e) old new = IsTold i.settings question e.at e.told old new

-- each connection was told what the entry tells of it
pub record AreTold (i : Inquiry) (passed : ℕ) (x : Entry) (old new : List AskedConnection) : Type 0 where
  pub size : length new ≡ length old
  pub each : (c : ℕ) (question : Question) (h g : AskedConnection) → slice_get i.questions c ≡ Some question
      → slice_get old c ≡ Some h → slice_get new c ≡ Some g → IsToldIf i question (own_event c passed x) h g

-- its turn has come
abbrev pub with_turn : ℕ → AskedConnection → AskedConnection
with_turn at h =
    if h.course.wanted then h
    else record {
      course = step (event at signals.Turn) h.course;
      events = h.events;
      tasks = h.tasks ++ tasks_of (event at signals.Turn) h.course;
    }

-- the turn is that of the first connection that is not over
abbrev pub with_next_turn : ℕ → List AskedConnection → List AskedConnection
with_next_turn at [] = []
with_next_turn at (h ∷ hs) =
    if is_settled h.course.stage then h ∷ with_next_turn at hs else with_turn at h ∷ hs

-- at once, nobody waits for a turn
abbrev pub after_turns : Manner → ℕ → List AskedConnection → List AskedConnection
after_turns manners.AtOnce at hosts = hosts
after_turns manners.InOrder at hosts = with_next_turn at hosts

-- the time of an entry: not before the time that has passed
abbrev pub time_in : ℕ → Entry → ℕ
time_in passed (Reported at c told) = max passed at
time_in passed (Passed at) = max passed at
time_in passed (GivenUp at) = max passed at

-- The connections after a history: each was told what was reported of it, and then the turns were given.
abbrev pub AllAskedAfter : Inquiry → List Entry → List AskedConnection → Type 0
AllAskedAfter i [] hosts = hosts ≡ after_turns i.manner i.start (map (first_host i) i.hosts)
AllAskedAfter i (x ∷ xs) hosts =
    (old mid : List AskedConnection) × AllAskedAfter i xs old × AreTold i (passed_in i.start xs) x old mid
    × (hosts ≡ after_turns i.manner (time_in (passed_in i.start xs) x) mid)

-- the octets that wait to be sent on connection c
abbrev pub unsent_at : Asking → ℕ → List ℕ
unsent_at a c = octets_in (slice_get a.unsent.items c)

-- the clock has these tasks more, and is otherwise the same
pub record IsSame (old : Clock) (tasks : List Action) (new : Clock) : Type 0 where
  pub courses : new.courses ≡ old.courses
  pub wakes : new.wakes ≡ old.wakes
  pub queue : new.queue.items ≡ old.queue.items ++ tasks
  pub passed : new.passed ≡ old.passed
  pub in_order : new.in_order ≡ old.in_order
  pub orderly : IsOrderly old → IsOrderly new

-- the tasks for connection c, of these actions
abbrev pub tasks_for : ℕ → List Action → List Task
tasks_for c actions = map (λ (x : Action). x.task) (filter (λ (x : Action). x.c == c) actions)

-- The asking has connections that stand so.
pub record Holds (i : Inquiry) (hosts : List AskedConnection) (a : Asking) : Type 0 where
  pub size : length hosts ≡ length i.questions
  pub courses : a.clock.courses.items ≡ map (λ (h : AskedConnection). h.course) hosts
  -- the events of each connection, in a history of the pool
  pub pool : History
  pub meta : MetaAfter i.questions i.settings pool a.meta
  pub events : (c : ℕ) (h : AskedConnection) → slice_get hosts c ≡ Some h → events_on c pool ≡ h.events
  -- what was handed out to be sent: some octets are sent, and these wait
  pub unsent : (c : ℕ) (h : AskedConnection) → slice_get hosts c ≡ Some h
      → (out : List ℕ) × (given h.events ≡ out ++ unsent_at a c)
  -- what is to be done: some tasks are handed out, and these wait
  pub done : List Action
  pub queue : (c : ℕ) (h : AskedConnection) → slice_get hosts c ≡ Some h
      → tasks_for c (done ++ a.clock.queue.items) ≡ h.tasks
  pub orderly : IsOrderly a.clock
  pub in_order : a.clock.in_order ≡ not (is_at_once i.manner)

-- The history can have left this asking.
pub record AskingAfter (i : Inquiry) (history : List Entry) (a : Asking) : Type 0 where
  pub hosts : List AskedConnection
  pub after : AllAskedAfter i history hosts
  pub holds : Holds i hosts a
  pub passed : a.clock.passed ≡ passed_in i.start history

-- before and after a report: each history that can have left the one, with this entry, can have left the other
abbrev pub IsEntered : Entry → Asking → Asking → Type 0
IsEntered x old new =
    (i : Inquiry) (history : List Entry) → AskingAfter i history old → AskingAfter i (x ∷ history) new

-- each history that can have left the one can have left the other
abbrev pub KeepsHistories : Asking → Asking → Type 0
KeepsHistories old new = (i : Inquiry) (history : List Entry) → AskingAfter i history old → AskingAfter i history new

-- a task to send was added, if this holds
abbrev pub IsSendPut : ℕ → Bool → Asking → Asking → Type 0
IsSendPut c waits old new = IsSame old.clock (if waits then for_connection c Send ∷ [] else []) new.clock

-- One connection was talked with: its events are related so to those before, and what waits is to be sent.
pub record IsTalkedOn
    (c : ℕ) (R : Relation) (lost : Bool) (old new : Asking)
    : Type 0 where
  pub meta : IsExtended c R old.meta new.meta (unsent_at old c) (unsent_at new c)
  pub others : (d : ℕ) → (c == d) ≡ false → unsent_at new d ≡ unsent_at old d
  pub clock : IsSame old.clock (all_for c (new_sends lost (unsent_at old c) (unsent_at new c))) new.clock

-- one connection was told something, and the others were not
abbrev pub IsOneTold : ℕ → ℕ → Signal → Asking → Asking → Type 0
IsOneTold c at what old new =
    (i : Inquiry) (hosts : List AskedConnection) (h : AskedConnection) (question : Question) → Holds i hosts old
    → slice_get hosts c ≡ Some h → slice_get i.questions c ≡ Some question
    → (g : AskedConnection) × IsNoted i.settings question at what h.events h g × Holds i (slice_set hosts c g) new

-- octets came on one connection
abbrev pub IsOneFed : ℕ → ℕ → List ℕ → Asking → Asking → Type 0
IsOneFed c at piece old new =
    (i : Inquiry) (hosts : List AskedConnection) (h : AskedConnection) (question : Question) → Holds i hosts old
    → slice_get hosts c ≡ Some h → slice_get i.questions c ≡ Some question
    → (g : AskedConnection) × IsFed i.settings question at piece h.course.stage h g × Holds i (slice_set hosts c g) new

-- the turns were given
abbrev pub HasTurned : ℕ → Asking → Asking → Type 0
HasTurned at old new =
    (i : Inquiry) (hosts : List AskedConnection) → Holds i hosts old → Holds i (after_turns i.manner at hosts) new

-- ---- what a caller asks

-- the first time at which a tick does something to some connection
abbrev pub IsWakeAt : Asking → Option ℕ → Type 0
IsWakeAt a r =
    (i : Inquiry) (history : List Entry) → AskingAfter i history a → IsLeastWake a.clock.courses.items r

-- each connection is over, or was not chosen; or some one is not
abbrev pub AreOver : Bool → List AskedConnection → Type 0
AreOver true hosts = (c : ℕ) (h : AskedConnection) → slice_get hosts c ≡ Some h → is_settled h.course.stage ≡ true
AreOver false hosts =
    (c : ℕ) × (h : AskedConnection) × (slice_get hosts c ≡ Some h) × (is_settled h.course.stage ≡ false)

-- the result is true if each connection is over or was not chosen, and else false
abbrev pub IsOverAt : Asking → Bool → Type 0
IsOverAt a result =
    (i : Inquiry) (history : List Entry) → (after : AskingAfter i history a) → AreOver result after.hosts
