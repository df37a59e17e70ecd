-- What became of one connection, as a function of what was told of it (Z39.50-2003, 3.2).
use Rattle.std.specs.Prelude.{◌≡◌, ℕ, nat_lt, Bool, false, not, ◌&&◌, if◌then◌else◌, List, [], ◌∷◌, ◌++◌, length, Option, is_some}
use Rattle.zoom_questions.specs.declared.question.Question.{Question}
use Rattle.zoom_questions.specs.declared.question.MetaSettings.{MetaSettings}
use Rattle.zoom_pool.specs.Transcripts as pool
use Rattle.zoom_clock.specs.declared.action.Task.{Task}
use Rattle.zoom_clock.specs.declared.action.Task.TheVariants.{Send}
use Rattle.zoom_clock.specs.declared.course.Course.{Course}
use Rattle.zoom_clock.specs.declared.signal.Signal.{Signal}
use Rattle.zoom_clock.specs.declared.signal.Signal.TheVariants as signals
use Rattle.zoom_clock.specs.declared.signal.Condition.{Condition}
use Rattle.zoom_clock.specs.declared.stage.Stage.{Stage}
use Rattle.zoom_clock.specs.declared.stage.Stage.TheVariants.{Talking}
use Rattle.zoom_clock.specs.Courses.{event, step, tasks_of, first_course}
use Rattle.zoom_asking.specs.declared.inquiry.AskedHost.{AskedHost}
use Rattle.zoom_asking.specs.declared.change.Change.{Change}
use Rattle.zoom_asking.specs.declared.change.Change.TheVariants as changes
use Rattle.zoom_asking.specs.Changes.{change_between}
use Rattle.zoom_asking.specs.Inquiries.{Inquiry, Told, Came, Noted, Event, is_at_once, limits_of}
use Rattle.zoom_asking.specs.Talks.{IsDriven, IsHeard, IsCondition, IsClosed}

-- One connection: its course; its events, newest first; and all that was to be done for it, the first thing first.
pub record AskedConnection : Type 0 where
  pub course : Course
  pub events : List pool.Event
  pub tasks : List Task

-- what a change brings: a connection that has connected makes its first calls, and one that is over is closed
abbrev pub AfterChange : Change → MetaSettings → Question → List pool.Event → List pool.Event → Type 0
AfterChange changes.Same s question old new = new ≡ old
AfterChange changes.Opened s question old new = IsDriven s question old new
AfterChange (changes.Ended ending) s question old new = IsClosed ending s question old new

-- octets wait to be sent that did not before, and a write can send them
abbrev pub new_sends : Bool → List ℕ → List ℕ → List Task
new_sends lost waited waits = if not lost && nat_lt (length waited) (length waits) then Send ∷ [] else []

-- the same, by the octets that events handed out
abbrev pub sends : Bool → List pool.Event → List pool.Event → List Task
sends lost old new = new_sends lost (pool.given old) (pool.given new)

-- a write failed on the connection
abbrev pub is_lost_at : Stage → Bool
is_lost_at (Talking t) = t.lost
is_lost_at _ = false

-- a signal was noted, after these events
pub record IsNoted
    (s : MetaSettings) (question : Question) (at : ℕ) (what : Signal) (events : List pool.Event)
    (old new : AskedConnection)
    : Type 0 where
  pub course : new.course ≡ step (event at what) old.course
  pub changed : AfterChange (change_between old.course.stage new.course.stage) s question events new.events
  -- what waits since then is sent last
  pub tasks : new.tasks ≡ old.tasks ++ sends (is_lost_at old.course.stage) old.events events
      ++ tasks_of (event at what) old.course ++ sends false events new.events

-- octets came on a connection that is talked with: they were heard, and how it stands was noted
pub record HasHeard
    (s : MetaSettings) (question : Question) (at : ℕ) (piece : List ℕ) (old new : AskedConnection) : Type 0 where
  pub heard : List pool.Event
  pub hears : IsHeard piece s question old.events heard
  pub condition : Condition
  pub stands : IsCondition s heard condition
  pub noted : IsNoted s question at (signals.Octets condition) heard old new

-- octets came: of a connection that is not talked with they change nothing
abbrev pub IsFed : MetaSettings → Question → ℕ → List ℕ → Stage → AskedConnection → AskedConnection → Type 0
IsFed s question at piece (Talking t) old new = HasHeard s question at piece old new
IsFed s question at piece _ old new = new ≡ old

-- this was told of the connection
abbrev pub IsTold : MetaSettings → Question → ℕ → Told → AskedConnection → AskedConnection → Type 0
IsTold s question at (Came piece) old new = IsFed s question at piece old.course.stage old new
IsTold s question at (Noted what) old new = IsNoted s question at what old.events old new

-- the course of a connection at the start
abbrev pub course_of : Inquiry → Option AskedHost → Course
course_of i host =
    first_course (limits_of i.manner i.total host) (is_some host) i.start (is_at_once i.manner)

-- a connection at the start
abbrev pub first_host : Inquiry → Option AskedHost → AskedConnection
first_host i host = record {
  course = course_of i host;
  events = [];
  tasks = [];
}

-- the connection after this was told of it, newest first
abbrev pub AskedAfter : Inquiry → Option AskedHost → Question → List Event → AskedConnection → Type 0
AskedAfter i host question [] new = new ≡ first_host i host
AskedAfter i host question (e ∷ es) new =
    (old : AskedConnection) × AskedAfter i host question es old × IsTold i.settings question e.at e.told old new
