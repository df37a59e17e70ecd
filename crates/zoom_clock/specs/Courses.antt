-- The course of a connection: what became of it after a history of signals.
use Rattle.std.specs.Prelude.{ℕ, max, nat_le, Bool, true, false, ◌&&◌, ◌||◌, not, if◌then◌else◌, List, [], ◌∷◌, ◌++◌}
use Rattle.zoom_clock.specs.declared.action.Task.{Task}
use Rattle.zoom_clock.specs.declared.course.Course.{Course}
use Rattle.zoom_clock.specs.declared.limits.Limits.{Limits}
use Rattle.zoom_clock.specs.declared.signal.Signal.{Signal}
use Rattle.zoom_clock.specs.declared.signal.Signal.TheVariants as signals
use Rattle.zoom_clock.specs.declared.stage.Stage.{Stage}
use Rattle.zoom_clock.specs.declared.stage.Stage.TheVariants.{NotChosen, Resolving, Connecting, Talking, Over}
use Rattle.zoom_clock.specs.Stages.{Ruling, ruling, first_stage, wake_in}

-- what was told at a time
pub record Event : Type 0 where
  pub at : ℕ
  pub what : Signal

abbrev pub event : ℕ → Signal → Event
event at what = record { at = at; what = what }

-- the connection is over, or was not chosen: nothing changes it
abbrev pub is_settled : Stage → Bool
is_settled NotChosen = true
is_settled Resolving = false
is_settled (Connecting a) = false
is_settled (Talking t) = false
is_settled (Over ending) = true

-- only time has passed
abbrev pub is_tick : Signal → Bool
is_tick signals.Tick = true
is_tick _ = false

-- from now on octets of it are wanted, or they were before
abbrev pub wanted_after : Signal → Bool → Bool
wanted_after signals.Turn wanted = true
wanted_after _ wanted = wanted

-- the first time at which a tick does something
abbrev pub wake_of : Course → ℕ
wake_of p = wake_in p.limits p.start p.wanted p.stage

-- the time of an event: the latest seen so far, if it goes back
abbrev pub time_of : Event → Course → ℕ
time_of e p = max p.latest e.at

-- what is told changes nothing: the connection is settled, or it is a tick before its time
abbrev pub is_idle : Event → Course → Bool
is_idle e p = is_settled p.stage || (is_tick e.what && not (nat_le (wake_of p) e.at))

-- what the rules make of what was told; a tick before its time does not get here, as it is idle
abbrev pub ruling_of : Event → Course → Ruling
ruling_of e p = ruling p.limits p.start (time_of e p) p.wanted e.what p.stage

-- the course once this was told
abbrev pub step : Event → Course → Course
step e p =
    if is_idle e p then p else record p {
      latest = time_of e p;
      wanted = wanted_after e.what p.wanted;
      stage = (ruling_of e p).stage;
    }

-- what is to be done because of it, the first thing first
abbrev pub tasks_of : Event → Course → List Task
tasks_of e p = if is_idle e p then [] else (ruling_of e p).tasks

-- at the start
abbrev pub first_course : Limits → Bool → ℕ → Bool → Course
first_course limits chosen start wanted = record {
  limits = limits;
  start = start;
  latest = start;
  wanted = wanted;
  stage = first_stage chosen;
}

-- the course after a history, newest first
abbrev pub course_after : Limits → Bool → ℕ → Bool → List Event → Course
course_after limits chosen start wanted [] = first_course limits chosen start wanted
course_after limits chosen start wanted (e ∷ es) = step e (course_after limits chosen start wanted es)

-- all that was to be done, the first thing first
abbrev pub tasks_after : Limits → Bool → ℕ → Bool → List Event → List Task
tasks_after limits chosen start wanted [] = []
tasks_after limits chosen start wanted (e ∷ es) =
    tasks_after limits chosen start wanted es ++ tasks_of e (course_after limits chosen start wanted es)
