-- Laws of every history of one connection.
use Rattle.std.specs.Prelude.{◌≡◌, ◌⊎◌, ℕ, ◌+◌, ◌==◌, ◌<◌, ◌≤◌, zero, suc, Bool, true, false, List, [], ◌∷◌, is_some, position, slice_index_or, Option, None, Some, Contains, count_by}
use Rattle.zoom_clock.specs.declared.action.Task.{Task}
use Rattle.zoom_clock.specs.declared.action.Task.TheVariants.{Connect, Read}
use Rattle.zoom_clock.specs.declared.attempt.Attempt.TheVariants.{Failed}
use Rattle.zoom_clock.specs.declared.attempts.Attempts.{Attempts}
use Rattle.zoom_clock.specs.declared.attempts.TheConstants.{ATTEMPT_DELAY}
use Rattle.zoom_clock.specs.declared.course.Course.{Course}
use Rattle.zoom_clock.specs.declared.limits.Limits.{Limits}
use Rattle.zoom_clock.specs.declared.signal.Ending.{Ending}
use Rattle.zoom_clock.specs.declared.signal.Ending.TheVariants as endings
use Rattle.zoom_clock.specs.declared.signal.Signal.TheVariants as signals
use Rattle.zoom_clock.specs.declared.signal.Condition.TheVariants as conditions
use Rattle.zoom_clock.specs.declared.stage.Stage.{Stage}
use Rattle.zoom_clock.specs.declared.stage.Stage.TheVariants.{Resolving, Connecting, Talking, Over}
use Rattle.zoom_clock.specs.declared.talk.Talk.{Talk}
use Rattle.zoom_clock.specs.declared.talk.TheConstants.{CLOSE_PATIENCE}
use Rattle.zoom_clock.specs.Times.{never, total_end}
use Rattle.zoom_clock.specs.Attempts.{is_ahead, has_failed, next_at}
use Rattle.zoom_clock.specs.Stages.{connect_end, talk_end}
use Rattle.zoom_clock.specs.Courses.{Event, event, is_settled, wake_of, step, tasks_of, course_after, tasks_after}
use Rattle.zoom_clock.specs.Accounts.{WasTold, AllFailed, addresses_in, latest_in, WasLate, WasResolvedAt, WasSilent, IsSilentSince, is_octets, is_no_socket, begun_in, left_in}

module _ (limits : Limits) (start : ℕ) (wanted : Bool) where
  -- the stage of a connection that is chosen, after a history
  abbrev pub stage_after : List Event → Stage
  stage_after es = (course_after limits true start wanted es).stage

  -- its tasks
  abbrev pub tasks_till : List Event → List Task
  tasks_till es = tasks_after limits true start wanted es

-- so many pieces of octets came as may come
abbrev pub HasUsedUp : Option ℕ → List Event → Type 0
HasUsedUp None es = ⊥
HasUsedUp (Some most) es = most ≤ count_by (λ (e : Event). is_octets e.what) es

-- nobody is given up early: how a connection ended was told, or the time had come
pub record EarlyLaws : Type 0 where
  pub connect : (limits : Limits) (start : ℕ) (wanted : Bool) (es : List Event)
      → stage_after limits start wanted es ≡ Over endings.Connect
      → AllFailed es ⊎ WasLate limits start es
  pub read : (limits : Limits) (start : ℕ) (wanted : Bool) (es : List Event) → latest_in start es < never
      → stage_after limits start wanted es ≡ Over endings.Read
      → WasTold signals.Unreadable es ⊎ WasSilent limits start es
  pub write : (limits : Limits) (start : ℕ) (wanted : Bool) (es : List Event)
      → stage_after limits start wanted es ≡ Over endings.Write → WasTold signals.Unwritable es
  pub turns : (limits : Limits) (start : ℕ) (wanted : Bool) (es : List Event)
      → stage_after limits start wanted es ≡ Over endings.Turns
      → WasTold signals.GiveUp es ⊎ HasUsedUp limits.pieces es
  -- its input is over only if that was told, or if it had all it wanted
  pub input : (limits : Limits) (start : ℕ) (wanted : Bool) (es : List Event)
      → stage_after limits start wanted es ≡ Over endings.InputEnded
      → WasTold signals.End es ⊎ WasTold (signals.Octets conditions.Leaving) es
  pub finished : (limits : Limits) (start : ℕ) (wanted : Bool) (es : List Event)
      → stage_after limits start wanted es ≡ Over endings.Finished
      → WasTold (signals.Octets conditions.Finished) es
  -- silence counts from the last sign of life
  pub silent : (limits : Limits) (start : ℕ) (wanted : Bool) (es : List Event) (t : Talk)
      → stage_after limits start wanted es ≡ Talking t → IsSilentSince start t.heard es

-- nobody is waited for too long: after a tick, no time of the connection has come
pub record LateLaws : Type 0 where
  pub resolving : (limits : Limits) (start now : ℕ) (wanted : Bool) (es : List Event)
      → stage_after limits start wanted (event now signals.Tick ∷ es) ≡ Resolving
      → now < total_end limits.total start
  pub connecting : (limits : Limits) (start now : ℕ) (wanted : Bool) (es : List Event) (a : Attempts)
      → stage_after limits start wanted (event now signals.Tick ∷ es) ≡ Connecting a
      → now < connect_end limits start a.began
  -- the time to connect counts from when the name was resolved
  pub began : (limits : Limits) (start : ℕ) (wanted : Bool) (es : List Event) (a : Attempts)
      → stage_after limits start wanted es ≡ Connecting a → WasResolvedAt start a.began es
  -- no address that is left waits for longer than the last attempt may take
  pub next : (limits : Limits) (start now : ℕ) (wanted : Bool) (es : List Event) (a : Attempts) → now < never
      → stage_after limits start wanted (event now signals.Tick ∷ es) ≡ Connecting a → now < next_at a
  pub talking : (limits : Limits) (start now : ℕ) (wanted : Bool) (es : List Event) (t : Talk)
      → (p : Course) → p ≡ course_after limits true start wanted es
      → stage_after limits start wanted (event now signals.Tick ∷ es) ≡ Talking t
      → now < talk_end limits start p.wanted t
  -- nor after the last attempt has failed, while an address was not tried
  pub last : (limits : Limits) (start : ℕ) (wanted : Bool) (es : List Event) (a : Attempts)
      → stage_after limits start wanted es ≡ Connecting a → is_some (position is_ahead a.states) ≡ true
      → has_failed (slice_index_or a.states a.last Failed) ≡ false

-- the connection is over, or one attempt was begun
abbrev pub HasMoved : Course → Course → List Task → Type 0
HasMoved old new tasks =
    ((ending : Ending) × (new.stage ≡ Over ending))
    ⊎ ((a : Attempts) × (k : ℕ) × (new.stage ≡ Connecting a) × (tasks ≡ Connect k ∷ []))

-- a tick does something from the time to wake on, and nothing before
pub record WakeLaws : Type 0 where
  pub before : (p : Course) (now : ℕ) → now < wake_of p
      → (step (event now signals.Tick) p ≡ p) × (tasks_of (event now signals.Tick) p ≡ [])
  pub at : (p : Course) (now : ℕ) → is_settled p.stage ≡ false → now < never → wake_of p ≤ now
      → HasMoved p (step (event now signals.Tick) p) (tasks_of (event now signals.Tick) p)
  -- after a tick, the time to wake is later
  pub ahead : (p : Course) (now : ℕ) → now < never → now < wake_of (step (event now signals.Tick) p)

-- a connection that is over, or not chosen, stays so whatever is told, and nothing is to be done for it
abbrev pub SettledLaw : Type 0
SettledLaw = (p : Course) (e : Event) → is_settled p.stage ≡ true → (step e p ≡ p) × (tasks_of e p ≡ [])

-- the numbers from i on, n of them
abbrev pub run_from : ℕ → ℕ → List ℕ
run_from i zero = []
run_from i (suc n) = i ∷ run_from (i + 1) n

-- the connection has not connected, and is not over
abbrev pub IsConnecting : Stage → Type 0
IsConnecting stage = (stage ≡ Resolving) ⊎ ((a : Attempts) × (stage ≡ Connecting a))

-- so many addresses were tried, of as many as the name has
abbrev pub IsWithin : ℕ → Option ℕ → Type 0
IsWithin m None = m ≡ 0
IsWithin m (Some n) = m ≤ n

-- each address is tried
pub record AttemptLaws : Type 0 where
  -- if no attempt was without a socket, the addresses were tried in order, each once
  pub order : (limits : Limits) (start : ℕ) (wanted : Bool) (es : List Event)
      → ((k : ℕ) → WasTold (signals.NoSocket k) es → ⊥)
      → (m : ℕ) × IsWithin m (addresses_in es) × (begun_in (tasks_till limits start wanted es) ≡ run_from 0 m)
  -- no address is tried again, but once for each time that the system had no socket for it
  pub once : (limits : Limits) (start k : ℕ) (wanted : Bool) (es : List Event)
      → count_by (λ j. k == j) (begun_in (tasks_till limits start wanted es))
      ≤ 1 + count_by (λ (e : Event). is_no_socket k e.what) es
  -- a connection that could not be reached before its time was over tried each address
  pub all : (limits : Limits) (start : ℕ) (wanted : Bool) (es : List Event)
      → stage_after limits start wanted es ≡ Over endings.Connect
      → ((n : ℕ) × (addresses_in es ≡ Some n)
      × ((k : ℕ) → k < n → Contains (begun_in (tasks_till limits start wanted es)) k))
      ⊎ WasLate limits start es
  -- an address is tried only while the connection is connecting
  pub only : (p : Course) (e : Event) (k : ℕ) → Contains (begun_in (tasks_of e p)) k → IsConnecting p.stage

-- no socket is kept: each attempt of a connection that is over was left, or it failed, or it had no socket
abbrev pub LeaveLaw : Type 0
LeaveLaw =
    (limits : Limits) (start k : ℕ) (wanted : Bool) (es : List Event)
    → is_settled (stage_after limits start wanted es) ≡ true
    → Contains (begun_in (tasks_till limits start wanted es)) k
    → Contains (left_in (tasks_till limits start wanted es)) k
    ⊎ WasTold (signals.Unreachable k) es ⊎ WasTold (signals.NoSocket k) es

-- octets are wanted only of a connection whose turn has come
abbrev pub TurnLaw : Type 0
TurnLaw =
    (limits : Limits) (start : ℕ) (wanted : Bool) (es : List Event)
    → Contains (tasks_till limits start wanted es) Read → (wanted ≡ true) ⊎ WasTold signals.Turn es

-- the times that the rules have of their own, in nanoseconds
abbrev pub TimesLaw : Type 0
TimesLaw = (ATTEMPT_DELAY ≡ 250000000) × (CLOSE_PATIENCE ≡ 2000000000)
