-- How far a connection is, and what the rules make of a signal: names (RFC 8305, 3), attempts (RFC 8305, 5), silence,
-- and the end of the association, for which the other end has a time (Z39.50-2003, 3.2.11).
use Rattle.std.specs.Prelude.{◌≡◌, ℕ, zero, suc, ◌+◌, ◌-◌, ◌==◌, min, nat_le, Bool, true, false, if◌then◌else◌, List, [], ◌∷◌, ◌++◌, Option, None, Some, slice_set}
use Rattle.std.specs.List.{list_all}
use Rattle.zoom_clock.specs.declared.action.Action.{Action}
use Rattle.zoom_clock.specs.declared.action.Task.{Task}
use Rattle.zoom_clock.specs.declared.action.Task.TheVariants.{Connect, Read, Leave}
use Rattle.zoom_clock.specs.declared.attempt.Attempt.TheVariants.{Failed}
use Rattle.zoom_clock.specs.declared.attempts.Attempts.{Attempts}
use Rattle.zoom_clock.specs.declared.limits.Limits.{Limits}
use Rattle.zoom_clock.specs.declared.signal.Ending.{Ending}
use Rattle.zoom_clock.specs.declared.signal.Ending.TheVariants as endings
use Rattle.zoom_clock.specs.declared.signal.Signal.{Signal}
use Rattle.zoom_clock.specs.declared.signal.Signal.TheVariants as signals
use Rattle.zoom_clock.specs.declared.signal.Condition.{Condition}
use Rattle.zoom_clock.specs.declared.signal.Condition.TheVariants as conditions
use Rattle.zoom_clock.specs.declared.stage.Stage.{Stage}
use Rattle.zoom_clock.specs.declared.stage.Stage.TheVariants.{NotChosen, Resolving, Connecting, Talking, Over}
use Rattle.zoom_clock.specs.declared.talk.Talk.{Talk}
use Rattle.zoom_clock.specs.declared.talk.TheConstants.{CLOSE_PATIENCE}
use Rattle.zoom_clock.specs.Actions.{AreAdded}
use Rattle.zoom_clock.specs.Times.{never, total_end}
use Rattle.zoom_clock.specs.Attempts.{is_open, has_failed, next_of, leaves, first_attempts, with_begun, with_failed, with_waiting, next_at}

-- The stage that a rule leads to, and what is to be done, the first thing first.
pub record Ruling : Type 0 where
  pub stage : Stage
  pub tasks : List Task

-- the stage is this one, and nothing is to be done
abbrev pub staying : Stage → Ruling
staying stage = record { stage = stage; tasks = [] }

-- the stage is this ruling's, and its tasks for connection c were added behind all others
pub record IsRuling (r : Ruling) (c : ℕ) (stage : Stage) (old new : List Action) : Type 0 where
  pub ruled : stage ≡ r.stage
  pub added : AreAdded c r.tasks old new

-- another stage, or still these attempts
abbrev pub next_stage : Option Stage → Attempts → Stage
next_stage None a = Connecting a
next_stage (Some stage) a = stage

-- ---- limits

-- when a connection is given up that has not connected, if it began to connect at `began`
abbrev pub connect_end : Limits → ℕ → ℕ → ℕ
connect_end limits start began = min (began + limits.connect) (total_end limits.total start)

-- how long a connection may be silent: one that has all it wanted, no longer than a Close is waited for
abbrev pub silence_of : Limits → Talk → ℕ
silence_of limits t = if t.leaving then min limits.patience CLOSE_PATIENCE else limits.patience

-- when a connection has been silent for too long; it is not before it is listened to
abbrev pub silence_end : Limits → Bool → Talk → ℕ
silence_end limits wanted t = if wanted then t.heard + silence_of limits t else never

-- when a connection that is talked with is given up
abbrev pub talk_end : Limits → ℕ → Bool → Talk → ℕ
talk_end limits start wanted t = min (silence_end limits wanted t) (total_end limits.total start)

-- the first time at which a tick does something
abbrev pub wake_in : Limits → ℕ → Bool → Stage → ℕ
wake_in limits start wanted NotChosen = never
wake_in limits start wanted Resolving = total_end limits.total start
wake_in limits start wanted (Connecting a) = min (connect_end limits start a.began) (next_at a)
wake_in limits start wanted (Talking t) = talk_end limits start wanted t
wake_in limits start wanted (Over ending) = never

-- ---- resolving

-- at the start, the name of a host that is chosen is to be resolved
abbrev pub first_stage : Bool → Stage
first_stage chosen = if chosen then Resolving else NotChosen

-- the name has so many addresses: the first is tried; with none, the host cannot be reached
abbrev pub resolved : ℕ → ℕ → Ruling
resolved now zero = staying (Over endings.Connect)
resolved now (suc more) = record { stage = Connecting (first_attempts (suc more) now); tasks = Connect 0 ∷ [] }

-- what is told of a connection whose name was not yet resolved; a tick is one whose time has come
abbrev pub resolving_ruling : ℕ → Signal → Ruling
resolving_ruling now (signals.Resolved addresses) = resolved now addresses
resolving_ruling now signals.GiveUp = staying (Over endings.Turns)
resolving_ruling now signals.Tick = staying (Over endings.Connect)
resolving_ruling now (signals.Connected k) = staying Resolving
resolving_ruling now (signals.Unreachable k) = staying Resolving
resolving_ruling now (signals.NoSocket k) = staying Resolving
resolving_ruling now (signals.Octets condition) = staying Resolving
resolving_ruling now signals.Taken = staying Resolving
resolving_ruling now signals.End = staying Resolving
resolving_ruling now signals.Unreadable = staying Resolving
resolving_ruling now signals.Unwritable = staying Resolving
resolving_ruling now signals.Turn = staying Resolving

-- ---- connecting

-- this attempt is begun, if there is one
abbrev pub beginning : ℕ → Option ℕ → Attempts → Ruling
beginning now None a = staying (Connecting a)
beginning now (Some k) a = record { stage = Connecting (with_begun now k a); tasks = Connect k ∷ [] }

-- the next attempt is begun, if one is left
abbrev pub beginning_next : ℕ → Attempts → Ruling
beginning_next now a = beginning now (next_of a.states) a

-- the connection is over: the socket of each open attempt is to be closed
abbrev pub giving_up : Ending → Attempts → Ruling
giving_up ending a = record { stage = Over ending; tasks = leaves a.states }

-- after an attempt k has failed: with the last one the connection has; if it was begun last, the next begins at once
abbrev pub failing : ℕ → ℕ → Attempts → Ruling
failing now k a =
    if list_all has_failed a.states then staying (Over endings.Connect)
    else if k == a.last then beginning_next now a
    else staying (Connecting a)

-- the socket of attempt k is the connection's
abbrev pub first_talk : Limits → ℕ → ℕ → Talk
first_talk limits now k = record { socket = k; heard = now; left = limits.pieces; leaving = false; lost = false }

-- octets are wanted, if its turn has come
abbrev pub reading : Bool → List Task
reading wanted = if wanted then Read ∷ [] else []

-- attempt k has connected: the sockets of the other open ones are to be closed
abbrev pub winning : Limits → ℕ → Bool → ℕ → Attempts → Ruling
winning limits now wanted k a =
    record { stage = Talking (first_talk limits now k); tasks = leaves (slice_set a.states k Failed) ++ reading wanted }

-- a time has come: the connection is given up, or its next attempt begins
abbrev pub connecting_late : Limits → ℕ → ℕ → Attempts → Ruling
connecting_late limits start now a =
    if nat_le (connect_end limits start a.began) now then giving_up endings.Connect a else beginning_next now a

-- what is told of a connection that has not connected; a tick is one whose time has come
abbrev pub connecting_ruling : Limits → ℕ → ℕ → Bool → Signal → Attempts → Ruling
connecting_ruling limits start now wanted (signals.Connected k) a =
    if is_open k a.states then winning limits now wanted k a else staying (Connecting a)
connecting_ruling limits start now wanted (signals.Unreachable k) a =
    if is_open k a.states then failing now k (with_failed k a) else staying (Connecting a)
connecting_ruling limits start now wanted (signals.NoSocket k) a =
    staying (Connecting (if is_open k a.states then with_waiting now k a else a))
connecting_ruling limits start now wanted signals.GiveUp a = giving_up endings.Turns a
connecting_ruling limits start now wanted signals.Tick a = connecting_late limits start now a
connecting_ruling limits start now wanted (signals.Resolved addresses) a = staying (Connecting a)
connecting_ruling limits start now wanted (signals.Octets condition) a = staying (Connecting a)
connecting_ruling limits start now wanted signals.Taken a = staying (Connecting a)
connecting_ruling limits start now wanted signals.End a = staying (Connecting a)
connecting_ruling limits start now wanted signals.Unreadable a = staying (Connecting a)
connecting_ruling limits start now wanted signals.Unwritable a = staying (Connecting a)
connecting_ruling limits start now wanted signals.Turn a = staying (Connecting a)

-- ---- talking

-- the connection is over: its socket is to be closed
abbrev pub ending_talk : Talk → Ending → Ruling
ending_talk t ending = record { stage = Over ending; tasks = Leave t.socket ∷ [] }

-- how a connection ends that is given up for this reason: one that has all it wanted, as if its input had ended; one
-- of which a write failed, for that
abbrev pub verdict : Talk → Ending → Ending
verdict t ending = if t.leaving then endings.InputEnded else if t.lost then endings.Write else ending

-- the connection is going, or it has all it wanted
abbrev pub is_leaving : Condition → Bool
is_leaving conditions.Going = false
is_leaving conditions.Leaving = true
is_leaving conditions.Finished = false

-- one piece fewer may come, if that has a limit
abbrev pub less_one : Option ℕ → Option ℕ
less_one None = None
less_one (Some n) = Some (n - 1)

-- octets came, and this is how the connection stands after them
abbrev pub with_piece : ℕ → Condition → Talk → Talk
with_piece now condition t =
    record { socket = t.socket; heard = now; left = less_one t.left; leaving = is_leaving condition; lost = t.lost }

-- no more pieces may come
abbrev pub is_used_up : Option ℕ → Bool
is_used_up None = false
is_used_up (Some n) = n == 0

-- octets came, and the connection goes on unless these were its last
abbrev pub going_on : Talk → Ruling
going_on t =
    if is_used_up t.left then ending_talk t (verdict t endings.Turns) else staying (Talking t)

-- octets came: they have ended the connection, or it goes on
abbrev pub hearing : ℕ → Condition → Talk → Ruling
hearing now conditions.Finished t = ending_talk t endings.Finished
hearing now conditions.Going t = going_on (with_piece now conditions.Going t)
hearing now conditions.Leaving t = going_on (with_piece now conditions.Leaving t)

-- a write failed: what still comes is read, unless the connection has all it wanted
abbrev pub losing : Talk → Ruling
losing t = if t.leaving then ending_talk t endings.InputEnded else staying (Talking (record t { lost = true }))

-- its turn has come: from now on octets are wanted
abbrev pub listening : ℕ → Bool → Talk → Ruling
listening now wanted t =
    if wanted then staying (Talking t)
    else record { stage = Talking (record t { heard = now }); tasks = Read ∷ [] }

-- what is told of a connection that is talked with; a tick is one whose time has come
abbrev pub talking_ruling : ℕ → Bool → Signal → Talk → Ruling
talking_ruling now wanted (signals.Octets condition) t = hearing now condition t
talking_ruling now wanted signals.Taken t = staying (Talking (record t { heard = now }))
talking_ruling now wanted signals.End t = ending_talk t (verdict t endings.InputEnded)
talking_ruling now wanted signals.Unreadable t = ending_talk t (verdict t endings.Read)
talking_ruling now wanted signals.Unwritable t = losing t
talking_ruling now wanted signals.GiveUp t = ending_talk t (verdict t endings.Turns)
talking_ruling now wanted signals.Tick t = ending_talk t (verdict t endings.Read)
talking_ruling now wanted signals.Turn t = listening now wanted t
talking_ruling now wanted (signals.Resolved addresses) t = staying (Talking t)
talking_ruling now wanted (signals.Connected k) t = staying (Talking t)
talking_ruling now wanted (signals.Unreachable k) t = staying (Talking t)
talking_ruling now wanted (signals.NoSocket k) t = staying (Talking t)

-- ---- any stage

-- what is told of a connection at this stage; of one that is over or not chosen, it changes nothing
abbrev pub ruling : Limits → ℕ → ℕ → Bool → Signal → Stage → Ruling
ruling limits start now wanted what NotChosen = staying NotChosen
ruling limits start now wanted what Resolving = resolving_ruling now what
ruling limits start now wanted what (Connecting a) = connecting_ruling limits start now wanted what a
ruling limits start now wanted what (Talking t) = talking_ruling now wanted what t
ruling limits start now wanted what (Over ending) = staying (Over ending)
