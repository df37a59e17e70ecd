-- What is asked of whom, and what was reported.
use Rattle.std.specs.Prelude.{ℕ, ◌==◌, max, Bool, true, false, if◌then◌else◌, List, [], ◌∷◌, ◌++◌, Option, None, Some, is_some, option_to_list}
use Rattle.zoom_questions.specs.declared.question.Question.{Question}
use Rattle.zoom_questions.specs.declared.question.MetaSettings.{MetaSettings}
use Rattle.zoom_clock.specs.declared.limits.Limits.{Limits}
use Rattle.zoom_clock.specs.declared.plan.Plan.{Plan}
use Rattle.zoom_clock.specs.declared.signal.Signal.{Signal}
use Rattle.zoom_clock.specs.declared.signal.Signal.TheVariants as signals
use Rattle.zoom_asking.specs.declared.inquiry.AskedHost.{AskedHost}
use Rattle.zoom_asking.specs.declared.inquiry.Manner.{Manner}
use Rattle.zoom_asking.specs.declared.inquiry.Manner.TheVariants as manners
use Rattle.zoom_asking.specs.declared.inquiry.Report.{Report}
use Rattle.zoom_asking.specs.declared.inquiry.Report.TheVariants as reports
use Rattle.zoom_asking.specs.declared.inquiry.TheConstants.{MOST_PIECES}

-- What is asked of whom: a question and a host for each connection, or no host if the connection is not chosen. Then
-- the manner, how long all may take, and when it began.
pub record Inquiry : Type 0 where
  pub questions : List Question
  pub settings : MetaSettings
  pub hosts : List (Option AskedHost)
  pub manner : Manner
  pub total : Option ℕ
  pub start : ℕ

-- all hosts are talked with at once
abbrev pub is_at_once : Manner → Bool
is_at_once manners.AtOnce = true
is_at_once manners.InOrder = false

-- how many pieces of octets may come on one connection: in order, as many as a talk may read
abbrev pub most_pieces : Manner → Option ℕ
most_pieces manners.AtOnce = None
most_pieces manners.InOrder = Some MOST_PIECES

-- how long to wait for a host
abbrev pub limits_for : Manner → Option ℕ → AskedHost → Limits
limits_for manner total host = record {
  connect = host.connect;
  patience = host.patience;
  total = total;
  pieces = most_pieces manner;
}

-- the limits of a connection that is not chosen
abbrev pub no_limits : Limits
no_limits = record { connect = 0; patience = 0; total = None; pieces = None }

-- how long to wait for a connection
abbrev pub limits_of : Manner → Option ℕ → Option AskedHost → Limits
limits_of manner total None = no_limits
limits_of manner total (Some host) = limits_for manner total host

-- how a connection is to be asked
abbrev pub plan_of : Manner → Option ℕ → Option AskedHost → Plan
plan_of manner total host = record { limits = limits_of manner total host; chosen = is_some host }

-- the inquiry of these parts
abbrev pub inquiry : List Question → MetaSettings → List (Option AskedHost) → Manner → Option ℕ → ℕ → Inquiry
inquiry questions settings hosts manner total start = record {
  questions = questions;
  settings = settings;
  hosts = hosts;
  manner = manner;
  total = total;
  start = start;
}

-- ---- what was reported

-- what is told of one connection: octets that came, or a signal
pub data Told : Type 0 where
  Came : List ℕ → Told
  Noted : Signal → Told

-- the signal of a report
abbrev pub signal_of : Report → Signal
signal_of (reports.Resolved addresses) = signals.Resolved addresses
signal_of (reports.Connected k) = signals.Connected k
signal_of (reports.Unreachable k) = signals.Unreachable k
signal_of (reports.NoSocket k) = signals.NoSocket k
signal_of reports.Taken = signals.Taken
signal_of reports.End = signals.End
signal_of reports.Unreadable = signals.Unreadable
signal_of reports.Unwritable = signals.Unwritable

-- What was reported, and when: of one connection; that time has passed; or that all are given up.
pub data Entry : Type 0 where
  Reported : ℕ → ℕ → Told → Entry
  Passed : ℕ → Entry
  GivenUp : ℕ → Entry

-- the latest time that is known to have passed, of a history, newest first
abbrev pub passed_in : ℕ → List Entry → ℕ
passed_in start [] = start
passed_in start (Reported at c told ∷ xs) = passed_in start xs
passed_in start (Passed at ∷ xs) = max (passed_in start xs) at
passed_in start (GivenUp at ∷ xs) = max (passed_in start xs) at

-- what is told of a connection, at a time
pub record Event : Type 0 where
  pub at : ℕ
  pub told : Told

-- this was told, at a time that is not before the time that has passed
abbrev pub event_from : ℕ → ℕ → Told → Event
event_from passed at told = record { at = max passed at; told = told }

-- what an entry tells of connection c, if the time that has passed is this
abbrev pub own_event : ℕ → ℕ → Entry → Option Event
own_event c passed (Reported at d told) = if d == c then Some (event_from passed at told) else None
own_event c passed (Passed at) = Some (event_from passed at (Noted signals.Tick))
own_event c passed (GivenUp at) = Some (event_from passed at (Noted signals.GiveUp))

-- what a history tells of connection c: the reports of it, and all that passed
abbrev pub own : ℕ → ℕ → List Entry → List Event
own c start [] = []
own c start (x ∷ xs) = option_to_list (own_event c (passed_in start xs) x) ++ own c start xs
