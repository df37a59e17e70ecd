-- A connection that is driven for one question: the call that is next, and the logs of such calls (Z39.50-2003,
-- 3.2.1.1, 3.2.2.1, 3.2.3.1 and 3.2.11.1).
use Rattle.std.specs.Prelude.{◌≡◌, ◌≢◌, ◌⊎◌, ℕ, pos, ◌≤◌, Bool, true, false, ◌||◌, not, if◌then◌else◌, List, [], ◌∷◌, map, length, Option, None, Some}
use Rattle.std.specs.List.{list_any, flat_map}
use Rattle.zapdu.specs.declared.apdu.Apdu.{Apdu}
use Rattle.zapdu.specs.declared.apdu.Apdu.TheVariants as apdus
use Rattle.zplan.specs.Plan.{IsNextEvent}
use Rattle.zorigin.specs.declared.settings.Settings.{Settings}
use Rattle.zorigin.specs.declared.settings.Ask.{Ask}
use Rattle.zorigin.specs.declared.answer.Answer.{Answer}
use Rattle.zorigin.specs.declared.refusal.CallRefused.{CallRefused}
use Rattle.zorigin.specs.declared.refusal.CallRefused.TheVariants as calls
use Rattle.zorigin.specs.declared.state.State.{State}
use Rattle.zorigin.specs.Standings.{Call, Init, Search, Present, Close, is_fresh, is_ready}
use Rattle.zplan.specs.Ranges.{positions, span_of, IsApart}
use Rattle.zorigin.specs.Calls.{refusal}
use Rattle.zorigin.specs.Log.{Log, Made, Got, Past, past, standing, state_of, opening, force_after, is_close_call, search_in}
use Rattle.zoom_questions.specs.declared.question.Question.{Question}
use Rattle.zoom_questions.specs.declared.question.MetaSettings.{MetaSettings}
use Rattle.zoom_questions.specs.Askable.{HasFewArcs}
use Rattle.zoom_pool.specs.Driving.{plan_of, events_of, IsNumbered}

-- The errand of a connection: its search; the wanted positions; how many of them one Present asks for; how many
-- Presents may be outstanding if the target allows several.
pub record Errand : Type 0 where
  pub ask : Ask
  pub wanted : List ℕ
  pub step : ℕ
  pub window : ℕ

-- the search of a question; Presents alone ask for records
abbrev pub ask_of : Question → Ask
ask_of q = record {
  databases = q.databases;
  query = q.query;
  syntax = q.syntax;
  elements = q.elements;
  small = pos 0;
  large = pos 1;
  medium = pos 0;
}

-- the errand for a question, with so many positions to a Present and so many Presents outstanding
abbrev pub errand_with : Question → ℕ → ℕ → Errand
errand_with q step window = record { ask = ask_of q; wanted = positions q.wanted; step = step; window = window }

-- the errand for a question by these settings
abbrev pub errand_of : MetaSettings → Question → Errand
errand_of s q = errand_with q s.step s.window

-- ---- what can be asked

-- The calls of the errand can be sent: the name and the syntax are short, a Present asks for at most 1,000
-- positions, and the search asks for no records.
pub record IsFitErrand (e : Errand) (settings : Settings) : Type 0 where
  pub name : length settings.name ≤ 2000000
  pub most : e.step ≤ 1000
  pub syntax : HasFewArcs e.ask.syntax
  pub small : e.ask.small ≡ pos 0
  pub large : e.ask.large ≡ pos 1
  pub medium : e.ask.medium ≡ pos 0

-- ---- which call is next

-- how many operations may be outstanding
abbrev pub room_in : ℕ → Past → ℕ
room_in window p = if (force_after (opening p)).concurrent then window else 1

-- calls can be made: the state is Fresh or Ready
abbrev pub may_call : State → Bool
may_call state = is_fresh state || is_ready state

-- a call of the errand: its result set is 1, and its search is the errand's
abbrev pub IsCallOf : Errand → Call → Type 0
IsCallOf e Init = Unit {0}
IsCallOf e (Search op set ask) = (set ≡ 1) × (ask ≡ e.ask)
IsCallOf e (Present op set ranges) = set ≡ 1
IsCallOf e Close = Unit {0}

-- The call is next, and calls can be made.
pub record IsNextCall (e : Errand) (settings : Settings) (log : Log) (call : Call) : Type 0 where
  pub stands : may_call (state_of (past settings log)) ≡ true
  pub of : IsCallOf e call
  pub numbered : IsNumbered call
  pub next : IsNextEvent e.wanted e.step (room_in e.window (past settings log)) (events_of e.ask settings log)
      (plan_of call)

-- A Present has a gap between any two of its ranges: it asks for its positions in the fewest ranges. No other list of
-- such ranges has the same positions.
abbrev pub HasFewestRanges : Call → Type 0
HasFewestRanges (Present op set ranges) = IsApart 1 (map span_of ranges)
HasFewestRanges _ = Unit {0}

-- the call that the driver makes: it is next, and its ranges are the fewest
abbrev pub IsDriverCall : Errand → Settings → Log → Call → Type 0
IsDriverCall e settings log call = IsNextCall e settings log call × HasFewestRanges call

-- the search is refused because the target does not offer it or it cannot be sent
abbrev pub is_skip : Option CallRefused → Call → Bool
is_skip (Some calls.NotOffered) (Search op set ask) = true
is_skip (Some calls.Unsendable) (Search op set ask) = true
is_skip _ _ = false

-- an admitted call is the driver's; a refused call is the errand's search, which is then skipped
abbrev pub IsSteeredCall : Errand → Settings → Log → Option CallRefused → Call → Type 0
IsSteeredCall e settings log None call = IsDriverCall e settings log call
IsSteeredCall e settings log (Some reason) call =
    (is_skip (Some reason) call ≡ true) × IsCallOf e call × IsNumbered call

-- each call was the driver's when it was made, or was the search that is skipped
abbrev pub IsSteered : Errand → Settings → Log → Type 0
IsSteered e settings [] = Unit {0}
IsSteered e settings (Made call ∷ log) =
    IsSteeredCall e settings log (refusal (standing (past settings log)) call) call × IsSteered e settings log
IsSteered e settings (Got reply ∷ log) = IsSteered e settings log

-- ---- how the errand went

-- the log has a search that was skipped
abbrev pub skipped_in : Settings → Log → Bool
skipped_in settings [] = false
skipped_in settings (Made call ∷ log) =
    is_skip (refusal (standing (past settings log)) call) call || skipped_in settings log
skipped_in settings (Got reply ∷ log) = skipped_in settings log

-- the search was admitted, or it was skipped
abbrev pub IsTried : Settings → Log → Type 0
IsTried settings log = (flat_map search_in (past settings log).admitted ≢ []) ⊎ (skipped_in settings log ≡ true)

-- the APDU is an Init response that rejects the association
abbrev pub is_rejection : Apdu → Bool
is_rejection (apdus.InitResponse v) = not v.result
is_rejection _ = false

-- there is an answer, and it rejects the association
abbrev pub is_rejected : Option Answer → Bool
is_rejected None = false
is_rejected (Some answer) = is_rejection answer.reply

-- the target rejected the association, or the origin admitted Close
abbrev pub complete_in : Past → Bool
complete_in p = is_rejected (opening p) || list_any is_close_call p.admitted
