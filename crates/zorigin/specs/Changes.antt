-- How an admitted call and a taken APDU change an origin (Z39.50-2003, 3.2 and 3.4). Public clauses use `AfterRefusal`
-- alone; all others are about logs. Log.antt imports from here what one call or reply changes.
use Rattle.std.specs.Prelude.{◌≡◌, ℕ, nat_eq, ◌==◌, Bool, true, false, slice_index_or, if◌then◌else◌, List, Option, Some, None, Result, Ok, Err}
use Rattle.std.specs.Map.{set_value}
use Rattle.indexmap.specs.IndexMap.{insert_entry, shift_remove_entry}
use Rattle.indexmap.specs.IndexSet.{insert_key}
use Rattle.zapdu.specs.declared.apdu.Apdu.{Apdu}
use Rattle.zapdu.specs.declared.apdu.Apdu.TheVariants as apdus
use Rattle.zapdu.specs.declared.productions.init_response.InitResponse.{InitResponse}
use Rattle.zplan.specs.declared.range.Range.{Range}
use Rattle.zorigin.specs.declared.settings.Ask.{Ask}
use Rattle.zorigin.specs.declared.answer.Asked.{Asked}
use Rattle.zorigin.specs.declared.answer.What.TheVariants as what
use Rattle.zorigin.specs.declared.answer.Taken.{Taken}
use Rattle.zorigin.specs.declared.answer.Taken.TheVariants as taken
use Rattle.zorigin.specs.declared.refusal.CallRefused.{CallRefused}
use Rattle.zorigin.specs.declared.refusal.Refused.{Refused}
use Rattle.zorigin.specs.declared.refusal.Refused.TheVariants as refused
use Rattle.zorigin.specs.declared.state.State.TheVariants as states
use Rattle.zorigin.specs.declared.state.InForce.{InForce}
use Rattle.zorigin.specs.declared.state.Outcome.{Outcome}
use Rattle.zorigin.specs.declared.state.Outcome.TheVariants as outcomes
use Rattle.zorigin.specs.declared.state.Searched.{Searched}
use Rattle.zorigin.specs.Standings.{Call, Init, Search, Present, Close, Standing, ready, search_of}
use Rattle.zorigin.specs.Calls.{refusal}

-- the operation of Init
abbrev pub init_asked : Asked
init_asked = record { op = 0; set = 0; what = what.Init }

-- the operation of a search, by its number and its set
abbrev pub search_asked : ℕ → ℕ → Asked
search_asked op set = record { op = op; set = set; what = what.Search }

-- the operation of a Present, by its number, its set and the ranges of its positions
abbrev pub present_asked : ℕ → ℕ → List Range → Asked
present_asked op set ranges = record { op = op; set = set; what = what.Present ranges }

-- the record of a search that is not answered yet
abbrev pub unanswered : ℕ → ℕ → Ask → Searched
unanswered op set ask = record { op = op; set = set; syntax = ask.syntax; elements = ask.elements; outcome = None }

-- ---- calls

-- the origin with one admitted operation more
abbrev pub with_asked : Standing → Asked → Standing
with_asked s asked = record s {
  used = insert_key nat_eq s.used asked.op;
  outstanding = insert_entry nat_eq s.outstanding asked.op asked;
}

-- the origin after a call that is admitted
abbrev pub admitted_at : Standing → Call → Standing
admitted_at s Init = record (with_asked s init_asked) { state = states.Initialising }
admitted_at s (Search op set ask) = record (with_asked s (search_asked op set)) {
  searches = insert_entry nat_eq s.searches set (unanswered op set ask);
}
admitted_at s (Present op set ranges) = with_asked s (present_asked op set ranges)
admitted_at s Close = record s { state = states.Closing }

-- the origin after a call that is refused for this reason, or admitted if there is none
abbrev pub admitted_unless : Standing → Call → Option CallRefused → Standing
admitted_unless s call None = admitted_at s call
admitted_unless s call (Some reason) = s

-- the origin after a call
abbrev pub called_at : Standing → Call → Standing
called_at s call = admitted_unless s call (refusal s call)

-- ---- replies

-- what a response to Init puts in force: the options and the version that it has, by the bits of Options and of
-- ProtocolVersion (Z39.50-2003, 4.1); a bit that is left out is not set
abbrev pub options_in_force : InitResponse → InForce
options_in_force v = record {
  search = slice_index_or v.options 0 false;
  present = slice_index_or v.options 1 false;
  v3 = slice_index_or v.protocol_version 2 false;
  concurrent = slice_index_or v.options 13 false;
  named = slice_index_or v.options 14 false;
}

-- the outcome of a search, by the reply to it
abbrev pub outcome_in : Apdu → Option Outcome
outcome_in (apdus.SearchResponse v) =
    if v.search_status then Some (outcomes.Found v.result_count) else Some outcomes.Failed
outcome_in _ = None

-- the search, with the outcome if it is the operation that was answered
abbrev pub noted_if : Bool → Option Outcome → Searched → Searched
noted_if true outcome searched = record searched { outcome = outcome }
noted_if false outcome searched = searched

-- the searches after the operation was answered, given the search of its set; unchanged if there is none
abbrev pub noted_at : Asked → Option Outcome → List (ℕ × Searched) → Option Searched → List (ℕ × Searched)
noted_at asked outcome searches None = searches
noted_at asked outcome searches (Some searched) =
    set_value (nat_eq asked.set) searches (noted_if (searched.op == asked.op) outcome searched)

-- the searches after the operation was answered: the search of its set has the outcome, if it is this operation
abbrev pub noted : Asked → Option Outcome → List (ℕ × Searched) → List (ℕ × Searched)
noted asked outcome searches = noted_at asked outcome searches (search_of searches asked.set)

-- the operation is no longer outstanding
abbrev pub without_operation : Standing → ℕ → Standing
without_operation s op = record s { outstanding = shift_remove_entry (nat_eq op) s.outstanding }

-- the origin after a response to Init that accepts the association
abbrev pub opened_at : Standing → Apdu → Standing
opened_at s (apdus.InitResponse v) = record s { state = ready (options_in_force v); force = options_in_force v }
opened_at s _ = s

-- The origin after a refused APDU: it has failed for the reason, and is otherwise unchanged. After `WrongState` and
-- `Memory` it is wholly unchanged.
abbrev pub refused_at : Standing → Refused → Standing
refused_at s refused.WrongState = s
refused_at s refused.Memory = s
refused_at s reason = record s { state = states.Failed reason }

-- the origin after a verdict
abbrev pub settled_at : Standing → Result Taken Refused → Standing
settled_at s (Ok (taken.Opened answer)) = opened_at (without_operation s answer.asked.op) answer.reply
settled_at s (Ok (taken.Rejected answer)) = record (without_operation s answer.asked.op) { state = states.Closed }
settled_at s (Ok (taken.Answered answer)) = record (without_operation s answer.asked.op) {
  searches = noted answer.asked (outcome_in answer.reply) s.searches;
}
settled_at s (Ok taken.Closed) = record s { state = states.Closed }
settled_at s (Err reason) = refused_at s reason

-- the origin after an APDU with this result, if the result is a refusal
abbrev pub AfterRefusal : Standing → Result Taken Refused → Standing → Type 0
AfterRefusal old (Ok taken) new = Unit {0}
AfterRefusal old (Err reason) new = new ≡ refused_at old reason
