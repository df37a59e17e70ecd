-- The table of calls: which are refused, row by row, and the result of one that is not refused (Z39.50-2003, 3.2.1.1,
-- 3.2.2.1, 3.2.3.1 and 3.2.11.1; concurrent operations: 3.5).
use Rattle.std.specs.Prelude.{◌≡◌, ℕ, pos, int_lt, nat_eq, nat_le, ◌==◌, ◌-◌, Bool, false, not, ◌||◌, ◌&&◌, if◌then◌else◌, List, [], ◌∷◌, length, slice_get, is_some, is_none, Option, Some, None, Result, Ok, Err}
use Rattle.std.specs.List.{list_any}
use Rattle.zapdu.specs.declared.apdu.Apdu.{Apdu}
use Rattle.zorigin.specs.declared.settings.Ask.{Ask}
use Rattle.zorigin.specs.declared.answer.Sent.{Sent}
use Rattle.zorigin.specs.declared.refusal.CallRefused.{CallRefused}
use Rattle.zorigin.specs.declared.refusal.CallRefused.TheVariants as refused
use Rattle.zorigin.specs.declared.state.Outcome.{Outcome}
use Rattle.zorigin.specs.declared.state.Outcome.TheVariants as outcomes
use Rattle.zorigin.specs.declared.state.Searched.{Searched}
use Rattle.zorigin.specs.Standings.{Call, Init, Search, Present, Close, Standing, is_fresh, is_ready, is_found, search_of}
use Rattle.zorigin.specs.Fitting.{first_row, is_empty}
use Rattle.zorigin.specs.Ranges.{are_ranges, is_past}
use Rattle.zplan.specs.Ranges.{positions}
use Rattle.zorigin.specs.Sending.{request_of, is_unsendable, sent_of, IsEncodedApdu}

-- Init is not called in Fresh, or another call not in Ready
abbrev pub wrong_state : Standing → Call → Bool
wrong_state s Init = not (is_fresh s.state)
wrong_state s _ = not (is_ready s.state)

-- the search or present option is not in force; or a Present has several ranges, and version 3 is not in force
abbrev pub not_offered : Standing → Call → Bool
not_offered s (Search op set ask) = not s.force.search
not_offered s (Present op set ranges) = not s.force.present || (nat_le 2 (length ranges) && not s.force.v3)
not_offered s _ = false

-- an earlier admitted call had this number, which is 0 for Init
abbrev pub is_used : Standing → ℕ → Bool
is_used s op = list_any (nat_eq op) s.used

-- the number of the call's operation was used
abbrev pub op_used : Standing → Call → Bool
op_used s Init = is_used s 0
op_used s (Search op set ask) = is_used s op
op_used s (Present op set ranges) = is_used s op
op_used s _ = false

-- an earlier admitted search had this set
abbrev pub set_used : Standing → Call → Bool
set_used s (Search op set ask) = is_some (search_of s.searches set)
set_used s _ = false

-- no admitted search had this set
abbrev pub set_unknown : Standing → Call → Bool
set_unknown s (Present op set ranges) = is_none (search_of s.searches set)
set_unknown s _ = false

-- the search, if there is one, is unanswered or failed
abbrev pub is_unready : Option Searched → Bool
is_unready None = false
is_unready (Some searched) = not (is_found searched.outcome)

-- the search of a Present's set is unanswered or failed
abbrev pub set_not_ready : Standing → Call → Bool
set_not_ready s (Present op set ranges) = is_unready (search_of s.searches set)
set_not_ready s _ = false

-- the latest search made the set
abbrev pub is_latest_set : ℕ → Option (ℕ × Searched) → Bool
is_latest_set set None = false
is_latest_set set (Some latest) = latest.0 == set

-- the last search that was admitted made the set; false if none was admitted
abbrev pub is_latest : Standing → ℕ → Bool
is_latest s set = is_latest_set set (slice_get s.searches (length s.searches - 1))

-- named result sets are not in force, and the set is not that of the latest search
abbrev pub set_replaced : Standing → Call → Bool
set_replaced s (Present op set ranges) = not s.force.named && not (is_latest s set)
set_replaced s _ = false

-- set 0, a negative bound, or a large bound not above the small one
abbrev pub bad_search_bounds : ℕ → Ask → Bool
bad_search_bounds set ask =
    set == 0 || int_lt ask.small (pos 0) || int_lt ask.large (pos 0) || int_lt ask.medium (pos 0)
    || not (int_lt ask.small ask.large)

-- a position is above the count that the search found
abbrev pub past_outcome : List ℕ → Option Outcome → Bool
past_outcome asked (Some (outcomes.Found count)) = is_past count asked
past_outcome asked _ = false

-- a position is above the count of the search, if it has one
abbrev pub past_count : List ℕ → Option Searched → Bool
past_count asked None = false
past_count asked (Some searched) = past_outcome asked searched.outcome

-- a search is of set 0 or has wrong bounds; or a Present's ranges can't be asked for, or pass the count
abbrev pub out_of_range : Standing → Call → Bool
out_of_range s (Search op set ask) = bad_search_bounds set ask
out_of_range s (Present op set ranges) =
    not (are_ranges ranges) || past_count (positions ranges) (search_of s.searches set)
out_of_range s _ = false

-- an operation is outstanding, and no second one may be: concurrent operations are not in force, or the call is a
-- search that would replace a set
abbrev pub busy : Standing → Call → Bool
busy s (Search op set ask) =
    not (is_empty s.outstanding) && (not s.force.concurrent || (not s.force.named && not (is_empty s.searches)))
busy s (Present op set ranges) = not (is_empty s.outstanding) && not s.force.concurrent
busy s _ = false

-- the request can't be sent; a Close always can
abbrev pub is_unsendable_request : Option Apdu → Bool
is_unsendable_request None = false
is_unsendable_request (Some apdu) = is_unsendable apdu

-- the call's request can't be sent
abbrev pub unsendable : Standing → Call → Bool
unsendable s Close = false
unsendable s call = is_unsendable_request (request_of s call)

-- the rows but that of the request itself
abbrev pub early_rows : Standing → Call → List (Bool × CallRefused)
early_rows s call =
    (wrong_state s call, refused.WrongState)
    ∷ (not_offered s call, refused.NotOffered)
    ∷ (op_used s call, refused.OpUsed)
    ∷ (set_used s call, refused.SetUsed)
    ∷ (set_unknown s call, refused.SetUnknown)
    ∷ (set_not_ready s call, refused.SetNotReady)
    ∷ (set_replaced s call, refused.SetReplaced)
    ∷ (out_of_range s call, refused.OutOfRange)
    ∷ (busy s call, refused.Busy)
    ∷ []

-- why the call is refused, its request aside
abbrev pub early_refusal : Standing → Call → Option CallRefused
early_refusal s call = first_row (early_rows s call)

-- the reason, or else that the request can't be sent
abbrev pub or_unsendable : Bool → Option CallRefused → Option CallRefused
or_unsendable unsendable (Some reason) = Some reason
or_unsendable unsendable None = if unsendable then Some refused.Unsendable else None

-- why the call is refused: the first row that is true; none if the call is admitted
unfoldable pub refusal : Standing → Call → Option CallRefused
refusal s call = or_unsendable (unsendable s call) (early_refusal s call)

-- the result of a call: the request that it sends, or why it is refused
abbrev pub call_result_by : Option CallRefused → Option Apdu → Result Sent CallRefused
call_result_by (Some reason) request = Err reason
call_result_by None (Some apdu) = Ok (sent_of apdu)
call_result_by None None = Err refused.SetUnknown

-- the result of a call on an origin
abbrev pub call_result : Standing → Call → Result Sent CallRefused
call_result s call = call_result_by (refusal s call) (request_of s call)

-- the result of sending the request of a call, memory aside
abbrev pub IsSendResultOf : Option Apdu → Result Sent CallRefused → Type 0
IsSendResultOf None result = result ≡ Err refused.SetUnknown
IsSendResultOf (Some apdu) result = IsEncodedApdu apdu result

-- the result of sending the request of a call on an origin, memory aside
abbrev pub IsSendResultFor : Standing → Call → Result Sent CallRefused → Type 0
IsSendResultFor s call result = IsSendResultOf (request_of s call) result
