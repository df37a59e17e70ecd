-- The driver of one connection: it gives the calls for the connection's question.
use Rattle.std.specs.Prelude.{◌≡◌, ◌⊎◌, ℕ, ℤ, ◌+◌, ◌-◌, ◌<◌, ◌≤◌, Bool, true, false, ◌&&◌, if◌then◌else◌, List, [], ◌∷◌, map, length, Option, None, Some, Ok, Err}
use Rattle.std.specs.List.{find, flat_map}
use Rattle.zapdu.specs.declared.apdu.Apdu.{Apdu}
use Rattle.zapdu.specs.declared.apdu.Apdu.TheVariants as apdus
use Rattle.zplan.specs.Plan as plan
use Rattle.zplan.specs.Plan.{Operation, PlanEvent, RequestSent, ReplyAccepted, InitReply, SearchReply, asked_in, replies_in, outstanding_in, IsDue}
use Rattle.zplan.specs.Positions.{IsIn, IsWanted, first_of, up_to}
use Rattle.zplan.specs.Agenda.{Agenda, IsAgenda, AfterNoteSent, AfterNoteAnswered, SameAgenda, HasWaiting, whole_agenda}
use Rattle.zorigin.specs.declared.settings.Settings.{Settings}
use Rattle.zorigin.specs.declared.settings.Ask.{Ask}
use Rattle.zplan.specs.declared.range.Range.{Range}
use Rattle.zorigin.specs.declared.answer.Answer.{Answer}
use Rattle.zorigin.specs.declared.answer.Taken.{Taken}
use Rattle.zorigin.specs.declared.answer.Taken.TheVariants as taken
use Rattle.zorigin.specs.declared.refusal.CallRefused.{CallRefused}
use Rattle.zorigin.specs.declared.state.Outcome.TheVariants as outcomes
use Rattle.zorigin.specs.declared.refusal.Refused.{Refused}
use Rattle.zorigin.specs.Standings.{is_ready}
use Rattle.zorigin.specs.Standings as origin
use Rattle.zorigin.specs.Ranges.{are_ranges}
use Rattle.zplan.specs.Ranges.{natural, positions, span_of, IsApart}
use Rattle.zorigin.specs.Fitting.{records_in}
use Rattle.zorigin.specs.Changes.{options_in_force, outcome_in, unanswered}
use Rattle.zorigin.specs.Sending.{is_unsendable, search_request}
use Rattle.zorigin.specs.Calls.{refusal}
use Rattle.zorigin.specs.Replies.{verdict}
use Rattle.zorigin.specs.Log.{Log, Made, Got, Past, past, standing, state_of, opening, force_after, is_answer_to, search_in}
use Rattle.zoom_pool.specs.declared.call.Call.{Call}
use Rattle.zoom_pool.specs.declared.state.State.{State}
use Rattle.zoom_pool.specs.declared.state.State.TheVariants as states
use Rattle.zoom_pool.specs.declared.phase.Phase.{Phase}
use Rattle.zoom_pool.specs.declared.phase.Phase.TheVariants as phases
use Rattle.zoom_pool.specs.CallsOf.{call_of}
use Rattle.zoom_pool.specs.States.{state_as, is_stopped}
use Rattle.zoom_pool.specs.Driving.{can_search, can_present, counted, events_of, IsDrivenLog}
use Rattle.zoom_pool.specs.Steering.{Errand, IsFitErrand, IsNextCall, IsSteered, IsSteeredCall, may_call, skipped_in, complete_in, is_rejected, IsTried}

-- A driver: its errand; its phase; the most calls that can be made before a reply comes; whether the search was
-- skipped; whether the association was rejected or closed.
pub record DriverState : Type 0 where
  pub errand : Errand
  pub phase : Phase
  pub left : ℕ
  pub skipped : Bool
  pub complete : Bool

-- the most calls that can be made before a reply comes
abbrev pub left_in : ℕ → Phase → ℕ
left_in window phases.Fresh = 1
left_in window phases.Opening = 0
left_in window (phases.Opened present three) = 2
left_in window (phases.Searching present three) = 0
left_in window (phases.Counted three count) = window + 2
left_in window (phases.Asking agenda) = window + 2 - length agenda.waiting
left_in window phases.Done = 1
left_in window phases.Closed = 0

-- ---- what the log says at each phase

-- the events once Init was answered
abbrev pub opened_events : Bool → Bool → List PlanEvent
opened_events search three = ReplyAccepted plan.Init (InitReply search three) ∷ RequestSent plan.Init ∷ []

-- the events once the search was sent
abbrev pub searched_events : Bool → List PlanEvent
searched_events three = RequestSent plan.Search ∷ opened_events true three

-- the events once the search was answered with this count
abbrev pub found_events : Bool → ℕ → List PlanEvent
found_events three count = ReplyAccepted plan.Search (SearchReply (Some count)) ∷ searched_events three

-- there is an answer to Init
abbrev pub HasOpening : Past → Type 0
HasOpening p = (answer : Answer) × (opening p ≡ Some answer)

-- none of the lists begins at this position
abbrev pub IsFreeStart : ℕ → List (List ℕ) → Type 0
IsFreeStart first ls = (l : List ℕ) → IsIn l ls → first_of l ≡ first → ⊥

-- no two of the lists begin at the same position
abbrev pub HaveApartStarts : List (List ℕ) → Type 0
HaveApartStarts [] = Unit {0}
HaveApartStarts (l ∷ ls) = IsFreeStart (first_of l) ls × HaveApartStarts ls

-- each operation that was sent has a reply
abbrev pub AllAnswered : List PlanEvent → Type 0
AllAnswered events = (a : Operation) → IsIn a (asked_in events) → replies_in events a ≡ None → ⊥

-- the request for the search can be sent
abbrev pub CanBeSent : Ask → Past → Type 0
CanBeSent ask p = is_unsendable (search_request (force_after (opening p)).named 1 1 ask) ≡ false

-- `three` says whether version 3 is in force
abbrev pub HasVersion : Past → Bool → Type 0
HasVersion p three = (force_after (opening p)).v3 ≡ three

-- There is one search; it found `count` records, and Presents can ask for them.
pub record HasFound (ask : Ask) (p : Past) (three : Bool) (count : ℕ) : Type 0 where
  pub asked : flat_map search_in p.admitted ≡ unanswered 1 1 ask ∷ []
  pub answer : Answer
  pub answered : find (is_answer_to 1) p.accepted ≡ Some answer
  pub found : ℤ
  pub outcome : outcome_in answer.reply ≡ Some (outcomes.Found found)
  pub counts : natural found ≡ count
  pub shows : can_present p ≡ true
  pub version : HasVersion p three
  pub sendable : CanBeSent ask p

module _ (e : Errand) (settings : Settings) (log : Log) where
  -- the log as events of the plan
  abbrev pub events_at : List PlanEvent
  events_at = events_of e.ask settings log

  -- nothing was sent, and Init has no answer
  pub record AtFresh : Type 0 where
    pub events : events_at ≡ []
    pub opening : opening (past settings log) ≡ None

  -- Init was sent, and has no answer
  pub record AtOpening : Type 0 where
    pub events : events_at ≡ RequestSent plan.Init ∷ []
    pub opening : opening (past settings log) ≡ None

  -- Init was answered, and the search was not sent
  pub record AtOpened (present three : Bool) : Type 0 where
    pub search : Bool
    pub events : events_at ≡ opened_events search three
    pub can : is_ready (state_of (past settings log)) ≡ true → can_search e.ask (past settings log) ≡ search
    pub opening : HasOpening (past settings log)
    pub shows : can_present (past settings log) ≡ present
    pub version : HasVersion (past settings log) three

  -- the search was sent, and has no answer
  pub record AtSearching (present three : Bool) : Type 0 where
    pub events : events_at ≡ searched_events three
    pub opening : HasOpening (past settings log)
    pub shows : can_present (past settings log) ≡ present
    pub version : HasVersion (past settings log) three
    pub sendable : CanBeSent e.ask (past settings log)
    pub search : flat_map search_in (past settings log).admitted ≡ unanswered 1 1 e.ask ∷ []

  -- the search was answered with this count, and nothing was sent since
  pub record AtCounted (three : Bool) (count : ℕ) : Type 0 where
    pub events : events_at ≡ found_events three count
    pub opening : HasOpening (past settings log)
    pub set : HasFound e.ask (past settings log) three count

  -- the agenda is that of the events; Init and the search were answered
  pub record AtAsking (a : Agenda) : Type 0 where
    pub agenda : IsAgenda e.wanted e.step events_at a
    pub init : IsIn plan.Init (asked_in events_at)
    pub search : IsIn plan.Search (asked_in events_at)
    pub opened : replies_in events_at plan.Init ≡ None → ⊥
    pub count : ℕ
    pub found : replies_in events_at plan.Search ≡ Some (SearchReply (Some count))
    pub set : HasFound e.ask (past settings log) a.three count
    pub outstanding : outstanding_in events_at ≡ length a.waiting
    pub apart : HaveApartStarts a.waiting
    pub opening : HasOpening (past settings log)

  -- nothing is due, and each operation was answered; the search was tried
  pub record AtDone : Type 0 where
    pub none : (b : Operation) → IsDue e.wanted e.step events_at b → ⊥
    pub all : AllAnswered events_at
    pub outstanding : outstanding_in events_at ≡ 0
    pub opening : HasOpening (past settings log)
    pub tried : IsTried settings log

  -- each operation was answered, and no call can be made
  pub record AtClosed : Type 0 where
    pub all : AllAnswered events_at
    pub closed : may_call (state_of (past settings log)) ≡ false
    pub tried : is_rejected (opening (past settings log)) ≡ false → IsTried settings log
    pub opening : HasOpening (past settings log)

  -- the log agrees with this phase
  abbrev pub IsAtPhase : Phase → Type 0
  IsAtPhase phases.Fresh = AtFresh
  IsAtPhase phases.Opening = AtOpening
  IsAtPhase (phases.Opened present three) = AtOpened present three
  IsAtPhase (phases.Searching present three) = AtSearching present three
  IsAtPhase (phases.Counted three count) = AtCounted three count
  IsAtPhase (phases.Asking agenda) = AtAsking agenda
  IsAtPhase phases.Done = AtDone
  IsAtPhase phases.Closed = AtClosed

-- Each call of the log was next when it was made, or was the skipped search; the driver agrees with the log.
pub record IsDriver (e : Errand) (settings : Settings) (log : Log) (d : DriverState) : Type 0 where
  pub steered : IsSteered e settings log
  pub driven : IsDrivenLog e.ask e.wanted e.step settings log
  pub errand : d.errand ≡ e
  pub fit : IsFitErrand e settings
  pub wanted : IsWanted e.wanted
  pub steps : 0 < e.step
  pub room : 0 < e.window
  pub skipped : d.skipped ≡ skipped_in settings log
  pub complete : d.complete ≡ complete_in (past settings log)
  pub left : d.left ≡ left_in e.window d.phase
  pub few : d.left ≤ 3 + e.window
  pub at : IsAtPhase e settings log d.phase

-- ---- clauses, each for every log that agrees with the driver

-- each log that agrees with the old driver agrees with the new one; `left` is unchanged
abbrev pub SameDriver : DriverState → DriverState → Type 0
SameDriver old new =
    ((e : Errand) (settings : Settings) (log : Log) → IsDriver e settings log old → IsDriver e settings log new)
    × (new.left ≡ old.left)

-- the phase at which the driver gives this call, and what holds then
abbrev pub IsOffered : Errand → Settings → Log → Phase → origin.Call → Type 0
IsOffered e settings log phase origin.Init = (phase ≡ phases.Fresh) × IsNextCall e settings log origin.Init
IsOffered e settings log phase (origin.Search op set ask) =
    (present : Bool) × (three : Bool) × (phase ≡ phases.Opened present three)
    × (is_ready (state_of (past settings log)) ≡ true) × (op ≡ 1) × (set ≡ 1) × (ask ≡ e.ask)
IsOffered e settings log phase (origin.Present op set ranges) =
    (a : Agenda) × (phase ≡ phases.Asking a) × (a.ready ≡ true)
    × IsNextCall e settings log (origin.Present op set ranges)
IsOffered e settings log phase origin.Close =
    ((phase ≡ phases.Done) ⊎ ((a : Agenda) × (phase ≡ phases.Asking a))) × IsNextCall e settings log origin.Close

-- The driver gave this call: it is next and the origin admits it, or it is the search, which is skipped.
pub record IsOffer (e : Errand) (settings : Settings) (log : Log) (d : DriverState) (call : origin.Call) : Type 0 where
  pub knows : IsDriver e settings log d
  pub steers : IsSteeredCall e settings log (refusal (standing (past settings log)) call) call
  pub offered : IsOffered e settings log d.phase call

-- No call is next; once the association was accepted, the search was tried.
pub record IsIdleLog (e : Errand) (settings : Settings) (log : Log) : Type 0 where
  pub none : (call : origin.Call) → IsNextCall e settings log call → ⊥
  pub tried : is_stopped (state_as (state_of (past settings log))) ≡ false → HasOpening (past settings log)
      → IsTried settings log

-- the call that the driver gives in this state; if it gives none, no call is next
abbrev pub NextCallResult : State → Option Call → DriverState → Type 0
NextCallResult state None d =
    (e : Errand) (settings : Settings) (log : Log) → IsDriver e settings log d
    → state ≡ state_as (state_of (past settings log)) → IsIdleLog e settings log
NextCallResult state (Some call) d =
    (e : Errand) (settings : Settings) (log : Log) → IsDriver e settings log d
    → state ≡ state_as (state_of (past settings log)) → IsOffer e settings log d (call_of call)

-- the origin admitted the call: the driver agrees with the longer log, and fewer calls are left
abbrev pub NoteSentStep : origin.Call → DriverState → DriverState → Type 0
NoteSentStep call old new =
    (e : Errand) (settings : Settings) (log : Log) → IsOffer e settings log old call
    → refusal (standing (past settings log)) call ≡ None
    → IsDriver e settings (Made call ∷ log) new × (new.left < old.left)

-- the origin refused the call: the driver agrees with the longer log, and fewer calls are left; another may be
-- next
abbrev pub NoteRefusedStep : DriverState → DriverState → Type 0
NoteRefusedStep old new =
    (e : Errand) (settings : Settings) (log : Log) (call : origin.Call) (reason : CallRefused)
    → IsOffer e settings log old call → refusal (standing (past settings log)) call ≡ Some reason
    → IsDriver e settings (Made call ∷ log) new × (new.left < old.left)

-- the origin accepted a reply: the driver agrees with the longer log
abbrev pub NoteReplyStep : Taken → DriverState → DriverState → Type 0
NoteReplyStep taken old new =
    (e : Errand) (settings : Settings) (log : Log) (reply : Apdu) → IsDriver e settings log old
    → verdict (standing (past settings log)) reply ≡ Ok taken → IsDriver e settings (Got reply ∷ log) new

-- a reply that the origin refuses changes nothing that a driver knows
abbrev pub RefusedLaw : Type 0
RefusedLaw =
    (e : Errand) (settings : Settings) (log : Log) (d : DriverState) (reply : Apdu) (reason : Refused)
    → IsDriver e settings log d → verdict (standing (past settings log)) reply ≡ Err reason
    → IsDriver e settings (Got reply ∷ log) d

-- ---- the driver's parts

-- the reply rejected the association
abbrev pub is_rejection_of : Taken → Bool
is_rejection_of (taken.Rejected answer) = true
is_rejection_of _ = false

-- the Present of set 1 for these ranges; its operation has the number of its first position plus 1
abbrev pub IsRangesCall : List Range → origin.Call → Type 0
IsRangesCall list call =
    (call ≡ origin.Present (first_of (positions list) + 1) 1 list) × (are_ranges list ≡ true)

-- the phase is not Counted, so no schedule has to be made
abbrev pub IsNotCounted : Phase → Type 0
IsNotCounted (phases.Counted three count) = ⊥
IsNotCounted _ = Unit {0}

-- how many Presents may be outstanding; none if no call can be made
abbrev pub room_for : ℕ → State → Option ℕ
room_for window (states.Ready v3 concurrent named) = Some (if concurrent then window else 1)
room_for window _ = None

-- the state is Fresh
abbrev pub is_fresh_state : State → Bool
is_fresh_state states.Fresh = true
is_fresh_state _ = false

-- The call is the Present that is due first, and there is room for it.
pub record IsFirstPresent (room : ℕ) (a : Agenda) (call : origin.Call) : Type 0 where
  pub ranges : List Range
  pub others : List (List ℕ)
  pub is : call ≡ origin.Present (first_of (positions ranges) + 1) 1 ranges
  pub due : a.due ≡ positions ranges ∷ others
  pub asked : are_ranges ranges ≡ true
  -- a gap is between any two ranges, so they are the fewest
  pub gaps : IsApart 1 (map span_of ranges)
  -- one range, if version 3 is not in force
  pub single : a.three ≡ false → length ranges ≡ 1
  pub ready : a.ready ≡ true
  pub fits : length a.waiting < room

-- The call is Close; no Present is due and none is outstanding.
pub record IsIdleClose (a : Agenda) (call : origin.Call) : Type 0 where
  pub is : call ≡ origin.Close
  pub none : a.due ≡ []
  pub idle : length a.waiting ≡ 0

-- the next call while Presents are asked for; none if there is no room, or nothing is due and a reply is awaited
abbrev pub NextAskedResult : ℕ → Agenda → Option Call → Type 0
NextAskedResult room a None = (room ≤ length a.waiting) ⊎ ((a.due ≡ []) × (0 < length a.waiting))
NextAskedResult room a (Some call) = IsFirstPresent room a (call_of call) ⊎ IsIdleClose a (call_of call)

-- this call is given if the condition holds, and none if it does not
abbrev pub IsGivenIf : Bool → origin.Call → Option Call → Type 0
IsGivenIf true call None = ⊥
IsGivenIf true call (Some given) = call_of given ≡ call
IsGivenIf false call None = Unit {0}
IsGivenIf false call (Some given) = ⊥

-- calls can be made
abbrev pub has_room : Option ℕ → Bool
has_room None = false
has_room (Some room) = true

-- the next call while Presents are asked for; none if no call can be made
abbrev pub IsGivenInRoom : Option ℕ → Agenda → Option Call → Type 0
IsGivenInRoom None a given = given ≡ None
IsGivenInRoom (Some room) a given = NextAskedResult room a given

-- the call that is given at a phase
abbrev pub GiveResult : Ask → ℕ → State → Phase → Option Call → Type 0
GiveResult ask window state phases.Fresh given = IsGivenIf (is_fresh_state state) origin.Init given
GiveResult ask window state phases.Opening given = given ≡ None
GiveResult ask window state (phases.Opened present three) given =
    IsGivenIf (has_room (room_for window state)) (origin.Search 1 1 ask) given
GiveResult ask window state (phases.Searching present three) given = given ≡ None
GiveResult ask window state (phases.Counted three count) given = ⊥
GiveResult ask window state (phases.Asking a) given = IsGivenInRoom (room_for window state) a given
GiveResult ask window state phases.Done given = IsGivenIf (has_room (room_for window state)) origin.Close given
GiveResult ask window state phases.Closed given = given ≡ None

-- the same phase; of two agendas, the lists that are due and the lists that wait are the same
abbrev pub IsSamePhase : Phase → Phase → Type 0
IsSamePhase (phases.Asking a) (phases.Asking b) = SameAgenda a b
IsSamePhase (phases.Asking a) _ = ⊥
IsSamePhase old new = new ≡ old

-- once the count is known, the agenda of all wanted positions up to it is made; any other phase is unchanged
abbrev pub IsPrepared : List ℕ → ℕ → Phase → Phase → Type 0
IsPrepared wanted step (phases.Counted three count) new =
    new ≡ phases.Asking (whole_agenda three step (up_to count wanted))
IsPrepared wanted step old new = new ≡ old

-- The agenda is made if it is due; the rest is unchanged.
pub record PrepareStep (old new : DriverState) : Type 0 where
  pub phase : IsPrepared old.errand.wanted old.errand.step old.phase new.phase
  pub errand : new.errand ≡ old.errand
  pub left : new.left ≡ old.left
  pub skipped : new.skipped ≡ old.skipped
  pub complete : new.complete ≡ old.complete

-- if a Present was ready, it was sent; if none was, nothing changed
abbrev pub IsSentAgenda : Bool → Agenda → Phase → Type 0
IsSentAgenda true a (phases.Asking b) = AfterNoteSent a b
IsSentAgenda true a _ = ⊥
IsSentAgenda false a new = new ≡ phases.Asking a

-- the phase after a call that the origin admitted: Init and Close set it at any phase, a Search and a Present only
-- where the driver gives them
abbrev pub PhaseAfterCall : origin.Call → Phase → Phase → Type 0
PhaseAfterCall origin.Init old new = new ≡ phases.Opening
PhaseAfterCall (origin.Search op set ask) (phases.Opened present three) new = new ≡ phases.Searching present three
PhaseAfterCall (origin.Present op set ranges) (phases.Asking a) new = IsSentAgenda a.ready a new
PhaseAfterCall origin.Close old new = new ≡ phases.Closed
PhaseAfterCall _ old new = new ≡ old

-- ---- replies

-- the phase after the Init response
abbrev pub opened_phase : Apdu → Phase
opened_phase (apdus.InitResponse v) = phases.Opened (options_in_force v).present (options_in_force v).v3
opened_phase _ = phases.Closed

-- the phase after the search response: Done if there is no count
abbrev pub counted_phase : Bool → Option ℕ → Phase
counted_phase three None = phases.Done
counted_phase three (Some count) = phases.Counted three count

-- if a list that begins at `first` is awaited, it was answered with so many records; if not, nothing changed
abbrev pub IsAnsweredAgenda : ℕ → ℕ → Agenda → Phase → Type 0
IsAnsweredAgenda first records a (phases.Asking b) =
    (HasWaiting first a → AfterNoteAnswered first records a b) × ((HasWaiting first a → ⊥) → b ≡ a)
IsAnsweredAgenda first records a _ = ⊥

-- The phase after a response; the number of a Present's operation is its first position plus 1. A response that the
-- phase does not wait for changes nothing.
abbrev pub AnswerStep : ℕ → Apdu → Phase → Phase → Type 0
AnswerStep op (apdus.SearchResponse v) (phases.Searching present three) new =
    new ≡ counted_phase three (counted (v.search_status && present) v.result_count)
AnswerStep op (apdus.PresentResponse v) (phases.Asking a) new =
    IsAnsweredAgenda (op - 1) (length (records_in v.records)) a new
AnswerStep op _ old new = new ≡ old

-- the phase after the origin accepted a reply
abbrev pub TakenStep : Taken → Phase → Phase → Type 0
TakenStep (taken.Opened answer) old new = new ≡ opened_phase answer.reply
TakenStep (taken.Rejected answer) old new = new ≡ phases.Closed
TakenStep (taken.Answered answer) old new = AnswerStep answer.asked.op answer.reply old new
TakenStep taken.Closed old new = new ≡ old
