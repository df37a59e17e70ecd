-- Connections that are driven, each for one question, as contracts see them; and the histories that can have left
-- them.
use Rattle.std.specs.Prelude.{◌≡◌, ◌↔◌, ℕ, ◌+◌, ◌<◌, ◌≤◌, Bool, true, false, List, [], ◌∷◌, ◌++◌, map, length, slice_get, Option, None, Some, Result, Ok, Err}
use Rattle.zorigin.specs.declared.settings.Settings.{Settings}
use Rattle.zorigin.specs.Standings.{Call}
use Rattle.zoom_questions.specs.declared.question.Question.{Question}
use Rattle.zoom_questions.specs.declared.question.MetaSettings.{MetaSettings}
use Rattle.zoom_pool.specs.declared.meta.Advance.{Advance}
use Rattle.zoom_pool.specs.declared.meta.Advance.TheVariants as stages
use Rattle.zoom_pool.specs.declared.step.Outcome.{Outcome}
use Rattle.zoom_pool.specs.declared.step.Outcome.TheVariants as outcome
use Rattle.zoom_pool.specs.declared.step.TakeError.{TakeError}
use Rattle.zoom_pool.specs.States.{is_stopped}
use Rattle.zoom_pool.specs.Inputs.{Input}
use Rattle.zoom_pool.specs.Transcripts.{Transcript, IsTranscript, Event, Called, Took, after_take, outcome_of, past_of, state_at}
use Rattle.zoom_pool.specs.Links.{Links}
use Rattle.zoom_pool.specs.History.{History, events_on, AfterPartial, partial_after}
use Rattle.zoom_questions.specs.Askable.{AreAskable, AreFit}
use Rattle.zoom_pool.specs.Steering.{Errand, errand_with, errand_of, IsNextCall, IsTried, skipped_in, complete_in}
use Rattle.zoom_pool.specs.Drivers.{DriverState, IsDriver, HasOpening, IsOffer, NoteReplyStep}

-- A pool, and the driver of each of its connections, by number.
pub record MetaLinks : Type 0 where
  pub pool : Links
  pub drivers : List DriverState

-- the settings of each connection's origin
abbrev pub settings_of : MetaSettings → Settings
settings_of s = record { name = s.name }

-- each connection has a driver for its question, which agrees with its log
pub record AreDriven (questions : List Question) (s : MetaSettings) (h : History) (drivers : List DriverState)
    : Type 0 where
  pub size : length drivers ≡ length questions
  pub each : (c : ℕ) (q : Question) (d : DriverState) (p : Transcript)
      → slice_get questions c ≡ Some q → slice_get drivers c ≡ Some d → IsTranscript (settings_of s) (events_on c h) p
      → IsDriver (errand_of s q) p.settings p.log d

-- The history can have left the pool, and each connection is driven for its question. Some facts of the next messages
-- of the connections `partial` may be known, as Takes of them found no memory.
pub record MetaAfterPartial
    (questions : List Question) (s : MetaSettings) (partial : List ℕ) (h : History) (meta : MetaLinks)
    : Type 0 where
  pub fit : AreFit s
  pub askable : AreAskable questions
  pub pool : AfterPartial (settings_of s) partial h meta.pool
  pub driven : AreDriven questions s h meta.drivers
  pub size : length meta.pool.connections ≡ length questions

-- the same, and no connection is in `partial`: no Take that found no memory is left to be completed
abbrev pub MetaAfter : List Question → MetaSettings → History → MetaLinks → Type 0
MetaAfter questions s h meta = MetaAfterPartial questions s [] h meta

-- each driver is new, for its question and an empty log
abbrev pub AreNewDrivers : List Question → ℕ → ℕ → List DriverState → Type 0
AreNewDrivers [] step window [] = Unit {0}
AreNewDrivers (q ∷ qs) step window (d ∷ ds) =
    ((settings : Settings) → length settings.name ≤ 2000000 → IsDriver (errand_with q step window) settings [] d)
    × AreNewDrivers qs step window ds
AreNewDrivers _ step window _ = ⊥

-- each history that can have left `old`, with this event of `c` added, can have left `new`
abbrev pub MetaRecorded : ℕ → Event → MetaLinks → MetaLinks → Type 0
MetaRecorded c event old new =
    (questions : List Question) (s : MetaSettings) (partial : List ℕ) (h : History)
    → MetaAfterPartial questions s partial h old → MetaAfterPartial questions s partial ((c, event) ∷ h) new

-- each history that can have left `old`, with a Take of `c` added, can have left `new`; the Take completes an earlier
-- one of `c` that found no memory, unless the connection is stopped
abbrev pub MetaTakeStep : ℕ → MetaLinks → MetaLinks → Type 0
MetaTakeStep c old new =
    (questions : List Question) (s : MetaSettings) (partial : List ℕ) (h : History)
    (a : MetaAfterPartial questions s partial h old)
    → MetaAfterPartial questions s (partial_after c (a.pool.transcript c) partial) ((c, Took) ∷ h) new

-- a Take of `c` found no memory: the history is unchanged
abbrev pub MetaIncompleteTake : ℕ → MetaLinks → MetaLinks → Type 0
MetaIncompleteTake c old new =
    (questions : List Question) (s : MetaSettings) (partial : List ℕ) (h : History)
    → MetaAfterPartial questions s partial h old → MetaAfterPartial questions s (c ∷ partial) h new

-- the driver agrees with the log after a Take with this outcome
abbrev pub DriverTakeStep : Result Outcome TakeError → DriverState → DriverState → Type 0
DriverTakeStep result old new =
    (e : Errand) (p : Transcript) (input : Input) → IsDriver e p.settings p.log old → result ≡ outcome_of p input
    → IsDriver e (after_take p input).settings (after_take p input).log new

-- the driver notes what the origin took; if it took nothing, the driver is unchanged
abbrev pub NoteTakeStep : Outcome → DriverState → DriverState → Type 0
NoteTakeStep (outcome.Took taken) old new = NoteReplyStep taken old new
NoteTakeStep _ old new = new ≡ old

-- ---- calls that are due

-- the calls, newest first, as events of the connection
abbrev pub call_events : ℕ → List Call → History
call_events c calls = map (λ call. (c, Called call)) calls

-- unless the connection is stopped, no call is next
abbrev pub IsIdleUnlessStopped : Errand → Transcript → Type 0
IsIdleUnlessStopped e p = is_stopped (state_at p) ≡ false → (call : Call) → IsNextCall e p.settings p.log call → ⊥

-- unless the connection is stopped, the search was admitted or skipped once Init was answered
abbrev pub IsSearchTried : Transcript → Type 0
IsSearchTried p = is_stopped (state_at p) ≡ false → HasOpening (past_of p) → IsTried p.settings p.log

-- These calls of the connection were made, each the next one or the search that is skipped. The origin admitted
-- `n` of them.
pub record Progress
    (questions : List Question) (s : MetaSettings) (partial : List ℕ) (c : ℕ) (h : History) (n : ℕ) (new : MetaLinks)
    : Type 0 where
  pub calls : List Call
  pub after : MetaAfterPartial questions s partial (call_events c calls ++ h) new
  pub count : (p q : Transcript) → IsTranscript (settings_of s) (events_on c h) p
      → IsTranscript (settings_of s) (events_on c (call_events c calls ++ h)) q
      → length (past_of q).admitted ≡ length (past_of p).admitted + n

-- What driving a connection did: calls were made, and now none is next; the search was tried.
pub record CompleteDrive
    (questions : List Question) (s : MetaSettings) (partial : List ℕ) (c : ℕ) (h : History) (n : ℕ) (new : MetaLinks)
    : Type 0 where
  pub progress : Progress questions s partial c h n new
  pub rests : (question : Question) (q : Transcript) → slice_get questions c ≡ Some question
      → IsTranscript (settings_of s) (events_on c (call_events c progress.calls ++ h)) q
      → IsIdleUnlessStopped (errand_of s question) q
  pub tried : (q : Transcript) → IsTranscript (settings_of s) (events_on c (call_events c progress.calls ++ h)) q
      → IsSearchTried q

-- what driving a connection did; if no memory was found, some calls were made
abbrev pub DriveResultAt
    : {E : Type 0} → List Question → MetaSettings → List ℕ → ℕ → History → Result ℕ E → MetaLinks → Type 0
DriveResultAt questions s partial c h (Ok n) new = CompleteDrive questions s partial c h n new
DriveResultAt questions s partial c h (Err e) new = (n : ℕ) × Progress questions s partial c h n new

-- the same for each history that can have left `old`
abbrev pub DriveResult : {E : Type 0} → ℕ → Result ℕ E → MetaLinks → MetaLinks → Type 0
DriveResult c result old new =
    (questions : List Question) (s : MetaSettings) (partial : List ℕ) (h : History)
    → MetaAfterPartial questions s partial h old → DriveResultAt questions s partial c h result new

-- ---- one call

-- the most calls that can be made on a connection before a reply comes
abbrev pub left_of : Option DriverState → ℕ
left_of None = 0
left_of (Some d) = d.left

-- the same, of connection `c`
abbrev pub left_at : MetaLinks → ℕ → ℕ
left_at meta c = left_of (slice_get meta.drivers c)

-- what looking for the next call did: one was admitted; or the search is skipped; or none is next; or no memory
-- was found, and none was admitted
abbrev pub AdvanceResultAt
    : {E : Type 0} → List Question → MetaSettings → List ℕ → ℕ → History → Result Advance E → MetaLinks → MetaLinks
    → Type 0
AdvanceResultAt questions s partial c h (Ok stages.Admitted) old new =
    Progress questions s partial c h 1 new × (left_at new c < left_at old c)
AdvanceResultAt questions s partial c h (Ok stages.Skipped) old new =
    Progress questions s partial c h 0 new × (left_at new c < left_at old c)
AdvanceResultAt questions s partial c h (Ok stages.Idle) old new = CompleteDrive questions s partial c h 0 new
AdvanceResultAt questions s partial c h (Err e) old new = Progress questions s partial c h 0 new

-- the same for each history that can have left `old`
abbrev pub AdvanceResult : {E : Type 0} → ℕ → Result Advance E → MetaLinks → MetaLinks → Type 0
AdvanceResult c result old new =
    (questions : List Question) (s : MetaSettings) (partial : List ℕ) (h : History)
    → MetaAfterPartial questions s partial h old → AdvanceResultAt questions s partial c h result old new

-- the driver of the connection gave this call, and nothing stopped the connection
abbrev pub IsGivenCall : List Question → MetaSettings → ℕ → History → Call → MetaLinks → Type 0
IsGivenCall questions s c h call meta =
    (q : Question) (d : DriverState) (p : Transcript)
    → slice_get questions c ≡ Some q → slice_get meta.drivers c ≡ Some d
    → IsTranscript (settings_of s) (events_on c h) p
    → (p.stop ≡ None) × IsOffer (errand_of s q) p.settings p.log d call

-- what making the call that the driver gave did
abbrev pub IssueResult : {E : Type 0} → ℕ → Call → Result Advance E → MetaLinks → MetaLinks → Type 0
IssueResult c call result old new =
    (questions : List Question) (s : MetaSettings) (partial : List ℕ) (h : History)
    → MetaAfterPartial questions s partial h old → IsGivenCall questions s c h call old
    → AdvanceResultAt questions s partial c h result old new

-- ---- results about one connection

-- the result is this value of the connection's transcript, for each history that can have left these
abbrev pub IsTranscriptValue : ℕ → MetaLinks → (Transcript → Bool) → Bool → Type 0
IsTranscriptValue c meta value result =
    (questions : List Question) (s : MetaSettings) (h : History) (p : Transcript)
    → MetaAfter questions s h meta → IsTranscript (settings_of s) (events_on c h) p → result ≡ value p

-- the same, also after Takes that found no memory
abbrev pub IsTranscriptValueUpTo : ℕ → MetaLinks → (Transcript → Bool) → Bool → Type 0
IsTranscriptValueUpTo c meta value result =
    (questions : List Question) (s : MetaSettings) (partial : List ℕ) (h : History) (p : Transcript)
    → MetaAfterPartial questions s partial h meta → IsTranscript (settings_of s) (events_on c h) p → result ≡ value p

-- the search was skipped
abbrev pub is_skipped : Transcript → Bool
is_skipped p = skipped_in p.settings p.log

-- the target rejected the association, or the origin admitted Close
abbrev pub is_complete : Transcript → Bool
is_complete p = complete_in (past_of p)

-- the result says whether each connection is Closed or Failed
abbrev pub IsFinished : MetaLinks → Bool → Type 0
IsFinished meta result =
    (questions : List Question) (s : MetaSettings) (h : History) → MetaAfter questions s h meta
    → (result ≡ true) ↔ ((c : ℕ) (p : Transcript) → c < length questions
    → IsTranscript (settings_of s) (events_on c h) p
    → is_stopped (state_at p) ≡ true)

-- the same, also after Takes that found no memory
abbrev pub IsFinishedUpTo : MetaLinks → Bool → Type 0
IsFinishedUpTo meta result =
    (questions : List Question) (s : MetaSettings) (partial : List ℕ) (h : History)
    → MetaAfterPartial questions s partial h meta
    → (result ≡ true) ↔ ((c : ℕ) (p : Transcript) → c < length questions
    → IsTranscript (settings_of s) (events_on c h) p
    → is_stopped (state_at p) ≡ true)
