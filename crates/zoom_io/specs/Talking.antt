-- What the parts of a talk do.
use Rattle.std.specs.Prelude.{◌≡◌, ℕ, suc, ◌≤◌, Bool, true, false, List, ◌∷◌, Some, Result, Ok, Err}
use Rattle.std.specs.Io.KnownBytes.{Keeps, IsAtEnd}
use Rattle.zoom_questions.specs.declared.question.Question.{Question}
use Rattle.zoom_questions.specs.declared.question.MetaSettings.{MetaSettings}
use Rattle.zoom_pool.specs.declared.state.State.TheVariants as states
use Rattle.zoom_pool.specs.declared.state.Reason.TheVariants as reasons
use Rattle.zoom_pool.specs.Transcripts.{Stopped, state_at}
use Rattle.zoom_pool.specs.Links.{stop_at}
use Rattle.zoom_pool.specs.History.{History}
use Rattle.zoom_pool.specs.Metas.{MetaLinks, MetaAfterPartial, MetaRecorded, IsTranscriptValueUpTo}
use Rattle.zoom_io.specs.declared.outgoing.PushError.{PushError}
use Rattle.zoom_io.specs.declared.outgoing.PushError.TheVariants as pushes
use Rattle.zoom_io.specs.declared.conversation.TalkError.{TalkError}
use Rattle.zoom_io.specs.declared.conversation.TalkError.TheVariants as errors
use Rattle.zoom_devices.specs.Devices.{DeviceState, HasFailed, IsUntouched}
use Rattle.zoom_io.specs.TalkTraces.{Stage, Due, Waiting, Over, Ended, TalkStep, HaltedTalk, HaltStep, CompletingStep, still_partial, TalkResult, CompletedResult, IsErrorOf, IsStoppedFor, ended_well, same}
use Rattle.zoom_io.specs.TalkSteps.{TalkStepAlone, WriteFailureStep}

-- The refusal of a talk for the refusal of a push.
abbrev pub talk_error : PushError → TalkError
talk_error pushes.Write = errors.Write
talk_error pushes.Memory = errors.Memory

-- The talk goes on with takes, the first of which completes one that found no memory before the talk.
pub record SettleStep (c : ℕ) (to : Stage) (old new : MetaLinks) (left held then_held : DeviceState) : Type 0 where
  pub step : TalkStep c Due to same old new left left held then_held
  pub completes : CompletingStep c Due to old new left held then_held

-- After settling: the connection is Closed or Failed; no message is waiting; a write failed; or no memory was found.
abbrev pub AfterSettle : ℕ → Result Bool PushError → MetaLinks → MetaLinks → DeviceState → DeviceState → Type 0
AfterSettle c (Ok true) old new sink held = (left : DeviceState) → SettleStep c Over old new left sink held
AfterSettle c (Ok false) old new sink held = (left : DeviceState) → SettleStep c Waiting old new left sink held
AfterSettle c (Err pushes.Write) old new sink held = WriteFailureStep c Due old new sink held
AfterSettle c (Err pushes.Memory) old new sink held =
    (left : DeviceState) → HaltStep c Due same old new left left sink held

-- After listening: octets were read and fed; the input has ended; a read failed; or octets were read, and no memory was
-- found for them.
abbrev pub AfterListen : ℕ → Result Bool TalkError → MetaLinks → MetaLinks → DeviceState → DeviceState → Type 0
AfterListen c (Ok true) old new source left =
    (held : DeviceState) → TalkStep c Waiting Due suc old new source left held held
AfterListen c (Ok false) old new source left = (new ≡ old) × IsUntouched source left × IsAtEnd left.octets
AfterListen c (Err errors.Read) old new source left =
    MetaRecorded c (Stopped reasons.Read) old new × Keeps source.octets left.octets
    × HasFailed source.failures left.failures × (stop_at new.pool c ≡ Some (states.Failed reasons.Read))
AfterListen c (Err errors.Memory) old new source left =
    (held : DeviceState) → HaltStep c Waiting suc old new source left held held
AfterListen c (Err _) old new source left = ⊥

-- Whether every history that can have left the connection leaves it well ended.
abbrev pub IsWellEnded : ℕ → MetaLinks → Bool → Type 0
IsWellEnded c meta well = IsTranscriptValueUpTo c meta (λ p. ended_well (state_at p)) well

-- After the end of the input: the connection ended otherwise; it was not Closing; or no memory was found.
abbrev pub AfterFinish : ℕ → Result (Unit {0}) TalkError → MetaLinks → MetaLinks → Type 0
AfterFinish c (Ok _) old new = TalkStepAlone c Waiting Ended old new × IsWellEnded c new true
AfterFinish c (Err errors.Ended) old new =
    ((mid : MetaLinks) × TalkStepAlone c Waiting Ended old mid × IsWellEnded c mid false
    × MetaRecorded c (Stopped reasons.Ended) mid new)
    × (stop_at new.pool c ≡ Some (states.Failed reasons.Ended))
AfterFinish c (Err errors.Memory) old new =
    (left held : DeviceState) → IsAtEnd left.octets → HaltStep c Waiting same old new left left held held
AfterFinish c (Err _) old new = ⊥

-- What each result of a conversation says, for a history before it: what that of a talk says. After `Memory` the
-- connection is not stopped yet.
abbrev pub ConverseResult
    : List Question → MetaSettings → List ℕ → ℕ → History → ℕ → Result (Unit {0}) TalkError → MetaLinks
    → DeviceState → DeviceState → DeviceState → DeviceState → Type 0
ConverseResult questions s partial c h turns (Err errors.Memory) new source left sink held =
    (reads : ℕ) × (reads ≤ turns) × HaltedTalk questions s partial c h reads new source left sink held
ConverseResult questions s partial c h turns result new source left sink held =
    TalkResult questions s partial c h turns result new source left sink held

-- The same, if a take of connection c found no memory before the talk.
abbrev pub CompletedConverse
    : List Question → MetaSettings → List ℕ → ℕ → History → ℕ → Result (Unit {0}) TalkError → MetaLinks
    → DeviceState → DeviceState → DeviceState → DeviceState → Type 0
CompletedConverse questions s partial c h turns (Err errors.Memory) new source left sink held =
    (reads : ℕ) × (reads ≤ turns)
    × HaltedTalk questions s (still_partial reads c partial) c h reads new source left sink held
CompletedConverse questions s partial c h turns result new source left sink held =
    CompletedResult questions s partial c h turns result new source left sink held

-- Each refusal, except `Memory`, leaves the connection failed for its reason.
abbrev pub IsStoppedUnlessHalted : ℕ → Result (Unit {0}) TalkError → MetaLinks → Type 0
IsStoppedUnlessHalted c (Err errors.Memory) new = Unit {0}
IsStoppedUnlessHalted c result new = IsStoppedFor c result new

-- What a conversation with at most `turns` reads does, after every history before it.
pub record AfterConverse
    (c turns : ℕ) (result : Result (Unit {0}) TalkError) (old new : MetaLinks) (source left sink held : DeviceState)
    : Type 0 where
  pub on : (questions : List Question) (s : MetaSettings) (partial : List ℕ) (h : History)
      → MetaAfterPartial questions s partial h old
      → ConverseResult questions s partial c h turns result new source left sink held
  pub whole : (questions : List Question) (s : MetaSettings) (partial : List ℕ) (h : History)
      → MetaAfterPartial questions s (c ∷ partial) h old
      → CompletedConverse questions s partial c h turns result new source left sink held
  pub blamed : IsErrorOf result source left sink held
  pub stopped : IsStoppedUnlessHalted c result new
