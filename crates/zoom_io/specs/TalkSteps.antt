-- What the steps of a talk do.
use Rattle.std.specs.Prelude.{◌≡◌, ℕ, suc, List, Result, Ok, Err}
use Rattle.zoom_questions.specs.declared.question.Question.{Question}
use Rattle.zoom_questions.specs.declared.question.MetaSettings.{MetaSettings}
use Rattle.zoom_pool.specs.declared.step.Step.{Step}
use Rattle.zoom_pool.specs.declared.step.Step.TheVariants as steps
use Rattle.zoom_pool.specs.History.{History}
use Rattle.zoom_pool.specs.Metas.{MetaLinks}
use Rattle.zoom_io.specs.declared.talk_steps.Receipt.{Receipt}
use Rattle.zoom_io.specs.declared.talk_steps.Receipt.TheVariants as receipts
use Rattle.zoom_io.specs.declared.outgoing.PushError.{PushError}
use Rattle.zoom_io.specs.declared.outgoing.PushError.TheVariants as errors
use Rattle.zoom_devices.specs.Devices.{DeviceState, HasFailed}
use Rattle.zoom_io.specs.TalkTraces.{Stage, Due, Listening, Waiting, Over, Talk, TalkStep, HaltStep, CompletingStep, BrokenTalk, take_count, same}

-- The receipt of a take that returned this step.
abbrev pub receipt_of : Step → Receipt
receipt_of steps.Opened = receipts.Message
receipt_of steps.Rejected = receipts.Message
receipt_of steps.Answered = receipts.Message
receipt_of steps.Closed = receipts.Message
receipt_of steps.Nothing = receipts.Nothing
receipt_of steps.Ended = receipts.Over
receipt_of steps.Stopped = receipts.Over

-- The talk goes on, and its devices are unchanged.
abbrev pub TalkStepAlone : ℕ → Stage → Stage → MetaLinks → MetaLinks → Type 0
TalkStepAlone c from to old new = (left held : DeviceState) → TalkStep c from to same old new left left held held

-- No memory is found, with every device.
abbrev pub HaltStepAlone : ℕ → Stage → MetaLinks → MetaLinks → Type 0
HaltStepAlone c from old new = (left held : DeviceState) → HaltStep c from same old new left left held held

-- The stage after this receipt.
abbrev pub receipt_stage : Receipt → Stage
receipt_stage receipts.Message = Due
receipt_stage receipts.Nothing = Waiting
receipt_stage receipts.Over = Over

-- The talk goes on with one take, which completes one that found no memory before the talk.
pub record TakingStep (c : ℕ) (from to : Stage) (old new : MetaLinks) (left held then_held : DeviceState) : Type 0 where
  pub step : TalkStep c from to same old new left left held then_held
  pub taken : (questions : List Question) (s : MetaSettings) (partial : List ℕ) (h : History) (reads : ℕ)
      (source sink : DeviceState) (t : Talk questions s partial c h reads from old source left sink held)
      → take_count (step.on questions s partial h reads source sink t).more ≡ suc (take_count t.more)
  pub completes : CompletingStep c from to old new left held then_held

-- After taking a message: one was accepted, none is waiting, or the connection is Closed or Failed.
abbrev pub AfterTakeMessage : ℕ → Receipt → MetaLinks → MetaLinks → Type 0
AfterTakeMessage c receipt old new =
    (left held : DeviceState) → TakingStep c Listening (receipt_stage receipt) old new left held held

-- A write failed, after every talk that leads to the old state.
pub record WriteFailureStep (c : ℕ) (from : Stage) (old new : MetaLinks) (sink held : DeviceState) : Type 0 where
  pub on : (questions : List Question) (s : MetaSettings) (partial : List ℕ) (h : History) (reads : ℕ)
      (source left first : DeviceState) → Talk questions s partial c h reads from old source left first sink
      → BrokenTalk questions s partial c h reads new source left first held
  pub failed : HasFailed sink.failures held.failures

-- The calls that are due are made, and what waits is written: no take.
pub record SendingStep (c : ℕ) (old new : MetaLinks) (left held then_held : DeviceState) : Type 0 where
  pub step : TalkStep c Due Listening same old new left left held then_held
  pub taken : (questions : List Question) (s : MetaSettings) (partial : List ℕ) (h : History) (reads : ℕ)
      (source sink : DeviceState) (t : Talk questions s partial c h reads Due old source left sink held)
      → take_count (step.on questions s partial h reads source sink t).more ≡ take_count t.more

-- After making the calls that are due, and writing what waits.
abbrev pub AfterSendDue : ℕ → Result (Unit {0}) PushError → MetaLinks → MetaLinks → DeviceState → DeviceState → Type 0
AfterSendDue c (Ok _) old new sink held = (left : DeviceState) → SendingStep c old new left sink held
AfterSendDue c (Err errors.Write) old new sink held = WriteFailureStep c Due old new sink held
AfterSendDue c (Err errors.Memory) old new sink held =
    (left : DeviceState) → HaltStep c Due same old new left left sink held

-- After both: a message was accepted, none is waiting, the connection is Closed or Failed, or sending failed.
abbrev pub AfterSendAndTake : ℕ → Result Receipt PushError → MetaLinks → MetaLinks → DeviceState → DeviceState → Type 0
AfterSendAndTake c (Ok receipt) old new sink held =
    (left : DeviceState) → TakingStep c Due (receipt_stage receipt) old new left sink held
AfterSendAndTake c (Err errors.Write) old new sink held = WriteFailureStep c Due old new sink held
AfterSendAndTake c (Err errors.Memory) old new sink held =
    (left : DeviceState) → HaltStep c Due same old new left left sink held
