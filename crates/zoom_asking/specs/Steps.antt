-- What one call does to one connection of the pool.
use Rattle.std.specs.Prelude.{◌≡◌, ℕ, ◌==◌, true, false, List, ◌∷◌, ◌++◌, slice_get, Some, Result, Ok}
use Rattle.zoom_questions.specs.declared.question.Question.{Question}
use Rattle.zoom_questions.specs.declared.question.MetaSettings.{MetaSettings}
use Rattle.zoom_pool.specs.declared.step.Step.{Step}
use Rattle.zoom_pool.specs.declared.step.Step.TheVariants as steps
use Rattle.zoom_pool.specs.declared.step.TakeError.{TakeError}
use Rattle.zoom_pool.specs.Transcripts.{Event, Took, given, is_message}
use Rattle.zoom_pool.specs.History.{History, events_on}
use Rattle.zoom_pool.specs.Metas.{MetaLinks, MetaAfter}
use Rattle.zoom_clock.specs.declared.signal.Condition.{Condition}
use Rattle.zoom_asking.specs.declared.talk.Receipt.{Receipt}
use Rattle.zoom_asking.specs.declared.talk.Receipt.TheVariants as receipts
use Rattle.zoom_asking.specs.Talks.{Relation, IsNextResult, IsLastResult, IsCondition}

-- A history of the pool with new events of connection c alone, which are related so to those before. Octets were
-- handed out, and wait behind those that waited.
pub record Extended
    (c : ℕ) (questions : List Question) (s : MetaSettings) (pool : History) (R : List Event → List Event → Type 0)
    (new : MetaLinks) (waited waits : List ℕ)
    : Type 0 where
  pub more : History
  pub meta : MetaAfter questions s more new
  pub others : (d : ℕ) → (c == d) ≡ false → events_on d more ≡ events_on d pool
  pub mine : R (events_on c pool) (events_on c more)
  pub out : List ℕ
  pub gave : given (events_on c more) ≡ given (events_on c pool) ++ out
  pub kept : waits ≡ waited ++ out

-- the same for each history that can have left the old connections
abbrev pub IsExtended
    : ℕ → Relation → MetaLinks → MetaLinks → List ℕ → List ℕ → Type 0
IsExtended c R old new waited waits =
    (questions : List Question) (s : MetaSettings) (pool : History) (question : Question)
    → MetaAfter questions s pool old → slice_get questions c ≡ Some question
    → Extended c questions s pool (R s question) new waited waits

-- a take with this receipt: a message was taken and accepted, none was there, or the connection is over
abbrev pub IsReceived : Receipt → MetaSettings → Question → List Event → List Event → Type 0
IsReceived receipts.Message s question old new =
    (step : Step) × IsNextResult s old (Ok step) × (is_message step ≡ true) × (new ≡ Took ∷ old)
IsReceived receipts.Nothing s question old new = IsNextResult s old (Ok steps.Nothing) × (new ≡ Took ∷ old)
IsReceived receipts.Over s question old new =
    (result : Result Step TakeError) × IsNextResult s old result × IsLastResult result × (new ≡ Took ∷ old)

-- the receipt of a take that returned this step
abbrev pub receipt_of : Step → Receipt
receipt_of steps.Opened = receipts.Message
receipt_of steps.Rejected = receipts.Message
receipt_of steps.Answered = receipts.Message
receipt_of steps.Closed = receipts.Message
receipt_of steps.Nothing = receipts.Nothing
receipt_of steps.Ended = receipts.Over
receipt_of steps.Stopped = receipts.Over

-- this is how connection c stands, for each history that can have left the connections
abbrev pub IsConditionAt : ℕ → MetaLinks → Condition → Type 0
IsConditionAt c meta condition =
    (questions : List Question) (s : MetaSettings) (pool : History) → MetaAfter questions s pool meta
    → IsCondition s (events_on c pool) condition
