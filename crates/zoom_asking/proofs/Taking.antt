-- What taking a message does to the events of a connection.
use Rattle.std.proofs.Common.{◌≡◌, ◌⊎◌, inl, inr, sym, subst, ap, ◌∙◌, ℕ, ◌<◌, List, [], ◌∷◌, length, Result, Ok, Err, refl}
use Rattle.zoom_questions.specs.declared.question.Question.{Question}
use Rattle.zoom_questions.specs.declared.question.MetaSettings.{MetaSettings}
use Rattle.zoom_pool.specs.declared.state.State.{State}
use Rattle.zoom_pool.specs.declared.step.Step.{Step}
use Rattle.zoom_pool.specs.declared.step.Step.TheVariants as steps
use Rattle.zoom_pool.specs.declared.step.TakeError.{TakeError}
use Rattle.zoom_pool.specs.Inputs.{Input}
use Rattle.zoom_pool.specs.Transcripts.{Event, Took, Fed, NextInput, take_result, state_at, HasFoundMemory}
use Rattle.zoom_pool.specs.History.{events_on}
use Rattle.zoom_pool.specs.PoolSteps.{IsTakeResult, IsStateAt}
use Rattle.zoom_pool.specs.Laws.{OneTranscript}
use Rattle.zoom_pool.specs.Metas.{MetaLinks, MetaRecorded, MetaTakeStep, settings_of}
use Rattle.zoom_pool.proofs.Metas.{transcript_at}
use Rattle.zoom_pool.proofs.MetaTakes.{took_within}
use Rattle.zoom_clock.specs.declared.signal.Condition.{Condition}
use Rattle.zoom_asking.specs.declared.talk.Receipt.{Receipt}
use Rattle.zoom_asking.specs.declared.talk.Receipt.TheVariants as receipts
use Rattle.zoom_asking.specs.Steps.{IsExtended, IsReceived, IsConditionAt, receipt_of}
use Rattle.zoom_asking.specs.Talks.{Relation, IsNextResult, IsDriven, AreTaken, IsHeard, one, none, last, condition_in}
use Rattle.zoom_asking.proofs.Extending.{IsAdded, extended_by, extended_none, extended_on, recorded}

-- ---- one take

-- A take with this result was added, which this relation tells.
taken_on : OneTranscript → (c : ℕ) (R : Relation) (old new : MetaLinks) (waits : List ℕ)
    (result : Result Step TakeError) → c < length old.pool.connections → HasFoundMemory result → IsTakeResult c old.pool result
    → MetaTakeStep c old new
    → ((s : MetaSettings) (question : Question) (events : List Event) → IsNextResult s events result
    → R s question events (Took ∷ events))
    → IsExtended c R old new waits waits
taken_on hearing c R old new waits result lt done returned took tells questions s pool question a asks =
    extended_by c questions s pool Took (R s question) new waits (took_within c old new took questions s [] pool a)
    (tells s question (events_on c pool) next) refl
  where
    next : IsNextResult s (events_on c pool) result
    next p transcript =
        let now = transcript_at (settings_of s) pool a.pool.transcript old.pool.connections c a.pool.stands lt in
        let is : a.pool.transcript c ≡ p =
        hearing (settings_of s) (events_on c pool) (a.pool.transcript c) p now transcript in
        subst (λ z. (input : Input) × NextInput z input × (result ≡ take_result z input)) is
        (returned (settings_of s) [] pool a.pool done)

-- The receipt of a step that was taken.
received : (step : Step) (s : MetaSettings) (question : Question) (events : List Event)
    → IsNextResult s events (Ok step) → IsReceived (receipt_of step) s question events (Took ∷ events)
received steps.Opened s question events next = (steps.Opened, next, refl, refl)
received steps.Rejected s question events next = (steps.Rejected, next, refl, refl)
received steps.Answered s question events next = (steps.Answered, next, refl, refl)
received steps.Closed s question events next = (steps.Closed, next, refl, refl)
received steps.Nothing s question events next = (next, refl)
received steps.Ended s question events next = (Ok steps.Ended, next, tt, refl)
received steps.Stopped s question events next = (Ok steps.Stopped, next, tt, refl)

-- A take returned a step.
pub taken_step : OneTranscript → (c : ℕ) (old new : MetaLinks) (step : Step) → c < length old.pool.connections
    → IsTakeResult c old.pool (Ok step) → MetaTakeStep c old new
    → (waits : List ℕ) → IsExtended c (IsReceived (receipt_of step)) old new waits waits
taken_step hearing c old new step lt returned took waits =
    taken_on hearing c (IsReceived (receipt_of step)) old new waits (Ok step) lt tt returned took (received step)

-- A take was refused, except for `Memory`.
pub taken_refusal : OneTranscript → (c : ℕ) (old new : MetaLinks) (e : TakeError) → c < length old.pool.connections
    → HasFoundMemory {A = Step} (Err e) → IsTakeResult c old.pool (Err e) → MetaTakeStep c old new
    → (waits : List ℕ) → IsExtended c (IsReceived receipts.Over) old new waits waits
taken_refusal hearing c old new e lt done returned took waits =
    taken_on hearing c (IsReceived receipts.Over) old new waits (Err e) lt done returned took
    (λ s question events next. (Err e, next, tt, refl))

-- With each receipt, a take was added.
pub received_adds : (receipt : Receipt) (s : MetaSettings) (question : Question) (old new : List Event)
    → IsReceived receipt s question old new → IsAdded Took s question old new
received_adds receipts.Message s question old new r = r.3
received_adds receipts.Nothing s question old new r = r.1
received_adds receipts.Over s question old new r = r.3

-- ---- one take after the other

-- Messages were taken up to these events: those that are taken from here on are taken from the start.
abbrev pub AreTakenSoFar : Relation
AreTakenSoFar s question start now = (new : List Event) → AreTaken s question now new → AreTaken s question start new

-- None yet.
pub taken_none : (c : ℕ) (meta : MetaLinks) (waits : List ℕ) → IsExtended c AreTakenSoFar meta meta waits waits
taken_none c meta waits = extended_none c AreTakenSoFar meta waits (λ s question events new taken. taken)

-- A message was taken, and what is due was handed out.
message_taken : (s : MetaSettings) (question : Question) (old now new : List Event)
    → IsReceived receipts.Message s question old now → IsDriven s question now new → AreTakenSoFar s question old new
message_taken s question old now new r driven end taken =
    one old new end r.0 r.1 r.2 (subst (λ z. IsDriven s question z new) r.3 driven) taken

-- One message more.
pub taken_more : (c : ℕ) (start old mid new : MetaLinks) (waited held waits : List ℕ) (receipt : Receipt)
    → receipt ≡ receipts.Message → IsExtended c AreTakenSoFar start old waited held
    → ((octets : List ℕ) → IsExtended c (IsReceived receipt) old mid octets octets)
    → IsExtended c IsDriven mid new held waits → IsExtended c AreTakenSoFar start new waited waits
taken_more c start old mid new waited held waits receipt is so_far taken driven =
    extended_on c AreTakenSoFar AreTakenSoFar AreTakenSoFar start old new waited held waits
    (λ s question xs ys zs before one_more end taken. before end (one_more end taken)) so_far
    (extended_on c (IsReceived receipts.Message) IsDriven AreTakenSoFar old mid new held held waits message_taken
    (subst (λ r. IsExtended c (IsReceived r) old mid held held) is (taken held)) driven)

-- The last take found no whole message, or ended the connection.
abbrev IsEnd : Receipt → Type 0
IsEnd receipt = (receipt ≡ receipts.Nothing) ⊎ (receipt ≡ receipts.Over)

end_taken : (receipt : Receipt) → IsEnd receipt → (s : MetaSettings) (question : Question) (old new : List Event)
    → IsReceived receipt s question old new → AreTaken s question old new
end_taken receipts.Message (inl is) s question old new r = absurd cc
end_taken receipts.Message (inr is) s question old new r = absurd cc
end_taken receipts.Nothing end s question old new r = subst (λ z. AreTaken s question old z) (sym r.1) (none old r.0)
end_taken receipts.Over end s question old new r =
    subst (λ z. AreTaken s question old z) (sym r.3) (last old r.0 r.1 r.2)

pub taken_end : (c : ℕ) (start old new : MetaLinks) (waited waits : List ℕ) (receipt : Receipt) → IsEnd receipt
    → IsExtended c AreTakenSoFar start old waited waits
    → ((octets : List ℕ) → IsExtended c (IsReceived receipt) old new octets octets)
    → IsExtended c AreTaken start new waited waits
taken_end c start old new waited waits receipt end so_far taken =
    extended_on c AreTakenSoFar (IsReceived receipt) AreTaken start old new waited waits waits
    (λ s question xs ys zs before r. before zs (end_taken receipt end s question ys zs r)) so_far (taken waits)

-- ---- a piece of octets

pub heard_on : (c : ℕ) (piece : List ℕ) (old mid new : MetaLinks) (waited waits : List ℕ)
    → MetaRecorded c (Fed piece) old mid → IsExtended c AreTaken mid new waited waits
    → IsExtended c (IsHeard piece) old new waited waits
heard_on c piece old mid new waited waits after taken =
    extended_on c (IsAdded (Fed piece)) AreTaken (IsHeard piece) old mid new waited waited waits
    (λ s question xs ys zs fed are. subst (λ z. AreTaken s question z zs) fed are)
    (recorded c (Fed piece) old mid waited (λ events. refl) after) taken

-- ---- how a connection stands

pub stands_at : OneTranscript → (c : ℕ) (meta : MetaLinks) (state : State) (condition : Condition)
    → c < length meta.pool.connections → IsStateAt c meta.pool state → condition ≡ condition_in state
    → IsConditionAt c meta condition
stands_at hearing c meta state condition lt is same questions s pool a p transcript =
    let now = transcript_at (settings_of s) pool a.pool.transcript meta.pool.connections c a.pool.stands lt in
    let this : a.pool.transcript c ≡ p =
    hearing (settings_of s) (events_on c pool) (a.pool.transcript c) p now transcript in
    same ∙ ap condition_in (is (settings_of s) [] pool a.pool ∙ ap state_at this)
