-- A connection is driven over devices: the order of its events, and the octets read and written (Z39.50-2003, 3.2).
use Rattle.std.specs.Prelude.{◌≡◌, ℕ, zero, suc, ◌-◌, ◌^◌, ◌<◌, ◌≤◌, ◌==◌, Bool, true, false, List, [], ◌∷◌, ◌++◌, length, slice_get, Some, Result, Ok, Err}
use Rattle.std.specs.Io.KnownBytes.{Appends, Consumes, IsAtEnd}
use Rattle.zorigin.specs.Standings.{Call}
use Rattle.zoom_questions.specs.declared.question.Question.{Question}
use Rattle.zoom_questions.specs.declared.question.MetaSettings.{MetaSettings}
use Rattle.zoom_pool.specs.declared.state.State.{State}
use Rattle.zoom_pool.specs.declared.state.State.TheVariants as states
use Rattle.zoom_pool.specs.declared.state.Reason.{Reason}
use Rattle.zoom_pool.specs.declared.state.Reason.TheVariants as reasons
use Rattle.zoom_pool.specs.declared.step.Step.{Step}
use Rattle.zoom_pool.specs.declared.step.Step.TheVariants as steps
use Rattle.zoom_pool.specs.States.{is_stopped}
use Rattle.zoom_pool.specs.Inputs.{Input}
use Rattle.zoom_pool.specs.Transcripts.{Transcript, IsTranscript, Fed, Took, InputEnded, HandedOut, Stopped, NextInput, take_result, state_at, past_of, given, is_lost, is_message, sent}
use Rattle.zoom_pool.specs.History.{History, events_on}
use Rattle.zoom_pool.specs.Links.{stop_at}
use Rattle.zoom_pool.specs.Steering.{errand_of}
use Rattle.zoom_pool.specs.Metas.{MetaLinks, MetaAfterPartial, IsIdleUnlessStopped, IsSearchTried, call_events, settings_of}
use Rattle.zoom_devices.specs.Devices.{DeviceState, HasAppendedFront, HasFailed, HasNoFailure}
use Rattle.zoom_io.specs.declared.conversation.TalkError.{TalkError}
use Rattle.zoom_io.specs.declared.conversation.TalkError.TheVariants as errors

-- The stages of a talk. Due: calls are made and waiting octets written next. Listening: a message is taken next.
-- Waiting: no message is waiting, and octets are read next. Over: the connection is Closed or Failed. Ended: the
-- input ended, and what was left of it was taken.
pub data Stage : Type 0 where
  Due : Stage
  Listening : Stage
  Waiting : Stage
  Over : Stage
  Ended : Stage

-- No call of the connection is next; if the association was accepted, its search was admitted or skipped.
abbrev pub IsIdleConnection : List Question → MetaSettings → ℕ → History → Type 0
IsIdleConnection questions s c h =
    (question : Question) (p : Transcript) → slice_get questions c ≡ Some question
    → IsTranscript (settings_of s) (events_on c h) p
    → IsIdleUnlessStopped (errand_of s question) p × IsSearchTried p

-- Everything sent on the connection was handed out, unless a write failed before.
abbrev pub IsAllHandedOut : MetaSettings → ℕ → History → Type 0
IsAllHandedOut s c h =
    (p : Transcript) → IsTranscript (settings_of s) (events_on c h) p → is_lost (events_on c h) ≡ false
    → given (events_on c h) ≡ sent (past_of p)

-- The next take of the connection returns this step.
abbrev pub IsNextStep : MetaSettings → ℕ → History → Step → Type 0
IsNextStep s c h step =
    (p : Transcript) → IsTranscript (settings_of s) (events_on c h) p → (input : Input) × NextInput p input
    × (take_result p input ≡ Ok step)

-- The events of the connection leave it Closed or Failed.
abbrev pub IsStoppedAt : MetaSettings → ℕ → History → Type 0
IsStoppedAt s c h = (p : Transcript) → IsTranscript (settings_of s) (events_on c h) p → is_stopped (state_at p) ≡ true

-- The events of the connection leave it neither Closed nor Failed.
abbrev pub IsGoingAt : MetaSettings → ℕ → History → Type 0
IsGoingAt s c h = (p : Transcript) → IsTranscript (settings_of s) (events_on c h) p → is_stopped (state_at p) ≡ false

-- The connection ended for a reason other than the end of its input.
abbrev pub ended_well : State → Bool
ended_well states.Closed = true
ended_well (states.Failed reasons.Ended) = false
ended_well (states.Failed reason) = true
ended_well _ = false

-- The events of the connection leave it well ended.
abbrev pub HasEndedWell : MetaSettings → ℕ → History → Type 0
HasEndedWell s c h = (p : Transcript) → IsTranscript (settings_of s) (events_on c h) p → ended_well (state_at p) ≡ true

-- The events of the connection leave it Failed for `Ended`: it was not Closing, and no part of a message was left.
abbrev pub IsCutOff : MetaSettings → ℕ → History → Type 0
IsCutOff s c h =
    (p : Transcript) → IsTranscript (settings_of s) (events_on c h) p → state_at p ≡ states.Failed reasons.Ended

-- At the stages Over and Ended, the connection is Closed or Failed.
abbrev pub IsAtStage : Stage → MetaSettings → ℕ → History → Type 0
IsAtStage Over s c h = IsStoppedAt s c h
IsAtStage Ended s c h = IsStoppedAt s c h
IsAtStage _ s c h = Unit {0}

-- The new events of the connection, the newest first, in the order of a talk. First and after each message, the due
-- calls are made and everything that waits is handed out to be written. A piece is read, and the input ends, only
-- when no message is waiting. With the octets read, the octets written, the number of reads that gave octets, and the
-- stage.
pub data TalkTrace (questions : List Question) (s : MetaSettings) (c : ℕ) (h : History)
    : History → List ℕ → List ℕ → ℕ → Stage → Type 0 where
  beginning : TalkTrace questions s c h [] [] [] 0 Due
  due_sent : {more : History} {read written : List ℕ} {reads : ℕ} (calls : List Call) (octets : List ℕ)
      → TalkTrace questions s c h more read written reads Due
      → IsIdleConnection questions s c (call_events c calls ++ (more ++ h))
      → IsAllHandedOut s c ((c, HandedOut octets) ∷ (call_events c calls ++ (more ++ h)))
      → TalkTrace questions s c h ((c, HandedOut octets) ∷ (call_events c calls ++ more)) read
      (written ++ octets) reads Listening
  message_taken : {more : History} {read written : List ℕ} {reads : ℕ} (step : Step)
      → TalkTrace questions s c h more read written reads Listening
      → IsNextStep s c (more ++ h) step → is_message step ≡ true
      → TalkTrace questions s c h ((c, Took) ∷ more) read written reads Due
  none_taken : {more : History} {read written : List ℕ} {reads : ℕ}
      → TalkTrace questions s c h more read written reads Listening → IsNextStep s c (more ++ h) steps.Nothing
      → TalkTrace questions s c h ((c, Took) ∷ more) read written reads Waiting
  stop_taken : {more : History} {read written : List ℕ} {reads : ℕ}
      → TalkTrace questions s c h more read written reads Listening
      → TalkTrace questions s c h ((c, Took) ∷ more) read written reads Over
  piece_read : {more : History} {read written : List ℕ} {reads : ℕ} (piece : List ℕ)
      → TalkTrace questions s c h more read written reads Waiting → 0 < length piece → length piece ≤ 4096
      → TalkTrace questions s c h ((c, Fed piece) ∷ more) (read ++ piece) written (suc reads) Due
  input_end : {more : History} {read written : List ℕ} {reads : ℕ}
      → TalkTrace questions s c h more read written reads Waiting
      → TalkTrace questions s c h ((c, Took) ∷ (c, InputEnded) ∷ more) read written reads Ended

-- the number of takes among these events
abbrev pub take_count : History → ℕ
take_count [] = 0
take_count ((c, Took) ∷ h) = suc (take_count h)
take_count (_ ∷ h) = take_count h

-- A talk so far: its trace after a history, what its devices gave and took, and what is known of the history with the
-- trace.
pub record TalkOf
    (Known : History → Type 0) (questions : List Question) (s : MetaSettings) (c : ℕ) (h : History) (reads : ℕ)
    (stage : Stage) (source left sink held : DeviceState)
    : Type 0 where
  pub more : History
  pub read : List ℕ
  pub written : List ℕ
  pub trace : TalkTrace questions s c h more read written reads stage
  pub known : Known (more ++ h)
  pub consumed : Consumes source.octets left.octets read
  pub appended : Appends sink.octets held.octets written

-- The history can have left these connections, and the stage stands for connection c. Before the talk, takes of the
-- connections `partial` may have found no memory.
abbrev pub HasLeft : List Question → MetaSettings → List ℕ → ℕ → Stage → MetaLinks → History → Type 0
HasLeft questions s partial c stage meta h = MetaAfterPartial questions s partial h meta × IsAtStage stage s c h

-- A talk so far, and the pool it has left.
abbrev pub Talk
    : List Question → MetaSettings → List ℕ → ℕ → History → ℕ → Stage → MetaLinks → DeviceState → DeviceState
    → DeviceState → DeviceState → Type 0
Talk questions s partial c h reads stage meta source left sink held =
    TalkOf (HasLeft questions s partial c stage meta) questions s c h reads stage source left sink held

-- The talk goes from one stage to another, from every talk that leads to the old state, and no device fails.
pub record TalkStep
    (c : ℕ) (from to : Stage) (more : ℕ → ℕ) (old new : MetaLinks) (left then_left held then_held : DeviceState)
    : Type 0 where
  pub on : (questions : List Question) (s : MetaSettings) (partial : List ℕ) (h : History) (reads : ℕ)
      (source sink : DeviceState) → Talk questions s partial c h reads from old source left sink held
      → Talk questions s partial c h (more reads) to new source then_left sink then_held
  pub reader : then_left.failures ≡ left.failures
  pub writer : then_held.failures ≡ held.failures

-- The number of reads is unchanged.
abbrev pub same : ℕ → ℕ
same n = n

-- ---- no memory is found

-- The new events of the connection, the newest first, until no memory is found; with the connections of which a part of
-- the next message may be known then, the octets read, the octets written, and the number of reads that gave octets.
-- No memory was found for a call that was due: the calls made before it stand. For handing out: all due calls were
-- made, and nothing more was handed out. For taking a message: the message is kept. For a piece: it was read, and
-- nothing of it was fed. For taking what was left when the source had no octets left. Or more messages came than memory
-- can hold.
pub data StarvedTalkEvents
    (questions : List Question) (s : MetaSettings) (partial : List ℕ) (c : ℕ) (h : History) (left : DeviceState)
    : List ℕ → History → List ℕ → List ℕ → ℕ → Type 0 where
  uncalled : {more : History} {read written : List ℕ} {reads : ℕ} (calls : List Call)
      → TalkTrace questions s c h more read written reads Due
      → StarvedTalkEvents questions s partial c h left partial (call_events c calls ++ more) read written reads
  unhanded : {more : History} {read written : List ℕ} {reads : ℕ} (calls : List Call)
      → TalkTrace questions s c h more read written reads Due
      → IsIdleConnection questions s c (call_events c calls ++ (more ++ h))
      → StarvedTalkEvents questions s partial c h left partial (call_events c calls ++ more) read written reads
  untaken : {more : History} {read written : List ℕ} {reads : ℕ}
      → TalkTrace questions s c h more read written reads Listening
      → StarvedTalkEvents questions s partial c h left (c ∷ partial) more read written reads
  unfed : {more : History} {read written : List ℕ} {reads : ℕ} (piece : List ℕ)
      → TalkTrace questions s c h more read written reads Waiting → 0 < length piece → length piece ≤ 4096
      → StarvedTalkEvents questions s partial c h left partial more (read ++ piece) written (suc reads)
  unended : {more : History} {read written : List ℕ} {reads : ℕ}
      → TalkTrace questions s c h more read written reads Waiting → IsAtEnd left.octets
      → StarvedTalkEvents questions s partial c h left (c ∷ partial) ((c, InputEnded) ∷ more) read written reads
  too_many : {more : History} {read written : List ℕ} {reads : ℕ}
      → TalkTrace questions s c h more read written reads Due → 2 ^ 64 - 1 ≤ take_count more
      → StarvedTalkEvents questions s partial c h left partial more read written reads

-- A talk with these new events and this number of reads, until no memory is found; and what is known of the history
-- with the events, if a part of the next messages of some connections may be known.
pub record StarvedTalk
    (Known : List ℕ → History → Type 0) (questions : List Question) (s : MetaSettings) (partial : List ℕ) (c : ℕ)
    (h more : History) (reads : ℕ) (source left sink held : DeviceState)
    : Type 0 where
  pub read : List ℕ
  pub written : List ℕ
  pub then_partial : List ℕ
  pub starves : StarvedTalkEvents questions s partial c h left then_partial more read written reads
  pub known : Known then_partial (more ++ h)
  pub consumed : Consumes source.octets left.octets read
  pub appended : Appends sink.octets held.octets written

-- No memory was found. This connection alone had new events, and a part of what its next take makes known may be known.
pub record HaltedTalk
    (questions : List Question) (s : MetaSettings) (partial : List ℕ) (c : ℕ) (h : History) (reads : ℕ)
    (new : MetaLinks) (source left sink held : DeviceState)
    : Type 0 where
  pub more : History
  pub others : (i : ℕ) → (c == i) ≡ false → events_on i more ≡ []
  pub after : MetaAfterPartial questions s (c ∷ partial) (more ++ h) new
  pub talk : StarvedTalk (λ then_partial k. MetaAfterPartial questions s then_partial k new) questions s
      partial c h more
      reads source left sink held

-- The talk halts, after every talk at this stage.
abbrev pub HaltStep
    : ℕ → Stage → (ℕ → ℕ) → MetaLinks → MetaLinks → DeviceState → DeviceState → DeviceState → DeviceState → Type 0
HaltStep c from more old new left then_left held then_held =
    (questions : List Question) (s : MetaSettings) (partial : List ℕ) (h : History) (reads : ℕ)
    (source sink : DeviceState) → Talk questions s partial c h reads from old source left sink held
    → HaltedTalk questions s partial c h (more reads) new source then_left sink then_held

-- No memory was found, and the caller then stopped the connection for `Memory`. This connection alone had new events.
-- A part of what its next message says may be known; all calls on the others keep their promises.
pub record OutOfMemory
    (questions : List Question) (s : MetaSettings) (partial : List ℕ) (c : ℕ) (h : History) (reads : ℕ)
    (new : MetaLinks) (source left sink held : DeviceState)
    : Type 0 where
  pub more : History
  pub others : (i : ℕ) → (c == i) ≡ false → events_on i more ≡ []
  pub after : MetaAfterPartial questions s (c ∷ partial) ((c, Stopped reasons.Memory) ∷ (more ++ h)) new
  pub talk : StarvedTalk
      (λ then_partial k. MetaAfterPartial questions s then_partial ((c, Stopped reasons.Memory) ∷ k) new)
      questions s partial c h more reads source left sink held

-- ---- a take is completed

-- Finding the connection Closed or Failed completes no earlier take, so it has to be neither before.
abbrev pub IsGoingBefore : Stage → MetaSettings → ℕ → History → Type 0
IsGoingBefore Over s c h = IsGoingAt s c h
IsGoingBefore _ s c h = Unit {0}

-- A take of the connection found no memory before the talk. The first take of the talk completes it.
abbrev pub CompletingStep
    : ℕ → Stage → Stage → MetaLinks → MetaLinks → DeviceState → DeviceState → DeviceState → Type 0
CompletingStep c from to old new left held then_held =
    (questions : List Question) (s : MetaSettings) (partial : List ℕ) (h : History) (reads : ℕ)
    (source sink : DeviceState) (t : Talk questions s (c ∷ partial) c h reads from old source left sink held)
    → take_count t.more ≡ 0 → IsGoingBefore to s c h
    → Talk questions s partial c h reads to new source left sink then_held

-- The connections of which a part of the next message may be known after n reads, if connection c was one before: it
-- is one still until the first read, as takes come before it.
abbrev pub still_partial : ℕ → ℕ → List ℕ → List ℕ
still_partial zero c partial = c ∷ partial
still_partial (suc n) c partial = partial

-- ---- how it ends

-- Some connections stood at this stage, and the caller then stopped connection c for this reason.
abbrev pub HasStopped
    : List Question → MetaSettings → List ℕ → ℕ → Stage → Reason → MetaLinks → History → Type 0
HasStopped questions s partial c stage reason new h =
    ((meta : MetaLinks) × HasLeft questions s partial c stage meta h)
    × MetaAfterPartial questions s partial ((c, Stopped reason) ∷ h) new

-- The talk reached this stage, and the caller then stopped the connection for this reason.
abbrev pub StoppedTalk
    : List Question → MetaSettings → List ℕ → ℕ → History → ℕ → Stage → Reason → MetaLinks → DeviceState
    → DeviceState → DeviceState → DeviceState → Type 0
StoppedTalk questions s partial c h reads stage reason new source left sink held =
    TalkOf (HasStopped questions s partial c stage reason new) questions s c h reads stage source left sink held

-- A write failed: a front of the octets handed out last was written, and this is known of the history with the trace.
pub record BrokenTalkOf
    (Known : History → Type 0) (questions : List Question) (s : MetaSettings) (c : ℕ) (h : History) (reads : ℕ)
    (source left sink held : DeviceState)
    : Type 0 where
  pub more : History
  pub read : List ℕ
  pub written : List ℕ
  pub octets : List ℕ
  pub trace : TalkTrace questions s c h ((c, HandedOut octets) ∷ more) read (written ++ octets) reads Listening
  pub known : Known ((c, HandedOut octets) ∷ (more ++ h))
  pub consumed : Consumes source.octets left.octets read
  pub before : DeviceState
  pub appended : Appends sink.octets before.octets written
  pub front : HasAppendedFront before.octets held.octets octets

-- A write failed, and the connection was stopped for `Write`.
abbrev pub BrokenTalk
    : List Question → MetaSettings → List ℕ → ℕ → History → ℕ → MetaLinks → DeviceState → DeviceState → DeviceState
    → DeviceState → Type 0
BrokenTalk questions s partial c h reads new source left sink held =
    BrokenTalkOf (λ k. MetaAfterPartial questions s partial ((c, Stopped reasons.Write) ∷ k) new) questions s c h reads
    source left sink held

-- How a talk ended by itself after n reads that gave octets, of at most `turns`. Over: the connection is Closed or
-- Failed. Ended: one read more found the end of the input, and the connection ended for another reason.
abbrev pub IsEndAt : Stage → ℕ → ℕ → MetaSettings → ℕ → History → DeviceState → Type 0
IsEndAt Over n turns s c h left = n ≤ turns
IsEndAt Ended n turns s c h left = (n < turns) × IsAtEnd left.octets × HasEndedWell s c h
IsEndAt _ n turns s c h left = ⊥

-- The talk ended by itself: the connection is Closed or Failed.
pub record EndedTalk
    (questions : List Question) (s : MetaSettings) (partial : List ℕ) (c : ℕ) (h : History) (turns : ℕ)
    (meta : MetaLinks) (source left sink held : DeviceState)
    : Type 0 where
  pub reads : ℕ
  pub stage : Stage
  pub talk : Talk questions s partial c h reads stage meta source left sink held
  pub at : IsEndAt stage reads turns s c (talk.more ++ h) left
  pub over : IsStoppedAt s c (talk.more ++ h)

-- The input ended after fewer than `turns` reads, and cut the connection off: it was not Closing, and no part of a
-- message was left.
pub record CutTalk
    (questions : List Question) (s : MetaSettings) (partial : List ℕ) (c : ℕ) (h : History) (turns : ℕ)
    (new : MetaLinks) (source left sink held : DeviceState)
    : Type 0 where
  pub reads : ℕ
  pub few : reads < turns
  pub stopped : StoppedTalk questions s partial c h reads Ended reasons.Ended new source left sink held
  pub cut : IsCutOff s c (stopped.more ++ h)

-- What each result of a talk says, for a history that can have left the connections before it. `Read`, `Write`: a
-- read or a write failed. `Ended`: the input ended, and the connection was not Closing. `Turns`: `turns` reads gave
-- octets, and the connection did not end after them. `Memory`: no memory was found, after at most `turns` reads that
-- gave octets; what is known is what the events, and perhaps a part of the next message, make known.
abbrev pub TalkResult
    : List Question → MetaSettings → List ℕ → ℕ → History → ℕ → Result (Unit {0}) TalkError → MetaLinks
    → DeviceState → DeviceState → DeviceState → DeviceState → Type 0
TalkResult questions s partial c h turns (Ok _) new source left sink held =
    EndedTalk questions s partial c h turns new source left sink held
TalkResult questions s partial c h turns (Err errors.Read) new source left sink held =
    (reads : ℕ) × (reads < turns)
    × StoppedTalk questions s partial c h reads Waiting reasons.Read new source left sink held
TalkResult questions s partial c h turns (Err errors.Write) new source left sink held =
    (reads : ℕ) × (reads ≤ turns) × BrokenTalk questions s partial c h reads new source left sink held
TalkResult questions s partial c h turns (Err errors.Ended) new source left sink held =
    CutTalk questions s partial c h turns new source left sink held
TalkResult questions s partial c h turns (Err errors.Turns) new source left sink held =
    StoppedTalk questions s partial c h turns Waiting reasons.Turns new source left sink held
TalkResult questions s partial c h turns (Err errors.Memory) new source left sink held =
    (reads : ℕ) × (reads ≤ turns) × OutOfMemory questions s partial c h reads new source left sink held

-- What each result says, if a take of connection c found no memory before the talk: a take of the talk completes it.
-- After `Ok` this holds if the connection was neither Closed nor Failed before the talk, and after `Write` and `Memory`
-- if a read gave octets.
abbrev pub CompletedResult
    : List Question → MetaSettings → List ℕ → ℕ → History → ℕ → Result (Unit {0}) TalkError → MetaLinks
    → DeviceState → DeviceState → DeviceState → DeviceState → Type 0
CompletedResult questions s partial c h turns (Ok u) new source left sink held =
    IsGoingAt s c h → TalkResult questions s partial c h turns (Ok u) new source left sink held
CompletedResult questions s partial c h turns (Err errors.Write) new source left sink held =
    (reads : ℕ) × (reads ≤ turns)
    × BrokenTalk questions s (still_partial reads c partial) c h reads new source left sink held
CompletedResult questions s partial c h turns (Err errors.Memory) new source left sink held =
    (reads : ℕ) × (reads ≤ turns)
    × OutOfMemory questions s (still_partial reads c partial) c h reads new source left sink held
CompletedResult questions s partial c h turns (Err error) new source left sink held =
    TalkResult questions s partial c h turns (Err error) new source left sink held

-- What each result, except `Memory`, says of the devices. If one is blamed, one call of it failed and none of the
-- other; if none is blamed, no call failed. After `Ended`, the source has no octets left.
abbrev pub IsErrorOf : Result (Unit {0}) TalkError → DeviceState → DeviceState → DeviceState → DeviceState → Type 0
IsErrorOf (Ok _) source left sink held = HasNoFailure source left × HasNoFailure sink held
IsErrorOf (Err errors.Read) source left sink held =
    HasFailed source.failures left.failures × HasNoFailure sink held
IsErrorOf (Err errors.Write) source left sink held =
    HasFailed sink.failures held.failures × HasNoFailure source left
IsErrorOf (Err errors.Ended) source left sink held =
    IsAtEnd left.octets × HasNoFailure source left × HasNoFailure sink held
IsErrorOf (Err errors.Turns) source left sink held = HasNoFailure source left × HasNoFailure sink held
IsErrorOf (Err errors.Memory) source left sink held = Unit {0}

-- The reason that a refusal leaves the connection failed for.
abbrev pub reason_of : TalkError → Reason
reason_of errors.Read = reasons.Read
reason_of errors.Write = reasons.Write
reason_of errors.Ended = reasons.Ended
reason_of errors.Turns = reasons.Turns
reason_of errors.Memory = reasons.Memory

-- Each refusal leaves the connection failed for its reason.
abbrev pub IsStoppedFor : ℕ → Result (Unit {0}) TalkError → MetaLinks → Type 0
IsStoppedFor c (Ok _) new = Unit {0}
IsStoppedFor c (Err e) new = stop_at new.pool c ≡ Some (states.Failed (reason_of e))

-- What a talk with at most `turns` reads does, after every history before it.
pub record AfterTalk
    (c turns : ℕ) (result : Result (Unit {0}) TalkError) (old new : MetaLinks) (source left sink held : DeviceState)
    : Type 0 where
  pub on : (questions : List Question) (s : MetaSettings) (partial : List ℕ) (h : History)
      → MetaAfterPartial questions s partial h old
      → TalkResult questions s partial c h turns result new source left sink held
  pub whole : (questions : List Question) (s : MetaSettings) (partial : List ℕ) (h : History)
      → MetaAfterPartial questions s (c ∷ partial) h old
      → CompletedResult questions s partial c h turns result new source left sink held
  pub blamed : IsErrorOf result source left sink held
  pub stopped : IsStoppedFor c result new
