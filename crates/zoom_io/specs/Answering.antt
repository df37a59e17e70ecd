-- A target in memory answers over devices: what it is fed, and what it hands out (Z39.50-2003, 3.2).
use Rattle.std.specs.Prelude.{◌≡◌, ◌⊎◌, ℕ, suc, ◌-◌, ◌^◌, ◌<◌, ◌≤◌, Bool, true, false, List, [], ◌∷◌, ◌++◌, length, Result, Ok, Err}
use Rattle.std.specs.Io.KnownBytes.{Keeps, Appends, Consumes, IsAtEnd}
use Rattle.zoom_pool.specs.Hosts.{HostState, HostAfter, Holdings, HostEvent, HostFed, HostFedPart, Released, Lost, HostHandedOut, HostRecorded}
use Rattle.zoom_io.specs.declared.replies.AnswerError.{AnswerError}
use Rattle.zoom_io.specs.declared.replies.AnswerError.TheVariants as errors
use Rattle.zoom_devices.specs.Devices.{DeviceState, HasAppendedFront, HasFailed, HasNoFailure, IsUntouched}
use Rattle.zoom_io.specs.TalkTraces.{same}

-- ---- what is left to answer

-- No reply is left to release: the serving end stopped, or none is pending.
abbrev pub HasReleasedAll : HostState → Type 0
HasReleasedAll host = (host.stopped ≡ true) ⊎ (host.target.pending ≡ [])

-- No reply is left to release, and no octets wait to go out.
pub record HasAnsweredAll (host : HostState) : Type 0 where
  pub released : HasReleasedAll host
  pub none_waits : host.waiting ≡ []

-- The serving end neither stopped nor put its Close out. No reply is pending, and no octets wait to go out.
pub record IsReady (host : HostState) : Type 0 where
  pub going : host.stopped ≡ false
  pub unclosed : host.closed ≡ false
  pub none_pending : host.target.pending ≡ []
  pub none_waits : host.waiting ≡ []

-- ---- the events of an exchange

-- New events of a serving end, the newest first, after the older ones: with the octets fed to it, the octets it handed
-- out, and the number of pieces fed. A piece is fed only if the serving end is ready, and has as many octets as one
-- read gives: 1 to 4,096. The first pending reply is released each time.
pub data Exchanges (holdings : Holdings) (older : List HostEvent) : List HostEvent → List ℕ → List ℕ → ℕ → Type 0 where
  nothing : Exchanges holdings older [] [] [] 0
  fed : {more : List HostEvent} {read written : List ℕ} {reads : ℕ} (piece : List ℕ) (ready : HostState)
      → Exchanges holdings older more read written reads
      → HostAfter holdings (more ++ older) ready → IsReady ready → 0 < length piece → length piece ≤ 4096
      → Exchanges holdings older (HostFed piece ∷ more) (read ++ piece) written (suc reads)
  released : {more : List HostEvent} {read written : List ℕ} {reads : ℕ}
      → Exchanges holdings older more read written reads
      → Exchanges holdings older (Released 0 ∷ more) read written reads
  lost : {more : List HostEvent} {read written : List ℕ} {reads : ℕ}
      → Exchanges holdings older more read written reads
      → Exchanges holdings older (Lost 0 ∷ more) read written reads
  handed : {more : List HostEvent} {read written : List ℕ} {reads : ℕ} (octets : List ℕ)
      → Exchanges holdings older more read written reads
      → Exchanges holdings older (HostHandedOut octets ∷ more) read (written ++ octets) reads

-- An exchange so far, with this number of reads: the octets read are those fed, and the octets handed out are those
-- written.
pub record Exchange
    (holdings : Holdings) (events : List HostEvent) (reads : ℕ) (host : HostState) (source left sink held : DeviceState)
    : Type 0 where
  pub more : List HostEvent
  pub read : List ℕ
  pub written : List ℕ
  pub exchanges : Exchanges holdings events more read written reads
  pub after : HostAfter holdings (more ++ events) host
  pub consumed : Consumes source.octets left.octets read
  pub appended : Appends sink.octets held.octets written

-- The exchange goes on, from every exchange that leads to the old state, and no device fails.
pub record ExchangeStep (more : ℕ → ℕ) (old new : HostState)
    (left then_left held then_held : DeviceState) : Type 0 where
  pub on : (holdings : Holdings) (events : List HostEvent) (reads : ℕ) (source sink : DeviceState)
      → Exchange holdings events reads old source left sink held
      → Exchange holdings events (more reads) new source then_left sink then_held
  pub reader : HasNoFailure left then_left
  pub writer : HasNoFailure held then_held

-- ---- no memory is found

-- New events of a serving end, the newest first, until no memory is found. If it was for handing out, no reply was left
-- to release, and nothing more is handed out. If it was for a piece or a reply, the serving end has stopped. Or more
-- replies were released than memory can hold.
pub data StarvedEvents (holdings : Holdings) (older : List HostEvent) (host : HostState)
    : List HostEvent → List ℕ → List ℕ → ℕ → Type 0 where
  unhanded : {more : List HostEvent} {read written : List ℕ} {reads : ℕ}
      → Exchanges holdings older more read written reads → HasReleasedAll host
      → StarvedEvents holdings older host more read written reads
  unfed : {more : List HostEvent} {read written : List ℕ} {reads : ℕ} (piece : List ℕ) (ready : HostState)
      → Exchanges holdings older more read written reads
      → HostAfter holdings (more ++ older) ready → IsReady ready → 0 < length piece → length piece ≤ 4096
      → host.stopped ≡ true
      → StarvedEvents holdings older host (HostFedPart piece ∷ more) (read ++ piece) written (suc reads)
  unreleased : {more : List HostEvent} {read written : List ℕ} {reads : ℕ}
      → Exchanges holdings older more read written reads → host.stopped ≡ true
      → StarvedEvents holdings older host (Lost 0 ∷ more) read written reads
  too_many : {more : List HostEvent} {read written : List ℕ} {reads : ℕ}
      → Exchanges holdings older more read written reads → 2 ^ 64 - 1 ≤ length more
      → StarvedEvents holdings older host more read written reads

-- An exchange with this number of reads, until no memory is found.
pub record StarvedExchange
    (holdings : Holdings) (events : List HostEvent) (reads : ℕ) (host : HostState) (source left sink held : DeviceState)
    : Type 0 where
  pub more : List HostEvent
  pub read : List ℕ
  pub written : List ℕ
  pub starves : StarvedEvents holdings events host more read written reads
  pub after : HostAfter holdings (more ++ events) host
  pub consumed : Consumes source.octets left.octets read
  pub appended : Appends sink.octets held.octets written

-- No memory is found, after every exchange that leads to the old state, and no device fails.
pub record StarvedStep (old new : HostState) (left held : DeviceState) : Type 0 where
  pub on : (holdings : Holdings) (events : List HostEvent) (reads : ℕ) (source sink : DeviceState)
      → Exchange holdings events reads old source left sink held
      → StarvedExchange holdings events reads new source left sink held

-- No memory is found, with every device.
abbrev pub StarvedStepAlone : HostState → HostState → Type 0
StarvedStepAlone old new = (left held : DeviceState) → StarvedStep old new left held

-- ---- what is written

-- Replies were released, and the devices are unchanged.
abbrev pub AfterRelease : HostState → HostState → Type 0
AfterRelease old new = (left held : DeviceState) → ExchangeStep same old new left left held held

-- Every history that can have left the serving end leaves it no reply to release.
abbrev pub LeavesNoReply : HostState → Type 0
LeavesNoReply host =
    (holdings : Holdings) (events : List HostEvent) → HostAfter holdings events host → HasReleasedAll host

-- All replies were released, or no memory was found for one.
abbrev pub AfterReleaseAll : {E : Type 0} → Result (Unit {0}) E → HostState → HostState → Type 0
AfterReleaseAll (Ok _) old new = AfterRelease old new × LeavesNoReply new
AfterReleaseAll (Err _) old new = StarvedStepAlone old new

-- What waited was written. If no reply was left to release before, none is left.
pub record WriteStep (old new : HostState) (sink held : DeviceState) : Type 0 where
  pub on : (left : DeviceState) → ExchangeStep same old new left left sink held
  pub released : (holdings : Holdings) (events : List HostEvent)
      → HostAfter holdings events old → HasReleasedAll old → HasReleasedAll new
  pub none_waits : new.waiting ≡ []

-- What waited was handed out, and a write failed after a front of it.
pub record UnwrittenReplies (old new : HostState) (sink held : DeviceState) : Type 0 where
  pub handed : HostRecorded (HostHandedOut old.waiting) old new
  pub none_waits : new.waiting ≡ []
  pub front : HasAppendedFront sink.octets held.octets old.waiting
  pub failed : HasFailed sink.failures held.failures

-- After writing the replies: all were written, a write failed, or no memory was found and nothing changed.
abbrev pub AfterWriteReplies : Result (Unit {0}) AnswerError → HostState → HostState → DeviceState → DeviceState
    → Type 0
AfterWriteReplies (Ok _) old new sink held = WriteStep old new sink held
AfterWriteReplies (Err errors.Write) old new sink held = UnwrittenReplies old new sink held
AfterWriteReplies (Err errors.Memory) old new sink held = (new ≡ old) × (held ≡ sink)
AfterWriteReplies (Err _) old new sink held = ⊥

-- An exchange with this number of reads, in which all replies are released, and then a write failed.
pub record InterruptedExchange
    (holdings : Holdings) (events : List HostEvent) (reads : ℕ) (new : HostState) (source left sink held : DeviceState)
    : Type 0 where
  pub host : HostState
  pub before : DeviceState
  pub exchange : Exchange holdings events reads host source left sink before
  pub released : HasReleasedAll host
  pub unwritten : UnwrittenReplies host new before held

-- All replies were released, and what waited was written.
pub record ReplyStep (old new : HostState) (sink held : DeviceState) : Type 0 where
  pub on : (left : DeviceState) → ExchangeStep same old new left left sink held
  pub answered : (holdings : Holdings) (events : List HostEvent) → HostAfter holdings events old → HasAnsweredAll new

-- Writing the replies failed, after every exchange that leads to the old state.
pub record InterruptedStep (old new : HostState) (sink held : DeviceState) : Type 0 where
  pub on : (holdings : Holdings) (events : List HostEvent) (reads : ℕ) (source left first : DeviceState)
      → Exchange holdings events reads old source left first sink
      → InterruptedExchange holdings events reads new source left first held
  pub failed : HasFailed sink.failures held.failures

-- After releasing and writing all replies: a write failed, or no memory was found.
abbrev pub AfterReplyAll : Result (Unit {0}) AnswerError → HostState → HostState → DeviceState → DeviceState → Type 0
AfterReplyAll (Ok _) old new sink held = ReplyStep old new sink held
AfterReplyAll (Err errors.Write) old new sink held = InterruptedStep old new sink held
AfterReplyAll (Err errors.Memory) old new sink held =
    ((left : DeviceState) → StarvedStep old new left sink) × (held ≡ sink)
AfterReplyAll (Err _) old new sink held = ⊥

-- ---- what is read

-- A piece was read and fed, after every exchange that leads to the old state, if the serving end was ready.
pub record PieceStep (old new : HostState) (left then_left : DeviceState) : Type 0 where
  pub on : (holdings : Holdings) (events : List HostEvent) (reads : ℕ) (source sink held : DeviceState)
      → Exchange holdings events reads old source left sink held → IsReady old
      → Exchange holdings events (suc reads) new source then_left sink held
  pub reader : HasNoFailure left then_left

-- A piece was read, no memory was found for it, and the serving end stopped.
pub record UnfedPiece (old new : HostState) (left then_left : DeviceState) : Type 0 where
  pub on : (holdings : Holdings) (events : List HostEvent) (reads : ℕ) (source sink held : DeviceState)
      → Exchange holdings events reads old source left sink held → IsReady old
      → StarvedExchange holdings events (suc reads) new source then_left sink held
  pub reader : HasNoFailure left then_left

-- After reading a piece: it was fed; the input has ended; the read failed; or no memory was found.
abbrev pub AfterReadPiece : Result Bool AnswerError → HostState → HostState → DeviceState → DeviceState → Type 0
AfterReadPiece (Ok true) old new source left = PieceStep old new source left
AfterReadPiece (Ok false) old new source left = (new ≡ old) × IsUntouched source left × IsAtEnd left.octets
AfterReadPiece (Err errors.Read) old new source left =
    (new ≡ old) × Keeps source.octets left.octets × HasFailed source.failures left.failures
AfterReadPiece (Err errors.Memory) old new source left = UnfedPiece old new source left
AfterReadPiece (Err _) old new source left = ⊥

-- ---- how it ends

-- The serving end stopped, or put its Close out.
abbrev pub IsServed : HostState → Type 0
IsServed host = (host.stopped ≡ true) ⊎ (host.closed ≡ true)

-- The input ended, or the serving end stopped or put its Close out.
abbrev pub IsServedOrEnded : HostState → DeviceState → Type 0
IsServedOrEnded host left = IsAtEnd left.octets ⊎ IsServed host

-- How answering ended after n reads that gave octets, of at most `reads`, with all replies written. Either one read
-- more found the end of the input, or the serving end stopped or put its Close out.
abbrev pub IsEndAfter : ℕ → ℕ → HostState → DeviceState → Type 0
IsEndAfter n reads host left =
    ((n < reads) × IsAtEnd left.octets × IsReady host) ⊎ ((n ≤ reads) × IsServed host × HasAnsweredAll host)

-- What a result says of each exchange, and of the number of reads that gave octets. After `Memory`, the state is what
-- the octets fed, the replies released and the octets handed out have left.
abbrev pub ExchangeResult
    : Holdings → List HostEvent → ℕ → Result (Unit {0}) AnswerError → HostState
    → DeviceState → DeviceState → DeviceState → DeviceState → Type 0
ExchangeResult holdings events reads (Ok _) new source left sink held =
    (n : ℕ) × IsEndAfter n reads new left × Exchange holdings events n new source left sink held
ExchangeResult holdings events reads (Err errors.Read) new source left sink held =
    (n : ℕ) × (n < reads) × IsReady new × Exchange holdings events n new source left sink held
ExchangeResult holdings events reads (Err errors.Write) new source left sink held =
    (n : ℕ) × (n ≤ reads) × InterruptedExchange holdings events n new source left sink held
ExchangeResult holdings events reads (Err errors.Turns) new source left sink held =
    IsReady new × Exchange holdings events reads new source left sink held
ExchangeResult holdings events reads (Err errors.Memory) new source left sink held =
    (n : ℕ) × (n ≤ reads) × StarvedExchange holdings events n new source left sink held

-- What a result says of the end. If a device failed, one call of it failed, and none of the other device.
abbrev pub IsExchangeEnd
    : Result (Unit {0}) AnswerError → HostState → DeviceState → DeviceState → DeviceState → DeviceState → Type 0
IsExchangeEnd (Ok _) new source left sink held =
    IsServedOrEnded new left × HasNoFailure source left × HasNoFailure sink held
IsExchangeEnd (Err errors.Read) new source left sink held =
    HasFailed source.failures left.failures × HasNoFailure sink held
IsExchangeEnd (Err errors.Write) new source left sink held =
    HasFailed sink.failures held.failures × HasNoFailure source left
IsExchangeEnd (Err errors.Turns) new source left sink held =
    (new.stopped ≡ false) × (new.closed ≡ false) × HasNoFailure source left × HasNoFailure sink held
IsExchangeEnd (Err errors.Memory) new source left sink held = HasNoFailure source left × HasNoFailure sink held

-- What answering with at most `reads` reads does, after every history of the serving end.
pub record AfterAnswer
    (reads : ℕ) (result : Result (Unit {0}) AnswerError) (old new : HostState) (source left sink held : DeviceState)
    : Type 0 where
  pub on : (holdings : Holdings) (events : List HostEvent) → HostAfter holdings events old
      → ExchangeResult holdings events reads result new source left sink held
  pub end : IsExchangeEnd result new source left sink held
