-- A serving end (a target behind a stream of octets): its events, and what they amount to (Z39.50-2003, 3.2;
-- X.690, 8.1).
use Rattle.std.specs.Prelude.{◌≡◌, ◌⊎◌, ℕ, ◌<◌, Bool, true, false, List, [], ◌∷◌, ◌++◌, length, remove, slice_get, None, Some, Result, Ok, Err}
use Rattle.std.specs.List.{flat_map, list_any}
use Rattle.zber.specs.Elements.{Element}
use Rattle.zber.specs.Spelling.{HasFirstMessage}
use Rattle.zber.specs.Stream.{Stream}
use Rattle.zber.specs.Unfinished.{IsUnfinished}
use Rattle.zapdu.specs.declared.apdu.Apdu.{Apdu}
use Rattle.zapdu.specs.Writes.{Writes}
use Rattle.zorigin.specs.Sending.{encoding_of, sent_of, IsReadBack}
use Rattle.ztarget.specs.declared.database.Database.{Database}
use Rattle.ztarget.specs.declared.settings.TargetSettings.{TargetSettings}
use Rattle.ztarget.specs.declared.error.TargetError.{TargetError}
use Rattle.ztarget.specs.Replies.{OwedReply, owed, replies}
use Rattle.ztarget.specs.Receiving.{TargetState, is_close, may_release, After as TargetAfter}
use Rattle.zoom_pool.specs.Inputs.{Input, Message, Foreign, Fault, AreInput}
use Rattle.zber.specs.declared.framer.TheConstants.{MESSAGE_LIMIT}

-- A serving end, as contracts see it: its target; the octets that came and were not yet given out in a message;
-- and the octets that wait to go out. It also shows whether it stopped, and whether a Close was put to go out.
pub record HostState : Type 0 where
  pub target : TargetState
  pub framer : Stream
  pub waiting : List ℕ
  pub stopped : Bool
  pub closed : Bool

-- what a target has: its databases and its settings
pub record Holdings : Type 0 where
  pub databases : List Database
  pub settings : TargetSettings

-- what this target has
abbrev pub holdings_of : TargetState → Holdings
holdings_of t = record { databases = t.databases; settings = t.settings }

-- the reply that a target owes to an APDU after it received these, newest first; or why it does not take the APDU
abbrev pub owed_by : Holdings → List Apdu → Apdu → Result OwedReply TargetError
owed_by holdings received v = owed holdings.databases holdings.settings received v

-- ---- what is received

-- The stream begins with the messages of these APDUs, newest first, and then the rest follows. The target takes
-- each APDU after those before it.
pub data AreReceived (holdings : Holdings) (stream : List ℕ) : List Apdu → List ℕ → Type 0 where
  nothing : AreReceived holdings stream [] stream
  message : {received : List Apdu} {rest last : List ℕ} {e : Element} {by : OwedReply} {v : Apdu}
      → AreReceived holdings stream received rest → HasFirstMessage MESSAGE_LIMIT rest e last → Writes v e
      → owed_by holdings received v ≡ Ok by → AreReceived holdings stream (v ∷ received) last

-- what stops a serving end that received these: a fault of the framing, a message that is no APDU, an APDU that
-- its target does not take
abbrev pub IsStopping : Holdings → List Apdu → Input → Type 0
IsStopping holdings received (Message v) = (error : TargetError) × (owed_by holdings received v ≡ Err error)
IsStopping holdings received (Foreign error) = Unit {0}
IsStopping holdings received (Fault kind at) = Unit {0}
IsStopping holdings received _ = ⊥

-- the octets behind the messages received: no whole message and no fault; or, if stopped, what stops the serving
-- end
abbrev pub IsHostRest : Holdings → List Apdu → List ℕ → Bool → Type 0
IsHostRest holdings received rest false = IsUnfinished MESSAGE_LIMIT rest
IsHostRest holdings received rest true = (input : Input) × AreInput rest input × IsStopping holdings received input

-- All whole messages of the octets were received, up to what stops the serving end.
pub record HasReceived (holdings : Holdings) (stream : List ℕ) (received : List Apdu) (stopped : Bool) : Type 0 where
  pub rest : List ℕ
  pub messages : AreReceived holdings stream received rest
  pub behind : IsHostRest holdings received rest stopped

-- ---- the events of a serving end

-- An event of a serving end: a piece was fed; or a piece was fed, and some of its messages were received before no
-- memory was found; or octets were handed out. Or pending reply `k` was released and its encoding put last; or it
-- was released and lost, because it was too long or no memory was found.
pub data HostEvent : Type 0 where
  HostFed : List ℕ → HostEvent
  HostFedPart : List ℕ → HostEvent
  Released : ℕ → HostEvent
  Lost : ℕ → HostEvent
  HostHandedOut : List ℕ → HostEvent

-- What the events amount to: the octets fed, joined; the APDUs received, newest first; the pending replies; and
-- the replies released, in order. Then those of them that were put to go out, in order, and whether the serving
-- end stopped.
pub record HostTranscript : Type 0 where
  pub stream : List ℕ
  pub received : List Apdu
  pub pending : List Apdu
  pub released : List Apdu
  pub sent : List Apdu
  pub stopped : Bool

-- the transcript before any event
abbrev pub empty_host_transcript : HostTranscript
empty_host_transcript = record { stream = []; received = []; pending = []; released = []; sent = []; stopped = false }

-- the replies owed to these APDUs
abbrev pub replies_to : Holdings → List Apdu → List Apdu
replies_to holdings received = replies holdings.databases holdings.settings received

-- the replies owed to the APDUs received since are put last, in their order
pub record ArePutLast (holdings : Holdings) (received pending now then : List Apdu) : Type 0 where
  pub more : List Apdu
  pub owed : replies_to holdings now ≡ replies_to holdings received ++ more
  pub last : then ≡ pending ++ more

-- a piece was fed, and all whole messages were received, up to what stops the serving end
pub record FeedStep (holdings : Holdings) (piece : List ℕ) (p q : HostTranscript) : Type 0 where
  pub going : p.stopped ≡ false
  pub received : HasReceived holdings (p.stream ++ piece) q.received q.stopped
  pub replies : ArePutLast holdings p.received p.pending q.received q.pending
  pub is : q ≡ record p {
    stream = p.stream ++ piece;
    received = q.received;
    pending = q.pending;
    stopped = q.stopped;
  }

-- a piece was fed, some messages were received, and the serving end stopped
pub record PartialFeedStep (holdings : Holdings) (piece : List ℕ) (p q : HostTranscript) : Type 0 where
  pub going : p.stopped ≡ false
  pub rest : List ℕ
  pub messages : AreReceived holdings (p.stream ++ piece) q.received rest
  pub replies : ArePutLast holdings p.received p.pending q.received q.pending
  pub is : q ≡ record p { stream = p.stream ++ piece; received = q.received; pending = q.pending; stopped = true }

-- the encoding has more octets than a message may have
abbrev pub IsLong : Apdu → Type 0
IsLong reply = MESSAGE_LIMIT < length (encoding_of reply)

-- the encoding has no more octets than a message may have
abbrev pub IsShort : Apdu → Type 0
IsShort reply = IsLong reply → ⊥

-- pending reply `k` may be released, and is this reply
pub record IsReleasable (pending : List Apdu) (k : ℕ) (reply : Apdu) : Type 0 where
  pub may : may_release pending k ≡ true
  pub there : slice_get pending k ≡ Some reply

-- pending reply `k` was released and put to go out, and is read back from its encoding
pub record ReleaseStep (k : ℕ) (p q : HostTranscript) : Type 0 where
  pub going : p.stopped ≡ false
  pub reply : Apdu
  pub due : IsReleasable p.pending k reply
  pub short : IsShort reply
  pub reads : IsReadBack (sent_of reply)
  pub is : q ≡ record p {
    pending = remove p.pending k;
    released = p.released ++ reply ∷ [];
    sent = p.sent ++ reply ∷ [];
  }

-- pending reply `k` was released and lost, and the serving end stopped
pub record LossStep (k : ℕ) (p q : HostTranscript) : Type 0 where
  pub going : p.stopped ≡ false
  pub reply : Apdu
  pub due : IsReleasable p.pending k reply
  pub is : q ≡ record p { pending = remove p.pending k; released = p.released ++ reply ∷ []; stopped = true }

-- a stopped serving end ignores what is fed
abbrev pub IsIgnored : HostTranscript → HostTranscript → Type 0
IsIgnored p q = (p.stopped ≡ true) × (q ≡ p)

-- the transcript after one more event
abbrev pub HostEventStep : Holdings → HostEvent → HostTranscript → HostTranscript → Type 0
HostEventStep holdings (HostFed piece) p q = IsIgnored p q ⊎ FeedStep holdings piece p q
HostEventStep holdings (HostFedPart piece) p q = PartialFeedStep holdings piece p q
HostEventStep holdings (Released k) p q = ReleaseStep k p q
HostEventStep holdings (Lost k) p q = LossStep k p q
HostEventStep holdings (HostHandedOut octets) p q = q ≡ p

-- the transcript of these events, newest first
abbrev pub IsHostTranscript : Holdings → List HostEvent → HostTranscript → Type 0
IsHostTranscript holdings [] q = q ≡ empty_host_transcript
IsHostTranscript holdings (event ∷ events) q =
    (p : HostTranscript) × IsHostTranscript holdings events p × HostEventStep holdings event p q

-- the octets handed out, in order
abbrev pub handed_out : List HostEvent → List ℕ
handed_out [] = []
handed_out (HostHandedOut octets ∷ events) = handed_out events ++ octets
handed_out (_ ∷ events) = handed_out events

-- the framer has these octets and no fault
pub record IsFramerAt (framer : Stream) (rest : List ℕ) : Type 0 where
  pub rest_is : rest ≡ framer.octets
  pub limited : framer.limit ≡ MESSAGE_LIMIT
  pub sound : framer.fault ≡ None

-- the framer has the octets that follow the messages received
abbrev pub IsHostWaiting : Holdings → HostTranscript → Stream → Type 0
IsHostWaiting holdings p framer =
    (rest : List ℕ) × AreReceived holdings p.stream p.received rest × IsFramerAt framer rest

-- The events can have left this serving end. Its target received the messages of the octets fed, up to what
-- stopped it, and released these replies. The octets handed out, then those that wait, are the encodings of the
-- replies put, in order.
pub record HostAfter (holdings : Holdings) (events : List HostEvent) (host : HostState) : Type 0 where
  pub served : HostTranscript
  pub happened : IsHostTranscript holdings events served
  pub target : TargetAfter holdings.databases holdings.settings served.received served.released host.target
  pub pending : host.target.pending ≡ served.pending
  pub waiting : handed_out events ++ host.waiting ≡ flat_map encoding_of served.sent
  pub stopped : host.stopped ≡ served.stopped
  pub closed : host.closed ≡ list_any is_close served.sent
  pub framer : served.stopped ≡ false → IsHostWaiting holdings served host.framer

-- ---- what the calls say, each for every list of events that can have left the serving end

-- each list of events that can have left `old`, with this event added, can have left `new`
abbrev pub HostRecorded : HostEvent → HostState → HostState → Type 0
HostRecorded event old new =
    (holdings : Holdings) (events : List HostEvent)
    → HostAfter holdings events old → HostAfter holdings (event ∷ events) new

-- the serving end is stopped, or there is no such reply to release; nothing changed
abbrev pub HasNoReply : HostState → ℕ → HostState → Type 0
HasNoReply old k new = ((old.stopped ≡ true) ⊎ (may_release old.target.pending k ≡ false)) × (new ≡ old)

-- the reply was too long, and the serving end stopped
pub record IsTooLong (old : HostState) (k : ℕ) (new : HostState) : Type 0 where
  pub reply : Apdu
  pub due : IsReleasable old.target.pending k reply
  pub long : IsLong reply
  pub stopped : new.stopped ≡ true

-- What releasing pending reply `k` did: it was put; or there is none; or it was too long and is lost; or no memory
-- was found and it is lost.
abbrev pub ReleaseResult : {E : Type 0} → ℕ → Result Bool E → HostState → HostState → Type 0
ReleaseResult k (Ok true) old new = (old.stopped ≡ false) × HostRecorded (Released k) old new
ReleaseResult k (Ok false) old new = HasNoReply old k new ⊎ (IsTooLong old k new × HostRecorded (Lost k) old new)
ReleaseResult k (Err e) old new = (new.stopped ≡ true) × HostRecorded (Lost k) old new
