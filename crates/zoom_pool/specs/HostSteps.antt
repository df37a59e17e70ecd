-- What the steps do that receive messages and put replies.
use Rattle.std.specs.Prelude.{◌≡◌, ℕ, ◌<◌, Bool, true, false, not, List, ◌∷◌, ◌++◌, length, Option, None, Some, Result, Ok, Err}
use Rattle.zber.specs.declared.fault.FrameError.{FrameError}
use Rattle.zber.specs.declared.fault.FrameError.TheVariants as frames
use Rattle.zber.specs.Elements.{Element}
use Rattle.zber.specs.Stream.{Stream}
use Rattle.zapdu.specs.declared.apdu.Apdu.{Apdu}
use Rattle.zorigin.specs.Sending.{encoding_of, sent_of, IsReadBack}
use Rattle.ztarget.specs.declared.database.Database.{Database}
use Rattle.ztarget.specs.declared.settings.TargetSettings.{TargetSettings}
use Rattle.ztarget.specs.declared.error.TargetError.{TargetError}
use Rattle.ztarget.specs.Receiving.{TargetState, IsOwedReplyLast, After as TargetAfter}
use Rattle.zapdu.specs.Writes.{Writes}
use Rattle.zoom_pool.specs.Inputs.{Input, IsReadAs}
use Rattle.zoom_pool.specs.Transcripts.{joined}
use Rattle.zoom_pool.specs.declared.receiving.Reception.{Reception}
use Rattle.zoom_pool.specs.declared.receiving.Reception.TheVariants as stages
use Rattle.zoom_pool.specs.Hosts.{HostState, Holdings, owed_by, AreReceived, IsStopping, IsHostRest, ArePutLast, IsShort, IsLong, IsFramerAt}

-- A target had received and released these APDUs, with these replies pending. It has now received `now` of the
-- stream, newest first; `rest` follows, and `Then` holds of both.
pub record Receipt
    (holdings : Holdings) (stream : List ℕ) (released received pending : List Apdu) (target : TargetState)
    (Then : Holdings → List Apdu → List ℕ → Type 0)
    : Type 0 where
  pub now : List Apdu
  pub rest : List ℕ
  pub target_is : TargetAfter holdings.databases holdings.settings now released target
  pub messages : AreReceived holdings stream now rest
  pub replies : ArePutLast holdings received pending now target.pending
  pub then : Then holdings now rest

-- if `Before` was reached with the old target, `Behind` is reached with the new one
abbrev pub ReceiptStep :
    (Holdings → List Apdu → List ℕ → Type 0) → (Holdings → List Apdu → List ℕ → Type 0)
    → TargetState → TargetState → Type 0
ReceiptStep Before Behind old new =
    (holdings : Holdings) (stream : List ℕ) (released received pending : List Apdu)
    → Receipt holdings stream released received pending old Before
    → Receipt holdings stream released received pending new Behind

-- the framer has the octets that follow
abbrev pub IsFollowing : Stream → Holdings → List Apdu → List ℕ → Type 0
IsFollowing framer holdings received rest = IsFramerAt framer rest

-- not stopped: the framer has the octets that follow, which are no whole message; stopped: they stop the serving
-- end
abbrev pub IsReceiptEnd : Stream → Bool → Holdings → List Apdu → List ℕ → Type 0
IsReceiptEnd framer false holdings received rest = IsFramerAt framer rest × IsHostRest holdings received rest false
IsReceiptEnd framer true holdings received rest = IsHostRest holdings received rest true

-- nothing is said of the octets that follow
abbrev pub AnyRest : Holdings → List Apdu → List ℕ → Type 0
AnyRest holdings received rest = Unit {0}

-- what receiving the next message does
abbrev pub ReceiveNextResult : {E : Type 0} → Result Reception E → Stream → Stream → TargetState → TargetState → Type 0
ReceiveNextResult (Ok stages.More) framer later old new =
    ReceiptStep (IsFollowing framer) (IsFollowing later) old new × (length later.octets < length framer.octets)
ReceiveNextResult (Ok stages.Unfinished) framer later old new = ReceiptStep (IsFollowing framer)
    (IsReceiptEnd later false) old new
ReceiveNextResult (Ok stages.Stopping) framer later old new = ReceiptStep (IsFollowing framer)
    (IsReceiptEnd later true) old new
ReceiveNextResult (Err e) framer later old new = ReceiptStep (IsFollowing framer) AnyRest old new

-- a fault of the framer stops the serving end; missing memory is an error
abbrev pub IsReceptionOf : {E : Type 0} → FrameError → Result Reception E → Type 0
IsReceptionOf (frames.Fault kind at) (Ok stage) = stage ≡ stages.Stopping
IsReceptionOf (frames.Fault kind at) (Err e) = ⊥
IsReceptionOf frames.Memory (Ok stage) = ⊥
IsReceptionOf frames.Memory (Err e) = Unit {0}

-- what receiving all messages does
abbrev pub ReceiveAllResult : {E : Type 0} → Result Bool E → Stream → Stream → TargetState → TargetState → Type 0
ReceiveAllResult (Ok stopped) framer later old new =
    ReceiptStep (IsFollowing framer) (IsReceiptEnd later stopped) old new
ReceiveAllResult (Err e) framer later old new = ReceiptStep (IsFollowing framer) AnyRest old new

-- the target took the APDU, and put its reply last
abbrev pub ApduReceipt : Apdu → TargetState → TargetState → Type 0
ApduReceipt v old new =
    (databases : List Database) (settings : TargetSettings) (received released : List Apdu)
    → TargetAfter databases settings received released old
    → TargetAfter databases settings (v ∷ received) released new
    × IsOwedReplyLast databases settings received v old.pending new.pending

-- what receiving an APDU does: the target takes it; or the target refuses it for a reason other than memory; or no
-- memory was found. The target is unchanged unless it takes the APDU.
abbrev pub ReceiveApduResult : {E : Type 0} → Apdu → Result Bool E → TargetState → TargetState → Type 0
ReceiveApduResult v (Ok true) old new = ApduReceipt v old new
ReceiveApduResult v (Ok false) old new =
    (new ≡ old) × ((holdings : Holdings) (received released : List Apdu)
    → TargetAfter holdings.databases holdings.settings received released old
    → (error : TargetError) × (owed_by holdings received v ≡ Err error))
ReceiveApduResult v (Err e) old new = new ≡ old

-- the message is not taken and stops the serving end; the target is unchanged
abbrev pub MessageRefusal : Element → TargetState → TargetState → Type 0
MessageRefusal n old new =
    (new ≡ old) × ((holdings : Holdings) (received released : List Apdu)
    → TargetAfter holdings.databases holdings.settings received released old
    → (input : Input) × IsReadAs n input × IsStopping holdings received input)

-- the message is an APDU that the target takes, or it stops the serving end
abbrev pub MessageReceipt : Element → Bool → TargetState → TargetState → Type 0
MessageReceipt n true old new = (v : Apdu) × Writes v n × ApduReceipt v old new
MessageReceipt n false old new = MessageRefusal n old new

-- what receiving a message does; if no memory is found, the target is unchanged
abbrev pub ReceiveMessageResult : {E : Type 0} → Element → Result Bool E → TargetState → TargetState → Type 0
ReceiveMessageResult n (Ok taken) old new = MessageReceipt n taken old new
ReceiveMessageResult n (Err e) old new = new ≡ old

-- the encoding of a reply, from which the reply is read back; none if it is too long
abbrev pub EncodeReplyResult : {E : Type 0} → Apdu → Result (Option (List ℕ)) E → Type 0
EncodeReplyResult reply (Ok (Some octets)) = (octets ≡ encoding_of reply) × IsShort reply × IsReadBack (sent_of reply)
EncodeReplyResult reply (Ok None) = IsLong reply
EncodeReplyResult reply (Err e) = Unit {0}

-- what putting a reply does: its octets go last; or it is too long; or no memory was found. Nothing changes unless
-- it is put.
abbrev pub PutReplyResult : {E : Type 0} → Apdu → Result Bool E → List (List ℕ) → List (List ℕ) → Type 0
PutReplyResult reply (Ok true) old new =
    (joined new ≡ joined old ++ encoding_of reply) × IsShort reply × IsReadBack (sent_of reply)
PutReplyResult reply (Ok false) old new = (new ≡ old) × IsLong reply
PutReplyResult reply (Err e) old new = new ≡ old

-- the framer has the octets before the piece, and the piece follows
abbrev pub IsFollowingPiece : Stream → List ℕ → Holdings → List Apdu → List ℕ → Type 0
IsFollowingPiece framer piece holdings received rest =
    (before : List ℕ) × (rest ≡ before ++ piece) × IsFramerAt framer before

-- the octets that wait to go out, and whether a Close was put, are unchanged
abbrev pub SameOutput : HostState → HostState → Type 0
SameOutput old new = (new.waiting ≡ old.waiting) × (new.closed ≡ old.closed)

-- what receiving a piece does
abbrev pub ReceivePieceResult : {E : Type 0} → List ℕ → Result Bool E → HostState → HostState → Type 0
ReceivePieceResult piece (Ok stopped) old new =
    SameOutput old new × ReceiptStep (IsFollowingPiece old.framer piece)
    (IsReceiptEnd new.framer stopped) old.target new.target
ReceivePieceResult piece (Err e) old new =
    SameOutput old new × ReceiptStep (IsFollowingPiece old.framer piece) AnyRest old.target new.target

-- the reply was not put
abbrev pub is_not_put : {E : Type 0} → Result Bool E → Bool
is_not_put (Ok put) = not put
is_not_put (Err e) = true
