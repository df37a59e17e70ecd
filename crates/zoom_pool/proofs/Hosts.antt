-- What a serving end receives and puts, step by step.
use Rattle.std.proofs.Common.{◌≡◌, ◌≢◌, ◌⊎◌, inl, inr, ℕ, ◌<◌, ◌≤◌, Bool, true, false, List, [], ◌∷◌, ◌++◌, length, None, Some, Result, Ok, Err, refl, sym, ap, subst, ◌∙◌, append_assoc, length-append, true≢false, arith}
use Rattle.zber.specs.declared.fault.FaultKind.{FaultKind}
use Rattle.zber.specs.declared.fault.FrameError.{FrameError}
use Rattle.zber.specs.declared.fault.FrameError.TheVariants as frames
use Rattle.zber.specs.Elements.{Element, height}
use Rattle.zber.specs.Canonical.{canonical}
use Rattle.zber.specs.Spelling.{HasFirstMessage}
use Rattle.zber.specs.Shown.{HasFault}
use Rattle.zber.specs.Stream.{Stream, AfterNext}
use Rattle.zber.specs.Unfinished.{IsUnfinished}
use Rattle.zber.proofs.ScanSteps.{spells_some}
use Rattle.zapdu.specs.declared.apdu.Apdu.{Apdu}
use Rattle.zapdu.specs.declared.apdu.ApduError.{ApduError}
use Rattle.zapdu.specs.declared.apdu.ApduError.TheVariants as decode
use Rattle.zapdu.specs.Writes.{Writes, IsDecodeResult, apdu_spelling}
use Rattle.zorigin.specs.Sending.{encoding_of, element_octets}
use Rattle.ztarget.specs.Levels.{HasElement}
use Rattle.ztarget.specs.Replies.{reply_of}
use Rattle.ztarget.specs.Receiving.{TargetState, IsOwedReplyLast, After as TargetAfter}
use Rattle.zoom_pool.specs.Inputs.{Input, Message, Foreign, Fault, Rest, Nothing, AlreadyStopped, IsReadAs, AreInput}
use Rattle.zber.specs.declared.framer.TheConstants.{MESSAGE_LIMIT}
use Rattle.zoom_pool.specs.Hosts.{HostState, IsLong, IsShort, Holdings, AreReceived, nothing, message, ArePutLast, IsFramerAt, replies_to}
use Rattle.zoom_pool.specs.HostSteps.{ReceiptStep, IsFollowing, IsFollowingPiece, IsReceiptEnd, AnyRest, ApduReceipt, MessageRefusal, ReceiveApduResult, ReceiveNextResult, IsReceptionOf, MessageReceipt, ReceiveMessageResult, ReceiveAllResult, SameOutput, ReceivePieceResult}
use Rattle.zoom_pool.specs.declared.receiving.Reception.{Reception}
use Rattle.zoom_pool.proofs.Streams.{begins_longer}
use Rattle.zoom_pool.proofs.Taking.{foreign}

pub messages_longer : {holdings : Holdings} {stream : List ℕ} {received : List Apdu} {rest : List ℕ} (piece : List ℕ)
    → AreReceived holdings stream received rest → AreReceived holdings (stream ++ piece) received (rest ++ piece)
messages_longer piece nothing = nothing
messages_longer piece (message {rest = rest} {last = last} {e = e} r b w t) = message (messages_longer piece r) (begins_longer rest last piece e b) w t

-- the reply to one more APDU is put last
one_put : (holdings : Holdings) (received pending now then later : List Apdu) (v : Apdu) → ArePutLast holdings received pending now then
    → IsOwedReplyLast holdings.databases holdings.settings now v then later → ArePutLast holdings received pending (v ∷ now) later
one_put holdings received pending now then later v p a = record {
  more = p.more ++ a.by.reply ∷ [];
  owed = ap (λ r. replies_to holdings now ++ reply_of r) a.is_owed ∙ ap (λ z. z ++ a.by.reply ∷ []) p.owed ∙ append_assoc (replies_to holdings received) p.more (a.by.reply ∷ []);
  last = a.last ∙ ap (λ z. z ++ a.by.reply ∷ []) p.last ∙ append_assoc pending p.more (a.by.reply ∷ []);
}

input_message : (xs rest : List ℕ) (e : Element) (input : Input) → HasFirstMessage MESSAGE_LIMIT xs e rest → IsReadAs e input → AreInput xs input
input_message xs rest e (Message v) b r = record { element = e; rest = rest; begins = b; read = r }
input_message xs rest e (Foreign error) b r = record { element = e; rest = rest; begins = b; read = r }
input_message xs rest e AlreadyStopped b r = absurd r
input_message xs rest e (Fault kind at) b r = absurd r
input_message xs rest e (Rest n) b r = absurd r
input_message xs rest e Nothing b r = absurd r

-- a message whose APDU the target took or refused
pub message_received : {E : Type 0} (n : Element) (v : Apdu) (r : Result Bool E) (old new : TargetState) → Writes v n → ReceiveApduResult v r old new → ReceiveMessageResult n r old new
message_received n v (Ok true) old new w t = (v, w, t)
message_received n v (Ok false) old new w t = (t.0, λ holdings received released a. (Message v, w, t.1 holdings received released a))
message_received n v (Err e) old new w t = t

pub message_taken : (n : Element) (taken : Bool) (old new : TargetState) → MessageReceipt n taken old new → taken ≡ true → (v : Apdu) × Writes v n × ApduReceipt v old new
message_taken n true old new m is = m
message_taken n false old new m is = absurd (true≢false (sym is))

pub message_stops : (n : Element) (taken : Bool) (old new : TargetState) → MessageReceipt n taken old new → taken ≡ false → MessageRefusal n old new
message_stops n true old new m is = absurd (true≢false is)
message_stops n false old new m is = m

-- a message that is no APDU
pub message_foreign : (n : Element) (error : ApduError) (t : TargetState) → error ≢ decode.Memory → IsDecodeResult n (Err error) → MessageRefusal n t t
message_foreign n error t other d = (refl, λ holdings received released a. (Foreign error, foreign n error other d, tt))

module _ (framer later : Stream) (e : Element) (old new : TargetState) where
  -- a message was received
  pub next_received : AfterNext framer (Ok (Some e)) later → (v : Apdu) → Writes v e → ApduReceipt v old new → ReceiptStep (IsFollowing framer) (IsFollowing later) old new
  next_received a v w t holdings stream released received pending r =
      let taken = t holdings.databases holdings.settings r.now released r.target_is in
      let begins : HasFirstMessage MESSAGE_LIMIT r.rest e later.octets = subst (λ z. HasFirstMessage z r.rest e later.octets) r.then.limited (subst (λ z. HasFirstMessage framer.limit z e later.octets) (sym r.then.rest_is) a.1) in
      record {
        now = v ∷ r.now;
        rest = later.octets;
        target_is = taken.0;
        messages = message r.messages begins w taken.1.is_owed;
        replies = one_put holdings received pending r.now old.pending new.pending v r.replies taken.1;
        then = record { rest_is = refl; limited = ap (λ z. z.limit) a.2 ∙ r.then.limited; sound = ap (λ z. z.fault) a.2 ∙ r.then.sound };
      }

  -- a message was not taken, so it stops the serving end
  pub next_stopped : AfterNext framer (Ok (Some e)) later → MessageRefusal e old new → ReceiptStep (IsFollowing framer) (IsReceiptEnd later true) old new
  next_stopped a s holdings stream released received pending r =
      let same = s.0 in
      let is = s.1 holdings r.now released r.target_is in
      let begins : HasFirstMessage MESSAGE_LIMIT r.rest e later.octets = subst (λ z. HasFirstMessage z r.rest e later.octets) r.then.limited (subst (λ z. HasFirstMessage framer.limit z e later.octets) (sym r.then.rest_is) a.1) in
      record {
        now = r.now;
        rest = r.rest;
        target_is = subst (λ z. TargetAfter holdings.databases holdings.settings r.now released z) (sym same) r.target_is;
        messages = r.messages;
        replies = subst (λ z. ArePutLast holdings received pending r.now z) (sym (ap (λ z. z.pending) same)) r.replies;
        then = (is.0, input_message r.rest later.octets e is.0 begins is.1, is.2);
      }

-- what was reached with `Before` is reached with `Behind`, if `Behind` follows from it
led : (Before Behind : Holdings → List Apdu → List ℕ → Type 0) (target : TargetState)
    → ((holdings : Holdings) (received : List Apdu) (rest : List ℕ) → Before holdings received rest → Behind holdings received rest) → ReceiptStep Before Behind target target
led Before Behind target f holdings stream released received pending r = record {
  now = r.now;
  rest = r.rest;
  target_is = r.target_is;
  messages = r.messages;
  replies = r.replies;
  then = f holdings r.now r.rest r.then;
}

-- no whole message follows
pub next_waits : (framer later : Stream) (target : TargetState) → AfterNext framer (Ok None) later → ReceiptStep (IsFollowing framer) (IsReceiptEnd later false) target target
next_waits framer later target a = led (IsFollowing framer) (IsReceiptEnd later false) target (λ holdings received rest at. (
  record { rest_is = at.rest_is ∙ sym (ap (λ z. z.octets) a.2); limited = ap (λ z. z.limit) a.2 ∙ at.limited; sound = ap (λ z. z.fault) a.2 ∙ at.sound },
  subst (λ z. IsUnfinished MESSAGE_LIMIT z) (sym at.rest_is) (subst (λ z. IsUnfinished z framer.octets) at.limited a.1),
))

shown : (framer : Stream) (rest : List ℕ) (kind : FaultKind) (at : ℕ) → IsFramerAt framer rest
    → (framer.fault ≡ Some (kind, at)) ⊎ ((framer.fault ≡ None) × HasFault framer.limit framer.octets kind at) → HasFault MESSAGE_LIMIT rest kind at
shown framer rest kind at is (inl f) = absurd (no_some (sym f ∙ is.sound)) where
  no_some : {A : Type 0} {x : A} → Some x ≡ None → ⊥
  no_some q = cc
shown framer rest kind at is (inr s) = subst (λ z. HasFault MESSAGE_LIMIT z kind at) (sym is.rest_is) (subst (λ z. HasFault z framer.octets kind at) is.limited s.1)

-- the octets show a fault
pub next_fault : (framer later : Stream) (target : TargetState) (kind : FaultKind) (at : ℕ) → AfterNext framer (Err (frames.Fault kind at)) later → ReceiptStep (IsFollowing framer) (IsReceiptEnd later true) target target
next_fault framer later target kind at a = led (IsFollowing framer) (IsReceiptEnd later true) target (λ holdings received rest is. (Fault kind at, shown framer rest kind at is a.1, tt))

pub next_memory : (framer : Stream) (target : TargetState) → ReceiptStep (IsFollowing framer) AnyRest target target
next_memory framer target = led (IsFollowing framer) AnyRest target (λ holdings received rest is. tt)

-- the framer returned an error
pub next_error : (E : Type 0) (framer later : Stream) (target : TargetState) (error : FrameError) (stage : Result Reception E)
    → AfterNext framer (Err error) later → IsReceptionOf error stage → ReceiveNextResult stage framer later target target
next_error E framer later target (frames.Fault kind at) (Ok stage) a is =
    subst (λ z. ReceiveNextResult {E = E} (Ok z) framer later target target) (sym is) (next_fault framer later target kind at a)
next_error E framer later target (frames.Fault kind at) (Err e) a is = absurd is
next_error E framer later target frames.Memory (Ok stage) a is = absurd is
next_error E framer later target frames.Memory (Err e) a is = next_memory framer target

-- a message removes octets from the framer
pub next_shorter : (framer later : Stream) (e : Element) → AfterNext framer (Ok (Some e)) later → length later.octets < length framer.octets
next_shorter framer later e a = omega (arith, spells_some a.1.is.spelled, ap length a.1.cut, length-append a.1.message later.octets)

-- ---- a piece

-- the framer after a piece was fed
abbrev pub IsFedTo : Stream → List ℕ → Stream → Type 0
IsFedTo framer piece fed = framer.fault ≡ None → (fed.octets ≡ framer.octets ++ piece) × (fed.limit ≡ framer.limit) × (fed.fault ≡ framer.fault)

pub piece_follows : (framer fed : Stream) (piece : List ℕ) (target : TargetState) → IsFedTo framer piece fed → ReceiptStep (IsFollowingPiece framer piece) (IsFollowing fed) target target
piece_follows framer fed piece target w = led (IsFollowingPiece framer piece) (IsFollowing fed) target (λ holdings received rest f.
    let is = w f.2.sound in
    record {
      rest_is = f.1 ∙ ap (λ z. z ++ piece) f.2.rest_is ∙ sym is.0;
      limited = is.1 ∙ f.2.limited;
      sound = is.2 ∙ f.2.sound;
    })

-- one step after another
pub then_leads : (A B C : Holdings → List Apdu → List ℕ → Type 0) (old mid new : TargetState) → ReceiptStep A B old mid → ReceiptStep B C mid new → ReceiptStep A C old new
then_leads A B C old mid new f g holdings stream released received pending r = g holdings stream released received pending (f holdings stream released received pending r)

-- a piece was fed, and all whole messages were received
pub piece_done : {E : Type 0} (piece : List ℕ) (r : Result Bool E) (old new : HostState) (fed : Stream)
    → SameOutput old new → IsFedTo old.framer piece fed
    → ReceiveAllResult r fed new.framer old.target new.target → ReceivePieceResult piece r old new
piece_done piece (Ok stopped) old new fed same f l = (same, then_leads (IsFollowingPiece old.framer piece) (IsFollowing fed) (IsReceiptEnd new.framer stopped) old.target old.target new.target (piece_follows old.framer fed piece old.target f) l)
piece_done piece (Err e) old new fed same f l = (same, then_leads (IsFollowingPiece old.framer piece) (IsFollowing fed) AnyRest old.target old.target new.target (piece_follows old.framer fed piece old.target f) l)

-- ---- a reply

pub encoding_is : (reply : Apdu) (n : Element) → apdu_spelling reply ≡ Some n → encoding_of reply ≡ canonical n
unfolding encoding_of
encoding_is reply n built = ap element_octets built

some_is : (n m : Element) → Some n ≡ Some m → n ≡ m
some_is n m q = cc

-- an element that is not refused for its length
pub short_is : (reply : Apdu) (n : Element) (h : HasElement reply) → apdu_spelling reply ≡ Some n → ((height n ≤ 64) × (MESSAGE_LIMIT < length (canonical n)) → ⊥) → IsShort reply
short_is reply n h built fits long =
    let same : h.element ≡ n = some_is h.element n (sym h.built ∙ built) in
    fits (subst (λ z. height z ≤ 64) same h.levels, subst (λ z. MESSAGE_LIMIT < length z) (encoding_is reply n built) long)

pub long_is : (reply : Apdu) (n : Element) → apdu_spelling reply ≡ Some n → MESSAGE_LIMIT < length (canonical n) → IsLong reply
long_is reply n built long = subst (λ z. MESSAGE_LIMIT < length z) (sym (encoding_is reply n built)) long
