-- Octets that are the encodings of APDUs begin with these APDUs, and with nothing else.
use Rattle.std.proofs.Common.{◌≡◌, ℕ, List, [], ◌∷◌, ◌++◌, length, reverse, refl, sym, ap, subst, ◌∙◌, append_assoc, arith}
use Rattle.std.specs.List.{flat_map}
use Rattle.std.proofs.lemmas.List.{reverse-append}
use Rattle.zber.specs.declared.fault.FaultKind.{FaultKind}
use Rattle.zber.specs.Elements.{Element}
use Rattle.zber.specs.Spelling.{HasFirstMessage}
use Rattle.zber.specs.Shown.{HasFault}
use Rattle.zber.specs.Laws.{AreMessages, nothing, one}
use Rattle.zber.proofs.OneOutcome.{one_message, message_or_fault}
use Rattle.zber.proofs.Stays.{fault_stays}
use Rattle.zapdu.specs.declared.apdu.Apdu.{Apdu}
use Rattle.zapdu.specs.declared.apdu.ApduError.{ApduError}
use Rattle.zapdu.specs.declared.apdu.ApduError.TheVariants as decode
use Rattle.zapdu.specs.Writes.{Writes}
use Rattle.zapdu.proofs.Decoding.{one_value}
use Rattle.zapdu.proofs.Refusals.{one_refusal}
use Rattle.zorigin.specs.Sending.{encoding_of, sent_of, IsReadBack}
use Rattle.zoom_pool.specs.Inputs.{Input, AlreadyStopped, Message, Foreign, Fault, Rest, Nothing, IsForeign, AreInput}
use Rattle.zber.specs.declared.framer.TheConstants.{MESSAGE_LIMIT}
use Rattle.zoom_pool.specs.Hosts as hosts
use Rattle.zoom_pool.specs.Hosts.{Holdings, AreReceived}
use Rattle.zoom_pool.proofs.Uniqueness.{none_begins}
use Rattle.zoom_pool.proofs.Streams.{begins_longer}
use Rattle.zoom_pool.specs.Connections.{AreReadBack}

-- the encodings begin with this element, which encodes the first APDU
pub record IsNext (vs : List Apdu) (e : Element) (rest : List ℕ) : Type 0 where
  pub first : Apdu
  pub others : List Apdu
  pub are : vs ≡ first ∷ others
  pub writes : Writes first e
  pub rest_is : rest ≡ flat_map encoding_of others
  pub read : AreReadBack others

pub next_is : (vs : List Apdu) (xs rest : List ℕ) (e : Element) → AreReadBack vs → xs ≡ flat_map encoding_of vs
    → HasFirstMessage MESSAGE_LIMIT xs e rest → IsNext vs e rest
next_is [] xs rest e all is b = absurd (none_begins e rest (subst (λ z. HasFirstMessage MESSAGE_LIMIT z e rest) is b))
next_is (v ∷ vs) xs rest e all is b =
    let mine : IsReadBack (sent_of v) = all.0 in
    let behind = flat_map encoding_of vs in
    let same = one_message MESSAGE_LIMIT (encoding_of v ++ behind) e mine.element rest behind
    (subst (λ z. HasFirstMessage MESSAGE_LIMIT z e rest) is b) (mine.framed behind) in
    record {
      first = v;
      others = vs;
      are = refl;
      writes = subst (λ z. Writes v z) (sym same.0) mine.stands;
      rest_is = same.1;
      read = all.1;
    }

-- ---- messages

-- the messages are the first APDUs, and the other APDUs are behind them
pub record IsCut (vs : List Apdu) (es : List Element) (rest : List ℕ) : Type 0 where
  pub front : List Apdu
  pub others : List Apdu
  pub are : vs ≡ front ++ others
  pub count : length front ≡ length es
  pub rest_is : rest ≡ flat_map encoding_of others
  pub read : AreReadBack others

pub cut_by : {xs rest : List ℕ} {es : List Element} (vs : List Apdu) → AreReadBack vs → xs ≡ flat_map encoding_of vs
    → AreMessages MESSAGE_LIMIT xs es rest → IsCut vs es rest
cut_by vs all is nothing = record { front = []; others = vs; are = refl; count = refl; rest_is = is; read = all }
cut_by vs all is (one {xs = xs} {rest = rest} {e = e} {es = es} b g) =
    let n = next_is vs xs rest e all is b in
    let c = cut_by n.others n.read n.rest_is g in
    record {
      front = n.first ∷ c.front;
      others = c.others;
      are = n.are ∙ ap (λ z. n.first ∷ z) c.are;
      count = omega (arith, c.count);
      rest_is = c.rest_is;
      read = c.read;
    }

-- ---- what a target received

pub record IsReceived (vs received : List Apdu) (rest : List ℕ) : Type 0 where
  pub front : List Apdu
  pub others : List Apdu
  pub are : vs ≡ front ++ others
  pub reversed : received ≡ reverse front
  pub rest_is : rest ≡ flat_map encoding_of others
  pub read : AreReadBack others

pub received_cut : {holdings : Holdings} {stream : List ℕ} {received : List Apdu} {rest : List ℕ} (vs : List Apdu)
    → AreReadBack vs → stream ≡ flat_map encoding_of vs → AreReceived holdings stream received rest
    → IsReceived vs received rest
received_cut vs all is hosts.nothing =
    record { front = []; others = vs; are = refl; reversed = refl; rest_is = is; read = all }
received_cut vs all is (hosts.message {received = received} {rest = rest} {last = last} {e = e} {v = v} r b w t) =
    let c = received_cut vs all is r in
    let n = next_is c.others rest last e c.read c.rest_is b in
    let same : v ≡ n.first = one_value v n.first e w n.writes in
    record {
      front = c.front ++ n.first ∷ [];
      others = n.others;
      are = c.are ∙ ap (λ z. c.front ++ z) n.are ∙ sym (append_assoc c.front (n.first ∷ []) n.others);
      reversed = ap (λ z. z ∷ received) same ∙ ap (λ z. n.first ∷ z) c.reversed ∙ sym
          (reverse-append c.front (n.first ∷ []));
      rest_is = n.rest_is;
      read = n.read;
    }

-- the newest first
pub reversed_cut : (vs received : List Apdu) (rest : List ℕ) (c : IsReceived vs received rest)
    → reverse vs ≡ reverse c.others ++ received
reversed_cut vs received rest c =
    ap reverse c.are ∙ reverse-append c.front c.others ∙ ap (λ z. reverse c.others ++ z) (sym c.reversed)

-- ---- inputs

-- an APDU that is the next input is the first of them; the input is neither a fault nor a message that is no APDU
abbrev pub IsInputOf : List Apdu → Input → Type 0
IsInputOf vs (Message v) = (others : List Apdu) × (vs ≡ v ∷ others)
IsInputOf vs (Foreign error) = ⊥
IsInputOf vs (Fault kind at) = ⊥
IsInputOf vs _ = Unit {0}

-- an element that is refused encodes no APDU
pub written_foreign : (v : Apdu) (e : Element) (error : ApduError) → Writes v e → IsForeign e error → ⊥
written_foreign v e decode.NotApdu w f = one_refusal.written v e w f
written_foreign v e (decode.Malformed kind at) w f = f.0 v w
written_foreign v e decode.Memory w f = f

no_fault : (vs : List Apdu) (xs : List ℕ) (kind : FaultKind) (at : ℕ) → AreReadBack vs → xs ≡ flat_map encoding_of vs
    → HasFault MESSAGE_LIMIT xs kind at → ⊥
no_fault [] xs kind at all is f = absurd (omega (arith, f.some, ap length is))
no_fault (v ∷ vs) xs kind at all is f =
    let mine : IsReadBack (sent_of v) = all.0 in
    let behind = flat_map encoding_of vs in
    message_or_fault MESSAGE_LIMIT (encoding_of v ++ behind) mine.element behind kind at (mine.framed behind)
    (subst (λ z. HasFault MESSAGE_LIMIT z kind at) is f)

pub input_is : (vs : List Apdu) (rest more : List ℕ) (input : Input) → AreReadBack vs → rest ++ more ≡ flat_map encoding_of vs
    → AreInput rest input → IsInputOf vs input
input_is vs rest more AlreadyStopped all is m = tt
input_is vs rest more (Message v) all is m =
    let n = next_is vs (rest ++ more) (m.rest ++ more) m.element all is
    (begins_longer rest m.rest more m.element m.begins) in
    (n.others, n.are ∙ ap (λ z. z ∷ n.others) (one_value n.first v m.element n.writes m.read))
input_is vs rest more (Foreign error) all is m =
    let n = next_is vs (rest ++ more) (m.rest ++ more) m.element all is
    (begins_longer rest m.rest more m.element m.begins) in
    written_foreign n.first m.element error n.writes m.read
input_is vs rest more (Fault kind at) all is m = no_fault vs (rest ++ more) kind at all is
    (fault_stays MESSAGE_LIMIT rest more kind at m)
input_is vs rest more (Rest n) all is m = tt
input_is vs rest more Nothing all is m = tt

-- if encodings begin with no message, there are none
pub all_taken : (vs : List Apdu) (xs : List ℕ) → AreReadBack vs → xs ≡ flat_map encoding_of vs
    → ((e : Element) (rest : List ℕ) → HasFirstMessage MESSAGE_LIMIT xs e rest → ⊥) → vs ≡ []
all_taken [] xs all is none = refl
all_taken (v ∷ vs) xs all is none =
    let mine : IsReadBack (sent_of v) = all.0 in
    let behind = flat_map encoding_of vs in
    absurd (none mine.element behind (subst (λ z. HasFirstMessage MESSAGE_LIMIT z mine.element behind) (sym is) (mine.framed behind)))
