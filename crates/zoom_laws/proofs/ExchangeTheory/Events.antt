-- If memory was found, the host_events of a serving end have one transcript; and that transcript, if nothing stopped it.
use Rattle.std.proofs.Common.{◌≡◌, ◌⊎◌, inl, inr, ℕ, Bool, true, false, List, [], ◌∷◌, ◌++◌, Some, Result, Ok, Err, refl, sym, ap, subst, ◌∙◌, true≢false, remove, arith}
use Rattle.std.proofs.lemmas.List.{append_cancel_left}
use Rattle.zber.specs.Elements.{Element}
use Rattle.zber.specs.Spelling.{HasFirstMessage}
use Rattle.zber.specs.Unfinished.{IsUnfinished}
use Rattle.zber.proofs.OneOutcome.{one_message, message_or_fault}
use Rattle.zapdu.specs.declared.apdu.Apdu.{Apdu}
use Rattle.zapdu.specs.Writes.{Writes}
use Rattle.zapdu.proofs.Decoding.{one_value}
use Rattle.ztarget.specs.declared.error.TargetError.{TargetError}
use Rattle.ztarget.specs.Replies.{OwedReply}
use Rattle.zoom_pool.specs.Inputs.{Input, AlreadyStopped, Message, Foreign, Fault, Rest, Nothing, AreInput}
use Rattle.zber.specs.declared.framer.TheConstants.{MESSAGE_LIMIT}
use Rattle.zoom_pool.specs.Hosts.{Holdings, AreReceived, nothing, message, IsStopping, IsHostRest, HasReceived, HostEvent, HostFed, HostFedPart, Released, Lost, HostHandedOut, HostTranscript, ArePutLast, FeedStep, IsReleasable, ReleaseStep, LossStep, IsIgnored, IsHostTranscript, owed_by, replies_to}
use Rattle.zoom_pool.proofs.Uniqueness.{none_begins}
use Rattle.zoom_laws.specs.Exchange.{fed_to, ArePlain}
use Rattle.zoom_laws.proofs.ExchangeTheory.Framing.{written_foreign}

pub no_both : {a : OwedReply} {error : TargetError} {r : Result OwedReply TargetError} → r ≡ Ok a → r ≡ Err error → ⊥
no_both p q = cc (p, q)

-- ---- the messages, from the first

-- Behind these APDUs, the newest first, the octets begin with the messages of those that follow, and then comes the
-- rest.
data Follows (holdings : Holdings) : List Apdu → List ℕ → List Apdu → List ℕ → Type 0 where
  here : {received : List Apdu} {xs : List ℕ} → Follows holdings received xs received xs
  after : {received now : List Apdu} {xs rest last : List ℕ} {e : Element} {by : OwedReply} {v : Apdu}
      → HasFirstMessage MESSAGE_LIMIT xs e rest → Writes v e → owed_by holdings received v ≡ Ok by
      → Follows holdings (v ∷ received) rest now last → Follows holdings received xs now last

follows_more : {holdings : Holdings} {received now : List Apdu} {xs rest last : List ℕ} {e : Element} {by : OwedReply}
    {v : Apdu}
    → Follows holdings received xs now rest → HasFirstMessage MESSAGE_LIMIT rest e last → Writes v e → owed_by holdings now v ≡ Ok by
    → Follows holdings received xs (v ∷ now) last
follows_more here b w t = after b w t here
follows_more (after c x s f) b w t = after c x s (follows_more f b w t)

from_first : {holdings : Holdings} {stream rest : List ℕ} {received : List Apdu}
    → AreReceived holdings stream received rest
    → Follows holdings [] stream received rest
from_first nothing = here
from_first (message r b w t) = follows_more (from_first r) b w t

-- what stops a serving end is no message that it takes
stops_none : (holdings : Holdings) (received : List Apdu) (xs rest : List ℕ) (e : Element) (v : Apdu) (by : OwedReply)
    (input : Input)
    → HasFirstMessage MESSAGE_LIMIT xs e rest → Writes v e → owed_by holdings received v ≡ Ok by → AreInput xs input
    → IsStopping holdings received input → ⊥
stops_none holdings received xs rest e v by AlreadyStopped b w t m s = s
stops_none holdings received xs rest e v by (Message u) b w t m s =
    let same = one_message MESSAGE_LIMIT xs e m.element rest m.rest b m.begins in
    let value : v ≡ u = one_value v u m.element (subst (λ z. Writes v z) same.0 w) m.read in
    no_both (subst (λ z. owed_by holdings received z ≡ Ok by) value t) s.1
stops_none holdings received xs rest e v by (Foreign error) b w t m s =
    let same = one_message MESSAGE_LIMIT xs e m.element rest m.rest b m.begins in
    written_foreign v m.element error (subst (λ z. Writes v z) same.0 w) m.read
stops_none holdings received xs rest e v by (Fault kind at) b w t m s = message_or_fault MESSAGE_LIMIT xs e rest kind at b m
stops_none holdings received xs rest e v by (Rest n) b w t m s = s
stops_none holdings received xs rest e v by Nothing b w t m s = s

goes_on : (holdings : Holdings) (received : List Apdu) (xs rest : List ℕ) (e : Element) (v : Apdu) (by : OwedReply)
    (b : Bool)
    → IsHostRest holdings received xs b → HasFirstMessage MESSAGE_LIMIT xs e rest → Writes v e → owed_by holdings received v ≡ Ok by → ⊥
goes_on holdings received xs rest e v by false u b w t = u.no_message e rest b
goes_on holdings received xs rest e v by true u b w t = stops_none holdings received xs rest e v by u.0 b w t u.1 u.2

waits_none : (holdings : Holdings) (received : List Apdu) (xs : List ℕ) (input : Input) → IsUnfinished MESSAGE_LIMIT xs
    → AreInput xs input → IsStopping holdings received input → ⊥
waits_none holdings received xs AlreadyStopped u m s = s
waits_none holdings received xs (Message v) u m s = u.no_message m.element m.rest m.begins
waits_none holdings received xs (Foreign error) u m s = u.no_message m.element m.rest m.begins
waits_none holdings received xs (Fault kind at) u m s = u.no_fault kind at m
waits_none holdings received xs (Rest n) u m s = s
waits_none holdings received xs Nothing u m s = s

one_end : (holdings : Holdings) (received : List Apdu) (xs : List ℕ) (b c : Bool) → IsHostRest holdings received xs b
    → IsHostRest holdings received xs c → b ≡ c
one_end holdings received xs false false x y = refl
one_end holdings received xs true true x y = refl
one_end holdings received xs false true x y = absurd (waits_none holdings received xs y.0 x y.1 y.2)
one_end holdings received xs true false x y = absurd (waits_none holdings received xs x.0 y x.1 x.2)

one_follows : {holdings : Holdings} {before since now later : List Apdu} {xs ys last end : List ℕ} (b c : Bool)
    → Follows holdings before xs now last → Follows holdings since ys later end → before ≡ since → xs ≡ ys
    → IsHostRest holdings now last b → IsHostRest holdings later end c → (now ≡ later) × (b ≡ c)
one_follows {holdings} b c (here {received = r} {xs = xs}) (here {received = s} {xs = ys}) p q x y =
    (p, one_end holdings s ys b c (subst (λ z. IsHostRest holdings z ys b) p (subst (λ z. IsHostRest holdings r z b) q x)) y)
one_follows {holdings} b c (here {received = r} {xs = xs})
    (after {received = s} {xs = ys} {rest = rest} {e = e} {by = by} {v = v} g w t f) p q x y =
    absurd (goes_on holdings s ys rest e v by b
    (subst (λ z. IsHostRest holdings z ys b) p (subst (λ z. IsHostRest holdings r z b) q x)) g w t)
one_follows {holdings} b c (after {received = r} {xs = xs} {rest = rest} {e = e} {by = by} {v = v} g w t f)
    (here {received = s} {xs = ys}) p q x y =
    absurd (goes_on holdings r xs rest e v by c
    (subst (λ z. IsHostRest holdings z xs c) (sym p) (subst (λ z. IsHostRest holdings s z c) (sym q) y)) g w t)
one_follows {holdings} b c (after {received = r} {xs = xs} {rest = rest} {e = e} {v = v} g w t f)
    (after {received = s} {xs = ys} {rest = other} {e = d} {v = u} h k i j) p q x y =
    let same = one_message MESSAGE_LIMIT ys e d rest other (subst (λ z. HasFirstMessage MESSAGE_LIMIT z e rest) q g) h in
    let value : v ≡ u = one_value v u d (subst (λ z. Writes v z) same.0 w) k in
    one_follows b c f j (ap (λ z. z ∷ r) value ∙ ap (λ z. u ∷ z) p) same.1 x y

-- octets have one front that is received
pub one_received : (holdings : Holdings) (stream : List ℕ) (now later : List Apdu) (b c : Bool)
    → HasReceived holdings stream now b
    → HasReceived holdings stream later c → (now ≡ later) × (b ≡ c)
one_received holdings stream now later b c x y =
    one_follows b c (from_first x.messages) (from_first y.messages) refl refl x.behind y.behind

-- ---- law: host_events have one transcript

module _ (holdings : Holdings) where
  one_put_last : (received pending now later a b : List Apdu) → ArePutLast holdings received pending now a
      → ArePutLast holdings received pending later b → now ≡ later → a ≡ b
  one_put_last received pending now later a b x y e =
      let same : x.more ≡ y.more = append_cancel_left (replies_to holdings received) x.more y.more
      (sym x.owed ∙ ap (λ z. replies_to holdings z) e ∙ y.owed) in
      x.last ∙ ap (λ z. pending ++ z) same ∙ sym y.last

  one_transcript_of : (piece : List ℕ) (p r s : HostTranscript) → FeedStep holdings piece p r → FeedStep holdings piece p s → r ≡ s
  one_transcript_of piece p r s x y =
      let same = one_received holdings
      (p.stream ++ piece) r.received s.received r.stopped s.stopped x.received y.received in
      let put =
      one_put_last p.received p.pending r.received s.received r.pending s.pending x.replies y.replies same.0 in
      x.is
      ∙ (λ i. record p { stream = p.stream ++ piece; received = same.0 i; pending = put i; stopped = same.1 i })
      ∙ sym y.is

  one_piece : (piece : List ℕ) (p q r s : HostTranscript) → p ≡ q → IsIgnored p r ⊎ FeedStep holdings piece p r
      → IsIgnored q s ⊎ FeedStep holdings piece q s → r ≡ s
  one_piece piece p q r s e (inl x) (inl y) = x.1 ∙ e ∙ sym y.1
  one_piece piece p q r s e (inl x) (inr y) = absurd (true≢false (sym x.0 ∙ ap (λ z. z.stopped) e ∙ y.going))
  one_piece piece p q r s e (inr x) (inl y) = absurd (true≢false (sym y.0 ∙ ap (λ z. z.stopped) (sym e) ∙ x.going))
  one_piece piece p q r s e (inr x) (inr y) = one_transcript_of piece p r s x (subst (λ z. FeedStep holdings piece z s) (sym e) y)

  one_due : (pending : List Apdu) (k : ℕ) (a b : Apdu) → IsReleasable pending k a → IsReleasable pending k b → a ≡ b
  one_due pending k a b x y = some_is (sym x.there ∙ y.there)
    where
      some_is : {c d : Apdu} → Some c ≡ Some d → c ≡ d
      some_is e = cc

  one_sent : (k : ℕ) (p r s : HostTranscript) → ReleaseStep k p r → ReleaseStep k p s → r ≡ s
  one_sent k p r s x y =
      let same = one_due p.pending k x.reply y.reply x.due y.due in
      x.is
      ∙ (λ i. record p {
        pending = remove p.pending k;
        released = p.released ++ same i ∷ [];
        sent = p.sent ++ same i ∷ [];
      })
      ∙ sym y.is

  one_lost : (k : ℕ) (p r s : HostTranscript) → LossStep k p r → LossStep k p s → r ≡ s
  one_lost k p r s x y =
      let same = one_due p.pending k x.reply y.reply x.due y.due in
      x.is
      ∙ (λ i. record p { pending = remove p.pending k; released = p.released ++ same i ∷ []; stopped = true })
      ∙ sym y.is

  pub one_served : (host_events : List HostEvent) (p q : HostTranscript) → ArePlain host_events → IsHostTranscript holdings host_events p
      → IsHostTranscript holdings host_events q → p ≡ q
  one_served [] p q plain a b = a ∙ sym b
  one_served (HostFed piece ∷ host_events) p q plain a b =
      one_piece piece a.0 b.0 p q (one_served host_events a.0 b.0 plain a.1 b.1) a.2 b.2
  one_served (HostFedPart piece ∷ host_events) p q plain a b = absurd plain
  one_served (Released k ∷ host_events) p q plain a b =
      one_sent k a.0 p q a.2 (subst (λ z. ReleaseStep k z q) (sym (one_served host_events a.0 b.0 plain a.1 b.1)) b.2)
  one_served (Lost k ∷ host_events) p q plain a b =
      one_lost k a.0 p q a.2 (subst (λ z. LossStep k z q) (sym (one_served host_events a.0 b.0 plain a.1 b.1)) b.2)
  one_served (HostHandedOut octets ∷ host_events) p q plain a b =
      a.2 ∙ one_served host_events a.0 b.0 plain a.1 b.1 ∙ sym b.2

-- ---- a serving end that nothing stopped

-- all octets fed are in the stream, each released reply was sent, and all whole messages were received
pub record IsUnbroken (holdings : Holdings) (host_events : List HostEvent) (q : HostTranscript) : Type 0 where
  pub stream : q.stream ≡ fed_to host_events
  pub released : q.released ≡ q.sent
  pub received : HasReceived holdings q.stream q.received false

none_yet : IsUnfinished MESSAGE_LIMIT []
none_yet = record { no_message = none_begins; no_fault = λ k at s. absurd (omega (arith, s.some)) }

module _ (holdings : Holdings) where
  moved : (p q : HostTranscript) → q.stream ≡ p.stream → q.received ≡ p.received
      → HasReceived holdings p.stream p.received false
      → HasReceived holdings q.stream q.received false
  moved p q e f h = subst (λ z. HasReceived holdings z q.received false) (sym e)
      (subst (λ z. HasReceived holdings p.stream z false) (sym f) h)

  fed_unbroken : (piece : List ℕ) (host_events : List HostEvent) (p q : HostTranscript) →
      (p.stopped ≡ false → IsUnbroken holdings host_events p)
      → q.stopped ≡ false → IsIgnored p q ⊎ FeedStep holdings piece p q → IsUnbroken holdings (HostFed piece ∷ host_events) q
  fed_unbroken piece host_events p q older g (inl x) = absurd (true≢false (sym x.0 ∙ sym (ap (λ z. z.stopped) x.1) ∙ g))
  fed_unbroken piece host_events p q older g (inr x) =
      let u = older x.going in
      record {
        stream = ap (λ z. z.stream) x.is ∙ ap (λ z. z ++ piece) u.stream;
        released = ap (λ z. z.released) x.is ∙ u.released ∙ sym (ap (λ z. z.sent) x.is);
        received = subst (λ z. HasReceived holdings z q.received false) (sym (ap (λ z. z.stream) x.is))
            (subst (λ b. HasReceived holdings (p.stream ++ piece) q.received b) g x.received);
      }

  pub unbroken : (host_events : List HostEvent) (q : HostTranscript) → ArePlain host_events → IsHostTranscript holdings host_events q → q.stopped ≡ false
      → IsUnbroken holdings host_events q
  unbroken [] q plain h g = subst (λ z. IsUnbroken holdings [] z) (sym h) (record {
    stream = refl;
    released = refl;
    received = record { rest = []; messages = nothing; behind = none_yet };
  })
  unbroken (HostFed piece ∷ host_events) q plain h g = fed_unbroken piece host_events h.0 q (unbroken host_events h.0 plain h.1) g h.2
  unbroken (HostFedPart piece ∷ host_events) q plain h g = absurd plain
  unbroken (Released k ∷ host_events) q plain h g =
      let x = h.2 in
      let u = unbroken host_events h.0 plain h.1 x.going in
      record {
        stream = ap (λ z. z.stream) x.is ∙ u.stream;
        released = ap (λ z. z.released) x.is ∙ ap (λ z. z ++ x.reply ∷ []) u.released ∙ sym (ap (λ z. z.sent) x.is);
        received = moved h.0 q (ap (λ z. z.stream) x.is) (ap (λ z. z.received) x.is) u.received;
      }
  unbroken (Lost k ∷ host_events) q plain h g = absurd (true≢false (sym (ap (λ z. z.stopped) h.2.is) ∙ g))
  unbroken (HostHandedOut octets ∷ host_events) q plain h g =
      let u = unbroken host_events h.0 plain h.1 (sym (ap (λ z. z.stopped) h.2) ∙ g) in
      record {
        stream = ap (λ z. z.stream) h.2 ∙ u.stream;
        released = ap (λ z. z.released) h.2 ∙ u.released ∙ sym (ap (λ z. z.sent) h.2);
        received = moved h.0 q (ap (λ z. z.stream) h.2) (ap (λ z. z.received) h.2) u.received;
      }
