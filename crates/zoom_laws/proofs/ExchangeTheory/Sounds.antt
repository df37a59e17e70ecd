-- What holds of a connection and a serving end in a sound exchange.
use Rattle.std.proofs.Common.{◌≡◌, ℕ, List, [], ◌∷◌, ◌++◌, length, reverse, sym, ap, subst, ◌∙◌, append_assoc, arith}
use Rattle.std.specs.Prelude.{Contains, IsPermutation}
use Rattle.std.specs.List.{flat_map}
use Rattle.std.proofs.lemmas.List.Elements.{Contains-append_left, Contains-append_right}
use Rattle.std.proofs.lemmas.List.Sorted.{Contains-permutation, IsPermutation-sym}
use Rattle.zber.proofs.Streams.{fed_more}
use Rattle.zapdu.specs.declared.apdu.Apdu.{Apdu}
use Rattle.zorigin.specs.declared.settings.Settings.{Settings}
use Rattle.zorigin.specs.Sending.{encoding_of}
use Rattle.zorigin.proofs.Accepting.{accepted_so}
use Rattle.zoom_pool.specs.Inputs.{IsBehind}
use Rattle.zber.specs.declared.framer.TheConstants.{MESSAGE_LIMIT}
use Rattle.zoom_pool.specs.Transcripts.{Event, Transcript, past_of}
use Rattle.zoom_pool.specs.Hosts.{HostState, Holdings, HostEvent, handed_out, replies_to}
use Rattle.zoom_pool.proofs.Hosts.{messages_longer}
use Rattle.zoom_laws.specs.Accord.{requests, IsConversation}
use Rattle.zoom_pool.specs.Connections.{AreReadBack}
use Rattle.zoom_laws.specs.Exchange.{IsSoundExchange, got_in}
use Rattle.zoom_laws.proofs.ExchangeTheory.Logs.{accepted_got}
use Rattle.zoom_laws.proofs.ExchangeTheory.Replies.{replies_more, owed_more, owed_of}
use Rattle.zoom_laws.proofs.ExchangeTheory.Framing.{cut_by, IsReceived, received_cut, reversed_cut}
use Rattle.zoom_laws.proofs.ExchangeTheory.Events.{IsUnbroken, unbroken}

-- lists whose fronts are equally long
pub same_fronts : {X : Type 0} (a b c d : List X) → length a ≡ length b → a ++ c ≡ b ++ d → c ≡ d
same_fronts [] [] c d n e = e
same_fronts [] (y ∷ b) c d n e = absurd (omega (arith, n))
same_fronts (x ∷ a) [] c d n e = absurd (omega (arith, n))
same_fronts (x ∷ a) (y ∷ b) c d n e = same_fronts a b c d (omega (arith, n)) (tails e)
  where
    tails : x ∷ (a ++ c) ≡ y ∷ (b ++ d) → a ++ c ≡ b ++ d
    tails f = cc

-- the octets left of a stream that was received as it was sent, if more is sent
pub left_of : (front came from waiting all : List ℕ) → came ++ from ≡ front → front ++ waiting ≡ all → came ++
    (from ++ waiting) ≡ all
left_of front came from waiting all e f = sym (append_assoc came from waiting) ∙ ap (λ z. z ++ waiting) e ∙ f

-- behind the messages taken are the encodings of the replies that are coming
pub record IsComing (coming : List Apdu) (octets : List ℕ) : Type 0 where
  pub are : octets ≡ flat_map encoding_of coming
  pub read : AreReadBack coming

module _ (holdings : Holdings) (settings : Settings) (events : List Event) (p : Transcript) (host_events : List HostEvent)
    (host : HostState)
    (s : IsSoundExchange holdings settings events p host_events host) where
  -- ---- the serving end

  pub whole : IsUnbroken holdings host_events s.served.served
  whole = unbroken holdings host_events s.served.served s.plain s.served.happened s.serving

  pub stream_is : s.served.served.stream ++ s.to ≡ flat_map encoding_of (past_of p).sent
  stream_is = ap (λ z. z ++ s.to) whole.stream ∙ s.sends

  pub received_is : IsReceived (past_of p).sent s.served.served.received (whole.received.rest ++ s.to)
  received_is = received_cut (past_of p).sent s.asks stream_is (messages_longer s.to whole.received.messages)

  pub permuted : IsPermutation (replies_to holdings s.served.served.received)
      (s.served.served.sent ++ host.target.pending)
  permuted = subst (λ z. IsPermutation (replies_to holdings s.served.served.received)
      (z ++ host.target.pending)) whole.released
      s.served.target.replies_are

  -- what is owed to what was received is owed to what was sent
  pub more_owed : (more : List Apdu) × (replies_to holdings (requests p.settings p.log)
      ≡ replies_to holdings s.served.served.received ++ more)
  more_owed =
      let received = s.served.served.received in
      let c = received_is in
      let more = replies_more holdings.databases holdings.settings (reverse c.others) received in (
        more.0,
        ap (λ z. replies_to holdings z)
            (reversed_cut (past_of p).sent received (whole.received.rest ++ s.to) c)
            ∙ more.1,
      )

  pub pending_owed : (v : Apdu) → Contains host.target.pending v → Contains
      (replies_to holdings (requests p.settings p.log)) v
  pending_owed v i =
      let owing = replies_to holdings s.served.served.received in
      let all = s.served.served.sent ++ host.target.pending in
      subst (λ z. Contains z v) (sym more_owed.1)
      (Contains-append_left owing more_owed.0 v
      (Contains-permutation all owing v (IsPermutation-sym owing all permuted)
      (Contains-append_right s.served.served.sent host.target.pending v i)))

  -- the replies sent and those left are all that are owed to the requests
  pub due : (left : List Apdu) × IsPermutation (replies_to holdings (requests p.settings p.log))
      (s.served.served.sent ++ left)
  due = owed_more holdings.databases holdings.settings (reverse received_is.others) s.served.served.received
      (requests p.settings p.log) s.served.served.sent host.target.pending
      (reversed_cut (past_of p).sent s.served.served.received (whole.received.rest ++ s.to) received_is) permuted

  pub put_owed : (v : Apdu) → Contains s.served.served.sent v → Contains
      (replies_to holdings (requests p.settings p.log)) v
  put_owed v i = owed_of (replies_to holdings (requests p.settings p.log)) s.served.served.sent due.0 v due.1 i

  pub got_owed : (v : Apdu) → Contains (got_in p.log) v → Contains (replies_to holdings (requests p.settings p.log)) v
  got_owed v i = put_owed v (subst (λ z. Contains z v) (sym s.got) (Contains-append_left (got_in p.log) s.coming v i))

  pub conversation : IsConversation holdings.databases holdings.settings p.settings p.log
  conversation = record {
    owed = λ x i. got_owed x.reply (accepted_got p.settings p.log x (accepted_so p.settings p.log x i));
    sound = s.sound;
  }

  -- ---- the connection

  pub coming_is : (rest : List ℕ) → IsBehind p.stream p.taken rest → IsComing s.coming
      (rest ++ (s.from ++ host.waiting))
  coming_is rest b =
      let more = s.from ++ host.waiting in
      let all : p.stream ++ more ≡ flat_map encoding_of s.served.served.sent =
      left_of (handed_out host_events) p.stream s.from host.waiting
      (flat_map encoding_of s.served.served.sent) s.comes s.served.waiting in
      let c = cut_by s.served.served.sent s.answers all (fed_more MESSAGE_LIMIT p.stream rest more b.messages b.gave) in
      let same : s.coming ≡ c.others =
      same_fronts (got_in p.log) c.front s.coming c.others (s.count ∙ sym b.count ∙ sym c.count) (sym s.got ∙ c.are) in
      record {
        are = c.rest_is ∙ ap (λ z. flat_map encoding_of z) (sym same);
        read = subst AreReadBack (sym same) c.read;
      }
