-- Each step keeps an exchange of a connection and a serving end sound.
use Rattle.std.proofs.Common.{◌≡◌, ◌⊎◌, inl, inr, ℕ, suc, Bool, true, false, cond, is_some, List, [], ◌∷◌, ◌++◌, reverse, Option, None, Some, Ok, refl, sym, ap, subst, ◌∙◌, append_assoc, append-nil, length-append, true≢false, arith}
use Rattle.std.specs.Prelude.{Contains, IsPermutation, ◌||◌}
use Rattle.std.specs.List.{flat_map, list_any}
use Rattle.std.proofs.lemmas.List.{reverse-append}
use Rattle.std.proofs.lemmas.List.Concat.{flat_map-append}
use Rattle.std.proofs.lemmas.List.Elements.{Contains-append_left, Contains-append_right}
use Rattle.zapdu.specs.declared.apdu.Apdu.{Apdu}
use Rattle.zorigin.specs.declared.settings.Settings.{Settings}
use Rattle.zorigin.specs.declared.answer.Taken.{Taken}
use Rattle.zorigin.specs.declared.answer.Taken.TheVariants as taken
use Rattle.zorigin.specs.declared.refusal.CallRefused.{CallRefused}
use Rattle.zorigin.specs.Standings.{Call}
use Rattle.zorigin.specs.Calls.{refusal}
use Rattle.zorigin.specs.Replies.{verdict}
use Rattle.zorigin.specs.Sending.{encoding_of, request_of}
use Rattle.zorigin.specs.Log.{Made, Got, Past, standing, state_of, opening, request_list, admit_unless, after_verdict, is_close_call, is_init_call}
use Rattle.zorigin.proofs.Members.{contained}
use Rattle.zorigin.proofs.Accepting.{accepted_so}
use Rattle.ztarget.specs.declared.database.Database.{Database}
use Rattle.ztarget.specs.declared.settings.TargetSettings.{TargetSettings}
use Rattle.zoom_pool.specs.States.{state_as, is_stopped, or_else}
use Rattle.zoom_pool.specs.Inputs.{Input, AlreadyStopped, Message, Foreign, Fault, Rest, Nothing, IsBehind, AreInput}
use Rattle.zoom_pool.specs.Transcripts.{Event, Called, Fed, Took, HandedOut, Transcript, IsTranscript, NextInput, past_of, state_at, after_take, after_reply, end_by, after_stop, truncated, after_call}
use Rattle.zoom_pool.specs.Hosts.{HostState, Holdings, HostAfter, HasReceived, IsStopping, HostEvent, HostFed, Released, HostHandedOut, HostTranscript, IsHostTranscript, FeedStep, IsIgnored, ReleaseStep}
use Rattle.zoom_pool.proofs.Hosts.{messages_longer}
use Rattle.zoom_laws.specs.Accord.{requests, replies_due, AreTaken, AccordLaws}
use Rattle.zoom_pool.specs.Connections.{AreReadBack}
use Rattle.zoom_pool.proofs.Calling.{read_append}
use Rattle.zoom_laws.specs.Exchange.{IsSoundExchange, got_in, fed_to, StartLaw, CallLaw, HandedOutLaw, HostFedLaw, HostHandedOutLaw, FedLaw, TakeStepLaw, ReleasedLaw}
use Rattle.zoom_laws.proofs.ExchangeTheory.Logs.{accepted_got}
use Rattle.zoom_laws.proofs.ExchangeTheory.States.{closed_so}
use Rattle.zoom_laws.proofs.ExchangeTheory.Framing.{received_cut, reversed_cut, IsInputOf, input_is}
use Rattle.zoom_laws.proofs.ExchangeTheory.Events.{no_both, one_served}
use Rattle.zoom_laws.proofs.ExchangeTheory.Sounds.{stream_is, due, put_owed, conversation, coming_is}

pub starts : StartLaw
starts holdings settings host a = record {
  transcript = refl;
  served = a;
  plain = tt;
  to = [];
  sends = refl;
  from = [];
  comes = refl;
  goes = refl;
  goes_on = refl;
  sound = refl;
  serving = ap (λ z. z.stopped) a.happened;
  coming = [];
  got = ap (λ z. z.sent) a.happened;
  count = refl;
  asks = tt;
  answers = subst AreReadBack (sym (ap (λ z. z.sent) a.happened)) tt;
}

-- ---- calls

-- what a call adds to the requests sent
pub record IsCalled (p q : Past) : Type 0 where
  pub more : List Apdu
  pub sent : q.sent ≡ p.sent ++ more
  pub fault : q.fault ≡ p.fault

pub called : (p : Past) (call : Call) (o : Option CallRefused) → IsCalled p (admit_unless p call o)
called p call None = record { more = request_list (request_of (standing p) call); sent = refl; fault = refl }
called p call (Some reason) = record { more = []; sent = sym (append-nil p.sent); fault = refl }

pub calls : CallLaw
calls holdings settings events p host_events host call s reads =
    let q : Transcript = record p { log = Made call ∷ p.log } in
    let is : after_call p call ≡ q = ap (λ o. cond (is_some o) p q) s.goes in
    let c = called (past_of p) call (refusal (standing (past_of p)) call) in
    let now : IsSoundExchange holdings settings (Called call ∷ events) q host_events host = record {
      transcript = (p, s.transcript, sym is);
      served = s.served;
      plain = s.plain;
      to = s.to ++ flat_map encoding_of c.more;
      sends = sym (append_assoc (fed_to host_events) s.to (flat_map encoding_of c.more))
          ∙ ap (λ z. z ++ flat_map encoding_of c.more) s.sends
          ∙ sym (flat_map-append encoding_of (past_of p).sent c.more) ∙ ap (λ z. flat_map encoding_of z) (sym c.sent);
      from = s.from;
      comes = s.comes;
      goes = s.goes;
      goes_on = s.goes_on;
      sound = c.fault ∙ s.sound;
      serving = s.serving;
      coming = s.coming;
      got = s.got;
      count = s.count;
      asks = subst (λ z. AreReadBack (past_of z).sent) is reads;
      answers = s.answers;
    } in
    subst (λ z. IsSoundExchange holdings settings (Called call ∷ events) z host_events host) (sym is) now

-- ---- host_events that leave the connection unchanged

still : (holdings : Holdings) (settings : Settings) (events more : List Event) (p : Transcript) (host_events : List HostEvent)
    (host : HostState) → IsTranscript settings more p → IsSoundExchange holdings settings events p host_events host
    → IsSoundExchange holdings settings more p host_events host
still holdings settings events more p host_events host transcript s = record {
  transcript = transcript;
  served = s.served;
  plain = s.plain;
  to = s.to;
  sends = s.sends;
  from = s.from;
  comes = s.comes;
  goes = s.goes;
  goes_on = s.goes_on;
  sound = s.sound;
  serving = s.serving;
  coming = s.coming;
  got = s.got;
  count = s.count;
  asks = s.asks;
  answers = s.answers;
}

pub gives : HandedOutLaw
gives holdings settings events p host_events host octets s =
    still holdings settings events (HandedOut octets ∷ events) p host_events host (p, s.transcript, refl) s

-- ---- octets that are fed to the connection

module _ (holdings : Holdings) (settings : Settings) (events : List Event) (p : Transcript) (host_events : List HostEvent)
    (host : HostState)
    (piece rest : List ℕ) (s : IsSoundExchange holdings settings events p host_events host) (cut : s.from ≡ piece ++ rest) where
  abbrev longer : Transcript
  longer = record p { stream = p.stream ++ piece }

  fed_by : (b : Bool) → (is_stopped (state_at p) || p.ended) ≡ b
      → IsSoundExchange holdings settings (Fed piece ∷ events) (cond b p longer) host_events host
  fed_by true e =
      still holdings settings events (Fed piece ∷ events) p host_events host
      (p, s.transcript, ap (λ b. cond b p longer) (sym e)) s
  fed_by false e = record {
    transcript = (p, s.transcript, ap (λ b. cond b p longer) (sym e));
    served = s.served;
    plain = s.plain;
    to = s.to;
    sends = s.sends;
    from = rest;
    comes = append_assoc p.stream piece rest ∙ ap (λ z. p.stream ++ z) (sym cut) ∙ s.comes;
    goes = s.goes;
    goes_on = s.goes_on;
    sound = s.sound;
    serving = s.serving;
    coming = s.coming;
    got = s.got;
    count = s.count;
    asks = s.asks;
    answers = s.answers;
  }

pub fed : FedLaw
fed holdings settings events p host_events host piece rest s cut =
    fed_by holdings settings events p host_events host piece rest s cut (is_stopped (state_at p) || p.ended) refl

-- ---- the serving end

taken_behind : (databases : List Database) (target : TargetSettings) (later received : List Apdu)
    → AreTaken databases target (later ++ received) → AreTaken databases target received
taken_behind databases target [] received t = t
taken_behind databases target (v ∷ later) received t = taken_behind databases target later received t.1

module _ (holdings : Holdings) (settings : Settings) (events : List Event) (p : Transcript) (host_events : List HostEvent)
    (host : HostState)
    (s : IsSoundExchange holdings settings events p host_events host) where
  same_served : (q : HostTranscript) → IsHostTranscript holdings host_events q → q ≡ s.served.served
  same_served q h = one_served holdings host_events q s.served.served s.plain h s.served.happened

  handed_on : (later : HostState) → HostAfter holdings (HostHandedOut host.waiting ∷ host_events) later
      → IsSoundExchange holdings settings events p (HostHandedOut host.waiting ∷ host_events) later
  handed_on later a =
      let same : a.served ≡ s.served.served = a.happened.2 ∙ same_served a.happened.0 a.happened.1 in
      record {
        transcript = s.transcript;
        served = a;
        plain = s.plain;
        to = s.to;
        sends = s.sends;
        from = s.from ++ host.waiting;
        comes = sym (append_assoc p.stream s.from host.waiting) ∙ ap (λ z. z ++ host.waiting) s.comes;
        goes = s.goes;
        goes_on = s.goes_on;
        sound = s.sound;
        serving = ap (λ z. z.stopped) same ∙ s.serving;
        coming = s.coming;
        got = ap (λ z. z.sent) same ∙ s.got;
        count = s.count;
        asks = s.asks;
        answers = subst AreReadBack (sym (ap (λ z. z.sent) same)) s.answers;
      }

  put_on : (k : ℕ) (later : HostState) → HostAfter holdings (Released k ∷ host_events) later
      → IsSoundExchange holdings settings events p (Released k ∷ host_events) later
  put_on k later a =
      let x : ReleaseStep k s.served.served a.served = subst (λ z. ReleaseStep k z a.served)
      (same_served a.happened.0 a.happened.1) a.happened.2 in
      let put : a.served.sent ≡ s.served.served.sent ++ x.reply ∷ [] = ap (λ z. z.sent) x.is in
      record {
        transcript = s.transcript;
        served = a;
        plain = s.plain;
        to = s.to;
        sends = s.sends;
        from = s.from;
        comes = s.comes;
        goes = s.goes;
        goes_on = s.goes_on;
        sound = s.sound;
        serving = ap (λ z. z.stopped) x.is ∙ s.serving;
        coming = s.coming ++ x.reply ∷ [];
        got = put ∙ ap (λ z. z ++ x.reply ∷ []) s.got ∙ append_assoc (got_in p.log) s.coming (x.reply ∷ []);
        count = s.count;
        asks = s.asks;
        answers = subst AreReadBack (sym put) (read_append s.served.served.sent (x.reply ∷ []) s.answers (x.reads, tt));
      }

  -- nothing that was sent stops the serving end
  module _ (laws : AccordLaws) (piece rest : List ℕ) (cut : s.to ≡ piece ++ rest) (received : List Apdu) where
    stops_not : (others : List Apdu) (input : Input) → requests p.settings p.log ≡ reverse others ++ received
        → IsInputOf others input
        → IsStopping holdings received input → ⊥
    stops_not others AlreadyStopped e m i = i
    stops_not others (Message v) e m i =
        let behind : requests p.settings p.log ≡ reverse m.0 ++ (v ∷ received) =
        e ∙ ap (λ z. reverse z ++ received) m.1 ∙ ap (λ z. z ++ received) (reverse-append (v ∷ []) m.0) ∙ append_assoc
        (reverse m.0) (v ∷ []) received in
        let all = laws.taken holdings.databases holdings.settings p.settings p.log
        (conversation holdings settings events p host_events host s) in
        let t = taken_behind holdings.databases holdings.settings (reverse m.0) (v ∷ received)
        (subst (λ z. AreTaken holdings.databases holdings.settings z) behind all) in
        no_both t.0.1 i.1
    stops_not others (Foreign error) e m i = m
    stops_not others (Fault kind at) e m i = m
    stops_not others (Rest n) e m i = i
    stops_not others Nothing e m i = i

    not_stopped : (b : Bool) → HasReceived holdings (s.served.served.stream ++ piece) received b → b ≡ false
    not_stopped false h = refl
    not_stopped true h =
        let stream : (s.served.served.stream ++ piece) ++ rest ≡ flat_map encoding_of (past_of p).sent =
        append_assoc s.served.served.stream piece rest ∙ ap (λ z. s.served.served.stream ++ z) (sym cut)
        ∙ stream_is holdings settings events p host_events host s in
        let c = received_cut (past_of p).sent s.asks stream (messages_longer rest h.messages) in
        let m = input_is c.others h.rest rest h.behind.0 c.read c.rest_is h.behind.1 in
        absurd (stops_not c.others h.behind.0 (reversed_cut (past_of p).sent received (h.rest ++ rest) c) m h.behind.2)

  transcript_on : (laws : AccordLaws) (piece rest : List ℕ) (later : HostState) → s.to ≡ piece ++ rest
      → (a : HostAfter holdings (HostFed piece ∷ host_events) later) → IsIgnored s.served.served a.served
      ⊎ FeedStep holdings piece s.served.served a.served
      → IsSoundExchange holdings settings events p (HostFed piece ∷ host_events) later
  transcript_on laws piece rest later cut a (inl x) = absurd (true≢false (sym x.0 ∙ s.serving))
  transcript_on laws piece rest later cut a (inr x) =
      let put : a.served.sent ≡ s.served.served.sent = ap (λ z. z.sent) x.is in
      record {
        transcript = s.transcript;
        served = a;
        plain = s.plain;
        to = rest;
        sends = append_assoc (fed_to host_events) piece rest ∙ ap (λ z. fed_to host_events ++ z) (sym cut) ∙ s.sends;
        from = s.from;
        comes = s.comes;
        goes = s.goes;
        goes_on = s.goes_on;
        sound = s.sound;
        serving = not_stopped laws piece rest cut a.served.received a.served.stopped x.received;
        coming = s.coming;
        got = put ∙ s.got;
        count = s.count;
        asks = s.asks;
        answers = subst AreReadBack (sym put) s.answers;
      }

pub handed : HostHandedOutLaw
handed holdings settings events p host_events host later s a = handed_on holdings settings events p host_events host s later a

pub released : ReleasedLaw
released holdings settings events p host_events host later k s a =
    put_on holdings settings events p host_events host s k later a

pub host_fed : AccordLaws → HostFedLaw
host_fed laws holdings settings events p host_events host later piece rest s cut a =
    let same = same_served holdings settings events p host_events host s a.happened.0 a.happened.1 in
    transcript_on holdings settings events p host_events host s laws piece rest later cut a
    (subst (λ z. IsIgnored z a.served ⊎ FeedStep holdings piece z a.served) same a.happened.2)

-- ---- what the connection takes

-- the requests sent and the fault are unchanged
record IsKept (p q : Past) : Type 0 where
  pub sent : q.sent ≡ p.sent
  pub fault : q.fault ≡ p.fault

kept : (p : Past) (x : Taken) → IsKept p (after_verdict p (Ok x))
kept p (taken.Opened answer) = record { sent = refl; fault = refl }
kept p (taken.Rejected answer) = record { sent = refl; fault = refl }
kept p (taken.Answered answer) = record { sent = refl; fault = refl }
kept p taken.Closed = record { sent = refl; fault = refl }

module _ (holdings : Holdings) (settings : Settings) (events : List Event) (p : Transcript) (host_events : List HostEvent)
    (host : HostState)
    (s : IsSoundExchange holdings settings events p host_events host) where
  -- a take that changed nothing
  took_none : (input : Input) → NextInput p input → after_take p input ≡ p → IsSoundExchange holdings settings (Took ∷ events)
      (after_take p input) host_events host
  took_none input m is =
      let now : IsSoundExchange holdings settings (Took ∷ events) p host_events host =
      still holdings settings events (Took ∷ events) p host_events host (p, s.transcript, (input, m, sym is)) s in
      subst (λ z. IsSoundExchange holdings settings (Took ∷ events) z host_events host) (sym is) now

  open_by : (b : Bool) → (past_of p).closed ≡ b → is_stopped (state_at p) ≡ false → b ≡ false
  open_by false e g = refl
  open_by true e g =
      let past = past_of p in
      let stops = closed_so past.fault past.closed (list_any is_close_call past.admitted)
      (list_any is_init_call past.admitted) (opening past) e s.sound in
      absurd (true≢false (sym stops ∙ ap (λ z. is_stopped (or_else (state_as (state_of past)) z)) (sym s.goes) ∙ g))

  -- the next message is a reply that is owed, and the origin takes it
  module _ (laws : AccordLaws) (v : Apdu) (others : List Apdu) (is : s.coming ≡ v ∷ others) where
    v_comes : (left : List Apdu) → Contains (s.coming ++ left) v
    v_comes left = Contains-append_left s.coming left v
        (subst (λ z. Contains z v) (sym is) (contained v (v ∷ others) (inl refl)))

    put_apart : IsPermutation (replies_due holdings.databases holdings.settings p.settings p.log)
        (got_in p.log ++ (s.coming ++ (due holdings settings events p host_events host s).0))
    put_apart =
        let d = due holdings settings events p host_events host s in
        subst (λ z. IsPermutation (replies_due holdings.databases holdings.settings p.settings p.log) z)
        (ap (λ z. z ++ d.0) s.got ∙ append_assoc (got_in p.log) s.coming d.0) d.1

    accepts : is_stopped (state_at p) ≡ false → (x : Taken) × (verdict (standing (past_of p)) v ≡ Ok x)
    accepts g =
        let d = due holdings settings events p host_events host s in
        let c = conversation holdings settings events p host_events host s in
        let put : Contains s.served.served.sent v =
        subst (λ z. Contains z v) (sym s.got) (Contains-append_right (got_in p.log) s.coming v
        (subst (λ z. Contains z v) (append-nil s.coming) (v_comes []))) in
        let x = laws.accepts holdings.databases holdings.settings p.settings p.log v c
        (open_by (past_of p).closed refl g)
        (put_owed holdings settings events p host_events host s v put)
        (λ x i. laws.apart holdings.databases holdings.settings p.settings p.log (got_in p.log)
        (s.coming ++ d.0) x.reply v put_apart
        (accepted_got p.settings p.log x (accepted_so p.settings p.log x i)) (v_comes d.0)) in
        (x.0, x.1)

    took_reply : NextInput p (Message v) → (x : Taken) × (verdict (standing (past_of p)) v ≡ Ok x)
        → IsSoundExchange holdings settings (Took ∷ events) (after_take p (Message v)) host_events host
    took_reply m x =
        let q : Transcript = record p { taken = suc p.taken; log = Got v ∷ p.log } in
        let took : after_take p (Message v) ≡ q = ap (λ z. after_reply q z) x.1 in
        let after : past_of q ≡ after_verdict (past_of p) (Ok x.0) = ap (λ z. after_verdict (past_of p) z) x.1 in
        let k = kept (past_of p) x.0 in
        let asked : (past_of q).sent ≡ (past_of p).sent = ap (λ z. z.sent) after ∙ k.sent in
        let now : IsSoundExchange holdings settings (Took ∷ events) q host_events host = record {
          transcript = (p, s.transcript, (Message v, m, sym took));
          served = s.served;
          plain = s.plain;
          to = s.to;
          sends = s.sends ∙ ap (λ z. flat_map encoding_of z) (sym asked);
          from = s.from;
          comes = s.comes;
          goes = s.goes;
          goes_on = s.goes_on;
          sound = ap (λ z. z.fault) after ∙ k.fault ∙ s.sound;
          serving = s.serving;
          coming = others;
          got = s.got ∙ ap (λ z. got_in p.log ++ z) is ∙ sym (append_assoc (got_in p.log) (v ∷ []) others);
          count = omega (arith, s.count, length-append (got_in p.log) (v ∷ []));
          asks = subst AreReadBack (sym asked) s.asks;
          answers = s.answers;
        } in
        subst (λ z. IsSoundExchange holdings settings (Took ∷ events) z host_events host) (sym took) now

  input_next : (rest : List ℕ) (input : Input) → IsBehind p.stream p.taken rest → AreInput rest input → IsInputOf s.coming input
  input_next rest input b a =
      let c = coming_is holdings settings events p host_events host s rest b in
      input_is s.coming rest (s.from ++ host.waiting) input c.read c.are a

  took : (laws : AccordLaws) (input : Input) → NextInput p input → IsSoundExchange holdings settings (Took ∷ events)
      (after_take p input) host_events host
  took laws AlreadyStopped m = took_none AlreadyStopped m refl
  took laws (Message v) m =
      let n = input_next m.1 (Message v) m.2 m.3 in
      took_reply laws v n.0 n.1 m (accepts laws v n.0 n.1 m.0)
  took laws (Foreign error) m = absurd (input_next m.1 (Foreign error) m.2 m.3)
  took laws (Fault kind at) m = absurd (input_next m.1 (Fault kind at) m.2 m.3)
  took laws (Rest n) m = took_none (Rest n) m (ap (λ b. cond b (after_stop p (truncated n)) p) s.goes_on)
  took laws Nothing m = took_none Nothing m (ap (λ b. cond b (end_by p) p) s.goes_on)

pub takes : AccordLaws → TakeStepLaw
takes laws holdings settings events p host_events host input s m = took holdings settings events p host_events host s laws input m
