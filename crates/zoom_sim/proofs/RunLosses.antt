-- A target that lost a reply that was too long: what follows, and what calls, takes and the end of the input do then.
use Rattle.std.proofs.Common.{◌≡◌, ◌∙◌, ◌⊎◌, inl, inr, sym, ap, subst, ℕ, Bool, true, false, cond, List, [], ◌∷◌, ◌++◌, map, length, is_some, refl, append-nil, arith, true≢false, slice_get, Some}
use Rattle.std.specs.Prelude.{◌||◌, if◌then◌else◌, Contains}
use Rattle.std.specs.List.{flat_map}
use Rattle.std.proofs.lemmas.List.Elements.{Contains-append_cases}
use Rattle.std.proofs.lemmas.List.Sorted.{Contains-permutation}
use Rattle.zapdu.specs.declared.apdu.Apdu.{Apdu}
use Rattle.zknow.specs.Tables.DistinctLaws.{none_in_nil, in_cons}
use Rattle.zorigin.specs.declared.settings.Settings.{Settings}
use Rattle.zorigin.specs.Standings.{Call}
use Rattle.zorigin.specs.Sending.{encoding_of}
use Rattle.zorigin.specs.Log.{Log, Made, past, state_of}
use Rattle.zorigin.specs.Laws.{IsOrderly}
use Rattle.ztarget.specs.Receiving.{TargetState}
use Rattle.zoom_questions.specs.declared.question.Question.{Question}
use Rattle.zoom_questions.specs.declared.question.MetaSettings.{MetaSettings}
use Rattle.zoom_pool.specs.declared.state.Reason.TheVariants as reasons
use Rattle.zoom_pool.specs.declared.state.State.TheVariants as states
use Rattle.zoom_pool.specs.States.{is_stopped, is_closing, state_as, or_else}
use Rattle.zoom_pool.specs.Inputs.{Input, AlreadyStopped, Message, Foreign, Fault, Rest, Nothing, IsBehind}
use Rattle.zoom_pool.specs.Transcripts.{Event, Called, Fed, Took, InputEnded, HandedOut, Stopped, Transcript, IsTranscript, NextInput, given, fed, past_of, state_at, end_by}
use Rattle.zoom_pool.specs.History.{History, events_on}
use Rattle.zoom_pool.specs.Hosts.{HostState, Holdings, HostTranscript, HostEvent, HostFed, HostFedPart, Released, Lost, HostHandedOut, FeedStep, IsIgnored, IsHostTranscript, IsLong, holdings_of, replies_to}
use Rattle.zoom_pool.specs.Metas.{MetaLinks, MetaAfter, settings_of}
use Rattle.zoom_laws.specs.Accord.{requests, AccordLaws}
use Rattle.zoom_laws.specs.Exchange.{IsSoundExchange, HasTakenAll, OverLaw, PendingLaw}
use Rattle.zoom_laws.proofs.ExchangeTheory.Closing.{closing_short}
use Rattle.zoom_laws.proofs.ExchangeTheory.Framing.{input_is, all_taken}
use Rattle.zoom_laws.proofs.ExchangeTheory.Sounds.{coming_is}
use Rattle.zoom_sim.specs.declared.peers.Peer.{Peer}
use Rattle.zoom_sim.specs.Run.{is_over}
use Rattle.zoom_sim.specs.RunSteps.{IsExchangeUnderway}
use Rattle.zoom_sim.specs.RunSound.{IsSoundPeer, HasLongReply, IsStoppedPeer, IsEndedEarly, IsEndedPeer, IsLostPeer, LostStep, EndedStep, AreQuiet, MoreQuietEvents, EndInputStep}

-- ---- quiet events

pub quiet_append : (one two : List Event) → AreQuiet one → AreQuiet two → AreQuiet (one ++ two)
quiet_append [] two a b = b
quiet_append (Called call ∷ one) two a b = quiet_append one two a b
quiet_append (Fed piece ∷ one) two a b = absurd a
quiet_append (Took ∷ one) two a b = quiet_append one two a b
quiet_append (InputEnded ∷ one) two a b = quiet_append one two a b
quiet_append (HandedOut octets ∷ one) two a b = absurd a
quiet_append (Stopped reason ∷ one) two a b = absurd a

pub quiet_calls : (calls : List Call) → AreQuiet (map Called calls)
quiet_calls [] = tt
quiet_calls (call ∷ calls) = quiet_calls calls

-- they hand out nothing, and feed nothing
pub quiet_same : (more events : List Event) → AreQuiet more
    → (given (more ++ events) ≡ given events) × (fed (more ++ events) ≡ fed events)
quiet_same [] events a = (refl, refl)
quiet_same (Called call ∷ more) events a = quiet_same more events a
quiet_same (Fed piece ∷ more) events a = absurd a
quiet_same (Took ∷ more) events a = quiet_same more events a
quiet_same (InputEnded ∷ more) events a = quiet_same more events a
quiet_same (HandedOut octets ∷ more) events a = absurd a
quiet_same (Stopped reason ∷ more) events a = absurd a

quiet_underway : (target : TargetState) (more events : List Event) (peer : Peer) → AreQuiet more
    → IsExchangeUnderway target events peer → IsExchangeUnderway target (more ++ events) peer
quiet_underway target more events peer a u =
    let same = quiet_same more events a in
    record {
      host_events = u.host_events;
      served = u.served;
      sent = same.0 ∙ u.sent;
      came = u.came ∙ ap (λ z. z ++ peer.from) (sym same.1);
    }

-- ---- a connection whose input ended early stays as it is

module _ (s : MetaSettings) (target : TargetState) where
  pub ended_over : (events : List Event) (e : IsEndedEarly s target events) → is_over e.transcript ≡ true
  ended_over events e =
      ap (λ o. is_stopped (or_else (state_as (state_of (past_of e.transcript))) o)) e.stop

  ended_call : (events : List Event) (call : Call) → IsEndedEarly s target events
      → IsEndedEarly s target (Called call ∷ events)
  ended_call events call e =
      let p = e.transcript in
      let stopped : is_some p.stop ≡ true = ap is_some e.stop in
      record {
        transcript = p;
        agrees = (p, e.agrees, sym (ap (λ b. cond b p (record p { log = Made call ∷ p.log })) stopped));
        long = e.long;
        stop = e.stop;
      }

  pub ended_fed : (events : List Event) (piece : List ℕ) → IsEndedEarly s target events
      → IsEndedEarly s target (Fed piece ∷ events)
  ended_fed events piece e =
      let p = e.transcript in
      record {
        transcript = p;
        agrees = (
          p,
          e.agrees,
          sym (ap (λ b. cond (b || p.ended) p (record p { stream = p.stream ++ piece })) (ended_over events e)),
        );
        long = e.long;
        stop = e.stop;
      }

  ended_take : (events : List Event) → IsEndedEarly s target events → IsEndedEarly s target (Took ∷ events)
  ended_take events e = record {
    transcript = e.transcript;
    agrees = (e.transcript, e.agrees, (AlreadyStopped, ended_over events e, refl));
    long = e.long;
    stop = e.stop;
  }

  ended_end : (events : List Event) → IsEndedEarly s target events → IsEndedEarly s target (InputEnded ∷ events)
  ended_end events e = record {
    transcript = record e.transcript { ended = true };
    agrees = (e.transcript, e.agrees, refl);
    long = e.long;
    stop = e.stop;
  }

  pub ended_given : (events : List Event) (octets : List ℕ) → IsEndedEarly s target events
      → IsEndedEarly s target (HandedOut octets ∷ events)
  ended_given events octets e = record {
    transcript = e.transcript;
    agrees = (e.transcript, e.agrees, refl);
    long = e.long;
    stop = e.stop;
  }

  ended_quiet : (more events : List Event) → AreQuiet more → IsEndedEarly s target events
      → IsEndedEarly s target (more ++ events)
  ended_quiet [] events a e = e
  ended_quiet (Called call ∷ more) events a e = ended_call (more ++ events) call (ended_quiet more events a e)
  ended_quiet (Fed piece ∷ more) events a e = absurd a
  ended_quiet (Took ∷ more) events a e = ended_take (more ++ events) (ended_quiet more events a e)
  ended_quiet (InputEnded ∷ more) events a e = ended_end (more ++ events) (ended_quiet more events a e)
  ended_quiet (HandedOut octets ∷ more) events a e = absurd a
  ended_quiet (Stopped reason ∷ more) events a e = absurd a

  pub quiet_ended : (more events : List Event) (peer : Peer) → AreQuiet more → IsEndedPeer s target events peer
      → IsEndedPeer s target (more ++ events) peer
  quiet_ended more events peer a e =
      (ended_quiet more events a e.0, quiet_underway target more events peer a e.1)

  -- ---- a target that stopped

  -- quiet events, after which the connection is sound with the serving end as it was
  pub quiet_stopped : (q : Question) (taken behind : Bool) (more events : List Event) (peer : Peer)
      (b : IsStoppedPeer s q target taken events peer) (later : Transcript) (host_events : List HostEvent)
      → AreQuiet more → IsSoundPeer s q target behind (more ++ events) later host_events b.before
      → IsStoppedPeer s q target behind (more ++ events) peer
  quiet_stopped q taken behind more events peer b later host_events a f =
      let same = quiet_same more events a in
      record {
        before = b.before;
        transcript = later;
        host_events = host_events;
        sound = f;
        from = b.from;
        waiting = b.waiting;
        reply = b.reply;
        pending = b.pending;
        long = b.long;
        all_events = b.all_events;
        served = b.served;
        plain = b.plain;
        stopped = b.stopped;
        sent = same.0 ∙ b.sent;
        came = b.came ∙ ap (λ z. z ++ peer.from) (sym same.1);
      }

  pub stopped_underway : (q : Question) (taken : Bool) (events : List Event) (peer : Peer)
      → IsStoppedPeer s q target taken events peer → IsExchangeUnderway target events peer
  stopped_underway q taken events peer b =
      record { host_events = b.all_events; served = b.served; sent = b.sent; came = b.came }

  pub lost_underway : (q : Question) (taken : Bool) (events : List Event) (peer : Peer)
      → IsLostPeer s q target taken events peer → IsExchangeUnderway target events peer
  lost_underway q taken events peer (inl b) = stopped_underway q taken events peer b
  lost_underway q taken events peer (inr e) = e.1

  -- its serving end has stopped
  pub has_stopped : (q : Question) (taken : Bool) (events : List Event) (peer : Peer)
      → IsStoppedPeer s q target taken events peer → peer.host.stopped ≡ true
  has_stopped q taken events peer b = b.served.stopped ∙ b.stopped

-- ---- no reply that was sent is too long

fed_sent : (holdings : Holdings) (piece : List ℕ) (p q : HostTranscript) → IsIgnored p q ⊎ FeedStep holdings piece p q
    → q.sent ≡ p.sent
fed_sent holdings piece p q (inl x) = ap (λ z. z.sent) x.1
fed_sent holdings piece p q (inr x) = ap (λ z. z.sent) x.is

sent_short : (holdings : Holdings) (host_events : List HostEvent) (q : HostTranscript) (v : Apdu)
    → IsHostTranscript holdings host_events q → Contains q.sent v → IsLong v → ⊥
sent_short holdings [] q v h i long = none_in_nil v (subst (λ z. Contains z.sent v) h i)
sent_short holdings (HostFed piece ∷ host_events) q v h i long =
    sent_short holdings host_events h.0 v h.1 (subst (λ z. Contains z v) (fed_sent holdings piece h.0 q h.2) i) long
sent_short holdings (HostFedPart piece ∷ host_events) q v h i long =
    sent_short holdings host_events h.0 v h.1 (subst (λ z. Contains z v) (ap (λ z. z.sent) h.2.is) i) long
sent_short holdings (Released k ∷ host_events) q v h i long =
    by (λ old. sent_short holdings host_events h.0 v h.1 old long)
    (Contains-append_cases h.0.sent (h.2.reply ∷ []) v (subst (λ z. Contains z v) (ap (λ z. z.sent) h.2.is) i))
  where
    by : (Contains h.0.sent v → ⊥) → Contains h.0.sent v ⊎ Contains (h.2.reply ∷ []) v → ⊥
    by before (inl old) = before old
    by before (inr new) = elim (in_cons h.2.reply [] v new) [
      | inl same ↦ h.2.short (subst IsLong (sym same) long)
      | inr none ↦ none_in_nil v none
    ]
sent_short holdings (Lost k ∷ host_events) q v h i long =
    sent_short holdings host_events h.0 v h.1 (subst (λ z. Contains z v) (ap (λ z. z.sent) h.2.is) i) long
sent_short holdings (HostHandedOut octets ∷ host_events) q v h i long =
    sent_short holdings host_events h.0 v h.1 (subst (λ z. Contains z v) (ap (λ z. z.sent) h.2) i) long

module _ (over : OverLaw) (pending : PendingLaw) (s : MetaSettings) (q : Question) (target : TargetState) (taken : Bool)
    (events : List Event) (peer : Peer) (b : IsStoppedPeer s q target taken events peer) where
  -- the reply that was lost is owed
  abbrev pub lost_owed : HasLongReply (holdings_of target) b.transcript
  lost_owed = (
    b.reply,
    pending (holdings_of target) (settings_of s) events b.transcript b.host_events b.before.host b.sound.sound b.reply
        b.pending,
    b.long,
  )

  -- so the connection is not finished
  pub not_over : is_over b.transcript ≡ true → ⊥
  not_over e =
      let sound = b.sound.sound in
      let all = over (holdings_of target) (settings_of s) events b.transcript b.host_events b.before.host sound e in
      let owed = replies_to (holdings_of target) (requests b.transcript.settings b.transcript.log) in
      sent_short (holdings_of target) b.host_events sound.served.served b.reply sound.served.happened
      (Contains-permutation owed sound.served.served.sent b.reply all.0 lost_owed.1) b.long

  pub goes_on : is_over b.transcript ≡ false
  goes_on = by (is_over b.transcript) refl
    where
      by : (z : Bool) → is_over b.transcript ≡ z → is_over b.transcript ≡ false
      by true e = absurd (not_over e)
      by false e = e

-- ---- the last input

module _ (holdings : Holdings) (settings : Settings) (events : List Event) (p : Transcript)
    (host_events : List HostEvent) (host : HostState)
    (sound : IsSoundExchange holdings settings events p host_events host) (from : sound.from ≡ [])
    (waiting : host.waiting ≡ []) (took : HasTakenAll p) (goes : is_over p ≡ false) where
  nothing_more : sound.from ++ host.waiting ≡ []
  nothing_more = ap (λ z. z ++ host.waiting) from ∙ waiting

  none_comes : sound.coming ≡ []
  none_comes =
      let c = coming_is holdings settings events p host_events host sound took.0 took.1 in
      all_taken sound.coming took.0 c.read
      (sym (append-nil took.0) ∙ ap (λ z. took.0 ++ z) (sym nothing_more) ∙ c.are) took.2.no_message

  nothing_left : (rest : List ℕ) → IsBehind p.stream p.taken rest → rest ≡ []
  nothing_left rest behind =
      let c = coming_is holdings settings events p host_events host sound rest behind in
      sym (append-nil rest) ∙ ap (λ z. rest ++ z) (sym nothing_more) ∙ c.are
      ∙ ap (λ z. flat_map encoding_of z) none_comes

  pub last_input : (input : Input) → NextInput (record p { ended = true }) input → input ≡ Nothing
  last_input AlreadyStopped m = absurd (true≢false (sym m ∙ goes))
  last_input (Message v) m =
      let none : (others : List Apdu) × ([] ≡ v ∷ others) =
      input_is [] m.1 [] (Message v) tt (append-nil m.1 ∙ nothing_left m.1 m.2) m.3 in
      absurd (let is = none.1 in cc)
  last_input (Foreign error) m =
      absurd (input_is [] m.1 [] (Foreign error) tt (append-nil m.1 ∙ nothing_left m.1 m.2) m.3)
  last_input (Fault kind at) m =
      absurd (input_is [] m.1 [] (Fault kind at) tt (append-nil m.1 ∙ nothing_left m.1 m.2) m.3)
  last_input (Rest n) m = absurd (omega (arith, m.3.0, ap length (nothing_left m.1 m.2)))
  last_input Nothing m = refl

-- ---- the end of the input

module _ (accord : AccordLaws) (orderly : (s : Settings) (l : Log) → IsOrderly (past s l)) (over : OverLaw)
    (pending : PendingLaw) (c : ℕ) (old new : MetaLinks) (peer : Peer)
    (ends : EndInputStep c old new) (questions : List Question) (s : MetaSettings) (h : History) (q : Question)
    (target : TargetState) (after : MetaAfter questions s h old) (at : slice_get questions c ≡ Some q) where
  -- such a connection does not wait for the target's Close alone
  not_closing : (b : IsStoppedPeer s q target true (events_on c h) peer) → is_closing (state_at b.transcript) ≡ false
  not_closing b = by (is_closing (state_at b.transcript)) refl
    where
      by : (z : Bool) → is_closing (state_at b.transcript) ≡ z → is_closing (state_at b.transcript) ≡ false
      by false e = e
      by true e =
          let sound = b.sound.sound in
          let served = sound.served in
          let holdings = holdings_of target in
          let owed = lost_owed over pending s q target true (events_on c h) peer b in
          absurd (closing_short accord orderly questions s h old c q b.transcript holdings b.host_events b.before.host
          after at sound e b.reply owed.1
          (λ i. sent_short holdings b.host_events served.served b.reply served.happened i b.long) b.long)

  stopped_ends : (b : IsStoppedPeer s q target true (events_on c h) peer)
      → b.sound.sound.from ≡ [] → b.before.host.waiting ≡ [] → EndedStep questions s c h target new peer
  stopped_ends b from waiting =
      let p = b.transcript in
      let sound = b.sound.sound in
      let goes = goes_on over pending s q target true (events_on c h) peer b in
      let e = ends questions s h p after sound.transcript in
      let is : e.1.0 ≡ Nothing =
      last_input (holdings_of target) (settings_of s) (events_on c h) p b.host_events b.before.host sound from waiting
      (b.sound.took refl goes) goes e.1.0 e.1.1 in
      let ended : Transcript = record p { ended = true } in
      record {
        events = Took ∷ InputEnded ∷ [];
        after = e.0;
        ended = (
          record {
            transcript = end_by ended;
            agrees = (ended, (p, sound.transcript, refl), (Nothing, subst (NextInput ended) is e.1.1, refl));
            long = lost_owed over pending s q target true (events_on c h) peer b;
            stop = ap (λ z. Some (if z then states.Closed else states.Failed reasons.Ended)) (not_closing b);
          },
          record { host_events = b.all_events; served = b.served; sent = b.sent; came = b.came },
        );
      }

  ended_ends : (p : Transcript) → IsTranscript (settings_of s) (events_on c h) p → IsEndedPeer s target (events_on c h) peer
      → EndedStep questions s c h target new peer
  ended_ends p agrees e = record {
    events = Took ∷ InputEnded ∷ [];
    after = (ends questions s h p after agrees).0;
    ended = quiet_ended s target (Took ∷ InputEnded ∷ []) (events_on c h) peer tt e;
  }

  pub lost_ends : ((b : IsStoppedPeer s q target true (events_on c h) peer)
      → (b.sound.sound.from ≡ []) × (b.before.host.waiting ≡ []))
      → IsLostPeer s q target true (events_on c h) peer → EndedStep questions s c h target new peer
  lost_ends none (inl b) = let x = none b in stopped_ends b x.0 x.1
  lost_ends none (inr e) = ended_ends e.0.transcript e.0.agrees e

-- ---- quiet steps

pub quiet_step : (questions : List Question) (s : MetaSettings) (c : ℕ) (h : History) (q : Question)
    (target : TargetState) (taken : Bool) (new : MetaLinks) (peer : Peer) → MoreQuietEvents questions s c h new
    → IsEndedPeer s target (events_on c h) peer → LostStep questions s c h q target taken new peer
quiet_step questions s c h q target taken new peer m e = record {
  events = m.events;
  after = m.after;
  lost = inr (quiet_ended s target m.events (events_on c h) peer m.quiet e);
}
