-- A piece that is carried to a target, or to a connection, and what that keeps.
use Rattle.std.proofs.Common.{◌≡◌, ◌∙◌, ◌⊎◌, inl, inr, sym, ap, subst, ℕ, Bool, true, false, cond, List, [], ◌∷◌, ◌++◌, length, take, drop, slice_get, Some, refl, append_assoc, append-nil, true≢false}
use Rattle.std.specs.Prelude.{◌||◌, not}
use Rattle.ztarget.specs.Receiving.{TargetState}
use Rattle.zoom_questions.specs.declared.question.Question.{Question}
use Rattle.zoom_questions.specs.declared.question.MetaSettings.{MetaSettings}
use Rattle.zoom_pool.specs.States.{is_stopped}
use Rattle.zoom_pool.specs.Transcripts.{Event, Fed, HandedOut, Transcript, given, fed, state_at, past_of, sent, after_feed}
use Rattle.zoom_pool.specs.History.{History, events_on}
use Rattle.zoom_pool.specs.Hosts.{HostState, Holdings, HostAfter, HostTranscript, HostEvent, HostFed, HostHandedOut, HostRecorded, FeedStep, IsIgnored, holdings_of, handed_out}
use Rattle.zoom_pool.specs.Laws.{OneTranscript}
use Rattle.zoom_pool.specs.Links.{waiting_at}
use Rattle.zoom_pool.specs.Metas.{MetaLinks, MetaAfter, MetaRecorded, settings_of}
use Rattle.zoom_laws.specs.Exchange.{IsSoundExchange, HasTakenAll, OneServedLaw, HandedOutLaw, HostFedLaw, HostHandedOutLaw, FedLaw, OverLaw, fed_to}
use Rattle.zoom_sim.specs.declared.peers.Peer.{Peer}
use Rattle.zoom_sim.specs.RunSound.{HasNoCallDue, IsSoundPeer, IsStoppedPeer, IsLostPeer, SoundStep, PeerStep}
use Rattle.zoom_sim.proofs.RunLosses.{ended_fed, ended_given}
use Rattle.zoom_sim.proofs.RunCarries.{front_rest, goes_through}
use Rattle.zoom_sim.proofs.RunPeers.{all_transcripts, sent_so, to_of, from_of}

-- ---- a piece that was fed to the connection

pub same_piece : (p : Transcript) (piece : List ℕ) → piece ≡ [] → after_feed p piece ≡ p
same_piece p piece e = elim (is_stopped (state_at p) || p.ended) as
    (λ b. cond b p (record p { stream = p.stream ++ piece }) ≡ p) [
      | true ↦ refl
      | false ↦ ap (λ z. record p { stream = z }) (ap (λ z. p.stream ++ z) e ∙ append-nil p.stream)
    ]

idle_piece : (s : MetaSettings) (q : Question) (p : Transcript) (piece : List ℕ) → HasNoCallDue s q p
    → HasNoCallDue s q (after_feed p piece)
idle_piece s q p piece idle = elim (is_stopped (state_at p) || p.ended) as
    (λ b. HasNoCallDue s q (cond b p (record p { stream = p.stream ++ piece }))) [
      | true ↦ idle
      | false ↦ idle
    ]

-- ---- steps

-- the octets that waited on the connection are on their way, and a piece was fed to the target
module _ (uniqueness : OneTranscript) (gives : HandedOutLaw) (host_fed : HostFedLaw) (one_served : OneServedLaw) (c : ℕ)
    (old new : MetaLinks) (was now : Peer) (pipe piece : List ℕ) (k : ℕ)
    (recorded : MetaRecorded c (HandedOut (waiting_at old.pool c)) old new)
    (fills : pipe ≡ was.to ++ waiting_at old.pool c) (front : piece ≡ take k pipe)
    (is_step : HostRecorded (HostFed piece) was.host now.host) (waits : now.host.waiting ≡ was.host.waiting)
    (left : now.to ≡ drop (length piece) pipe) (same : now.from ≡ was.from) where
  abbrev octets : List ℕ
  octets = waiting_at old.pool c

  to_cut : pipe ≡ piece ++ drop (length piece) pipe
  to_cut = front_rest k pipe ∙ ap (λ z. z ++ drop (length z) pipe) (sym front)

  -- all octets that were handed out were fed, or are on their way
  to_sent : (events : List Event) (host_events : List HostEvent) → given events ≡ fed_to host_events ++ was.to
      → given events ++ octets ≡ (fed_to host_events ++ piece) ++ now.to
  to_sent events host_events e =
      goes_through (given events) (fed_to host_events) was.to octets piece now.to e
      (sym fills ∙ to_cut ∙ ap (λ z. piece ++ z) (sym left))

  to_fine : (questions : List Question) (s : MetaSettings) (h : History) (q : Question) (target : TargetState)
      (p : Transcript) (host_events : List HostEvent) → MetaAfter questions s h old → slice_get questions c ≡ Some q
      → IsSoundPeer s q target true (events_on c h) p host_events was
      → SoundStep questions s c h q target true true p host_events new now
  to_fine questions s h q target p host_events after at f =
      let on_way : sent (past_of p) ≡ fed_to host_events ++ pipe =
      sent_so s q target true (events_on c h) p host_events was f uniqueness questions c h old after at refl
      ∙ ap (λ z. fed_to host_events ++ z) (sym fills) in
      let one : IsSoundExchange (holdings_of target) (settings_of s) (HandedOut octets ∷ events_on c h) p host_events was.host =
      gives (holdings_of target) (settings_of s) (events_on c h) p host_events was.host octets f.sound in
      let two : IsSoundExchange (holdings_of target) (settings_of s) (HandedOut octets ∷ events_on c h) p (HostFed piece ∷ host_events) now.host =
      host_fed (holdings_of target) (settings_of s) (HandedOut octets ∷ events_on c h) p host_events was.host now.host piece
      (drop (length piece) pipe) one (to_of one pipe on_way ∙ to_cut)
      (is_step (holdings_of target) host_events one.served) in
      record {
        events = HandedOut octets ∷ [];
        host_more = HostFed piece ∷ [];
        after = recorded questions s [] h after;
        later = p;
        fine = record {
          sound = two;
          to = to_sent (events_on c h) host_events f.to;
          from = f.from ∙ ap (λ z. fed (events_on c h) ++ z) (sym same);
          idle = f.idle;
          took = f.took;
        };
        still = λ e. refl;
      }

  fed_stays : (holdings : Holdings) (p q : HostTranscript) → IsIgnored p q ⊎ FeedStep holdings piece p q
      → p.stopped ≡ true → q.stopped ≡ true
  fed_stays holdings p q (inl x) e = ap (λ (z : HostTranscript). z.stopped) x.1 ∙ e
  fed_stays holdings p q (inr x) e = absurd (true≢false (sym e ∙ x.going))

  -- a target that stopped ignores what is fed
  to_stopped : (s : MetaSettings) (q : Question) (target : TargetState) (events : List Event)
      → IsStoppedPeer s q target true events was → IsStoppedPeer s q target true (HandedOut octets ∷ events) now
  to_stopped s q target events b =
      let before = b.before in
      let x : HostAfter (holdings_of target) (HostFed piece ∷ b.all_events) now.host =
      is_step (holdings_of target) b.all_events b.served in
      let had = x.happened in
      let is : had.0 ≡ b.served.served =
      one_served (holdings_of target) b.all_events had.0 b.served.served b.plain had.1 b.served.happened in
      record {
        before = record { host = before.host; to = before.to ++ octets; from = before.from };
        transcript = b.transcript;
        host_events = b.host_events;
        sound = record {
          sound = gives (holdings_of target) (settings_of s) events b.transcript b.host_events before.host octets b.sound.sound;
          to = ap (λ z. z ++ octets) b.sound.to ∙ append_assoc (fed_to b.host_events) before.to octets;
          from = b.sound.from;
          idle = b.sound.idle;
          took = b.sound.took;
        };
        from = b.from ∙ sym same;
        waiting = b.waiting ∙ sym waits;
        reply = b.reply;
        pending = b.pending;
        long = b.long;
        all_events = HostFed piece ∷ b.all_events;
        served = x;
        plain = b.plain;
        stopped = fed_stays (holdings_of target) had.0 x.served had.2
            (ap (λ (z : HostTranscript). z.stopped) is ∙ b.stopped);
        sent = to_sent events b.all_events b.sent;
        came = b.came ∙ ap (λ z. fed events ++ z) (sym same);
      }

  to_lost : (s : MetaSettings) (q : Question) (target : TargetState) (events : List Event)
      → IsLostPeer s q target true events was → IsLostPeer s q target true (HandedOut octets ∷ events) now
  to_lost s q target events (inl b) = inl (to_stopped s q target events b)
  to_lost s q target events (inr e) = inr (
    ended_given s target events octets e.0,
    record {
      host_events = HostFed piece ∷ e.1.host_events;
      served = is_step (holdings_of target) e.1.host_events e.1.served;
      sent = to_sent events e.1.host_events e.1.sent;
      came = e.1.came ∙ ap (λ z. fed events ++ z) (sym same);
    },
  )

  pub to_steps : PeerStep c true true true old new was now
  to_steps = record {
    fine = λ questions s h q target p host_events after at f.
        inl (to_fine questions s h q target p host_events after at f);
    lost = λ questions s h q target after at l. record {
      events = HandedOut octets ∷ [];
      after = recorded questions s [] h after;
      lost = to_lost s q target (events_on c h) l;
    };
  }

not_so : (b : Bool) → not b ≡ true → b ≡ false
not_so false e = refl
not_so true e = absurd cc

-- what waits at a serving end is handed out
handed_now : (holdings : Holdings) (host_events : List HostEvent) (host : HostState) → HostAfter holdings host_events host
    → HostAfter holdings (HostHandedOut host.waiting ∷ host_events) (record host { waiting = [] })
handed_now holdings host_events host a = record {
  served = a.served;
  happened = (a.served, a.happened, refl);
  target = a.target;
  pending = a.pending;
  waiting = append-nil (handed_out host_events ++ host.waiting) ∙ a.waiting;
  stopped = a.stopped;
  closed = a.closed;
  framer = a.framer;
}

-- the octets that waited at the target are on their way, and a piece was fed to the connection
module _ (over : OverLaw) (handed : HostHandedOutLaw) (feeds : FedLaw) (pipe piece : List ℕ) (k : ℕ)
    (front : piece ≡ take k pipe) (carried : Bool) (none : carried ≡ false → piece ≡ []) where
  from_cut : pipe ≡ piece ++ drop (length piece) pipe
  from_cut = front_rest k pipe ∙ ap (λ z. z ++ drop (length z) pipe) (sym front)

  as_it_was : (p : Transcript) → not carried ≡ true → after_feed p piece ≡ p
  as_it_was p e = same_piece p piece (none (not_so carried e))

  module _ (was now : Peer) (fills : pipe ≡ was.from ++ was.host.waiting) (left : now.from ≡ drop (length piece) pipe)
      (same : now.to ≡ was.to) where
    -- all octets that were handed out were fed, or are on their way
    from_came : (events : List Event) (host_events : List HostEvent) → handed_out host_events ≡ fed events ++ was.from
        → handed_out host_events ++ was.host.waiting ≡ (fed events ++ piece) ++ now.from
    from_came events host_events e =
        goes_through (handed_out host_events) (fed events) was.from was.host.waiting piece now.from e
        (sym fills ∙ from_cut ∙ ap (λ z. piece ++ z) (sym left))

    from_sound : (s : MetaSettings) (q : Question) (target : TargetState) (events : List Event) (p : Transcript)
        (host_events : List HostEvent) → HostAfter (holdings_of target) (HostHandedOut was.host.waiting ∷ host_events) now.host
        → IsSoundPeer s q target true events p host_events was
        → IsSoundPeer s q target (not carried) (Fed piece ∷ events) (after_feed p piece)
        (HostHandedOut was.host.waiting ∷ host_events) now
    from_sound s q target events p host_events hands f =
        let transcript : p.stream ≡ fed events = all_transcripts s q target true events p host_events was f over in
        let on_way : handed_out host_events ++ was.host.waiting ≡ p.stream ++ pipe =
        ap (λ z. z ++ was.host.waiting) (f.from ∙ ap (λ z. z ++ was.from) (sym transcript))
        ∙ append_assoc p.stream was.from was.host.waiting ∙ ap (λ z. p.stream ++ z) (sym fills) in
        let one : IsSoundExchange (holdings_of target) (settings_of s) events p (HostHandedOut was.host.waiting ∷ host_events) now.host =
        handed (holdings_of target) (settings_of s) events p host_events was.host now.host f.sound hands in
        record {
          sound = feeds (holdings_of target) (settings_of s) events p (HostHandedOut was.host.waiting ∷ host_events) now.host
              piece (drop (length piece) pipe) one (from_of one pipe on_way ∙ from_cut);
          to = f.to ∙ ap (λ z. fed_to host_events ++ z) (sym same);
          from = from_came events host_events f.from;
          idle = idle_piece s q p piece f.idle;
          took = λ e. subst (λ z. is_stopped (state_at z) ≡ false → HasTakenAll z) (sym (as_it_was p e)) (f.took refl);
        }

  module _ (one_served : OneServedLaw) (c : ℕ) (old new : MetaLinks) (was now : Peer)
      (hands : HostRecorded (HostHandedOut was.host.waiting) was.host now.host) (empty : now.host.waiting ≡ [])
      (fills : pipe ≡ was.from ++ was.host.waiting) (recorded : MetaRecorded c (Fed piece) old new)
      (left : now.from ≡ drop (length piece) pipe) (same : now.to ≡ was.to) where
    from_stopped : (s : MetaSettings) (q : Question) (target : TargetState) (events : List Event)
        → IsStoppedPeer s q target true events was → IsStoppedPeer s q target (not carried) (Fed piece ∷ events) now
    from_stopped s q target events b =
        let before = b.before in
        let later : Peer = record { host = record before.host { waiting = [] }; to = before.to; from = now.from } in
        let x : HostAfter (holdings_of target) (HostHandedOut was.host.waiting ∷ b.all_events) now.host =
        hands (holdings_of target) b.all_events b.served in
        let had = x.happened in
        let is : had.0 ≡ b.served.served =
        one_served (holdings_of target) b.all_events had.0 b.served.served b.plain had.1 b.served.happened in
        let filled : pipe ≡ before.from ++ before.host.waiting = fills ∙ (λ i. sym b.from i ++ sym b.waiting i) in
        record {
          before = later;
          transcript = after_feed b.transcript piece;
          host_events = HostHandedOut before.host.waiting ∷ b.host_events;
          sound = from_sound before later filled left refl s q target events b.transcript b.host_events
              (handed_now (holdings_of target) b.host_events before.host b.sound.sound.served) b.sound;
          from = refl;
          waiting = sym empty;
          reply = b.reply;
          pending = b.pending;
          long = b.long;
          all_events = HostHandedOut was.host.waiting ∷ b.all_events;
          served = x;
          plain = b.plain;
          stopped = ap (λ (z : HostTranscript). z.stopped) (had.2 ∙ is) ∙ b.stopped;
          sent = b.sent ∙ ap (λ z. fed_to b.all_events ++ z) (sym same);
          came = from_came was now fills left same events b.all_events b.came;
        }

    from_lost : (s : MetaSettings) (q : Question) (target : TargetState) (events : List Event)
        → IsLostPeer s q target true events was → IsLostPeer s q target (not carried) (Fed piece ∷ events) now
    from_lost s q target events (inl b) = inl (from_stopped s q target events b)
    from_lost s q target events (inr e) = inr (
      ended_fed s target events piece e.0,
      record {
        host_events = HostHandedOut was.host.waiting ∷ e.1.host_events;
        served = hands (holdings_of target) e.1.host_events e.1.served;
        sent = e.1.sent ∙ ap (λ z. fed_to e.1.host_events ++ z) (sym same);
        came = from_came was now fills left same events e.1.host_events e.1.came;
      },
    )

    pub from_steps : PeerStep c true (not carried) (not carried) old new was now
    from_steps = record {
      fine = λ questions s h q target p host_events after at f. inl (record {
        events = Fed piece ∷ [];
        host_more = HostHandedOut was.host.waiting ∷ [];
        after = recorded questions s [] h after;
        later = after_feed p piece;
        fine = from_sound was now fills left same s q target (events_on c h) p host_events
            (hands (holdings_of target) host_events f.sound.served) f;
        still = λ e. as_it_was p e;
      });
      lost = λ questions s h q target after at l. record {
        events = Fed piece ∷ [];
        after = recorded questions s [] h after;
        lost = from_lost s q target (events_on c h) l;
      };
    }
