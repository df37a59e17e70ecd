-- Replies that are released, if a connection is sound with its target.
use Rattle.std.proofs.Common.{◌≡◌, ◌∙◌, ◌⊎◌, inl, inr, sym, ap, subst, ℕ, ◌+◌, ◌<◌, ◌≤◌, Bool, true, false, List, [], ◌∷◌, ◌++◌, length, slice_get, Some, Result, Ok, Err, refl, arith, length-append, true≢false}
use Rattle.std.specs.Prelude.{OnOk, Contains}
use Rattle.std.specs.List.{flat_map}
use Rattle.std.proofs.lemmas.List.{append_cancel_left}
use Rattle.std.proofs.lemmas.Option.{slice_get_within, get_or_from_slice_get}
use Rattle.zorigin.specs.Sending.{encoding_of}
use Rattle.ztarget.specs.Receiving.{TargetState, may_release}
use Rattle.zoom_questions.specs.declared.question.Question.{Question}
use Rattle.zoom_questions.specs.declared.question.MetaSettings.{MetaSettings}
use Rattle.zoom_pool.specs.Transcripts.{Event, Transcript, past_of}
use Rattle.zoom_pool.specs.History.{History, events_on}
use Rattle.zoom_pool.specs.Hosts.{HostState, HostAfter, HostTranscript, ReleaseStep, LossStep, HostEvent, Released, Lost, HostRecorded, HasNoReply, IsTooLong, ReleaseResult, holdings_of, handed_out}
use Rattle.zoom_pool.specs.Metas.{MetaLinks, MetaAfter, settings_of}
use Rattle.zoom_laws.specs.Exchange.{IsSoundExchange, OneServedLaw, ReleasedLaw, CountLaw, EmptyLaw, FewLaw}
use Rattle.zoom_sim.specs.declared.peers.Peer.{Peer}
use Rattle.zoom_sim.specs.RunSteps.{IsExchangeUnderway}
use Rattle.zoom_sim.specs.RunSound.{IsSoundPeer, IsStoppedPeer, IsLostPeer, SoundStep, LostStep, PeerStep, SoundReleaseStep}
use Rattle.zoom_sim.specs.RunPeers.{IsEmptied, LostReleaseStep, ReleaseAllStep, SoundReleaseSteps, ReleaseSteps}
use Rattle.zoom_sim.proofs.RunSound.{steps_same}
use Rattle.zoom_sim.proofs.RunLosses.{has_stopped}

abbrev with_host : Peer → HostState → Peer
with_host p host = record p { host = host }

-- ---- a target that lost a reply releases nothing more

-- one more event of the serving end, that carries no octets
released_underway : (k : ℕ) (target : TargetState) (events : List Event) (mid : Peer) (host : HostState)
    → HostRecorded (Released k) mid.host host → IsExchangeUnderway target events mid
    → IsExchangeUnderway target events (with_host mid host)
released_underway k target events mid host put u = record {
  host_events = Released k ∷ u.host_events;
  served = put (holdings_of target) u.host_events u.served;
  sent = u.sent;
  came = u.came;
}

released_lost : (k : ℕ) (s : MetaSettings) (q : Question) (target : TargetState) (events : List Event) (mid : Peer)
    (host : HostState) → mid.host.stopped ≡ false → HostRecorded (Released k) mid.host host
    → IsLostPeer s q target true events mid → IsLostPeer s q target true events (with_host mid host)
released_lost k s q target events mid host going put (inl b) =
    absurd (true≢false (sym (has_stopped s target q true events mid b) ∙ going))
released_lost k s q target events mid host going put (inr e) =
    inr (e.0, released_underway k target events mid host put e.1)

-- ---- replies that are sent

pub putting_none : (p : Peer) → ReleaseSteps 0 p p
putting_none p = record {
  to = refl;
  on = λ s q target events p host_events f. record { host_more = []; fine = f; count = omega arith };
  lost = λ s q target events l. l;
}

pub putting_more : OneServedLaw → ReleasedLaw → (n k : ℕ) (was mid : Peer) (host : HostState)
    → ReleaseSteps n was mid → mid.host.stopped ≡ false → HostRecorded (Released k) mid.host host
    → ReleaseSteps (n + 1) was (with_host mid host)
putting_more one_served released n k was mid host before going put = record {
  to = before.to;
  on = λ s q target events p host_events f.
      let one : SoundReleaseSteps n s q target events p host_events mid = before.on s q target events p host_events f in
      let all : List HostEvent = one.host_more ++ host_events in
      let sound = one.fine.sound in
      let two : IsSoundExchange (holdings_of target) (settings_of s) events p (Released k ∷ all) host =
      released (holdings_of target) (settings_of s) events p all mid.host host k sound
      (put (holdings_of target) all sound.served) in
      let had = two.served.happened in
      let same : had.0 ≡ sound.served.served =
      one_served (holdings_of target) all had.0 sound.served.served sound.plain had.1 sound.served.happened in
      let sends : ReleaseStep k had.0 two.served.served = had.2 in
      let more : two.served.served.sent ≡ sound.served.served.sent ++ sends.reply ∷ [] =
      ap (λ z. z.sent) sends.is ∙ ap (λ (z : HostTranscript). z.sent ++ sends.reply ∷ []) same in
      record {
        host_more = Released k ∷ one.host_more;
        fine = record {
          sound = two;
          to = one.fine.to;
          from = one.fine.from;
          idle = one.fine.idle;
          took = one.fine.took;
        };
        count = omega (arith, one.count, ap length more, length-append sound.served.served.sent (sends.reply ∷ []));
      };
  lost = λ s q target events l. released_lost k s q target events mid host going put (before.lost s q target events l);
}

-- ---- a reply that was not sent

contains_at : {X : Type 0} (xs : List X) (k : ℕ) (x : X) → slice_get xs k ≡ Some x → Contains xs x
contains_at xs k x e = (k, slice_get_within xs k x e, get_or_from_slice_get xs k x x e)

-- its target stopped then
module _ (one_served : OneServedLaw) (k : ℕ) (s : MetaSettings) (q : Question) (target : TargetState)
    (events : List Event) (peer : Peer) (host : HostState) (long : IsTooLong peer.host k host)
    (lost : HostRecorded (Lost k) peer.host host) where
  pub loss : (p : Transcript) (host_events : List HostEvent) → IsSoundPeer s q target true events p host_events peer
      → IsStoppedPeer s q target true events (with_host peer host)
  loss p host_events f =
      let sound = f.sound in
      let x : HostAfter (holdings_of target) (Lost k ∷ host_events) host =
      lost (holdings_of target) host_events sound.served in
      let had = x.happened in
      let same : had.0 ≡ sound.served.served =
      one_served (holdings_of target) host_events had.0 sound.served.served sound.plain had.1 sound.served.happened in
      let losing : LossStep k had.0 x.served = had.2 in
      let sent : x.served.sent ≡ sound.served.served.sent =
      ap (λ z. z.sent) losing.is ∙ ap (λ (z : HostTranscript). z.sent) same in
      record {
        before = peer;
        transcript = p;
        host_events = host_events;
        sound = f;
        from = refl;
        waiting = append_cancel_left (handed_out host_events) peer.host.waiting host.waiting
            (sound.served.waiting ∙ ap (λ z. flat_map encoding_of z) (sym sent) ∙ sym x.waiting);
        reply = long.reply;
        pending = contains_at peer.host.target.pending k long.reply long.due.there;
        long = long.long;
        all_events = Lost k ∷ host_events;
        served = x;
        plain = sound.plain;
        stopped = ap (λ z. z.stopped) losing.is;
        sent = f.to;
        came = f.from;
      }

  -- a second reply is not lost
  loss_once : IsLostPeer s q target true events peer → IsLostPeer s q target true events (with_host peer host)
  loss_once (inr e) = inr (
    e.0,
    record {
      host_events = Lost k ∷ e.1.host_events;
      served = lost (holdings_of target) e.1.host_events e.1.served;
      sent = e.1.sent;
      came = e.1.came;
    },
  )
  loss_once (inl b) =
      let x : HostAfter (holdings_of target) (Lost k ∷ b.all_events) host = lost (holdings_of target) b.all_events b.served in
      let had = x.happened in
      let same : had.0 ≡ b.served.served =
      one_served (holdings_of target) b.all_events had.0 b.served.served b.plain had.1 b.served.happened in
      let losing : LossStep k had.0 x.served = had.2 in
      absurd (true≢false (sym b.stopped ∙ ap (λ (z : HostTranscript). z.stopped) (sym same) ∙ losing.going))

-- ---- all replies

module _ (one_served : OneServedLaw) (empty : EmptyLaw) (n : ℕ) (was mid : Peer) (host : HostState)
    (before : ReleaseSteps n was mid) where
  none_left : HasNoReply mid.host 0 host → ReleaseAllStep was (with_host mid host)
  none_left none = record {
    to = before.to;
    on = λ questions s c h q target p host_events meta after at f.
        let one : SoundReleaseSteps n s q target (events_on c h) p host_events mid = before.on s q target (events_on c h) p host_events f in
        inl (subst (λ z. IsEmptied s q target (events_on c h) p host_events (with_host mid z)) (sym none.1) (record {
          host_more = one.host_more;
          fine = one.fine;
          none = by s q target (events_on c h) p (one.host_more ++ host_events) one.fine none.0;
        }));
    lost = λ s q target events l.
        subst (λ z. IsLostPeer s q target true events (with_host mid z)) (sym none.1) (before.lost s q target events l);
  }
    where
      by : (s : MetaSettings) (q : Question) (target : TargetState) (events : List Event) (p : Transcript)
          (host_events : List HostEvent) → IsSoundPeer s q target true events p host_events mid
          → (mid.host.stopped ≡ true) ⊎ (may_release mid.host.target.pending 0 ≡ false) → mid.host.target.pending ≡ []
      by s q target events p host_events f (inl stopped) =
          absurd (true≢false (sym stopped ∙ f.sound.served.stopped ∙ f.sound.serving))
      by s q target events p host_events f (inr may) =
          empty (holdings_of target) (settings_of s) events p host_events mid.host f.sound may

  too_long : IsTooLong mid.host 0 host → HostRecorded (Lost 0) mid.host host → ReleaseAllStep was (with_host mid host)
  too_long long lost = record {
    to = before.to;
    on = λ questions s c h q target p host_events meta after at f.
        let one : SoundReleaseSteps n s q target (events_on c h) p host_events mid = before.on s q target (events_on c h) p host_events f in
        inr (loss one_served 0 s q target (events_on c h) mid host long lost p (one.host_more ++ host_events) one.fine);
    lost = λ s q target events l.
        loss_once one_served 0 s q target events mid host long lost (before.lost s q target events l);
  }

  pub empties : (E : Type 0) → ReleaseResult {E = E} 0 (Ok false) mid.host host → ReleaseAllStep was (with_host mid host)
  empties E (inl none) = none_left none
  empties E (inr long) = too_long long.0 long.1

-- no more replies than are owed were sent
pub empties_all : CountLaw → FewLaw → (n : ℕ) (was now : Peer) → 1000003 < n → ReleaseSteps n was now → ReleaseAllStep was now
empties_all counts few n was now many all = record {
  to = all.to;
  on = λ questions s c h q target p host_events meta after at f.
      let one : SoundReleaseSteps n s q target (events_on c h) p host_events now = all.on s q target (events_on c h) p host_events f in
      let put : length one.fine.sound.served.served.sent ≤ length (past_of p).sent =
      (counts (holdings_of target) (settings_of s) (events_on c h) p (one.host_more ++ host_events) now.host one.fine.sound).1 in
      let sent : length (past_of p).sent ≤ 1000003 =
      (few questions s h meta c q p after at f.sound.transcript).0 in
      absurd (omega (arith, many, one.count, put, sent));
  lost = all.lost;
}

-- ---- as steps

-- no connection changes
lost_fine : (was now : Peer) → LostReleaseStep was now → (c : ℕ) (meta : MetaLinks) (questions : List Question)
    (s : MetaSettings) (h : History) (q : Question) (target : TargetState) → MetaAfter questions s h meta
    → IsLostPeer s q target true (events_on c h) was → LostStep questions s c h q target true meta now
lost_fine was now keeps c meta questions s h q target after l =
    record { events = []; after = after; lost = keeps s q target (events_on c h) l }

pub putting_fine : (n : ℕ) (was now : Peer) → ReleaseSteps n was now → SoundReleaseStep was now
putting_fine n was now put c meta = record {
  fine = λ questions s h q target p host_events after at f.
      let one : SoundReleaseSteps n s q target (events_on c h) p host_events now = put.on s q target (events_on c h) p host_events f in
      inl (record {
        events = [];
        host_more = one.host_more;
        after = after;
        later = p;
        fine = one.fine;
        still = λ e. refl;
      });
  lost = λ questions s h q target after at l. lost_fine was now put.lost c meta questions s h q target after l;
}

pub empties_fine : (was now : Peer) → ReleaseAllStep was now → SoundReleaseStep was now
empties_fine was now e c meta = record {
  fine = λ questions s h q target p host_events after at f.
      by questions s h q target p host_events after (e.on questions s c h q target p host_events meta after at f);
  lost = λ questions s h q target after at l. lost_fine was now e.lost c meta questions s h q target after l;
}
  where
    by : (questions : List Question) (s : MetaSettings) (h : History) (q : Question) (target : TargetState)
        (p : Transcript) (host_events : List HostEvent) → MetaAfter questions s h meta
        → IsEmptied s q target (events_on c h) p host_events now ⊎ IsStoppedPeer s q target true (events_on c h) now
        → SoundStep questions s c h q target true true p host_events meta now ⊎ LostStep questions s c h q target true meta now
    by questions s h q target p host_events after (inl one) = inl (record {
      events = [];
      host_more = one.host_more;
      after = after;
      later = p;
      fine = one.fine;
      still = λ e. refl;
    })
    by questions s h q target p host_events after (inr b) = inr (record { events = []; after = after; lost = inl b })

unput_fine : OneServedLaw → (E : Type 0) (k : ℕ) (p : Peer) (host : HostState)
    → ReleaseResult {E = E} k (Ok false) p.host host → SoundReleaseStep p (with_host p host)
unput_fine one_served E k peer host (inl none) c meta =
    subst (λ z. PeerStep c true true true meta meta peer (with_host peer z)) (sym none.1) (steps_same c true meta peer)
unput_fine one_served E k peer host (inr long) c meta = record {
  fine = λ questions s h q target p host_events after at f. inr (record {
    events = [];
    after = after;
    lost = inl (loss one_served k s q target (events_on c h) peer host long.0 long.1 p host_events f);
  });
  lost = λ questions s h q target after at l. record {
    events = [];
    after = after;
    lost = loss_once one_served k s q target (events_on c h) peer host long.0 long.1 l;
  };
}

pub released_fine : OneServedLaw → ReleasedLaw → {E : Type 0} (k : ℕ) (answer : Result Bool E) (p : Peer)
    (host : HostState) → ReleaseResult k answer p.host host → OnOk answer (SoundReleaseStep p (with_host p host))
released_fine one_served released k (Ok true) p host put =
    putting_fine 1 p (with_host p host) (putting_more one_served released 0 k p p host (putting_none p) put.0 put.1)
released_fine one_served released {E} k (Ok false) p host none = unput_fine one_served E k p host none
released_fine one_served released k (Err e) p host a = tt
