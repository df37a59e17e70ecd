-- Worlds over a channel that loses nothing: how their rounds end.
use Rattle.std.proofs.Common.{◌≡◌, ◌∙◌, ◌⊎◌, inl, inr, sym, ap, subst, ℕ, suc, ◌+◌, ◌<◌, ◌≤◌, Bool, true, false, List, ◌++◌, length, slice_get, Some, refl, arith, true≢false}
use Rattle.std.specs.Prelude.{◌^◌, ◌-◌}
use Rattle.std.proofs.lemmas.Option.{slice_get_within}
use Rattle.ztarget.specs.Receiving.{TargetState}
use Rattle.zoom_questions.specs.declared.question.Question.{Question}
use Rattle.zoom_questions.specs.declared.question.MetaSettings.{MetaSettings}
use Rattle.zoom_pool.specs.Transcripts.{Event, Transcript, IsTranscript, past_of, sent}
use Rattle.zoom_pool.specs.History.{History, events_on}
use Rattle.zoom_pool.specs.Hosts.{HostEvent, holdings_of}
use Rattle.zoom_pool.specs.Laws.{OneTranscript}
use Rattle.zoom_pool.specs.Metas.{MetaLinks, IsFinished, settings_of}
use Rattle.zoom_pool.proofs.Pools.{only_append}
use Rattle.zoom_pool.proofs.Metas.{slice_some}
use Rattle.zoom_laws.specs.Exchange.{ExchangeLaws, FewLaw}
use Rattle.zoom_sim.specs.declared.peers.Peer.{Peer}
use Rattle.zoom_sim.specs.Run.{is_over, IsRun}
use Rattle.zoom_sim.specs.RunSteps.{IsExchangeUnderway}
use Rattle.zoom_sim.specs.RunSound.{IsSoundPeer, IsEndedEarly, MoreEventsOfUnfinished, UnfinishedOnlyStep}
use Rattle.zoom_sim.specs.RunRounds.{IsAdvancedTo, IsSoundWorld, AfterSoundRound, AfterRoundOrEnd, IsCompleteExchange, IsCompleteRun, AfterAllSoundRounds}
use Rattle.zoom_sim.proofs.RunLosses.{ended_over, stopped_underway, goes_on}

-- ---- finished connections are unchanged

-- more octets than a connection ever sends
abbrev pub most : ℕ
most = 2 ^ 64 - 1

module _ (few : FewLaw) (qs : List Question) (s : MetaSettings)
    (ts : List TargetState) (old : MetaLinks) (peers : List Peer)
    (w : IsSoundWorld (λ i. most) qs s ts old peers) where
  -- a connection that is sound is finished
  over_by : (c : ℕ) (q : Question) (p : Transcript) → slice_get qs c ≡ Some q → IsTranscript (settings_of s) (events_on c w.history) p
      → (is_over p ≡ false → most ≤ length (sent (past_of p))) → is_over p ≡ true
  over_by c q p at transcript least = by (is_over p) refl
    where
      by : (b : Bool) → is_over p ≡ b → is_over p ≡ true
      by true e = e
      by false e = absurd (let a = least e in
          let b = (few qs s w.history old c q p w.after at transcript).1 in omega (arith, a, b))

  -- a finished connection has no more events
  spared_same : (new : MetaLinks) (x : MoreEventsOfUnfinished qs s w.history new) (c : ℕ) (p : Transcript)
      → IsTranscript (settings_of s) (events_on c w.history) p → is_over p ≡ true
      → events_on c (x.more ++ w.history) ≡ events_on c w.history
  spared_same new x c p transcript over =
      only_append c x.more w.history ∙ ap (λ z. z ++ events_on c w.history) (x.none c p transcript over)

  spared_kept : (n : ℕ) (new : MetaLinks) (x : MoreEventsOfUnfinished qs s w.history new) (c : ℕ) (q : Question) (t : TargetState)
      (peer : Peer) → slice_get qs c ≡ Some q → IsAdvancedTo most s q t (events_on c w.history) peer
      → IsAdvancedTo n s q t (events_on c (x.more ++ w.history)) peer
  spared_kept n new x c q t peer at (inl k) =
      let over = over_by c q k.0 at k.2.sound.transcript k.3 in
      subst (λ z. IsAdvancedTo n s q t z peer) (sym (spared_same new x c k.0 k.2.sound.transcript over))
      (inl (k.0, k.1, k.2, λ on. absurd (true≢false (sym over ∙ on))))
  spared_kept n new x c q t peer at (inr (inl b)) = absurd (omega (arith, b.1))
  spared_kept n new x c q t peer at (inr (inr e)) =
      let over = ended_over s t (events_on c w.history) e.0 in
      subst (λ z. IsAdvancedTo n s q t z peer) (sym (spared_same new x c e.0.transcript e.0.agrees over)) (inr (inr e))

  pub spared_world : (n : ℕ) (new : MetaLinks) → UnfinishedOnlyStep old new → IsSoundWorld (λ i. n) qs s ts new peers
  spared_world n new f =
      let x = f.on qs s w.history w.after in
      record {
        history = x.more ++ w.history;
        after = x.after;
        size = w.size;
        equal = w.equal;
        kept = λ c q t p a b d. spared_kept n new x c q t p a (w.kept c q t p a b d);
      }

-- ---- the end

-- the connections are finished
abbrev pub AreOver : List Question → MetaSettings → History → Type 0
AreOver qs s h = (c : ℕ) (p : Transcript) → c < length qs → IsTranscript (settings_of s) (events_on c h) p → is_over p ≡ true

-- the octets of a connection that is sound, or whose target lost a reply
underway : (n : ℕ) (s : MetaSettings) (q : Question) (t : TargetState) (events : List Event) (peer : Peer)
    → IsAdvancedTo n s q t events peer → IsExchangeUnderway t events peer
underway n s q t events peer (inl k) =
    record { host_events = k.1; served = k.2.sound.served; sent = k.2.to; came = k.2.from }
underway n s q t events peer (inr (inl b)) = stopped_underway s t q true events peer b.0
underway n s q t events peer (inr (inr e)) = e.1

module _ (laws : ExchangeLaws) (least : ℕ → ℕ) (qs : List Question) (s : MetaSettings) (ts : List TargetState)
    (meta : MetaLinks) (peers : List Peer) (w : IsSoundWorld least qs s ts meta peers) (over : AreOver qs s w.history) where
  -- the question and the peer of a target
  others_of : (c : ℕ) (t : TargetState) → slice_get ts c ≡ Some t → (q : Question) × (p : Peer)
      × (slice_get qs c ≡ Some q) × (slice_get peers c ≡ Some p)
  others_of c t at =
      let within : c < length ts = slice_get_within ts c t at in
      let q = slice_some qs c (let g : c < length qs = omega (arith, within, w.equal) in g) in
      let p = slice_some peers c (let g : c < length peers = omega (arith, within, w.size) in g) in
      (q.0, p.0, q.1, p.1)

  abbrev is_run : IsRun qs s ts meta
  is_run = record {
    history = w.history;
    after = w.after;
    talked = λ c t at.
        let o = others_of c t at in
        let u = underway (least c) s o.0 t (events_on c w.history) o.1 (w.kept c o.0 t o.1 o.2 at o.3) in
        record {
          host = o.1.host;
          host_events = u.host_events;
          served = u.served;
          to_go = o.1.to;
          sent = u.sent;
          to_come = o.1.from;
          came = u.came;
        };
    over = over;
  }

  module _ (c : ℕ) (q : Question) (at : slice_get qs c ≡ Some q) (t : TargetState) where
    whole_by : (p : Transcript) (host_events : List HostEvent) (peer : Peer)
        → IsSoundPeer s q t true (events_on c w.history) p host_events peer → is_over p ≡ true
        → IsCompleteExchange s t (events_on c w.history)
    whole_by p host_events peer f ends =
        let o = laws.over (holdings_of t) (settings_of s) (events_on c w.history) p host_events peer.host f.sound ends in
        let complete = laws.ends (holdings_of t) (settings_of s) (events_on c w.history) p host_events peer.host f.sound ends in
        record {
          transcript = p;
          host_events = host_events;
          host = peer.host;
          sound = f.sound;
          over = ends;
          complete = complete;
          tried = laws.tried qs s w.history meta c q p w.after at f.sound.transcript complete;
          replies = f.sound.served.served.sent;
          owed = o.0;
          stream = o.1;
        }

    kept_whole : (n : ℕ) (peer : Peer) → IsAdvancedTo n s q t (events_on c w.history) peer
        → IsCompleteExchange s t (events_on c w.history) ⊎ IsEndedEarly s t (events_on c w.history)
    kept_whole n peer (inl k) =
        inl (whole_by k.0 k.1 peer k.2 (over c k.0 (slice_get_within qs c q at) k.2.sound.transcript))
    kept_whole n peer (inr (inl b)) =
        let x = b.0 in
        absurd (true≢false (sym (over c x.transcript (slice_get_within qs c q at) x.sound.sound.transcript)
        ∙ goes_on laws.over laws.pending s q t true (events_on c w.history) peer x))
    kept_whole n peer (inr (inr e)) = inr e.0

  pub ran_whole : IsCompleteRun qs s ts meta
  ran_whole = record {
    run = is_run;
    whole = λ c t at.
        let o = others_of c t at in
        kept_whole c o.0 o.2 t (least c) o.1 (w.kept c o.0 t o.1 o.2 at o.3);
  }

-- at this bound, each connection is finished
most_over : FewLaw → (qs : List Question) (s : MetaSettings) (ts : List TargetState) (meta : MetaLinks)
    (peers : List Peer) (w : IsSoundWorld (λ i. most) qs s ts meta peers) → OneTranscript → AreOver qs s w.history
most_over few qs s ts meta peers w uniqueness c p lt transcript =
    let q = slice_some qs c lt in
    let t = slice_some ts c (let g : c < length ts = omega (arith, lt, w.equal) in g) in
    let peer = slice_some peers c (let g : c < length peers = omega (arith, lt, w.equal, w.size) in g) in
    by q.0 t.0 peer.0 q.1 (w.kept c q.0 t.0 peer.0 q.1 t.1 peer.1)
  where
    same : (z : Transcript) → IsTranscript (settings_of s) (events_on c w.history) z → is_over z ≡ true → is_over p ≡ true
    same z agrees over = ap is_over (uniqueness (settings_of s) (events_on c w.history) p z transcript agrees) ∙ over

    by : (q : Question) (t : TargetState) (peer : Peer) → slice_get qs c ≡ Some q
        → IsAdvancedTo most s q t (events_on c w.history) peer → is_over p ≡ true
    by q t peer at (inl k) =
        same k.0 k.2.sound.transcript (over_by few qs s ts meta peers w c q k.0 at k.2.sound.transcript k.3)
    by q t peer at (inr (inl b)) = absurd (omega (arith, b.1))
    by q t peer at (inr (inr e)) = same e.0.transcript e.0.agrees (ended_over s t (events_on c w.history) e.0)

-- ---- n rounds

abbrev pub SoundRounds : ℕ → MetaLinks → MetaLinks → List Peer → List Peer → Type 0
SoundRounds n old new was now =
    (qs : List Question) (s : MetaSettings) (ts : List TargetState)
    → IsSoundWorld (λ i. 0) qs s ts old was → IsSoundWorld (λ i. n) qs s ts new now

pub grown_more : (n : ℕ) (old mid new : MetaLinks) (was now later : List Peer) → SoundRounds n old mid was now
    → AfterRoundOrEnd mid new now later → SoundRounds (n + 1) old new was later
grown_more n old mid new was now later g f qs s ts w =
    subst (λ k. IsSoundWorld (λ i. k) qs s ts new later) (let e : suc n ≡ n + 1 = omega arith in e)
    (f.on n qs s ts (g qs s ts w))

-- a round in which something was carried or released
pub grows_moved : (old new : MetaLinks) (was now : List Peer) → AfterSoundRound true old new was now
    → AfterRoundOrEnd old new was now
grows_moved old new was now f = record { on = λ n qs s ts w. f.on n (suc n) qs s ts (λ e. refl) w }

-- a round in which nothing was, and the end of the inputs
pub grows_ended : FewLaw → (old mid new : MetaLinks) (was now : List Peer)
    → AfterSoundRound false old mid was now → UnfinishedOnlyStep mid new → AfterRoundOrEnd old new was now
grows_ended few old mid new was now f x = record {
  on = λ n qs s ts w.
      spared_world few qs s ts mid now
      (f.on n most qs s ts (λ e. absurd (true≢false (sym e))) w) (suc n) new x;
}

-- all are finished
pub finished_whole : ExchangeLaws → (n : ℕ) (old new : MetaLinks) (was now : List Peer) → SoundRounds n old new was now
    → IsFinished new true → AfterAllSoundRounds old new was
finished_whole laws n old new was now g f = record {
  on = λ qs s ts w.
      let x = g qs s ts w in
      ran_whole laws (λ i. n) qs s ts new now x (λ c p lt transcript. (f qs s x.history x.after).0 refl c p lt transcript);
}

-- all are finished, after n rounds
pub most_whole : ExchangeLaws → OneTranscript → (n : ℕ) (old mid new : MetaLinks) (was now : List Peer)
    → SoundRounds n old mid was now → most ≤ n → UnfinishedOnlyStep mid new → AfterAllSoundRounds old new was
most_whole laws uniqueness n old mid new was now g le x = record {
  on = λ qs s ts w.
      let y = at_most qs s ts (g qs s ts w) in
      let z = spared_world laws.few qs s ts mid now y most new x in
      ran_whole laws (λ i. most) qs s ts new now z (most_over laws.few qs s ts new now z uniqueness);
}
  where
    lower : (qs : List Question) (s : MetaSettings) (ts : List TargetState) (w : IsSoundWorld (λ i. n) qs s ts mid now)
        (c : ℕ) (q : Question) (t : TargetState) (p : Peer) → IsAdvancedTo n s q t (events_on c w.history) p
        → IsAdvancedTo most s q t (events_on c w.history) p
    lower qs s ts w c q t p (inl k) =
        inl (k.0, k.1, k.2, λ on. let a : n ≤ length (sent (past_of k.0)) = k.3 on in omega (arith, a, le))
    lower qs s ts w c q t p (inr (inl b)) = absurd (omega (arith, b.1, le))
    lower qs s ts w c q t p (inr (inr e)) = inr (inr e)

    at_most : (qs : List Question) (s : MetaSettings) (ts : List TargetState) → IsSoundWorld (λ i. n) qs s ts mid now
        → IsSoundWorld (λ i. most) qs s ts mid now
    at_most qs s ts w = record {
      history = w.history;
      after = w.after;
      size = w.size;
      equal = w.equal;
      kept = λ c q t p a b d. lower qs s ts w c q t p (w.kept c q t p a b d);
    }
