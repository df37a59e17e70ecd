-- Connections that are driven for the first time, one after the other.
use Rattle.std.proofs.Common.{◌≡◌, ◌∙◌, sym, ap, subst, ℕ, ◌+◌, ◌<◌, ◌==◌, Bool, true, false, List, [], ◌++◌, map, slice_get, Some, refl, arith}
use Rattle.std.proofs.lemmas.Bool.Decides.{nat_tests}
use Rattle.zber.specs.Laws.{nothing}
use Rattle.zorigin.specs.declared.settings.Settings.{Settings}
use Rattle.ztarget.specs.Receiving.{TargetState}
use Rattle.zoom_questions.specs.declared.question.Question.{Question}
use Rattle.zoom_questions.specs.declared.question.MetaSettings.{MetaSettings}
use Rattle.zoom_pool.specs.Inputs.{Nothing, IsBehind}
use Rattle.zoom_pool.specs.Transcripts.{Called, Transcript, NextInput, empty_transcript, given, fed}
use Rattle.zoom_pool.specs.History.{History, events_on}
use Rattle.zoom_pool.specs.Hosts.{holdings_of}
use Rattle.zoom_pool.specs.Laws.{OneTranscript, TakeLaws, IsWaiting}
use Rattle.zoom_pool.specs.Metas.{MetaLinks, CompleteDrive, settings_of}
use Rattle.zoom_pool.proofs.Pools.{only_append}
use Rattle.zoom_laws.specs.Exchange.{IsSoundExchange, HasTakenAll, ExchangeLaws}
use Rattle.zoom_sim.specs.declared.peers.Peer.{Peer}
use Rattle.zoom_sim.specs.RunSteps.{IsPeerOf, ArePeersOf}
use Rattle.zoom_sim.specs.RunSound.{at_connection, DriveOneStep, IsSoundPeer, AreStarted, DriveAllStep}
use Rattle.zoom_sim.proofs.RunSound.{only_more, none_of}
use Rattle.zoom_sim.proofs.RunTakes.{called, calls_silent, IsSameStream, stream_called, drove_after, IsDriven, drives_sound}
use Rattle.zoom_sim.proofs.RunWorlds.{peer_at}

pub starts_none : (meta : MetaLinks) → DriveAllStep 0 meta meta
starts_none meta = record {
  on = λ questions s targets peers a are. record {
    history = [];
    after = a;
    fine = λ i q target peer lt asked there here. absurd (omega (arith, lt));
    others = λ i beyond. refl;
  };
}

-- no octets came, so all messages that came were taken
silent_took : TakeLaws → (settings : Settings) → HasTakenAll (empty_transcript settings)
silent_took laws settings =
    let m : NextInput (empty_transcript settings) Nothing =
    (refl, [], record { messages = []; gave = nothing; count = refl }, refl) in
    let w : IsWaiting (empty_transcript settings) = (laws.nothing (empty_transcript settings) Nothing m).0 refl in
    (w.rest, w.behind, w.unfinished)

same_took : (p q : Transcript) → IsSameStream p q → HasTakenAll p → HasTakenAll q
same_took p q same t = (
  t.0,
  subst (λ z. IsBehind z q.taken t.0) (sym same.stream) (subst (λ z. IsBehind p.stream z t.0) (sym same.taken) t.1),
  t.2,
)

module _ (laws : ExchangeLaws) (takes : TakeLaws) (uniqueness : OneTranscript) (n : ℕ) (mid new : MetaLinks)
    (questions : List Question) (s : MetaSettings) (targets : List TargetState) (peers : List Peer)
    (are : ArePeersOf targets peers) (w : AreStarted n questions s targets mid peers) (count : ℕ)
    (drove : CompleteDrive questions s [] n w.history count new) where
  abbrev longer : History
  longer = at_connection n (map Called drove.progress.calls) ++ w.history

  -- the next connection has no events
  untouched : events_on n w.history ≡ []
  untouched = w.others n (λ lt. omega (arith, lt))

  fine_at : (q : Question) (target : TargetState) (peer : Peer) → slice_get questions n ≡ Some q
      → slice_get targets n ≡ Some target → slice_get peers n ≡ Some peer
      → (p : Transcript) × IsSoundPeer s q target true (events_on n longer) p [] peer
  fine_at q target peer asked there here =
      let calls = drove.progress.calls in
      let is : IsPeerOf target peer = peer_at targets peers n target peer are there here in
      let sound : IsSoundExchange (holdings_of target) (settings_of s) (events_on n w.history) (empty_transcript (settings_of s)) []
      peer.host =
      subst (λ z. IsSoundExchange (holdings_of target) (settings_of s) z (empty_transcript (settings_of s)) [] peer.host) (sym untouched)
      (laws.starts (holdings_of target) (settings_of s) peer.host is.served) in
      let driven : IsDriven s q (holdings_of target) calls (events_on n w.history) (empty_transcript (settings_of s)) [] peer.host =
      drives_sound laws.calls uniqueness questions s n w.history count new drove q (holdings_of target)
      (empty_transcript (settings_of s)) [] peer.host asked sound in
      let same : events_on n longer ≡ map Called calls ++ events_on n w.history = only_more n (map Called calls) w.history in
      let silent = calls_silent calls (events_on n w.history) in (
        called calls (empty_transcript (settings_of s)),
        record {
          sound = subst (λ z. IsSoundExchange (holdings_of target) (settings_of s) z (called calls (empty_transcript (settings_of s))) []
              peer.host) (sym same) driven.sound;
          to = ap given same ∙ silent.0 ∙ ap given untouched ∙ sym is.to;
          from = sym is.from ∙ ap (λ z. z ++ peer.from) (sym (ap fed same ∙ silent.1 ∙ ap fed untouched));
          idle = driven.idle;
          took = λ e on. same_took (empty_transcript (settings_of s)) (called calls (empty_transcript (settings_of s)))
              (stream_called calls (empty_transcript (settings_of s))) (silent_took takes (settings_of s));
        },
      )

  far : (i : ℕ) → (n == i) ≡ false → events_on i longer ≡ events_on i w.history
  far i e =
      only_append i (at_connection n (map Called drove.progress.calls)) w.history
      ∙ ap (λ z. z ++ events_on i w.history) (none_of n i (map Called drove.progress.calls) e)

  fine_by : (i : ℕ) (q : Question) (target : TargetState) (peer : Peer) → i < n + 1 → slice_get questions i ≡ Some q
      → slice_get targets i ≡ Some target → slice_get peers i ≡ Some peer → (b : Bool) → (n == i) ≡ b
      → (p : Transcript) × IsSoundPeer s q target true (events_on i longer) p [] peer
  fine_by i q target peer lt asked there here true e =
      let at : n ≡ i = grind (arith, nat_tests) in
      subst (λ z. slice_get questions z ≡ Some q → slice_get targets z ≡ Some target → slice_get peers z ≡ Some peer
      → (p : Transcript) × IsSoundPeer s q target true (events_on z longer) p [] peer) at (fine_at q target peer) asked there here
  fine_by i q target peer lt asked there here false e =
      let below : i < n = grind (arith, nat_tests) in
      let was = w.fine i q target peer below asked there here in
      (was.0, subst (λ z. IsSoundPeer s q target true z was.0 [] peer) (sym (far i e)) was.1)

  others_by : (i : ℕ) → (i < n + 1 → ⊥) → (b : Bool) → (n == i) ≡ b → events_on i longer ≡ []
  others_by i beyond true e = absurd (beyond (let at : n ≡ i = grind (arith, nat_tests) in omega (arith, at)))
  others_by i beyond false e = far i e ∙ w.others i (λ lt. beyond (omega (arith, lt)))

  started_more : AreStarted (n + 1) questions s targets new peers
  started_more = record {
    history = longer;
    after = drove_after questions s n w.history count new drove;
    fine = λ i q target peer lt asked there here. fine_by i q target peer lt asked there here (n == i) refl;
    others = λ i beyond. others_by i beyond (n == i) refl;
  }

pub starts_more : ExchangeLaws → TakeLaws → OneTranscript → (n : ℕ) (old mid new : MetaLinks) → DriveAllStep n old mid
    → DriveOneStep n mid new → DriveAllStep (n + 1) old new
starts_more laws takes uniqueness n old mid new f d = record {
  on = λ questions s targets peers a are.
      let w : AreStarted n questions s targets mid peers = f.on questions s targets peers a are in
      let drove = d questions s w.history w.after in
      started_more laws takes uniqueness n mid new questions s targets peers are w drove.0 drove.1;
}
