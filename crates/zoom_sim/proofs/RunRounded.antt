-- A round of a connection and its target: all octets are carried, all replies are released, and the connection sends
-- more or is over.
use Rattle.std.proofs.Common.{◌≡◌, ◌∙◌, ◌⊎◌, inl, inr, sym, ap, subst, ℕ, ◌<◌, ◌≤◌, Bool, true, false, List, [], ◌∷◌, ◌++◌, length, slice_get, Some, refl, append_assoc, append-nil, arith, length-append, true≢false}
use Rattle.std.specs.Prelude.{◌||◌, not, nat_lt}
use Rattle.std.proofs.lemmas.Bool.Decides.{nat_tests}
use Rattle.ztarget.specs.Receiving.{TargetState}
use Rattle.zoom_questions.specs.declared.question.Question.{Question}
use Rattle.zoom_questions.specs.declared.question.MetaSettings.{MetaSettings}
use Rattle.zoom_pool.specs.States.{is_stopped}
use Rattle.zoom_pool.specs.Transcripts.{Event, Transcript, IsTranscript, fed, state_at, past_of, sent}
use Rattle.zoom_pool.specs.History.{History, events_on}
use Rattle.zoom_pool.specs.Hosts.{HostAfter, HostEvent, HostHandedOut, holdings_of}
use Rattle.zoom_pool.specs.Laws.{OneTranscript}
use Rattle.zoom_pool.specs.Links.{waiting_at}
use Rattle.zoom_pool.specs.Metas.{MetaLinks, MetaAfter, settings_of}
use Rattle.zoom_laws.specs.Exchange.{IsSettled, OneServedLaw, SettledLaw, EndedLaw, fed_to}
use Rattle.zoom_sim.specs.declared.peers.Peer.{Peer}
use Rattle.zoom_sim.specs.Run.{is_over}
use Rattle.zoom_sim.specs.RunSound.{at_connection, IsSoundPeer, IsStoppedPeer, IsLostPeer, SoundStep, LostStep, EndedStep, PeerStep, PeerEndStep, SoundRound, PeerRound}
use Rattle.zoom_sim.specs.RunPeers.{CarryAllStep, IsEmptied, ReleaseAllStep}
use Rattle.zoom_sim.proofs.RunSound.{only_more, of_append, joined_events, ended_more}
use Rattle.zoom_sim.proofs.RunCarries.{fed_to_append}
use Rattle.zoom_sim.proofs.RunTranscripts.{whole_stream}
use Rattle.zoom_sim.proofs.RunPeers.{nothing_behind, to_of, from_of, sent_so}

-- ---- a round that leaves no octets on their way

module _ (uniqueness : OneTranscript) (one_served : OneServedLaw) (rests : SettledLaw) (ended : EndedLaw)
    (questions : List Question) (s : MetaSettings) (c : ℕ) (q : Question) (target : TargetState)
    (at : slice_get questions c ≡ Some q)
    (mid new : MetaLinks) (a b now : Peer) (to : a.to ≡ []) (waits : waiting_at mid.pool c ≡ []) (kept : b.to ≡ a.to)
    (brings : CarryAllStep b now)
    -- the connection and its target, after all octets were carried to the target
    (h : History) (p : Transcript) (host_events : List HostEvent) (after : MetaAfter questions s h mid)
    (fine : IsSoundPeer s q target true (events_on c h) p host_events a)
    -- after all replies were released
    (emptied : IsEmptied s q target (events_on c h) p host_events b)
    -- after all octets were carried to the connection
    (events : List Event) (host_more : List HostEvent) (later : Transcript) (last : MetaAfter questions s (at_connection c events ++ h) new)
    (done : IsSoundPeer s q target true (events ++ events_on c h) later (host_more ++ (emptied.host_more ++ host_events)) now) where
  abbrev all : List HostEvent
  all = host_more ++ (emptied.host_more ++ host_events)

  -- the target was fed all that was sent
  fed_all : sent (past_of p) ≡ fed_to host_events
  fed_all =
      sent_so s q target true (events_on c h) p host_events a fine uniqueness questions c h mid after at refl
      ∙ ap (λ z. fed_to host_events ++ (z ++ waiting_at mid.pool c)) to ∙ ap (λ z. fed_to host_events ++ z) waits
      ∙ append-nil (fed_to host_events)

  fed_before : length (fed_to host_events) ≤ length (fed_to all)
  fed_before =
      let one = ap length (fed_to_append host_more (emptied.host_more ++ host_events)) in
      let two = ap length (fed_to_append emptied.host_more host_events) in
      omega (
        arith,
        one,
        two,
        length-append (fed_to (emptied.host_more ++ host_events)) (fed_to host_more),
        length-append (fed_to host_events) (fed_to emptied.host_more),
      )

  sent_then : sent (past_of later) ≡ fed_to all ++ waiting_at new.pool c
  sent_then =
      sent_so s q target true (events ++ events_on c h) later all now done uniqueness questions c (at_connection c events ++ h) new last at
      (sym (only_more c events h))
      ∙ ap (λ z. fed_to all ++ (z ++ waiting_at new.pool c)) (brings.to ∙ kept ∙ to)

  -- no reply is pending
  none_pending : now.host.target.pending ≡ []
  none_pending =
      let sound = emptied.fine.sound in
      let x : HostAfter (holdings_of target) (HostHandedOut b.host.waiting ∷ (emptied.host_more ++ host_events)) now.host =
      brings.host (holdings_of target) (emptied.host_more ++ host_events) sound.served in
      let had = x.happened in
      let same : had.0 ≡ sound.served.served =
      one_served (holdings_of target) (emptied.host_more ++ host_events) had.0 sound.served.served sound.plain had.1
      sound.served.happened in
      x.pending ∙ ap (λ z. z.pending) had.2 ∙ ap (λ z. z.pending) same ∙ sym sound.served.pending ∙ emptied.none

  -- a connection that sent nothing more is over
  over_if : length (sent (past_of later)) ≤ length (sent (past_of p)) → is_over later ≡ false → ⊥
  over_if few goes =
      let none : waiting_at new.pool c ≡ [] =
      nothing_behind (fed_to all) (waiting_at new.pool c) (sent (past_of later)) sent_then
      (omega (arith, few, ap length fed_all, fed_before)) in
      let none_to : done.sound.to ≡ [] = to_of done.sound [] (sent_then ∙ ap (λ z. fed_to all ++ z) none) in
      let transcript : later.stream ≡ fed (events ++ events_on c h) =
      whole_stream (settings_of s) (events ++ events_on c h) later done.sound.transcript goes done.sound.goes_on in
      let none_from : done.sound.from ≡ [] =
      from_of done.sound [] (done.from ∙ ap (λ z. fed (events ++ events_on c h) ++ z) brings.from
      ∙ ap (λ z. z ++ []) (sym transcript)) in
      let settled : IsSettled (holdings_of target) later done.sound.served.served.sent =
      rests (holdings_of target) (settings_of s) (events ++ events_on c h) later all now.host done.sound none_to none_from
      brings.waiting none_pending (done.took refl goes) in
      let heard_so : IsTranscript (settings_of s) (events_on c (at_connection c events ++ h)) later =
      subst (λ z. IsTranscript (settings_of s) z later) (sym (only_more c events h)) done.sound.transcript in
      let over : is_stopped (state_at later) ≡ true =
      ended questions s (at_connection c events ++ h) new c q later last at heard_so done.idle done.sound.goes settled.waits
      settled.begun settled.closed in
      true≢false (sym over ∙ goes)

  grows : is_over later ≡ false → length (sent (past_of p)) < length (sent (past_of later))
  grows goes = by (more_or_not (length (sent (past_of p))) (length (sent (past_of later))))
    where
      more_or_not : (m n : ℕ) → (m < n) ⊎ (n ≤ m)
      more_or_not m n = cases (nat_lt m n) refl
        where
          cases : (b : Bool) → nat_lt m n ≡ b → (m < n) ⊎ (n ≤ m)
          cases true e = inl (grind (arith, nat_tests))
          cases false e = inr (grind (arith, nat_tests))

      by : (length (sent (past_of p)) < length (sent (past_of later)))
          ⊎ (length (sent (past_of later)) ≤ length (sent (past_of p)))
          → length (sent (past_of p)) < length (sent (past_of later))
      by (inl more) = more
      by (inr few) = absurd (over_if few goes)

-- ---- a round

-- nothing was carried or released
pub none_moved : (a b c : Bool) → (a || b) || c ≡ false → (a ≡ false) × (b ≡ false) × (c ≡ false)
none_moved true b c e = absurd cc
none_moved false true c e = absurd cc
none_moved false false c e = (refl, refl, e)

module _ (uniqueness : OneTranscript) (one_served : OneServedLaw) (rests : SettledLaw) (ended : EndedLaw)
    (c : ℕ) (old mid new : MetaLinks) (was a b now : Peer) (came moved : Bool) (none : moved ≡ false → came ≡ false)
    (carries : PeerStep c true true true old mid was a) (to : a.to ≡ []) (waits : waiting_at mid.pool c ≡ [])
    (releases : ReleaseAllStep a b) (brings : CarryAllStep b now) (takes : PeerEndStep c (not came) mid new b now) where
  module _ (questions : List Question) (s : MetaSettings) (h : History) (q : Question) (target : TargetState)
      (at : slice_get questions c ≡ Some q) where
    -- once a reply was lost, the input ends
    lost_then : LostStep questions s c h q target true mid a → EndedStep questions s c h target new now
    lost_then l =
        let past : History = at_connection c l.events ++ h in
        ended_more questions s c h q target new now l.events
        (takes.lost questions s past q target l.after at
        (releases.lost s q target (events_on c past)
        (subst (λ z. IsLostPeer s q target true z a) (sym (only_more c l.events h)) l.lost)))

    module _ (p : Transcript) (host_events : List HostEvent)
        (one : SoundStep questions s c h q target true true p host_events mid a) where
      abbrev past : History
      past = at_connection c one.events ++ h

      abbrev acted : List HostEvent
      acted = one.host_more ++ host_events

      fine_mid : IsSoundPeer s q target true (events_on c past) one.later acted a
      fine_mid = subst (λ z. IsSoundPeer s q target true z one.later acted a) (sym (only_more c one.events h)) one.fine

      -- no reply is too long
      well : (two : IsEmptied s q target (events_on c past) one.later acted b)
          → SoundStep questions s c past q target true (not came) one.later (two.host_more ++ acted) new now
          → SoundRound questions s c h q target moved p host_events new now
      well two three = record {
        stepped = record {
          events = three.events ++ one.events;
          host_more = three.host_more ++ (two.host_more ++ one.host_more);
          after = subst (λ z. MetaAfter questions s z new) (of_append c one.events three.events h) three.after;
          later = three.later;
          fine = subst
              (λ z. IsSoundPeer s q target true z three.later ((three.host_more ++ (two.host_more ++ one.host_more)) ++ host_events) now)
              (joined_events c one.events three.events h)
              (subst (λ z. IsSoundPeer s q target true (three.events ++ events_on c past) three.later z now)
              (ap (λ z. three.host_more ++ z) (sym (append_assoc two.host_more one.host_more host_events))
              ∙ sym (append_assoc three.host_more (two.host_more ++ one.host_more) host_events)) three.fine);
          still = λ e. absurd (true≢false (sym e));
        };
        grows = λ goes. subst (λ z. length (sent (past_of z)) < length (sent (past_of three.later))) (one.still refl)
            (grows uniqueness one_served rests ended questions s c q target at mid new a b now to waits releases.to brings
            past one.later acted one.after fine_mid two three.events three.host_more three.later three.after three.fine goes);
        still = λ e. three.still (ap not (none e)) ∙ one.still refl;
      }

      took : (two : IsEmptied s q target (events_on c past) one.later acted b)
          → SoundStep questions s c past q target true (not came) one.later (two.host_more ++ acted) new now
          ⊎ EndedStep questions s c past target new now
          → SoundRound questions s c h q target moved p host_events new now ⊎ EndedStep questions s c h target new now
      took two (inl three) = inl (well two three)
      took two (inr l) = inr (ended_more questions s c h q target new now one.events l)

      emptied : IsEmptied s q target (events_on c past) one.later acted b ⊎ IsStoppedPeer s q target true (events_on c past) b
          → SoundRound questions s c h q target moved p host_events new now ⊎ EndedStep questions s c h target new now
      emptied (inl two) =
          took two (takes.fine questions s past q target one.later (two.host_more ++ acted) one.after at two.fine)
      emptied (inr stopped) =
          inr (ended_more questions s c h q target new now one.events
          (takes.lost questions s past q target one.after at (inl stopped)))

    carried : (p : Transcript) (host_events : List HostEvent)
        → SoundStep questions s c h q target true true p host_events mid a ⊎ LostStep questions s c h q target true mid a
        → SoundRound questions s c h q target moved p host_events new now ⊎ EndedStep questions s c h target new now
    carried p host_events (inl one) =
        emptied p host_events one
        (releases.on questions s c (past p host_events one) q target one.later (acted p host_events one) mid one.after at
        (fine_mid p host_events one))
    carried p host_events (inr l) = inr (lost_then l)

  pub rounds : PeerRound c moved old new was now
  rounds = record {
    fine = λ questions s h q target p host_events after at f.
        carried questions s h q target at p host_events (carries.fine questions s h q target p host_events after at f);
    lost = λ questions s h q target after at l.
        lost_then questions s h q target at (carries.lost questions s h q target after at l);
  }
