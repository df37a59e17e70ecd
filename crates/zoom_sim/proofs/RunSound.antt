-- Steps of a connection and its target, one after the other.
use Rattle.std.proofs.Common.{◌≡◌, ◌∙◌, ◌⊎◌, inl, inr, sym, ap, subst, ℕ, ◌<◌, ◌==◌, Bool, true, false, List, [], ◌∷◌, ◌++◌, length, slice_get, Some, refl, append_assoc, arith, true≢false}
use Rattle.std.specs.Prelude.{◌&&◌}
use Rattle.std.proofs.lemmas.List.{map-append}
use Rattle.std.proofs.lemmas.Option.{slice_get_within}
use Rattle.ztarget.specs.Receiving.{TargetState}
use Rattle.zoom_questions.specs.declared.question.Question.{Question}
use Rattle.zoom_questions.specs.declared.question.MetaSettings.{MetaSettings}
use Rattle.zoom_pool.specs.Transcripts.{Event, Transcript, IsTranscript}
use Rattle.zoom_pool.specs.History.{History, events_on}
use Rattle.zoom_pool.specs.Hosts.{HostEvent}
use Rattle.zoom_pool.specs.Metas.{MetaLinks, MetaAfter, settings_of}
use Rattle.zoom_pool.proofs.Pools.{only_same, only_other, only_append}
use Rattle.zoom_pool.proofs.Metas.{transcript_at}
use Rattle.zoom_sim.specs.declared.peers.Peer.{Peer}
use Rattle.zoom_sim.specs.RunSound.{at_connection, IsSoundPeer, IsEndedPeer, IsLostPeer, SoundStep, LostStep, EndedStep, PeerStep, PeerEndStep}

-- ---- events of one connection

pub only_of : (c : ℕ) (events : List Event) → events_on c (at_connection c events) ≡ events
only_of c [] = refl
only_of c (event ∷ events) = only_same c event (at_connection c events) ∙ ap (λ z. event ∷ z) (only_of c events)

pub none_of : (c i : ℕ) (events : List Event) → (c == i) ≡ false → events_on i (at_connection c events) ≡ []
none_of c i [] far = refl
none_of c i (event ∷ events) far = only_other c i event (at_connection c events) far ∙ none_of c i events far

pub only_more : (c : ℕ) (events : List Event) (h : History) → events_on c (at_connection c events ++ h) ≡ events ++ events_on c h
only_more c events h = only_append c (at_connection c events) h ∙ ap (λ z. z ++ events_on c h) (only_of c events)

pub of_append : (c : ℕ) (one two : List Event) (h : History) → at_connection c two ++ (at_connection c one ++ h) ≡ at_connection c (two ++ one) ++ h
of_append c one two h =
    sym (append_assoc (at_connection c two) (at_connection c one) h) ∙ ap (λ z. z ++ h) (sym (map-append (λ event. (c, event)) two one))

-- the events since, and those before, are those of both
pub joined_events : (c : ℕ) (one two : List Event) (h : History)
    → two ++ events_on c (at_connection c one ++ h) ≡ (two ++ one) ++ events_on c h
joined_events c one two h =
    ap (λ z. two ++ z) (only_more c one h) ∙ sym (append_assoc two one (events_on c h))

-- the connection of a question's number has a transcript of its events
pub asked_transcript : (questions : List Question) (s : MetaSettings) (h : History) (meta : MetaLinks) (c : ℕ) (q : Question)
    → MetaAfter questions s h meta → slice_get questions c ≡ Some q
    → (p : Transcript) × IsTranscript (settings_of s) (events_on c h) p
asked_transcript questions s h meta c q after at =
    let there : c < length meta.pool.connections = omega (arith, slice_get_within questions c q at, after.size) in
    (after.pool.transcript c, transcript_at (settings_of s) h after.pool.transcript meta.pool.connections c after.pool.stands there)

-- ---- one after the other

pub both_same : (a b : Bool) → a && b ≡ true → (a ≡ true) × (b ≡ true)
both_same true b e = (refl, e)
both_same false b e = absurd (true≢false (sym e))

module _ (questions : List Question) (s : MetaSettings) (c : ℕ) (h : History) (q : Question) (target : TargetState)
    (new : MetaLinks) (now : Peer) (one : List Event) where
  pub lost_more : (taken : Bool) → LostStep questions s c (at_connection c one ++ h) q target taken new now
      → LostStep questions s c h q target taken new now
  lost_more taken l = record {
    events = l.events ++ one;
    after = subst (λ z. MetaAfter questions s z new) (of_append c one l.events h) l.after;
    lost = subst (λ z. IsLostPeer s q target taken z now) (joined_events c one l.events h) l.lost;
  }

  pub ended_more : EndedStep questions s c (at_connection c one ++ h) target new now
      → EndedStep questions s c h target new now
  ended_more l = record {
    events = l.events ++ one;
    after = subst (λ z. MetaAfter questions s z new) (of_append c one l.events h) l.after;
    ended = subst (λ z. IsEndedPeer s target z now) (joined_events c one l.events h) l.ended;
  }

  module _ (taken a b : Bool) (p : Transcript) (host_events : List HostEvent) where
    abbrev pub stepped_more : (host_more : List HostEvent) (mid : Transcript) → (a ≡ true → mid ≡ p)
        → SoundStep questions s c (at_connection c one ++ h) q target taken b mid (host_more ++ host_events) new now
        → SoundStep questions s c h q target taken (a && b) p host_events new now
    stepped_more host_more mid same t = record {
      events = t.events ++ one;
      host_more = t.host_more ++ host_more;
      after = subst (λ z. MetaAfter questions s z new) (of_append c one t.events h) t.after;
      later = t.later;
      fine = subst (λ z. IsSoundPeer s q target taken z t.later ((t.host_more ++ host_more) ++ host_events) now)
          (joined_events c one t.events h)
          (subst (λ z. IsSoundPeer s q target taken (t.events ++ events_on c (at_connection c one ++ h)) t.later z now)
          (sym (append_assoc t.host_more host_more host_events)) t.fine);
      still = λ e. t.still (both_same a b e).1 ∙ same (both_same a b e).0;
    }

module _ (c : ℕ) (one two a b : Bool) (old mid new : MetaLinks) (was between now : Peer)
    (f : PeerStep c one two a old mid was between) where
  module _ (questions : List Question) (s : MetaSettings) (h : History) (q : Question) (target : TargetState)
      (at : slice_get questions c ≡ Some q) where
    -- sound in the middle
    fine_mid : (p : Transcript) (host_events : List HostEvent)
        (t : SoundStep questions s c h q target two a p host_events mid between)
        → IsSoundPeer s q target two (events_on c (at_connection c t.events ++ h)) t.later (t.host_more ++ host_events) between
    fine_mid p host_events t =
        subst (λ z. IsSoundPeer s q target two z t.later (t.host_more ++ host_events) between) (sym (only_more c t.events h)) t.fine

    -- lost in the middle
    lost_mid : (l : LostStep questions s c h q target two mid between)
        → IsLostPeer s q target two (events_on c (at_connection c l.events ++ h)) between
    lost_mid l = subst (λ z. IsLostPeer s q target two z between) (sym (only_more c l.events h)) l.lost

    module _ (three : Bool) (g : PeerStep c two three b mid new between now) where
      lost_then : LostStep questions s c h q target two mid between → LostStep questions s c h q target three new now
      lost_then l =
          lost_more questions s c h q target new now l.events three
          (g.lost questions s (at_connection c l.events ++ h) q target l.after at (lost_mid l))

      fine_then : (p : Transcript) (host_events : List HostEvent)
          → SoundStep questions s c h q target two a p host_events mid between ⊎ LostStep questions s c h q target two mid between
          → SoundStep questions s c h q target three (a && b) p host_events new now ⊎ LostStep questions s c h q target three new now
      fine_then p host_events (inr l) = inr (lost_then l)
      fine_then p host_events (inl t) =
          by (g.fine questions s (at_connection c t.events ++ h) q target t.later (t.host_more ++ host_events) t.after at
          (fine_mid p host_events t))
        where
          by : SoundStep questions s c (at_connection c t.events ++ h) q target three b t.later (t.host_more ++ host_events) new now
              ⊎ LostStep questions s c (at_connection c t.events ++ h) q target three new now
              → SoundStep questions s c h q target three (a && b) p host_events new now ⊎ LostStep questions s c h q target three new now
          by (inl u) =
              inl (stepped_more questions s c h q target new now t.events three a b p host_events t.host_more t.later t.still u)
          by (inr l) = inr (lost_more questions s c h q target new now t.events three l)

    module _ (same : two ≡ true) (g : PeerEndStep c b mid new between now) where
      end_then : LostStep questions s c h q target two mid between → EndedStep questions s c h target new now
      end_then l =
          ended_more questions s c h q target new now l.events
          (g.lost questions s (at_connection c l.events ++ h) q target l.after at
          (subst (λ z. IsLostPeer s q target z (events_on c (at_connection c l.events ++ h)) between) same (lost_mid l)))

      fine_end : (p : Transcript) (host_events : List HostEvent)
          → SoundStep questions s c h q target two a p host_events mid between ⊎ LostStep questions s c h q target two mid between
          → SoundStep questions s c h q target true (a && b) p host_events new now ⊎ EndedStep questions s c h target new now
      fine_end p host_events (inr l) = inr (end_then l)
      fine_end p host_events (inl t) =
          by (g.fine questions s (at_connection c t.events ++ h) q target t.later (t.host_more ++ host_events) t.after at
          (subst (λ z. IsSoundPeer s q target z (events_on c (at_connection c t.events ++ h)) t.later (t.host_more ++ host_events)
          between) same (fine_mid p host_events t)))
        where
          by : SoundStep questions s c (at_connection c t.events ++ h) q target true b t.later (t.host_more ++ host_events) new now
              ⊎ EndedStep questions s c (at_connection c t.events ++ h) target new now
              → SoundStep questions s c h q target true (a && b) p host_events new now ⊎ EndedStep questions s c h target new now
          by (inl u) =
              inl (stepped_more questions s c h q target new now t.events true a b p host_events t.host_more t.later t.still u)
          by (inr l) = inr (ended_more questions s c h q target new now t.events l)

pub steps_trans : (c : ℕ) (one two three a b : Bool) (old mid new : MetaLinks) (was between now : Peer)
    → PeerStep c one two a old mid was between → PeerStep c two three b mid new between now
    → PeerStep c one three (a && b) old new was now
steps_trans c one two three a b old mid new was between now f g = record {
  fine = λ questions s h q target p host_events after at fine.
      fine_then c one two a b old mid new was between now f questions s h q target at three g p host_events
      (f.fine questions s h q target p host_events after at fine);
  lost = λ questions s h q target after at l.
      lost_then c one two a b old mid new was between now f questions s h q target at three g
      (f.lost questions s h q target after at l);
}

-- a step, and then one after which the input has ended
pub ends_trans : (c : ℕ) (a b : Bool) (old mid new : MetaLinks) (was between now : Peer)
    → PeerStep c true true a old mid was between → PeerEndStep c b mid new between now
    → PeerEndStep c (a && b) old new was now
ends_trans c a b old mid new was between now f g = record {
  fine = λ questions s h q target p host_events after at fine.
      fine_end c true true a b old mid new was between now f questions s h q target at refl g p host_events
      (f.fine questions s h q target p host_events after at fine);
  lost = λ questions s h q target after at l.
      end_then c true true a b old mid new was between now f questions s h q target at refl g
      (f.lost questions s h q target after at l);
}

-- ---- weaker steps

-- the flags `taken` before and after may be weakened
pub fine_weaker : (s : MetaSettings) (q : Question) (target : TargetState) (taken less : Bool) (events : List Event)
    (p : Transcript) (host_events : List HostEvent) (peer : Peer) → (less ≡ true → taken ≡ true)
    → IsSoundPeer s q target taken events p host_events peer → IsSoundPeer s q target less events p host_events peer
fine_weaker s q target taken less events p host_events peer so f = record {
  sound = f.sound;
  to = f.to;
  from = f.from;
  idle = f.idle;
  took = λ e. f.took (so e);
}

pub lost_weaker : (s : MetaSettings) (q : Question) (target : TargetState) (taken less : Bool) (events : List Event)
    (peer : Peer) → (less ≡ true → taken ≡ true)
    → IsLostPeer s q target taken events peer → IsLostPeer s q target less events peer
lost_weaker s q target taken less events peer so (inr e) = inr e
lost_weaker s q target taken less events peer so (inl b) = inl (record {
  before = b.before;
  transcript = b.transcript;
  host_events = b.host_events;
  sound = fine_weaker s q target taken less events b.transcript b.host_events b.before so b.sound;
  from = b.from;
  waiting = b.waiting;
  reply = b.reply;
  pending = b.pending;
  long = b.long;
  all_events = b.all_events;
  served = b.served;
  plain = b.plain;
  stopped = b.stopped;
  sent = b.sent;
  came = b.came;
})

module _ (questions : List Question) (s : MetaSettings) (c : ℕ) (h : History) (q : Question) (target : TargetState)
    (taken less same few : Bool) (new : MetaLinks) (now : Peer) (so : less ≡ true → taken ≡ true)
    (also : few ≡ true → same ≡ true) where
  lost_less : LostStep questions s c h q target taken new now → LostStep questions s c h q target less new now
  lost_less l = record {
    events = l.events;
    after = l.after;
    lost = lost_weaker s q target taken less (l.events ++ events_on c h) now so l.lost;
  }

  either_weaker : (p : Transcript) (host_events : List HostEvent)
      → SoundStep questions s c h q target taken same p host_events new now ⊎ LostStep questions s c h q target taken new now
      → SoundStep questions s c h q target less few p host_events new now ⊎ LostStep questions s c h q target less new now
  either_weaker p host_events (inl t) = inl (record {
    events = t.events;
    host_more = t.host_more;
    after = t.after;
    later = t.later;
    fine = fine_weaker s q target taken less (t.events ++ events_on c h) t.later (t.host_more ++ host_events) now so t.fine;
    still = λ e. t.still (also e);
  })
  either_weaker p host_events (inr l) = inr (lost_less l)

-- A step is also one with a stronger flag before, with a weaker flag after, and with a weaker flag `same`.
pub steps_weaker : (c : ℕ) (before behind same earlier later few : Bool) (old new : MetaLinks) (was now : Peer)
    → (before ≡ true → earlier ≡ true) → (later ≡ true → behind ≡ true) → (few ≡ true → same ≡ true)
    → PeerStep c before behind same old new was now → PeerStep c earlier later few old new was now
steps_weaker c before behind same earlier later few old new was now first so also f = record {
  fine = λ questions s h q target p host_events after at fine.
      either_weaker questions s c h q target behind later same few new now so also p host_events
      (f.fine questions s h q target p host_events after at
      (fine_weaker s q target earlier before (events_on c h) p host_events was first fine));
  lost = λ questions s h q target after at l.
      lost_less questions s c h q target behind later same few new now so also
      (f.lost questions s h q target after at
      (lost_weaker s q target earlier before (events_on c h) was first l));
}

-- ---- nothing was done

pub steps_same : (c : ℕ) (taken : Bool) (meta : MetaLinks) (peer : Peer) → PeerStep c taken taken true meta meta peer peer
steps_same c taken meta peer = record {
  fine = λ questions s h q target p host_events after at fine. inl (record {
    events = [];
    host_more = [];
    after = after;
    later = p;
    fine = fine;
    still = λ e. refl;
  });
  lost = λ questions s h q target after at l. record { events = []; after = after; lost = l };
}
