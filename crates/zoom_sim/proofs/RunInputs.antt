-- A piece that came, with the takes and the end of the input that follow it; and moves.
use Rattle.std.proofs.Common.{◌≡◌, ◌∙◌, inl, inr, sym, ap, subst, ℕ, Bool, true, false, List, [], ◌++◌, Result, Ok, Err, refl, true≢false, slice_get, Some}
use Rattle.std.specs.Prelude.{◌&&◌, not, OnOk, IfOk}
use Rattle.zorigin.specs.declared.settings.Settings.{Settings}
use Rattle.zorigin.specs.Log.{Log, past}
use Rattle.zorigin.specs.Laws.{IsOrderly}
use Rattle.ztarget.specs.Receiving.{TargetState}
use Rattle.zoom_questions.specs.declared.question.Question.{Question}
use Rattle.zoom_questions.specs.declared.question.MetaSettings.{MetaSettings}
use Rattle.zoom_pool.specs.Transcripts.{Event, fed}
use Rattle.zoom_pool.specs.History.{History, events_on}
use Rattle.zoom_pool.specs.Metas.{MetaLinks, MetaAfter}
use Rattle.zoom_laws.specs.Accord.{AccordLaws}
use Rattle.zoom_laws.specs.Exchange.{OverLaw, PendingLaw}
use Rattle.zoom_sim.specs.declared.peers.Peer.{Peer}
use Rattle.zoom_sim.specs.RunSound.{IsStoppedPeer, IsEndedPeer, IsLostPeer, EndedStep, PeerStep, PeerEndStep, TakeAllStep, EndInputStep, SoundReleaseStep}
use Rattle.zoom_sim.proofs.RunSound.{steps_trans, ends_trans, steps_weaker}
use Rattle.zoom_sim.proofs.RunLosses.{has_stopped, lost_ends}
use Rattle.zoom_sim.proofs.RunPeers.{all_transcripts, from_of}

-- ---- the end of the input

module _ (accord : AccordLaws) (orderly : (s : Settings) (l : Log) → IsOrderly (past s l)) (over : OverLaw)
    (pending : PendingLaw) (c : ℕ) (old new : MetaLinks) (peer : Peer)
    (ends : EndInputStep c old new) (waiting : peer.host.waiting ≡ []) (from : peer.from ≡ []) where
  end_lost : (questions : List Question) (s : MetaSettings) (h : History) (q : Question) (target : TargetState)
      → MetaAfter questions s h old → slice_get questions c ≡ Some q
      → IsLostPeer s q target true (events_on c h) peer → EndedStep questions s c h target new peer
  end_lost questions s h q target after at l =
      lost_ends accord orderly over pending c old new peer ends questions s h q target after at none l
    where
      none : (b : IsStoppedPeer s q target true (events_on c h) peer)
          → (b.sound.sound.from ≡ []) × (b.before.host.waiting ≡ [])
      none b =
          let all = all_transcripts s q target true (events_on c h) b.transcript b.host_events b.before b.sound over in (
            from_of b.sound.sound [] (b.sound.from ∙ ap (λ z. fed (events_on c h) ++ z) (b.from ∙ from)
                ∙ ap (λ z. z ++ []) (sym all)),
            b.waiting ∙ waiting,
          )

  -- the serving end stopped, so it is not sound
  pub ended_steps : peer.host.stopped ≡ true → PeerStep c true true true old new peer peer
  ended_steps stopped = record {
    fine = λ questions s h q target p host_events after at f.
        absurd (true≢false (sym stopped ∙ f.sound.served.stopped ∙ f.sound.serving));
    lost = λ questions s h q target after at l.
        let e = end_lost questions s h q target after at l in
        record { events = e.events; after = e.after; lost = inr e.ended };
  }

  pub ended_ends : peer.host.stopped ≡ true → PeerEndStep c true old new peer peer
  ended_ends stopped = record {
    fine = λ questions s h q target p host_events after at f.
        absurd (true≢false (sym stopped ∙ f.sound.served.stopped ∙ f.sound.serving));
    lost = λ questions s h q target after at l. end_lost questions s h q target after at l;
  }

-- if the serving end did not stop, no reply was lost
pub going_ends : (c : ℕ) (meta : MetaLinks) (peer : Peer) → peer.host.stopped ≡ false
    → PeerEndStep c true meta meta peer peer
going_ends c meta peer going = record {
  fine = λ questions s h q target p host_events after at f. inl (record {
    events = [];
    host_more = [];
    after = after;
    later = p;
    fine = f;
    still = λ e. refl;
  });
  lost = λ questions s h q target after at l. record { events = []; after = after; ended = by s q target (events_on c h) l };
}
  where
    by : (s : MetaSettings) (q : Question) (target : TargetState) (events : List Event)
        → IsLostPeer s q target true events peer → IsEndedPeer s target events peer
    by s q target events (inl b) = absurd (true≢false (sym (has_stopped s target q true events peer b) ∙ going))
    by s q target events (inr e) = e

-- ---- the steps of a piece that was fed to the connection, one after the other

and_same : (b : Bool) → b && b ≡ b
and_same true = refl
and_same false = refl

and_true : (b : Bool) → b && true ≡ b
and_true true = refl
and_true false = refl

module _ (c : ℕ) (carried : Bool) (old mid stopped taken new : MetaLinks) (was now : Peer)
    (comes : PeerStep c true (not carried) (not carried) old mid was now) (same : stopped ≡ mid)
    (takes : TakeAllStep c stopped taken) where
  -- nothing stops the connection, and all messages are taken
  takes_all : PeerStep c true true (not carried) old taken was now
  takes_all =
      let behind : Bool = not carried in
      subst (λ z. PeerStep c true true z old taken was now) (and_same behind)
      (steps_trans c true behind true behind behind old mid taken was now now comes
      (subst (λ z. PeerStep c behind true behind z taken now now) same (takes behind now)))

  pub taken_steps : PeerStep c true true true taken new now now → PeerStep c true true (not carried) old new was now
  taken_steps ends =
      subst (λ z. PeerStep c true true z old new was now) (and_true (not carried))
      (steps_trans c true true true (not carried) true old taken new was now now takes_all ends)

  pub taken_ends : PeerEndStep c true taken new now now → PeerEndStep c (not carried) old new was now
  taken_ends ends =
      subst (λ z. PeerEndStep c z old new was now) (and_true (not carried))
      (ends_trans c (not carried) true old taken new was now now takes_all ends)

-- ---- a move

module _ (c : ℕ) (old new : MetaLinks) (was now : Peer) where
  weaker : (same : Bool) → PeerStep c true true same old new was now → PeerStep c true true false old new was now
  weaker same f =
      steps_weaker c true true same true true false old new was now (λ e. e) (λ e. e)
      (λ e. absurd (true≢false (sym e))) f

  pub made_on : {E : Type 0} (answer : Result Bool E) → OnOk answer (PeerStep c true true true old new was now)
      → OnOk answer (PeerStep c true true false old new was now)
  made_on (Ok came) f = weaker true f
  made_on (Err error) f = tt

  pub made_if : {E : Type 0} (answer : Result Bool E)
      → IfOk answer (λ came. PeerStep c true true (not came) old new was now)
      → OnOk answer (PeerStep c true true false old new was now)
  made_if (Ok came) f = weaker (not came) f
  made_if (Err error) f = tt

pub released_on : {E : Type 0} (c : ℕ) (meta : MetaLinks) (was now : Peer) (answer : Result Bool E)
    → OnOk answer (SoundReleaseStep was now) → OnOk answer (PeerStep c true true true meta meta was now)
released_on c meta was now (Ok put) f = f c meta
released_on c meta was now (Err error) f = tt
