-- Messages that are taken, with the calls that are due after each.
use Rattle.std.proofs.Common.{◌≡◌, ◌∙◌, inl, inr, sym, subst, ℕ, ◌+◌, ◌<◌, Bool, true, false, List, [], ◌++◌, length, slice_get, Some, refl, arith, true≢false}
use Rattle.std.specs.Prelude.{◌&&◌}
use Rattle.ztarget.specs.Receiving.{TargetState}
use Rattle.zoom_questions.specs.declared.question.Question.{Question}
use Rattle.zoom_questions.specs.declared.question.MetaSettings.{MetaSettings}
use Rattle.zoom_pool.specs.States.{is_stopped}
use Rattle.zoom_pool.specs.Transcripts.{Transcript, state_at}
use Rattle.zoom_pool.specs.History.{History, events_on}
use Rattle.zoom_pool.specs.Hosts.{HostEvent, holdings_of}
use Rattle.zoom_pool.specs.Laws.{OneTranscript, TakeLaws}
use Rattle.zoom_pool.specs.Metas.{MetaLinks, MetaAfter, settings_of}
use Rattle.zoom_laws.specs.Exchange.{IsSoundExchange, ExchangeLaws}
use Rattle.zoom_sim.specs.declared.peers.Peer.{Peer}
use Rattle.zoom_sim.specs.RunSound.{at_connection, DriveOneStep, TakeOneStep, IsSoundPeer, IsLostPeer, SoundStep, LostStep, TakeAllStep}
use Rattle.zoom_sim.specs.RunTakeAll.{QuietStep, SoundTakeSteps, TakeSteps}
use Rattle.zoom_sim.proofs.RunSound.{only_more, stepped_more}
use Rattle.zoom_sim.proofs.RunLosses.{quiet_append, quiet_stopped, quiet_step}
use Rattle.zoom_sim.proofs.RunTakes.{none_taken, stopped_none, idle_fine, QuietSoundStep, Busy, busy_fine, take_adds, drive_adds, adds_same, adds_trans}

pub take_steps_none : (c : ℕ) (meta : MetaLinks) → TakeSteps c 0 meta meta
take_steps_none c meta = record {
  fine = λ questions s h q target taken p host_events peer a at fine. record {
    stepped = record {
      events = [];
      host_more = [];
      after = a;
      later = p;
      fine = fine;
      still = λ e. refl;
    };
    many = omega arith;
    quiet = tt;
  };
  adds = adds_same c meta;
}

and_true : (b : Bool) → b && true ≡ b
and_true true = refl
and_true false = refl

-- if all messages were taken, the next input is no message
next_input_none : TakeLaws → (s : MetaSettings) (q : Question) (target : TargetState) (c : ℕ) (h : History) (p : Transcript)
    (host_events : List HostEvent) (peer : Peer) (questions : List Question) (old new : MetaLinks) → TakeOneStep c true old new
    → MetaAfter questions s h old → IsSoundPeer s q target true (events_on c h) p host_events peer → ⊥
next_input_none takes s q target c h p host_events peer questions old new t a f = by (is_stopped (state_at p)) refl
  where
    by : (b : Bool) → is_stopped (state_at p) ≡ b → ⊥
    by true e =
        let took = t questions s h p a f.sound.transcript in
        true≢false (sym took.1.2 ∙ stopped_none p took.1.0 e took.1.1)
    by false e =
        let took = t questions s h p a f.sound.transcript in
        true≢false (sym took.1.2 ∙ none_taken takes p took.1.0 f.sound.goes_on e (f.took refl e) took.1.1)

module _ (laws : ExchangeLaws) (takes : TakeLaws) (uniqueness : OneTranscript) (c n : ℕ) (old mid : MetaLinks)
    (turns : TakeSteps c n old mid) where
  module _ (questions : List Question) (s : MetaSettings) (h : History) (q : Question) (target : TargetState)
      (p : Transcript) (host_events : List HostEvent) (peer : Peer) where
    -- its transcript now
    fine_now : (taken : Bool) (w : SoundTakeSteps questions s c h q target taken n p host_events mid peer)
        → IsSoundPeer s q target taken (events_on c (at_connection c w.stepped.events ++ h)) w.stepped.later (w.stepped.host_more ++ host_events) peer
    fine_now taken w =
        subst (λ z. IsSoundPeer s q target taken z w.stepped.later (w.stepped.host_more ++ host_events) peer)
        (sym (only_more c w.stepped.events h)) w.stepped.fine

    round_more : (between new : MetaLinks) → TakeOneStep c true mid between → DriveOneStep c between new
        → slice_get questions c ≡ Some q → (taken : Bool) → SoundTakeSteps questions s c h q target taken n p host_events mid peer
        → SoundTakeSteps questions s c h q target taken (n + 1) p host_events new peer
    round_more between new t d at true w =
        absurd (next_input_none takes s q target c (at_connection c w.stepped.events ++ h) w.stepped.later (w.stepped.host_more ++ host_events)
        peer questions mid between t w.stepped.after (fine_now true w))
    round_more between new t d at false w =
        let one : SoundStep questions s c h q target false false p host_events mid peer = w.stepped in
        let two : Busy questions s c (at_connection c one.events ++ h) q target one.later (one.host_more ++ host_events) new peer =
        busy_fine laws takes c peer questions s (at_connection c one.events ++ h) q target one.later (one.host_more ++ host_events) uniqueness
        mid between new t d one.after at (fine_now false w) in
        record {
          stepped = stepped_more questions s c h q target new peer one.events false false false p host_events one.host_more
              one.later one.still two.stepped;
          many = omega (arith, w.many, two.more);
          quiet = quiet_append two.stepped.events one.events two.quiet w.quiet;
        }

    turned_end : (new : MetaLinks) → TakeOneStep c false mid new → (taken : Bool)
        → SoundTakeSteps questions s c h q target taken n p host_events mid peer
        → QuietSoundStep questions s c h q target true taken p host_events new peer
    turned_end new t taken w =
        let one : SoundStep questions s c h q target taken taken p host_events mid peer = w.stepped in
        let two = idle_fine laws takes c peer questions s (at_connection c one.events ++ h) q target one.later (one.host_more ++ host_events)
        taken mid new t one.after (fine_now taken w) in
        let both : QuietSoundStep questions s c h q target true (taken && true) p host_events new peer = record {
          stepped = stepped_more questions s c h q target new peer one.events true taken true p host_events one.host_more
              one.later one.still two.stepped;
          quiet = quiet_append two.stepped.events one.events two.quiet w.quiet;
        } in
        subst (λ z. QuietSoundStep questions s c h q target true z p host_events new peer) (and_true taken) both

  -- one more message
  pub take_steps_more : (between new : MetaLinks) → c < length mid.pool.connections → TakeOneStep c true mid between
      → DriveOneStep c between new → TakeSteps c (n + 1) old new
  take_steps_more between new there t d = record {
    fine = λ questions s h q target taken p host_events peer a at fine.
        round_more questions s h q target p host_events peer between new t d at taken
        (turns.fine questions s h q target taken p host_events peer a at fine);
    adds = adds_trans c old between new (adds_trans c old mid between turns.adds (take_adds c true mid between there t))
        (drive_adds c between new d);
  }

  -- no message is left
  pub take_steps_adds : (taken : Bool) (new : MetaLinks) → c < length mid.pool.connections → TakeOneStep c taken mid new
      → QuietStep c old new
  take_steps_adds taken new there t = adds_trans c old mid new turns.adds (take_adds c taken mid new there t)

  pub take_steps_end : (new : MetaLinks) → c < length mid.pool.connections → TakeOneStep c false mid new → TakeAllStep c old new
  take_steps_end new there t taken peer = record {
    fine = λ questions s h q target p host_events a at fine. inl (ended questions s h q target p host_events peer a at fine).stepped;
    lost = lost;
  }
    where
      ended : (questions : List Question) (s : MetaSettings) (h : History) (q : Question) (target : TargetState)
          (p : Transcript) (host_events : List HostEvent) (z : Peer) → MetaAfter questions s h old
          → slice_get questions c ≡ Some q → IsSoundPeer s q target taken (events_on c h) p host_events z
          → QuietSoundStep questions s c h q target true taken p host_events new z
      ended questions s h q target p host_events z a at fine =
          turned_end questions s h q target p host_events z new t taken
          (turns.fine questions s h q target taken p host_events z a at fine)

      lost : (questions : List Question) (s : MetaSettings) (h : History) (q : Question) (target : TargetState)
          → MetaAfter questions s h old → slice_get questions c ≡ Some q
          → IsLostPeer s q target taken (events_on c h) peer → LostStep questions s c h q target true new peer
      lost questions s h q target a at (inl b) =
          let one = ended questions s h q target b.transcript b.host_events b.before a at b.sound in
          let step = one.stepped in
          record {
            events = step.events;
            after = step.after;
            lost = inl (quiet_stopped s target q taken true step.events (events_on c h) peer b step.later
                (step.host_more ++ b.host_events) one.quiet step.fine);
          }
      lost questions s h q target a at (inr e) =
          quiet_step questions s c h q target true new peer (take_steps_adds false new there t questions s h a) e

-- n messages are never taken
pub take_steps_out : ExchangeLaws → (c n : ℕ) (old new : MetaLinks) → 1000003 < n → TakeSteps c n old new → TakeAllStep c old new
take_steps_out laws c n old new many turns taken peer = record {
  fine = λ questions s h q target p host_events a at fine. absurd
      (too_many questions s h q target p host_events peer at (turns.fine questions s h q target taken p host_events peer a at fine));
  lost = lost;
}
  where
    too_many : (questions : List Question) (s : MetaSettings) (h : History) (q : Question) (target : TargetState)
        (p : Transcript) (host_events : List HostEvent) (z : Peer) → slice_get questions c ≡ Some q
        → SoundTakeSteps questions s c h q target taken n p host_events new z → ⊥
    too_many questions s h q target p host_events z at w =
        let one : SoundStep questions s c h q target taken taken p host_events new z = w.stepped in
        let sound : IsSoundExchange (holdings_of target) (settings_of s) (events_on c (at_connection c one.events ++ h)) one.later
        (one.host_more ++ host_events) z.host = subst (λ x. IsSoundExchange (holdings_of target) (settings_of s) x one.later
        (one.host_more ++ host_events) z.host) (sym (only_more c one.events h)) one.fine.sound in
        let took = laws.count (holdings_of target) (settings_of s) (events_on c (at_connection c one.events ++ h)) one.later
        (one.host_more ++ host_events) z.host sound in
        let few = laws.few questions s (at_connection c one.events ++ h) new c q one.later one.after at sound.transcript in
        omega (arith, many, w.many, took.0, few.0)

    lost : (questions : List Question) (s : MetaSettings) (h : History) (q : Question) (target : TargetState)
        → MetaAfter questions s h old → slice_get questions c ≡ Some q
        → IsLostPeer s q target taken (events_on c h) peer → LostStep questions s c h q target true new peer
    lost questions s h q target a at (inl b) = absurd
        (too_many questions s h q target b.transcript b.host_events b.before at
        (turns.fine questions s h q target taken b.transcript b.host_events b.before a at b.sound))
    lost questions s h q target a at (inr e) =
        quiet_step questions s c h q target true new peer (turns.adds questions s h a) e
