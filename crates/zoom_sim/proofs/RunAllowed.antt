-- Steps whose events are all allowed.
use Rattle.std.proofs.Common.{◌≡◌, ◌∙◌, sym, ap, subst, inl, inr, ℕ, zero, suc, ◌==◌, Bool, true, false, List, [], ◌∷◌, ◌++◌, slice_get, Option, None, Some, Ok, refl, append_assoc, append-nil, arith}
use Rattle.std.specs.Prelude.{slice_set}
use Rattle.std.specs.List.{AllByRecursion}
use Rattle.std.proofs.lemmas.Bool.Decides.{nat_tests}
use Rattle.ztarget.specs.Receiving.{TargetState}
use Rattle.zoom_questions.specs.declared.question.Question.{Question}
use Rattle.zoom_questions.specs.declared.question.MetaSettings.{MetaSettings}
use Rattle.zoom_pool.specs.declared.state.Reason.{Reason}
use Rattle.zoom_pool.specs.Transcripts.{Event, Called, Fed, Took, InputEnded, HandedOut, Stopped, given, fed}
use Rattle.zoom_pool.specs.History.{History, events_on}
use Rattle.zoom_pool.specs.Hosts.{Holdings, HostEvent, HostFed, HostHandedOut, Released, Lost, HostAfter, HostRecorded, ReleaseResult}
use Rattle.zoom_pool.specs.Links.{waiting_at}
use Rattle.zoom_pool.specs.Metas.{MetaLinks, MetaAfter, MetaRecorded}
use Rattle.zoom_sim.specs.declared.peers.Peer.{Peer}
use Rattle.zoom_sim.specs.RunSteps.{IsSilent, AreSilent, MoreSilentEvents, IsCarried, IsReachableWorld}
use Rattle.zoom_sim.specs.RunSound.{at_connection}
use Rattle.zoom_sim.specs.RunMoves.{AreDrivenEvents, MoreDrivenEvents, DrivenStep, InputEndsStep, is_done, EndIf, FailureStep, arrived, still_left, CarryToStep, FeedFromStep, CarryFromStep, IsReleasedAs, AreReleased, AllAreReleased}
use Rattle.zoom_sim.specs.RunMade.{InTurn, none_yet, one_more}
use Rattle.zoom_sim.proofs.RunSilentSteps.{IsSilentEvent, all_silent, one_silent}
use Rattle.zoom_sim.proofs.RunSound.{only_of, none_of}
use Rattle.zoom_sim.proofs.RunCarries.{IsQuietEvent, quiet_fed, front_rest, both, own, other_silent, silent_to, silent_from}
use Rattle.zoom_sim.proofs.RunWorlds.{silent_tied, carried_world}

-- ---- driven events are silent

driven_silent : (events : List Event) → AreDrivenEvents events → IsSilent events
driven_silent [] d = (refl, refl)
driven_silent (Called call ∷ events) d = driven_silent events d.1
driven_silent (Fed piece ∷ events) d = absurd d.0
driven_silent (Took ∷ events) d = driven_silent events d.1
driven_silent (InputEnded ∷ events) d = absurd d.0
driven_silent (HandedOut octets ∷ events) d = absurd d.0
driven_silent (Stopped reason ∷ events) d = absurd d.0

at_silent : (c : ℕ) (events : List Event) → AreDrivenEvents events → AreSilent (at_connection c events)
at_silent c events d i = by (c == i) refl
  where
    by : (b : Bool) → (c == i) ≡ b → IsSilent (events_on i (at_connection c events))
    by true e =
        let same : c ≡ i = grind (arith, nat_tests) in
        subst IsSilent (sym (only_of c events) ∙ ap (λ n. events_on n (at_connection c events)) same) (driven_silent events d)
    by false e = subst IsSilent (sym (none_of c i events e)) (refl, refl)

-- the piece, and what is left
arrived_rest : (came : Bool) (k : ℕ) (octets : List ℕ) → octets ≡ arrived came k octets ++ still_left came k octets
arrived_rest true k octets = front_rest k octets
arrived_rest false k octets = refl

-- an event that is no stop
abbrev pub IsNoStop : Event → Type 0
IsNoStop (Stopped reason) = ⊥
IsNoStop _ = Unit {0}

module _ (allowed : ℕ → Event → Type 0) (fine : (c : ℕ) (event : Event) → IsNoStop event → allowed c event) where
  -- each event of the history is allowed
  abbrev pub AreAllowed : History → Type 0
  AreAllowed h = AllByRecursion (λ (e : ℕ × Event). allowed e.0 e.1) h

  all_more : (a b : History) → AreAllowed a → AreAllowed b → AreAllowed (a ++ b)
  all_more [] b p q = q
  all_more (e ∷ a) b p q = (p.0, all_more a b p.1 q)

  driven_allowed : (c : ℕ) (events : List Event) → AreDrivenEvents events → AreAllowed (at_connection c events)
  driven_allowed c [] d = tt
  driven_allowed c (Called call ∷ events) d = (fine c (Called call) tt, driven_allowed c events d.1)
  driven_allowed c (Fed piece ∷ events) d = absurd d.0
  driven_allowed c (Took ∷ events) d = (fine c Took tt, driven_allowed c events d.1)
  driven_allowed c (InputEnded ∷ events) d = absurd d.0
  driven_allowed c (HandedOut octets ∷ events) d = absurd d.0
  driven_allowed c (Stopped reason ∷ events) d = absurd d.0

  -- ---- connections alone

  -- silent events, all allowed
  abbrev pub AllowedStep : MetaLinks → MetaLinks → Type 0
  AllowedStep old new =
      (q : List Question) (s : MetaSettings) (h : History) → MetaAfter q s h old
      → (w : MoreSilentEvents q s h new) × AreAllowed w.more

  pub step_same : (m : MetaLinks) → AllowedStep m m
  step_same m q s h a = (record { more = []; after = a; silent = λ i. (refl, refl) }, tt)

  pub step_trans : (a b c : MetaLinks) → AllowedStep a b → AllowedStep b c → AllowedStep a c
  step_trans a b c f g q s h x =
      let one = f q s h x in
      let two = g q s (one.0.more ++ h) one.0.after in (
        record {
          more = two.0.more ++ one.0.more;
          after = subst (λ z. MetaAfter q s z c) (sym (append_assoc two.0.more one.0.more h)) two.0.after;
          silent = all_silent two.0.more one.0.more two.0.silent one.0.silent;
        },
        all_more two.0.more one.0.more two.1 one.1,
      )

  pub step_event : (c : ℕ) (event : Event) (old new : MetaLinks) → IsSilentEvent event → allowed c event
      → MetaRecorded c event old new → AllowedStep old new
  step_event c event old new silent may b q s h a = (
    record { more = (c, event) ∷ []; after = b q s [] h a; silent = one_silent c event silent },
    (may, tt),
  )

  pub step_driven : (c : ℕ) (old new : MetaLinks) → DrivenStep c old new → AllowedStep old new
  step_driven c old new d q s h a =
      let m : MoreDrivenEvents q s c h new = d.on q s h a in (
        record { more = at_connection c m.events; after = m.after; silent = at_silent c m.events m.driven },
        driven_allowed c m.events m.driven,
      )

  pub step_ends : (c : ℕ) (old new : MetaLinks) → InputEndsStep c old new → AllowedStep old new
  step_ends c old new e =
      step_trans old e.ended new (step_event c InputEnded old e.ended tt (fine c InputEnded tt) e.ends)
      (step_driven c e.ended new e.driven)

  step_end_if : (b : Bool) (c : ℕ) (old new : MetaLinks) → EndIf b c old new → AllowedStep old new
  step_end_if true c old new e = step_ends c old new e
  step_end_if false c old new e = subst (AllowedStep old) (sym e) (step_same old)

  pub step_failure : (c : ℕ) (failure : Option Reason) (old new : MetaLinks)
      → ((reason : Reason) → failure ≡ Some reason → allowed c (Stopped reason)) → FailureStep c failure old new
      → AllowedStep old new
  step_failure c None old new may f = subst (AllowedStep old) (sym f) (step_same old)
  step_failure c (Some reason) old new may f = step_event c (Stopped reason) old new tt (may reason refl) f

  -- each step of a connection is allowed, and so are all of them
  pub steps_in_turn : (step : ℕ → MetaLinks → MetaLinks → Type 0)
      → ((c : ℕ) (a b : MetaLinks) → step c a b → AllowedStep a b) → (old : MetaLinks) (n : ℕ) (new : MetaLinks)
      → InTurn step old n new → AllowedStep old new
  steps_in_turn step may old n new none_yet = step_same old
  steps_in_turn step may old n new (one_more {n = before} {mid = mid} more one) =
      step_trans old mid new (steps_in_turn step may old before mid more) (may before mid new one)

  -- ---- a connection and its target

  -- the same of a step that carries octets
  abbrev pub AllowedCarry : ℕ → MetaLinks → MetaLinks → Peer → Peer → Type 0
  AllowedCarry c old new was now =
      (q : List Question) (s : MetaSettings) (h : History) (holdings : Holdings) (host_events : List HostEvent)
      → MetaAfter q s h old → HostAfter holdings host_events was.host
      → (w : IsCarried q s c h holdings host_events new was now) × AreAllowed w.events

  pub carry_trans : (c : ℕ) (a b d : MetaLinks) (p r z : Peer) → AllowedCarry c a b p r → AllowedCarry c b d r z
      → AllowedCarry c a d p z
  carry_trans c a b d p r z f g q s h holdings host_events x y =
      let one = f q s h holdings host_events x y in
      let two = g q s (one.0.events ++ h) holdings (one.0.host_more ++ host_events) one.0.after one.0.served in
      (both q s c h holdings host_events b d p r z one.0 two.0, all_more two.0.events one.0.events two.1 one.1)

  pub step_carry : (c : ℕ) (old new : MetaLinks) (p : Peer) → AllowedStep old new → AllowedCarry c old new p p
  step_carry c old new p f q s h holdings host_events x y =
      let w = f q s h x in (
        record {
          events = w.0.more;
          after = w.0.after;
          others = λ i e. w.0.silent i;
          host_more = [];
          served = y;
          to = silent_to p.to (events_on c w.0.more) (w.0.silent c).0;
          from = silent_from p.from (events_on c w.0.more) (w.0.silent c).1;
        },
        w.1,
      )

  pub carried_to : (c k : ℕ) (came : Bool) (old new : MetaLinks) (was now : Peer)
      → CarryToStep c k came old new was now → AllowedCarry c old new was now
  carried_to c k came old new was now t q s h holdings host_events x y =
      let octets = waiting_at old.pool c in
      let event = HandedOut octets in
      let pipe = was.to ++ octets in
      let piece = arrived came k pipe in (
        record {
          events = (c, event) ∷ [];
          after = t.handed q s [] h x;
          others = λ i e. other_silent c i event e;
          host_more = HostFed piece ∷ [];
          served = t.fed holdings host_events y;
          to = ap (λ z. was.to ++ given z) (own c event) ∙ arrived_rest came k pipe
              ∙ ap (λ z. piece ++ z) (sym t.to);
          from = append-nil was.from ∙ sym t.from ∙ ap (λ z. fed z ++ now.from) (sym (own c event));
        },
        (fine c event tt, tt),
      )

  pub fed_from : (c k : ℕ) (came : Bool) (old new : MetaLinks) (was now : Peer)
      → FeedFromStep c k came old new was now → AllowedCarry c old new was now
  fed_from c k came old new was now t q s h holdings host_events x y =
      let octets = was.host.waiting in
      let pipe = was.from ++ octets in
      let piece = arrived came k pipe in
      let event = Fed piece in (
        record {
          events = (c, event) ∷ [];
          after = t.fed q s [] h x;
          others = λ i e. other_silent c i event e;
          host_more = HostHandedOut octets ∷ [];
          served = t.handed holdings host_events y;
          to = ap (λ z. was.to ++ given z) (own c event) ∙ append-nil was.to ∙ sym t.to;
          from = arrived_rest came k pipe ∙ ap (λ z. piece ++ z) (sym t.from)
              ∙ ap (λ z. fed z ++ now.from) (sym (own c event));
        },
        (fine c event tt, tt),
      )

  pub carried_from : (c k : ℕ) (came : Bool) (failure : Option Reason) (old new : MetaLinks) (was now : Peer)
      → ((reason : Reason) → failure ≡ Some reason → allowed c (Stopped reason))
      → CarryFromStep c k came failure old new was now → AllowedCarry c old new was now
  carried_from c k came failure old new was now may t =
      carry_trans c old t.fed_meta new was now now (fed_from c k came old t.fed_meta was now t.carried)
      (step_carry c t.fed_meta new now
      (step_trans t.fed_meta t.stopped_meta new
      (step_failure c failure t.fed_meta t.stopped_meta may t.stopped)
      (step_trans t.stopped_meta t.taken_meta new (step_driven c t.stopped_meta t.taken_meta t.driven)
      (step_end_if (is_done now) c t.taken_meta new t.ended))))

  -- ---- replies

  carry_host : (c : ℕ) (meta : MetaLinks) (was now : Peer) (event : HostEvent) → IsQuietEvent event
      → HostRecorded event was.host now.host → now.to ≡ was.to → now.from ≡ was.from
      → AllowedCarry c meta meta was now
  carry_host c meta was now event quiet u to from q s h holdings host_events x y = (
    record {
      events = [];
      after = x;
      others = λ i e. (refl, refl);
      host_more = event ∷ [];
      served = u holdings host_events y;
      to = append-nil was.to ∙ sym to ∙ ap (λ z. z ++ now.to) (sym (quiet_fed event quiet).0);
      from = ap (λ z. was.from ++ z) (quiet_fed event quiet).1 ∙ append-nil was.from ∙ sym from;
    },
    tt,
  )

  carry_none : (c : ℕ) (meta : MetaLinks) (was now : Peer) → now.host ≡ was.host → now.to ≡ was.to
      → now.from ≡ was.from → AllowedCarry c meta meta was now
  carry_none c meta was now host to from q s h holdings host_events x y = (
    record {
      events = [];
      after = x;
      others = λ i e. (refl, refl);
      host_more = [];
      served = subst (HostAfter holdings host_events) (sym host) y;
      to = append-nil was.to ∙ sym to;
      from = append-nil was.from ∙ sym from;
    },
    tt,
  )

  pub released : (c : ℕ) (meta : MetaLinks) (k : ℕ) (any : Bool) (was now : Peer) → IsReleasedAs k any was now
      → AllowedCarry c meta meta was now
  released c meta k true was now r = carry_host c meta was now (Released k) tt r.result.1 r.to r.from
  released c meta k false was now r = by r.result
    where
      by : ReleaseResult {E = Unit {0}} k (Ok false) was.host now.host → AllowedCarry c meta meta was now
      by (inl none) = carry_none c meta was now none.1 r.to r.from
      by (inr long) = carry_host c meta was now (Lost k) tt long.1 r.to r.from

  carry_same : (c : ℕ) (meta : MetaLinks) (was now : Peer) → now ≡ was → AllowedCarry c meta meta was now
  carry_same c meta was now e =
      subst (AllowedCarry c meta meta was) (sym e) (step_carry c meta meta was (step_same meta))

  released_each : (c : ℕ) (meta : MetaLinks) (n : ℕ) (was now : Peer) → AreReleased n was now
      → AllowedCarry c meta meta was now
  released_each c meta zero was now e = carry_same c meta was now e
  released_each c meta (suc n) was now m =
      carry_trans c meta meta meta was m.0 now (released_each c meta n was m.0 m.1)
      (released c meta 0 true m.0 now m.2)

  pub released_all : (c : ℕ) (meta : MetaLinks) (any : Bool) (was now : Peer) → AllAreReleased any was now
      → AllowedCarry c meta meta was now
  released_all c meta any was now r =
      carry_trans c meta meta meta was r.before now (released_each c meta r.count was r.before r.released)
      (elim r.last [
        | inl last ↦ released c meta 0 false r.before now last
        | inr most ↦ carry_same c meta r.before now most.1
      ])

  -- ---- worlds

  -- a world that a history of allowed events can have left
  abbrev pub AllowedWorld : List Question → MetaSettings → List TargetState → MetaLinks → List Peer → Type 0
  AllowedWorld q s ts meta peers = (w : IsReachableWorld q s ts meta peers) × AreAllowed w.history

  module _ (q : List Question) (s : MetaSettings) (ts : List TargetState) where
    pub step_world : (old new : MetaLinks) (peers : List Peer) → AllowedStep old new → AllowedWorld q s ts old peers
        → AllowedWorld q s ts new peers
    step_world old new peers f w =
        let m = f q s w.0.history w.0.after in (
          record {
            history = m.0.more ++ w.0.history;
            after = m.0.after;
            size = w.0.size;
            tied = λ c t p at by. silent_tied t c w.0.history m.0.more p (m.0.silent c) (w.0.tied c t p at by);
          },
          all_more m.0.more w.0.history m.1 w.1,
        )

    pub carry_world : (c : ℕ) (old new : MetaLinks) (peers : List Peer) (p r : Peer) → slice_get peers c ≡ Some p
        → AllowedCarry c old new p r → AllowedWorld q s ts old peers → AllowedWorld q s ts new (slice_set peers c r)
    carry_world c old new peers p r here f w =
        let v = carried_world AreAllowed c old new peers p r here q s ts w.0 f in
        (v.0, subst AreAllowed (sym v.1.2) (all_more v.1.0 w.0.history v.1.1 w.1))
