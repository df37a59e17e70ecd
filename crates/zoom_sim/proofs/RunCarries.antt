-- The octets between a connection and its target.
use Rattle.std.proofs.Common.{◌≡◌, ◌∙◌, sym, ap, subst, inl, inr, ℕ, zero, suc, ◌==◌, Bool, true, false, List, [], ◌∷◌, ◌++◌, length, take, drop}
use Rattle.std.proofs.Common.{Result, Ok, Err, refl, append_assoc, append-nil}
use Rattle.std.specs.Prelude.{OnOk}
use Rattle.zoom_questions.specs.declared.question.Question.{Question}
use Rattle.zoom_questions.specs.declared.question.MetaSettings.{MetaSettings}
use Rattle.zoom_pool.specs.Transcripts.{Event, Fed, HandedOut, given, fed}
use Rattle.zoom_pool.specs.History.{History, events_on}
use Rattle.zoom_pool.specs.Hosts.{HostState, HostAfter, Holdings, HostEvent, HostFed, HostFedPart, Released, Lost, HostHandedOut, HostRecorded, ReleaseResult, handed_out}
use Rattle.zoom_pool.specs.Metas.{MetaLinks, MetaAfter, MetaRecorded}
use Rattle.zoom_pool.proofs.Pools.{only_same, only_other, only_append}
use Rattle.zoom_sim.specs.declared.peers.Peer.{Peer}
use Rattle.zoom_laws.specs.Exchange.{fed_to}
use Rattle.zoom_sim.specs.RunSteps.{IsSilent, SilentStep, MoreSilentEvents, IsCarried, CarryStep, PeerReleaseStep}
use Rattle.zoom_sim.proofs.RunSilentSteps.{given_append, fed_append, silent_more}

-- ---- the octets of events one after the other

pub fed_to_append : (a b : List HostEvent) → fed_to (a ++ b) ≡ fed_to b ++ fed_to a
fed_to_append [] b = sym (append-nil (fed_to b))
fed_to_append (HostFed piece ∷ a) b =
    ap (λ z. z ++ piece) (fed_to_append a b) ∙ append_assoc (fed_to b) (fed_to a) piece
fed_to_append (HostFedPart piece ∷ a) b =
    ap (λ z. z ++ piece) (fed_to_append a b) ∙ append_assoc (fed_to b) (fed_to a) piece
fed_to_append (Released k ∷ a) b = fed_to_append a b
fed_to_append (Lost k ∷ a) b = fed_to_append a b
fed_to_append (HostHandedOut octets ∷ a) b = fed_to_append a b

pub handed_out_append : (a b : List HostEvent) → handed_out (a ++ b) ≡ handed_out b ++ handed_out a
handed_out_append [] b = sym (append-nil (handed_out b))
handed_out_append (HostFed piece ∷ a) b = handed_out_append a b
handed_out_append (HostFedPart piece ∷ a) b = handed_out_append a b
handed_out_append (Released k ∷ a) b = handed_out_append a b
handed_out_append (Lost k ∷ a) b = handed_out_append a b
handed_out_append (HostHandedOut octets ∷ a) b =
    ap (λ z. z ++ octets) (handed_out_append a b) ∙ append_assoc (handed_out b) (handed_out a) octets

-- over two steps, the octets that went in are those that came out and those that are left
pub goes_through : (x y z w u v : List ℕ) → x ≡ y ++ z → z ++ w ≡ u ++ v → x ++ w ≡ (y ++ u) ++ v
goes_through x y z w u v e f =
    ap (λ l. l ++ w) e ∙ append_assoc y z w ∙ ap (λ l. y ++ l) f ∙ sym (append_assoc y u v)

-- the front and the rest
pub front_rest : (k : ℕ) (x : List ℕ) → x ≡ take k x ++ drop (length (take k x)) x
front_rest zero x = refl
front_rest (suc k) [] = refl
front_rest (suc k) (y ∷ x) = ap (λ l. y ∷ l) (front_rest k x)

-- ---- one after the other

pub join_given : (c : ℕ) (one two : History) → given (events_on c (two ++ one)) ≡ given (events_on c one) ++ given (events_on c two)
join_given c one two = ap given (only_append c two one) ∙ given_append (events_on c two) (events_on c one)

pub join_fed : (c : ℕ) (one two : History) → fed (events_on c (two ++ one)) ≡ fed (events_on c one) ++ fed (events_on c two)
join_fed c one two = ap fed (only_append c two one) ∙ fed_append (events_on c two) (events_on c one)

abbrev pub both : (q : List Question) (s : MetaSettings) (c : ℕ) (h : History) (holdings : Holdings) (host_events : List HostEvent)
    (mid new : MetaLinks) (was between now : Peer) (one : IsCarried q s c h holdings host_events mid was between)
    → IsCarried q s c (one.events ++ h) holdings (one.host_more ++ host_events) new between now
    → IsCarried q s c h holdings host_events new was now
both q s c h holdings host_events mid new was between now one two = record {
  events = two.events ++ one.events;
  after = subst (λ z. MetaAfter q s z new) (sym (append_assoc two.events one.events h)) two.after;
  others = λ i e. silent_more i two.events one.events (two.others i e) (one.others i e);
  host_more = two.host_more ++ one.host_more;
  served = subst (λ z. HostAfter holdings z now.host) (sym (append_assoc two.host_more one.host_more host_events)) two.served;
  to = ap (λ z. was.to ++ z) (join_given c one.events two.events)
      ∙ sym (append_assoc was.to (given (events_on c one.events)) (given (events_on c two.events)))
      ∙ goes_through (was.to ++ given (events_on c one.events)) (fed_to one.host_more) between.to (given (events_on c two.events))
      (fed_to two.host_more) now.to one.to two.to ∙ ap (λ z. z ++ now.to) (sym (fed_to_append two.host_more one.host_more));
  from = ap (λ z. was.from ++ z) (handed_out_append two.host_more one.host_more)
      ∙ sym (append_assoc was.from (handed_out one.host_more) (handed_out two.host_more))
      ∙ goes_through (was.from ++ handed_out one.host_more) (fed (events_on c one.events)) between.from (handed_out two.host_more)
      (fed (events_on c two.events)) now.from one.from two.from ∙ ap (λ z. z ++ now.from) (sym (join_fed c one.events two.events));
}

pub carries_trans : (c : ℕ) (a b d : MetaLinks) (p q r : Peer) → CarryStep c a b p q → CarryStep c b d q r → CarryStep c a d p r
carries_trans c a b d p q r f g = record {
  on = λ qs s h holdings host_events x y.
      let one : IsCarried qs s c h holdings host_events b p q = f.on qs s h holdings host_events x y in
      both qs s c h holdings host_events b d p q r one
      (g.on qs s (one.events ++ h) holdings (one.host_more ++ host_events) one.after one.served);
}

-- no octets are carried
pub silent_to : (x : List ℕ) (events : List Event) → given events ≡ [] → x ++ given events ≡ [] ++ x
silent_to x events e = ap (λ z. x ++ z) e ∙ append-nil x

pub silent_from : (x : List ℕ) (events : List Event) → fed events ≡ [] → x ++ [] ≡ fed events ++ x
silent_from x events e = append-nil x ∙ ap (λ z. z ++ x) (sym e)

pub goes_carries : (c : ℕ) (old new : MetaLinks) (p : Peer) → SilentStep old new → CarryStep c old new p p
goes_carries c old new p g = record {
  on = λ qs s h holdings host_events x y.
      let w : MoreSilentEvents qs s h new = g.on qs s h x in
      record {
        events = w.more;
        after = w.after;
        others = λ i e. w.silent i;
        host_more = [];
        served = y;
        to = silent_to p.to (events_on c w.more) (w.silent c).0;
        from = silent_from p.from (events_on c w.more) (w.silent c).1;
      };
}

-- ---- the steps

-- events of another connection
pub other_silent : (c i : ℕ) (event : Event) → (c == i) ≡ false → IsSilent (events_on i ((c, event) ∷ []))
other_silent c i event e = subst IsSilent (sym (only_other c i event [] e)) (refl, refl)

pub own : (c : ℕ) (event : Event) → events_on c ((c, event) ∷ []) ≡ event ∷ []
own c event = only_same c event []

-- the octets that waited on the connection are on their way, and a piece was fed to the target
pub to_carries : (c : ℕ) (old new : MetaLinks) (was now : Peer) (octets pipe piece : List ℕ) (k : ℕ)
    → MetaRecorded c (HandedOut octets) old new → pipe ≡ was.to ++ octets → piece ≡ take k pipe
    → HostRecorded (HostFed piece) was.host now.host → now.to ≡ drop (length piece) pipe → now.from ≡ was.from
    → CarryStep c old new was now
to_carries c old new was now octets pipe piece k recorded fills front is_step left same = record {
  on = λ qs s h holdings host_events x y. record {
    events = (c, HandedOut octets) ∷ [];
    after = recorded qs s [] h x;
    others = λ i e. other_silent c i (HandedOut octets) e;
    host_more = HostFed piece ∷ [];
    served = is_step holdings host_events y;
    to = ap (λ z. was.to ++ given z) (own c (HandedOut octets)) ∙ sym fills ∙ front_rest k pipe
        ∙ ap (λ z. z ++ drop (length z) pipe) (sym front) ∙ ap (λ z. piece ++ z) (sym left);
    from = append-nil was.from ∙ sym same ∙ ap (λ z. fed z ++ now.from) (sym (own c (HandedOut octets)));
  };
}

-- the octets that waited at the target are on their way, and a piece was fed to the connection
pub from_carries : (c : ℕ) (old new : MetaLinks) (was now : Peer) (pipe piece : List ℕ) (k : ℕ)
    → HostRecorded (HostHandedOut was.host.waiting) was.host now.host → pipe ≡ was.from ++ was.host.waiting → piece ≡ take k pipe
    → MetaRecorded c (Fed piece) old new → now.from ≡ drop (length piece) pipe → now.to ≡ was.to
    → CarryStep c old new was now
from_carries c old new was now pipe piece k gives fills front recorded left same = record {
  on = λ qs s h holdings host_events x y. record {
    events = (c, Fed piece) ∷ [];
    after = recorded qs s [] h x;
    others = λ i e. other_silent c i (Fed piece) e;
    host_more = HostHandedOut was.host.waiting ∷ [];
    served = gives holdings host_events y;
    to = ap (λ z. was.to ++ given z) (own c (Fed piece)) ∙ append-nil was.to ∙ sym same;
    from = sym fills ∙ front_rest k pipe ∙ ap (λ z. z ++ drop (length z) pipe) (sym front)
        ∙ ap (λ z. piece ++ z) (sym left) ∙ ap (λ z. fed z ++ now.from) (sym (own c (Fed piece)));
  };
}

-- ---- replies

abbrev pub IsQuietEvent : HostEvent → Type 0
IsQuietEvent (Released k) = Unit {0}
IsQuietEvent (Lost k) = Unit {0}
IsQuietEvent _ = ⊥

pub quiet_fed : (host_event : HostEvent) → IsQuietEvent host_event → (fed_to (host_event ∷ []) ≡ []) × (handed_out (host_event ∷ []) ≡ [])
quiet_fed (HostFed piece) n = absurd n
quiet_fed (HostFedPart piece) n = absurd n
quiet_fed (Released k) n = (refl, refl)
quiet_fed (Lost k) n = (refl, refl)
quiet_fed (HostHandedOut octets) n = absurd n

abbrev with_host : Peer → HostState → Peer
with_host p host = record p { host = host }

event_carries : (host_event : HostEvent) (p : Peer) (host : HostState) → IsQuietEvent host_event → HostRecorded host_event p.host host
    → PeerReleaseStep p (with_host p host)
event_carries host_event p host n u = record {
  on = λ c meta. record {
    on = λ qs s h holdings host_events x y. record {
      events = [];
      after = x;
      others = λ i e. (refl, refl);
      host_more = host_event ∷ [];
      served = u holdings host_events y;
      to = append-nil p.to ∙ ap (λ z. z ++ p.to) (sym (quiet_fed host_event n).0);
      from = ap (λ z. p.from ++ z) (quiet_fed host_event n).1 ∙ append-nil p.from;
    };
  };
}

pub releases_none : (p : Peer) → PeerReleaseStep p p
releases_none p = record {
  on = λ c meta. record {
    on = λ qs s h holdings host_events x y. record {
      events = [];
      after = x;
      others = λ i e. (refl, refl);
      host_more = [];
      served = y;
      to = append-nil p.to;
      from = append-nil p.from;
    };
  };
}

pub releases_trans : (p q r : Peer) → PeerReleaseStep p q → PeerReleaseStep q r → PeerReleaseStep p r
releases_trans p q r f g = record { on = λ c meta. carries_trans c meta meta meta p q r (f.on c meta) (g.on c meta) }

pub released : (E : Type 0) (k : ℕ) (b : Bool) (p : Peer) (host : HostState) → ReleaseResult {E = E} k (Ok b) p.host host
    → PeerReleaseStep p (with_host p host)
released E k true p host a = event_carries (Released k) p host tt a.1
released E k false p host (inl none) =
    subst (λ z. PeerReleaseStep p (with_host p z)) (sym none.1) (releases_none p)
released E k false p host (inr long) = event_carries (Lost k) p host tt long.1

pub released_if : {E : Type 0} (k : ℕ) (answer : Result Bool E) (p : Peer) (host : HostState)
    → ReleaseResult k answer p.host host → OnOk answer (PeerReleaseStep p (with_host p host))
released_if {E} k (Ok b) p host a = released E k b p host a
released_if k (Err e) p host a = tt
