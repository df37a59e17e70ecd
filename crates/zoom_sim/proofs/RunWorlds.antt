-- Worlds after moves.
use Rattle.std.proofs.Common.{◌≡◌, ◌∙◌, sym, ap, append_assoc, subst, ℕ, zero, suc, ◌<◌, ◌==◌, Bool, true, false, List, [], ◌∷◌, ◌++◌, length, get_or, slice_get, slice_set}
use Rattle.std.proofs.Common.{Some, refl, arith, append-nil}
use Rattle.std.proofs.lemmas.Bool.Decides.{nat_tests}
use Rattle.std.proofs.lemmas.Option.{slice_get_within}
use Rattle.std.proofs.Math.ListN.{length-set}
use Rattle.ztarget.specs.Receiving.{TargetState}
use Rattle.zoom_questions.specs.declared.question.Question.{Question}
use Rattle.zoom_questions.specs.declared.question.MetaSettings.{MetaSettings}
use Rattle.zoom_pool.specs.Transcripts.{Event, given, fed}
use Rattle.zoom_pool.specs.History.{History, events_on}
use Rattle.zoom_questions.specs.NewTargets.{IsNew, AreNew}
use Rattle.zoom_pool.specs.Hosts.{Holdings, HostEvent, HostAfter, holdings_of, handed_out}
use Rattle.zoom_pool.specs.Metas.{MetaLinks, MetaAfter}
use Rattle.zoom_pool.proofs.Pools.{only_append, got, get_same, get_other}
use Rattle.zoom_pool.proofs.Metas.{slice_some}
use Rattle.zoom_sim.specs.declared.peers.Peer.{Peer}
use Rattle.zoom_laws.specs.Exchange.{fed_to}
use Rattle.zoom_sim.specs.Run.{IsExchange, IsRun}
use Rattle.zoom_sim.specs.RunSteps.{IsSilent, SilentStep, MoreSilentEvents, AreStopped, StopAllStep, IsCarried, CarryStep, IsExchangeUnderway, IsReachableWorld, IsContinued, AfterMoves, AfterAllRounds, IsPeerOf, ArePeersOf}
use Rattle.zoom_sim.proofs.RunSilentSteps.{given_append, fed_append}
use Rattle.zoom_sim.proofs.RunCarries.{fed_to_append, handed_out_append, goes_through}

pub some_is : {X : Type 0} {y z : X} → Some y ≡ Some z → y ≡ z
some_is e = cc

-- ---- an exchange that is underway stays so

join_given : (c : ℕ) (h more : History) → given (events_on c (more ++ h)) ≡ given (events_on c h) ++ given (events_on c more)
join_given c h more = ap given (only_append c more h) ∙ given_append (events_on c more) (events_on c h)

join_fed : (c : ℕ) (h more : History) → fed (events_on c (more ++ h)) ≡ fed (events_on c h) ++ fed (events_on c more)
join_fed c h more = ap fed (only_append c more h) ∙ fed_append (events_on c more) (events_on c h)

pub silent_tied : (t : TargetState) (c : ℕ) (h more : History) (p : Peer) → IsSilent (events_on c more) → IsExchangeUnderway t (events_on c h) p
    → IsExchangeUnderway t (events_on c (more ++ h)) p
silent_tied t c h more p none tie = record {
  host_events = tie.host_events;
  served = tie.served;
  sent = join_given c h more ∙ ap (λ z. given (events_on c h) ++ z) none.0 ∙ append-nil (given (events_on c h)) ∙ tie.sent;
  came = tie.came
      ∙ ap (λ z. z ++ p.from) (sym (join_fed c h more ∙ ap (λ z. fed (events_on c h) ++ z) none.1 ∙ append-nil (fed (events_on c h))));
}

carried_tied : (q : List Question) (s : MetaSettings) (t : TargetState) (c : ℕ) (h : History) (new : MetaLinks) (p r : Peer)
    (tie : IsExchangeUnderway t (events_on c h) p) (w : IsCarried q s c h (holdings_of t) tie.host_events new p r)
    → IsExchangeUnderway t (events_on c (w.events ++ h)) r
carried_tied q s t c h new p r tie w = record {
  host_events = w.host_more ++ tie.host_events;
  served = w.served;
  sent = join_given c h w.events
      ∙ goes_through (given (events_on c h)) (fed_to tie.host_events) p.to (given (events_on c w.events)) (fed_to w.host_more) r.to tie.sent w.to
      ∙ ap (λ z. z ++ r.to) (sym (fed_to_append w.host_more tie.host_events));
  came = handed_out_append w.host_more tie.host_events
      ∙ goes_through (handed_out tie.host_events) (fed (events_on c h)) p.from (handed_out w.host_more) (fed (events_on c w.events)) r.from
      tie.came w.from ∙ ap (λ z. z ++ r.from) (sym (join_fed c h w.events));
}

-- ---- worlds

continued : (h mid later : History) → IsContinued h mid → IsContinued mid later → IsContinued h later
continued h mid later one two = (
  two.0 ++ one.0,
  two.1 ∙ ap (λ z. two.0 ++ z) one.1 ∙ sym (append_assoc two.0 one.0 h),
)

pub world_trans : (a b c : MetaLinks) (x y z : List Peer) → AfterMoves a b x y → AfterMoves b c y z → AfterMoves a c x z
world_trans a b c x y z f g = record {
  on = λ q s ts w.
      let one = f.on q s ts w in
      let two = g.on q s ts one.0 in
      (two.0, continued w.history one.0.history two.0.history one.1 two.1);
}

pub goes_world : (old new : MetaLinks) (peers : List Peer) → SilentStep old new → AfterMoves old new peers peers
goes_world old new peers g = record {
  on = λ q s ts w.
      let more : MoreSilentEvents q s w.history new = g.on q s w.history w.after in (
        record {
          history = more.more ++ w.history;
          after = more.after;
          size = w.size;
          tied = λ c t p at by. silent_tied t c w.history more.more p (more.silent c) (w.tied c t p at by);
        },
        (more.more, refl),
      );
}

pub same_world : (meta : MetaLinks) (peers : List Peer) → AfterMoves meta meta peers peers
same_world meta peers = record { on = λ q s ts w. (w, ([], refl)) }

-- The connection's target, and the exchange of both. Of the events more is known.
module _ (P : History → Type 0) (c : ℕ) (old new : MetaLinks) (peers : List Peer) (p r : Peer)
    (here : slice_get peers c ≡ Some p) where
  abbrev pub CarryOf : Type 0
  CarryOf =
      (q : List Question) (s : MetaSettings) (h : History) (holdings : Holdings) (host_events : List HostEvent)
      → MetaAfter q s h old → HostAfter holdings host_events p.host
      → (w : IsCarried q s c h holdings host_events new p r) × P w.events

  within : c < length peers
  within = slice_get_within peers c p here

  module _ (q : List Question) (s : MetaSettings) (ts : List TargetState) (w : IsReachableWorld q s ts old peers) where
    each : (mine : TargetState) → slice_get ts c ≡ Some mine → (events : History)
        → ((i : ℕ) → (c == i) ≡ false → IsSilent (events_on i events))
        → IsExchangeUnderway mine (events_on c (events ++ w.history)) r
        → (i : ℕ) (t : TargetState) (z : Peer) → slice_get ts i ≡ Some t → slice_get (slice_set peers c r) i ≡ Some z
        → (b : Bool) → (c == i) ≡ b → IsExchangeUnderway t (events_on i (events ++ w.history)) z
    each mine is events others own i t z got by true e =
        let same : c ≡ i = grind (arith, nat_tests) in
        let which : mine ≡ t = some_is (sym is ∙ subst (λ n. slice_get ts n ≡ Some t) (sym same) got) in
        let what : r ≡ z = some_is (sym (get_same peers c r within)
        ∙ subst (λ n. slice_get (slice_set peers c r) n ≡ Some z) (sym same) by) in
        subst (λ n. IsExchangeUnderway t (events_on n (events ++ w.history)) z) same
        (subst (λ x. IsExchangeUnderway x (events_on c (events ++ w.history)) z) which
        (subst (λ x. IsExchangeUnderway mine (events_on c (events ++ w.history)) x) what own))
    each mine is events others own i t z got by false e =
        silent_tied t i w.history events z (others i e)
        (w.tied i t z got (sym (get_other peers c i r e) ∙ by))

    -- the world after it, whose history has these events more
    pub carried_world : CarryOf
        → (v : IsReachableWorld q s ts new (slice_set peers c r))
        × ((more : History) × P more × (v.history ≡ more ++ w.history))
    carried_world f =
        let found = slice_some ts c (subst (λ n. c < n) w.size within) in
        let tie : IsExchangeUnderway found.0 (events_on c w.history) p = w.tied c found.0 p found.1 here in
        let made = f q s w.history (holdings_of found.0) tie.host_events w.after tie.served in
        let more : IsCarried q s c w.history (holdings_of found.0) tie.host_events new p r = made.0 in
        let own : IsExchangeUnderway found.0 (events_on c (more.events ++ w.history)) r =
        carried_tied q s found.0 c w.history new p r tie more in (
          record {
            history = more.events ++ w.history;
            after = more.after;
            size = length-set peers c r ∙ w.size;
            tied = λ i t z got by. each found.0 found.1 more.events more.others own i t z got by (c == i) refl;
          },
          (more.events, made.1, refl),
        )

pub carries_world : (c : ℕ) (old new : MetaLinks) (peers : List Peer) (p r : Peer) → slice_get peers c ≡ Some p
    → CarryStep c old new p r → AfterMoves old new peers (slice_set peers c r)
carries_world c old new peers p r here f = record {
  on = λ q s ts w.
      let v = carried_world (λ more. Unit {0}) c old new peers p r here q s ts w
      (λ q s h holdings host_events a b. (f.on q s h holdings host_events a b, tt)) in
      (v.0, (v.1.0, v.1.2));
}

pub step_world : (c : ℕ) (old new : MetaLinks) (peers : List Peer) (p r : Peer) → c < length peers
    → CarryStep c old new (get_or peers c p) r → AfterMoves old new peers (slice_set peers c r)
step_world c old new peers p r lt f =
    carries_world c old new peers (get_or peers c p) r (got peers c p (get_or peers c p) lt refl) f

-- ---- the end

pub talked : (t : TargetState) (events : List Event) (p : Peer) → IsExchangeUnderway t events p → IsExchange t events
talked t events p tie = record {
  host = p.host;
  host_events = tie.host_events;
  served = tie.served;
  to_go = p.to;
  sent = tie.sent;
  to_come = p.from;
  came = tie.came;
}

pub halts_ends : (old new : MetaLinks) (peers : List Peer) → StopAllStep (length old.pool.connections) old new
    → AfterAllRounds old new peers
halts_ends old new peers f = record { on = λ q s ts w. at q s ts w }
  where
    at : (q : List Question) (s : MetaSettings) (ts : List TargetState) (w : IsReachableWorld q s ts old peers)
        → (run : IsRun q s ts new) × IsContinued w.history run.history
    at q s ts w =
        let more : AreStopped q s (length old.pool.connections) w.history new = f.on q s w.history w.after in (
          record {
            history = more.more ++ w.history;
            after = more.after;
            talked = λ c t got.
                let mine = slice_some peers c (subst (λ n. c < n) (sym w.size) (slice_get_within ts c t got)) in
                talked t (events_on c (more.more ++ w.history)) mine.0
                (silent_tied t c w.history more.more mine.0 (more.silent c) (w.tied c t mine.0 got mine.1));
            over = λ c p lt transcript. more.over c p (subst (λ n. c < n) (sym w.after.size) lt) transcript;
          },
          (more.more, refl),
        )

pub world_ends : (old mid new : MetaLinks) (x y : List Peer) → AfterMoves old mid x y → AfterAllRounds mid new y
    → AfterAllRounds old new x
world_ends old mid new x y f g = record {
  on = λ q s ts w.
      let one = f.on q s ts w in
      let two = g.on q s ts one.0 in
      (two.0, continued w.history one.0.history two.0.history one.1 two.1);
}

-- ---- at first

pub new_at : (xs : List TargetState) (t : TargetState) (ys : List TargetState) → AreNew (xs ++ t ∷ ys) → IsNew t
new_at [] t ys a = a.0
new_at (x ∷ xs) t ys a = new_at xs t ys a.1

pub peers_push : (ts : List TargetState) (ps : List Peer) (t : TargetState) (p : Peer) → ArePeersOf ts ps → IsPeerOf t p
    → ArePeersOf (ts ++ t ∷ []) (ps ++ p ∷ [])
peers_push [] [] t p a is = (is, tt)
peers_push [] (y ∷ ps) t p a is = absurd a
peers_push (x ∷ ts) [] t p a is = absurd a
peers_push (x ∷ ts) (y ∷ ps) t p a is = (a.0, peers_push ts ps t p a.1 is)

pub peers_size : (ts : List TargetState) (ps : List Peer) → ArePeersOf ts ps → length ps ≡ length ts
peers_size [] [] a = refl
peers_size [] (y ∷ ps) a = absurd a
peers_size (x ∷ ts) [] a = absurd a
peers_size (x ∷ ts) (y ∷ ps) a = let n = peers_size ts ps a.1 in ap (λ m. suc m) n

pub peer_at : (ts : List TargetState) (ps : List Peer) (c : ℕ) (t : TargetState) (p : Peer) → ArePeersOf ts ps
    → slice_get ts c ≡ Some t → slice_get ps c ≡ Some p → IsPeerOf t p
peer_at [] ps c t p a e f = absurd (cc)
peer_at (x ∷ ts) [] c t p a e f = absurd a
peer_at (x ∷ ts) (y ∷ ps) zero t p a e f =
    subst (λ z. IsPeerOf z p) (some_is e) (subst (λ z. IsPeerOf x z) (some_is f) a.0)
peer_at (x ∷ ts) (y ∷ ps) (suc c) t p a e f = peer_at ts ps c t p a.1 e f

abbrev pub world_new : (q : List Question) (s : MetaSettings) (ts : List TargetState) (meta : MetaLinks) (peers : List Peer)
    → MetaAfter q s [] meta → ArePeersOf ts peers → IsReachableWorld q s ts meta peers
world_new q s ts meta peers a of = record {
  history = [];
  after = a;
  size = peers_size ts peers of;
  tied = λ c t p got by. let is : IsPeerOf t p = peer_at ts peers c t p of got by in record {
    host_events = [];
    served = is.served;
    sent = sym is.to;
    came = sym is.from;
  };
}
