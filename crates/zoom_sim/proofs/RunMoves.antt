-- What moves carry and what they leave, as events.
use Rattle.std.proofs.Common.{◌≡◌, ◌∙◌, inl, inr, sym, ap, subst, ℕ, suc, ◌+◌, ◌-◌, ◌^◌, ◌<◌, ◌≤◌, Bool, true, false, List, [], ◌∷◌, ◌++◌, length, take, drop, slice_get, get_or, Option, Some, Result, Ok, Err, refl, arith, true≢false}
use Rattle.std.specs.Prelude.{◌⊎◌, ◌==◌, ◌&&◌, nat_lt, slice_set, IfOk}
use Rattle.std.proofs.lemmas.Option.{slice_get-get_or}
use Rattle.std.proofs.Math.Seq.{take-suc}
use Rattle.zorigin.specs.Standings.{Call}
use Rattle.zoom_questions.specs.declared.question.Question.{Question}
use Rattle.zoom_questions.specs.declared.question.MetaSettings.{MetaSettings}
use Rattle.zoom_questions.specs.declared.moves.Move.{Move}
use Rattle.zoom_questions.specs.declared.moves.Move.TheVariants as moves
use Rattle.zoom_pool.specs.declared.state.Reason.{Reason}
use Rattle.zoom_pool.specs.Transcripts.{Event, Called, Fed, Took, HandedOut}
use Rattle.zoom_pool.specs.History.{History}
use Rattle.zoom_pool.specs.Hosts.{HostState, HostFed, HostHandedOut, HostRecorded, ReleaseResult}
use Rattle.zoom_pool.specs.Links.{waiting_at}
use Rattle.zoom_pool.specs.Metas.{MetaLinks, MetaAfter, MetaRecorded, MetaTakeStep, DriveResult, Progress, call_events}
use Rattle.zoom_sim.specs.declared.peers.Peer.{Peer}
use Rattle.zoom_sim.specs.RunSound.{at_connection}
use Rattle.zoom_sim.specs.RunMoves.{AreDrivenEvents, MoreDrivenEvents, DrivenStep, InputEndsStep, is_done, EndIf, FailureStep, arrived, is_some_of, still_left, IsReleasedAs, AreReleased, AllAreReleased, Carriage, Failing, AfterCarryTo, AfterFeedFrom, AfterCarryFrom, connection_of, AfterMove, AfterMoveIf, AreMade, one_made}
use Rattle.zoom_sim.proofs.RunSound.{of_append}

-- ---- a connection that is driven

driven_append : (a b : List Event) → AreDrivenEvents a → AreDrivenEvents b → AreDrivenEvents (a ++ b)
driven_append [] b p q = q
driven_append (event ∷ a) b p q = (p.0, driven_append a b p.1 q)

pub driven_same : (c : ℕ) (m : MetaLinks) → DrivenStep c m m
driven_same c m = record { on = λ q s h a. record { events = []; driven = tt; after = a } }

pub driven_trans : (c : ℕ) (a b d : MetaLinks) → DrivenStep c a b → DrivenStep c b d → DrivenStep c a d
driven_trans c a b d f g = record {
  on = λ q s h x.
      let one : MoreDrivenEvents q s c h b = f.on q s h x in
      let two : MoreDrivenEvents q s c (at_connection c one.events ++ h) d =
      g.on q s (at_connection c one.events ++ h) one.after in
      record {
        events = two.events ++ one.events;
        driven = driven_append two.events one.events two.driven one.driven;
        after = subst (λ z. MetaAfter q s z d) (of_append c one.events two.events h) two.after;
      };
}

-- the target stopped and none of its octets is left
pub ended_if : (c : ℕ) (peer : Peer) (old new : MetaLinks) → peer.host.stopped ≡ true → (length peer.from == 0) ≡ true
    → InputEndsStep c old new → EndIf (is_done peer) c old new
ended_if c peer old new stopped none e = subst (λ b. EndIf b c old new) (sym (and_true stopped none)) e
  where
    and_true : {a b : Bool} → a ≡ true → b ≡ true → a && b ≡ true
    and_true {a} {b} p q = ap (λ z. z && b) p ∙ q

-- it did not, or some are left
pub not_ended : (c : ℕ) (peer : Peer) (meta : MetaLinks)
    → (peer.host.stopped ≡ false) ⊎ ((length peer.from == 0) ≡ false) → EndIf (is_done peer) c meta meta
not_ended c peer meta either =
    subst (λ b. EndIf b c meta meta) (sym (and_false peer.host.stopped (length peer.from == 0) either)) refl
  where
    and_false : (a b : Bool) → (a ≡ false) ⊎ (b ≡ false) → a && b ≡ false
    and_false true b (inl e) = absurd (true≢false e)
    and_false true b (inr e) = e
    and_false false b e = refl

pub took_driven : (c : ℕ) (old new : MetaLinks) → MetaTakeStep c old new → DrivenStep c old new
took_driven c old new t = record {
  on = λ q s h a. record { events = Took ∷ []; driven = (tt, tt); after = t q s [] h a };
}

abbrev called : List Call → List Event
called [] = []
called (call ∷ calls) = Called call ∷ called calls

called_driven : (calls : List Call) → AreDrivenEvents (called calls)
called_driven [] = tt
called_driven (call ∷ calls) = (tt, called_driven calls)

called_events : (c : ℕ) (calls : List Call) → call_events c calls ≡ at_connection c (called calls)
called_events c [] = refl
called_events c (call ∷ calls) = ap (λ z. (c, Called call) ∷ z) (called_events c calls)

progress_driven : (q : List Question) (s : MetaSettings) (c : ℕ) (h : History) (n : ℕ) (new : MetaLinks)
    → Progress q s [] c h n new → MoreDrivenEvents q s c h new
progress_driven q s c h n new p = record {
  events = called p.calls;
  driven = called_driven p.calls;
  after = subst (λ z. MetaAfter q s (z ++ h) new) (called_events c p.calls) p.after;
}

pub drove_driven : {E : Type 0} (c : ℕ) (answer : Result ℕ E) (old new : MetaLinks) → DriveResult c answer old new
    → DrivenStep c old new
drove_driven c (Ok n) old new d = record { on = λ q s h a. progress_driven q s c h n new (d q s [] h a).progress }
drove_driven c (Err e) old new d = record { on = λ q s h a. let w = d q s [] h a in progress_driven q s c h w.0 new w.1 }

-- ---- what is carried

arrived_is : (came : Bool) (k n : ℕ) (octets piece : List ℕ) → (came ≡ true → n ≡ k) → (came ≡ false → n ≡ 0)
    → piece ≡ take n octets → piece ≡ arrived came k octets
arrived_is true k n octets piece all none e = e ∙ ap (λ z. take z octets) (all refl)
arrived_is false k n octets piece all none e = e ∙ ap (λ z. take z octets) (none refl)

module _ {C : Type 0} (carries : Carriage C) (c k n : ℕ) (came : Bool) (channel later : C) (old new : MetaLinks)
    (was now : Peer) (pipe offered piece : List ℕ) (offer : offered ≡ take k pipe)
    (carried : carries channel c offered came later) (all : came ≡ true → n ≡ k) (none : came ≡ false → n ≡ 0)
    (front : piece ≡ take n pipe) where
  piece_is : (octets : List ℕ) → pipe ≡ octets → piece ≡ arrived came k octets
  piece_is octets e = arrived_is came k n pipe piece all none front ∙ ap (arrived came k) e

  left_is : (octets : List ℕ) → pipe ≡ octets → drop (length piece) pipe ≡ still_left came k octets
  left_is octets e =
      ap (λ z. drop (length z) pipe) (piece_is octets e) ∙ ap (λ z. drop (length (arrived came k octets)) z) e

  carried_is : (octets : List ℕ) → pipe ≡ octets → carries channel c (take k octets) came later
  carried_is octets e = subst (λ z. carries channel c z came later) (offer ∙ ap (λ z. take k z) e) carried

  pub carried_to : pipe ≡ was.to ++ waiting_at old.pool c → MetaRecorded c (HandedOut (waiting_at old.pool c)) old new
      → HostRecorded (HostFed piece) was.host now.host → now.to ≡ drop (length piece) pipe → now.from ≡ was.from
      → AfterCarryTo carries (is_some_of piece) c k channel later old new was now
  carried_to fills handed fed left same = record {
    came = came;
    some = ap is_some_of (piece_is (was.to ++ waiting_at old.pool c) fills);
    carried = carried_is (was.to ++ waiting_at old.pool c) fills;
    step = record {
      handed = handed;
      fed = subst (λ z. HostRecorded (HostFed z) was.host now.host) (piece_is (was.to ++ waiting_at old.pool c) fills) fed;
      to = left ∙ left_is (was.to ++ waiting_at old.pool c) fills;
      from = same;
    };
  }

  pub fed_from : pipe ≡ was.from ++ was.host.waiting
      → HostRecorded (HostHandedOut was.host.waiting) was.host now.host → MetaRecorded c (Fed piece) old new
      → now.from ≡ drop (length piece) pipe → now.to ≡ was.to
      → AfterFeedFrom carries (is_some_of piece) c k channel later old new was now
  fed_from fills handed fed left same = record {
    came = came;
    some = ap is_some_of (piece_is (was.from ++ was.host.waiting) fills);
    carried = carried_is (was.from ++ was.host.waiting) fills;
    step = record {
      handed = handed;
      fed = subst (λ z. MetaRecorded c (Fed z) old new) (piece_is (was.from ++ was.host.waiting) fills) fed;
      to = same;
      from = left ∙ left_is (was.from ++ was.host.waiting) fills;
    };
  }

-- the connection was then stopped if the channel failed, and driven
pub carried_from : {C : Type 0} (carries : Carriage C) (fails : Failing C) (any : Bool) (c k : ℕ)
    (failure : Option Reason) (channel later : C) (old mid stopped taken new : MetaLinks) (was now : Peer)
    → AfterFeedFrom carries any c k channel later old mid was now → fails later c failure
    → FailureStep c failure mid stopped → DrivenStep c stopped taken → EndIf (is_done now) c taken new
    → AfterCarryFrom carries fails any c k channel later old new was now
carried_from carries fails any c k failure channel later old mid stopped taken new was now f failed stops driven ends =
    record {
      came = f.came;
      some = f.some;
      failure = failure;
      carried = f.carried;
      failed = failed;
      step = record {
        fed_meta = mid;
        stopped_meta = stopped;
        taken_meta = taken;
        carried = f.step;
        stopped = stops;
        driven = driven;
        ended = ends;
      };
    }

-- ---- replies

pub released_one : {E : Type 0} (k : ℕ) (answer : Result Bool E) (was : Peer) (host : HostState)
    → ReleaseResult k answer was.host host
    → IfOk answer (λ any. IsReleasedAs k any was (record was { host = host }))
released_one k (Ok true) was host r = record { result = r; to = refl; from = refl }
released_one k (Ok false) was host r = record { result = r; to = refl; from = refl }
released_one k (Err e) was host r = tt

-- one reply more is released
pub released_more : (E : Type 0) (n : ℕ) (was mid : Peer) (host : HostState) → AreReleased n was mid
    → ReleaseResult {E = E} 0 (Ok true) mid.host host → AreReleased (n + 1) was (record mid { host = host })
released_more E n was mid host before r =
    subst (λ z. AreReleased z was (record mid { host = host })) one_more
    (mid, before, record { result = r; to = refl; from = refl })
  where
    one_more : suc n ≡ n + 1
    one_more = omega arith

-- none is left
pub released_last : (E : Type 0) (any : Bool) (n : ℕ) (was mid : Peer) (host : HostState) → any ≡ nat_lt 0 n
    → AreReleased n was mid → ReleaseResult {E = E} 0 (Ok false) mid.host host
    → AllAreReleased any was (record mid { host = host })
released_last E any n was mid host some before r = record {
  count = n;
  some = some;
  before = mid;
  released = before;
  last = inl (record { result = r; to = refl; from = refl });
}

pub released_most : (any : Bool) (n : ℕ) (was now : Peer) → any ≡ nat_lt 0 n → 2 ^ 64 - 1 ≤ n → AreReleased n was now
    → AllAreReleased any was now
released_most any n was now some most before =
    record { count = n; some = some; before = now; released = before; last = inr (most, refl) }

-- ---- moves

module _ {C E : Type 0} (to from : Carriage C) (fails : Failing C) (c : ℕ) (channel later : C)
    (old new : MetaLinks) (was now : Peer) (r : Result Bool E) where
  abbrev made_by : Move → Bool → Type 0
  made_by step any = AfterMove to from fails any c step channel later old new was now

  pub moved_to : (step : Move) (d k : ℕ) → step ≡ moves.To d k
      → IfOk r (λ any. AfterCarryTo to any c k channel later old new was now) → IfOk r (made_by step)
  moved_to step d k is f = subst (λ z. IfOk r (made_by z)) (sym is) f

  pub moved_from : (step : Move) (d k : ℕ) → step ≡ moves.From d k
      → IfOk r (λ any. AfterCarryFrom from fails any c k channel later old new was now) → IfOk r (made_by step)
  moved_from step d k is f = subst (λ z. IfOk r (made_by z)) (sym is) f

pub moved_release : {C E : Type 0} (to from : Carriage C) (fails : Failing C) (c : ℕ) (channel : C)
    (meta : MetaLinks) (was now : Peer) (r : Result Bool E) (step : Move) (d k : ℕ) → step ≡ moves.Release d k
    → IfOk r (λ any. IsReleasedAs k any was now)
    → IfOk r (λ any. AfterMove to from fails any c step channel channel meta meta was now)
moved_release to from fails c channel meta was now (Ok b) step d k is f =
    subst (λ z. AfterMove to from fails b c z channel channel meta meta was now) (sym is) (refl, refl, f)
moved_release to from fails c channel meta was now (Err e) step d k is f = tt

module _ {C : Type 0} (to from : Carriage C) (fails : Failing C) (any : Bool) (step : Move) (n : ℕ)
    (own : n ≡ connection_of step) (channel later : C) (old new : MetaLinks) (peers : List Peer) (p r : Peer) where
  pub move_made : n < length peers → AfterMove to from fails any n step channel later old new (get_or peers n p) r
      → AfterMoveIf to from fails step channel later old new peers (slice_set peers n r)
  move_made lt made = inl (record {
    any = any;
    before = get_or peers n p;
    after = r;
    there = subst (λ z. slice_get peers z ≡ Some (get_or peers n p)) own (slice_get-get_or peers n p lt);
    made = subst (λ z. AfterMove to from fails any z step channel later old new (get_or peers n p) r) own made;
    peers = ap (λ z. slice_set peers z r) own;
  })

pub move_none : {C : Type 0} (to from : Carriage C) (fails : Failing C) (step : Move) (n : ℕ)
    → n ≡ connection_of step → (channel : C) (meta : MetaLinks) (peers : List Peer) → length peers ≤ n
    → AfterMoveIf to from fails step channel channel meta meta peers peers
move_none to from fails step n own channel meta peers past = inr (record {
  none = subst (λ z. length peers ≤ z) own past;
  channel_is = refl;
  meta_is = refl;
  peers = refl;
})

-- one move more is made
pub made_more : {C : Type 0} (to from : Carriage C) (fails : Failing C) (channel mid later : C)
    (old meta new : MetaLinks) (was peers now : List Peer) (steps : List Move) (i : ℕ) (d : Move) → i < length steps
    → AreMade to from fails channel old was (take i steps) mid meta peers
    → AfterMoveIf to from fails (get_or steps i d) mid later meta new peers now
    → AreMade to from fails channel old was (take (i + 1) steps) later new now
made_more to from fails channel mid later old meta new was peers now steps i d lt made step =
    subst (λ z. AreMade to from fails channel old was z later new now) (sym (take-suc steps i d lt) ∙ ap (λ n. take n steps) one_more)
    (one_made (get_or steps i d) made step)
  where
    one_more : suc i ≡ i + 1
    one_more = omega arith
