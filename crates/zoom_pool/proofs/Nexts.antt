-- The driver of a connection gives the call that is next, and none if none is.
use Rattle.std.proofs.Common.{◌≡◌, inl, inr, ℕ, ◌+◌, ◌<◌, ◌≤◌, Bool, true, false, cond, List, [], ◌∷◌, length, Option, None, Some, refl, sym, ap, subst, ◌∙◌, arith, true≢false}
use Rattle.std.specs.Prelude.{◌||◌, is_none}
use Rattle.std.specs.List.{list_any, flat_map}
use Rattle.zplan.specs.Plan as plan
use Rattle.zplan.specs.Plan.{Operation, RequestSent, CloseSent, first, search, IsDue, IsDriven, IsNextEvent, asked_in, replies_in, outstanding_in, start_of}
use Rattle.zplan.specs.Positions.{IsIn, IsWanted, first_of}
use Rattle.zplan.specs.Agenda.{Agenda}
use Rattle.zplan.specs.Laws.{NextLaws, BoundLaws}
use Rattle.zorigin.specs.declared.settings.Settings.{Settings}
use Rattle.zorigin.specs.declared.settings.Ask.{Ask}
use Rattle.zorigin.specs.declared.refusal.CallRefused.{CallRefused}
use Rattle.zorigin.specs.Standings.{is_fresh, is_ready}
use Rattle.zorigin.specs.Standings as origin
use Rattle.zplan.specs.Ranges.{positions}
use Rattle.zorigin.specs.Calls.{refusal}
use Rattle.zorigin.specs.Log.{Log, Past, past, standing, state_of, state_from, opening, force_after, is_close_call, is_init_call, search_in}
use Rattle.zoom_pool.specs.declared.call.Call.{Call}
use Rattle.zoom_pool.specs.declared.state.State.{State}
use Rattle.zoom_pool.specs.declared.phase.Phase.{Phase}
use Rattle.zoom_pool.specs.declared.phase.Phase.TheVariants as phases
use Rattle.zoom_pool.specs.CallsOf.{call_of}
use Rattle.zoom_pool.specs.States.{state_as, is_stopped}
use Rattle.zoom_pool.specs.Driving.{plan_of, DrivenLaws}
use Rattle.zoom_pool.specs.Steering.{Errand, IsNextCall, HasFewestRanges, IsSteeredCall, room_in, may_call, is_rejected, IsTried}
use Rattle.zoom_pool.specs.Drivers.{DriverState, IsDriver, IsAtPhase, AtFresh, AtOpening, AtOpened, AtSearching, AtAsking, AtClosed, HasOpening, HasFound, events_at, opened_events, IsOffer, IsOffered, IsIdleLog, NextCallResult, GiveResult, IsGivenIf, NextAskedResult, IsGivenInRoom, IsFirstPresent, room_for, has_room, is_fresh_state}
use Rattle.zoom_pool.specs.Due.{DueLaws, CanAskFor}
use Rattle.zoom_pool.proofs.Wants.{few_ranges}
use Rattle.zoom_pool.proofs.Phases.{unready, unfresh, concurrent_by, room_ready, no_room, fresh_as, no_call, call_ready, none_due, none_next, full_next}
use Rattle.zoom_pool.proofs.Closings.{closes_in, closing_known, open_ready, rejected_stopped}

-- ---- states

pub unready_at : (p : Past) → opening p ≡ None → is_ready (state_of p) ≡ false
unready_at p o =
    subst (λ a. is_ready (state_from p.fault p.closed (list_any is_close_call p.admitted) (list_any is_init_call p.admitted) a) ≡ false) (sym o)
    (unready p.fault p.closed (list_any is_close_call p.admitted) (list_any is_init_call p.admitted))

pub unfresh_at : (p : Past) → HasOpening p → is_fresh (state_of p) ≡ false
unfresh_at p o =
    subst (λ a. is_fresh (state_from p.fault p.closed (list_any is_close_call p.admitted) (list_any is_init_call p.admitted) a) ≡ false) (sym o.1)
    (unfresh p.fault p.closed (list_any is_close_call p.admitted) (list_any is_init_call p.admitted) o.0)

room_at : (window : ℕ) (p : Past) (room : ℕ) → room_for window (state_as (state_of p)) ≡ Some room
    → (is_ready (state_of p) ≡ true) × (room_in window p ≡ room)
room_at window p room f =
    let r = room_ready window (state_of p) room f in
    let c = concurrent_by p.fault p.closed (list_any is_close_call p.admitted) (list_any is_init_call p.admitted) (opening p) r.0 r.1 r.2 r.3 in
    (ap is_ready r.3, ap (λ b. cond b window 1) c ∙ r.4)

pub room_some : (window : ℕ) (p : Past) → 0 < window → 0 < room_in window p
room_some window p lo = elim (force_after (opening p)).concurrent as (λ b. 0 < cond b window 1) [ true ↦ lo | false ↦ omega arith ]

pub room_few : (window : ℕ) (p : Past) → room_in window p ≤ window + 1
room_few window p = elim (force_after (opening p)).concurrent as (λ b. cond b window 1 ≤ window + 1) [ true ↦ omega arith | false ↦ omega arith ]

given_none : (b : Bool) (call : origin.Call) → IsGivenIf b call None → b ≡ false
given_none true call x = absurd x
given_none false call x = refl

given_some : (b : Bool) (call : origin.Call) (g : Call) → IsGivenIf b call (Some g) → (b ≡ true) × (call_of g ≡ call)
given_some true call g x = (refl, x)
given_some false call g x = absurd x

roomy : (o : Option ℕ) → has_room o ≡ true → (room : ℕ) × (o ≡ Some room)
roomy None h = absurd (true≢false (sym h))
roomy (Some room) h = (room, refl)

unroomy : (o : Option ℕ) → has_room o ≡ false → o ≡ None
unroomy None h = refl
unroomy (Some room) h = absurd (true≢false h)

no_some : {A : Type 0} {x : A} → Some x ≡ None → ⊥
no_some e = cc

-- ---- which call is next

offer_next : (e : Errand) (settings : Settings) (log : Log) (d : DriverState) → IsDriver e settings log d → (call : origin.Call)
    → refusal (standing (past settings log)) call ≡ None → IsNextCall e settings log call → HasFewestRanges call
    → IsOffered e settings log d.phase call → IsOffer e settings log d call
offer_next e settings log d k call admitted n few o = record {
  knows = k;
  steers = subst (λ r. IsSteeredCall e settings log r call) (sym admitted) (n, few);
  offered = o;
}

stands_not : (e : Errand) (settings : Settings) (log : Log) → may_call (state_of (past settings log)) ≡ false
    → (call : origin.Call) → IsNextCall e settings log call → ⊥
stands_not e settings log f call n = true≢false (sym n.stands ∙ f)

init_next : (e : Errand) (settings : Settings) (log : Log) → 0 < e.window → AtFresh e settings log → is_fresh (state_of (past settings log)) ≡ true
    → IsNextCall e settings log origin.Init
init_next e settings log lo a t =
    let least = λ (b : Operation) (h : IsDue e.wanted e.step [] b). let z : 0 ≤ start_of b = omega arith in z in
    record {
      stands = ap (λ b. b || is_ready (state_of (past settings log))) t;
      of = tt;
      numbered = tt;
      next = subst (λ ev. IsNextEvent e.wanted e.step (room_in e.window (past settings log)) ev (RequestSent plan.Init)) (sym a.events)
          ((first, λ i. i), room_some e.window (past settings log) lo, least);
    }

search_next : (e : Errand) (settings : Settings) (log : Log) (present three : Bool) → 0 < e.window → (a : AtOpened e settings log present three)
    → a.search ≡ true → is_ready (state_of (past settings log)) ≡ true → IsNextCall e settings log (origin.Search 1 1 e.ask)
search_next e settings log present three lo a t rd =
    let least = λ (b : Operation) (h : IsDue e.wanted e.step (opened_events true three) b). let z : 0 ≤ start_of b = omega arith in z in
    let unasked = λ (i : IsIn plan.Search (asked_in (opened_events true three))). let r : ⊥ = elim i [ inl q ↦ absurd (cc) | inr j ↦ j ] in r in
    record {
      stands = call_ready (state_of (past settings log)) rd;
      of = (refl, refl);
      numbered = refl;
      next = subst (λ ev. IsNextEvent e.wanted e.step (room_in e.window (past settings log)) ev (RequestSent plan.Search))
          (sym (a.events ∙ ap (λ b. opened_events b three) t))
          ((search three first refl, unasked), room_some e.window (past settings log) lo, least);
    }

offer_search : DueLaws → (e : Errand) (settings : Settings) (log : Log) (d : DriverState) → IsDriver e settings log d → (present three : Bool)
    → d.phase ≡ phases.Opened present three → AtOpened e settings log present three → is_ready (state_of (past settings log)) ≡ true
    → IsOffer e settings log d (origin.Search 1 1 e.ask)
offer_search due e settings log d k present three is a rd = record {
  knows = k;
  steers = by (refusal (standing (past settings log)) (origin.Search 1 1 e.ask)) refl;
  offered = (present, three, is, rd, refl, refl, refl);
}
  where
    by : (r : Option CallRefused) → refusal (standing (past settings log)) (origin.Search 1 1 e.ask) ≡ r
        → IsSteeredCall e settings log r (origin.Search 1 1 e.ask)
    by None q = (search_next e settings log present three k.room a (sym (a.can rd) ∙ ap is_none q) rd, tt)
    by (Some reason) q = (due.skips e settings log d present three reason k is rd q, (refl, refl), refl)

-- if nothing is due, only Close is next, and only if no operation is outstanding
unsent_next : (e : Errand) (settings : Settings) (log : Log) → ((b : Operation) → IsDue e.wanted e.step (events_at e settings log) b → ⊥)
    → (outstanding_in (events_at e settings log) ≡ 0 → ⊥) → (call : origin.Call) → IsNextCall e settings log call → ⊥
unsent_next e settings log none some call n =
    none_next e.wanted e.step (room_in e.window (past settings log)) (events_at e settings log) none some (plan_of call) n.next

close_next : (e : Errand) (settings : Settings) (log : Log) → is_ready (state_of (past settings log)) ≡ true
    → IsNextEvent e.wanted e.step (room_in e.window (past settings log)) (events_at e settings log) CloseSent → IsNextCall e settings log origin.Close
close_next e settings log rd n = record { stands = call_ready (state_of (past settings log)) rd; of = tt; numbered = tt; next = n }

opening_none : (e : Errand) (settings : Settings) (log : Log) → AtOpening e settings log → (call : origin.Call) → IsNextCall e settings log call → ⊥
opening_none e settings log a = unsent_next e settings log
    (subst (λ ev. (b : Operation) → IsDue e.wanted e.step ev b → ⊥) (sym a.events)
    (none_due e.wanted e.step (RequestSent plan.Init ∷ []) (inl refl) (λ t q. absurd (cc)) (λ c q. absurd (cc)) (λ l m q. absurd (cc))))
    (λ z. let o : 1 ≡ 0 = sym (ap outstanding_in a.events) ∙ z in absurd (omega (arith, o)))

searching_none : (e : Errand) (settings : Settings) (log : Log) (present three : Bool) → AtSearching e settings log present three
    → (call : origin.Call) → IsNextCall e settings log call → ⊥
searching_none e settings log present three a = unsent_next e settings log
    (subst (λ ev. (b : Operation) → IsDue e.wanted e.step ev b → ⊥) (sym a.events)
    (none_due e.wanted e.step (RequestSent plan.Search ∷ opened_events true three) (inr (inl refl)) (λ t q. inl refl) (λ c q. absurd (cc)) (λ l m q. absurd (cc))))
    (λ z. let o : 1 ≡ 0 = sym (ap outstanding_in a.events) ∙ z in absurd (omega (arith, o)))

-- ---- while Presents are asked for

none_asked : (e : Errand) (settings : Settings) (log : Log) (a : Agenda) → AtAsking e settings log a → a.due ≡ []
    → (b : Operation) → IsDue e.wanted e.step (events_at e settings log) b → ⊥
none_asked e settings log a k none plan.Init h = h.1 k.init
none_asked e settings log a k none plan.Search h = h.1 k.search
none_asked e settings log a k none (plan.Present l) h = subst (IsIn l) none (k.agenda.all l h)

asking_none : (e : Errand) (settings : Settings) (log : Log) (a : Agenda) (room : ℕ) → 0 < e.window → AtAsking e settings log a
    → room_in e.window (past settings log) ≡ room → NextAskedResult room a None → (call : origin.Call) → IsNextCall e settings log call → ⊥
asking_none e settings log a room lo k r (inl full) call n =
    full_next e.wanted e.step (room_in e.window (past settings log)) (events_at e settings log) (room_some e.window (past settings log) lo)
    (let o = k.outstanding in omega (arith, o, r, full)) (plan_of call) n.next
asking_none e settings log a room lo k r (inr x) call n =
    unsent_next e settings log (none_asked e settings log a k x.0) (λ z. let o = k.outstanding in let lt = x.1 in absurd (omega (arith, o, z, lt))) call n

present_next : NextLaws → (e : Errand) (settings : Settings) (log : Log) (a : Agenda) (room : ℕ) (call : origin.Call) → IsWanted e.wanted → 0 < e.step
    → IsDriven e.wanted e.step (events_at e settings log) → AtAsking e settings log a → is_ready (state_of (past settings log)) ≡ true
    → room_in e.window (past settings log) ≡ room → (x : IsFirstPresent room a call)
    → IsNextCall e settings log (origin.Present (first_of (positions x.ranges) + 1) 1 x.ranges)
present_next next e settings log a room call w lo driven k rd r x = record {
  stands = call_ready (state_of (past settings log)) rd;
  of = refl;
  numbered = refl;
  next = next.asks e.wanted e.step (room_in e.window (past settings log)) (events_at e settings log) a (positions x.ranges) x.others w lo driven
      k.agenda x.due (let o = k.outstanding in let f = x.fits in omega (arith, o, r, f));
}

module _ (next : NextLaws) (laws : DrivenLaws) (due : DueLaws) (bounds : BoundLaws) where
  -- the ranges of the Present can be asked for
  asks_ranges : (e : Errand) (settings : Settings) (log : Log) (d : DriverState) → IsDriver e settings log d → (a : Agenda) (room : ℕ)
      → AtAsking e settings log a → (call : origin.Call) (x : IsFirstPresent room a call)
      → IsNextCall e settings log (origin.Present (first_of (positions x.ranges) + 1) 1 x.ranges)
      → CanAskFor (force_after (opening (past settings log))).v3 x.ranges
  asks_ranges e settings log d k a room at call x n =
      let short : length (positions x.ranges) ≤ e.step =
      bounds.lists e.wanted e.step (replies_in (events_at e settings log)) (positions x.ranges) n.next.0.0 in
      let few = few_ranges x.ranges x.asked in
      let most = k.fit.most in
      record { ascend = x.asked; few = omega (arith, few, short, most); single = λ v. x.single (sym at.set.version ∙ v) }

  asking_some : (e : Errand) (settings : Settings) (log : Log) (d : DriverState) → IsDriver e settings log d → (a : Agenda) (room : ℕ)
      → d.phase ≡ phases.Asking a → AtAsking e settings log a → is_ready (state_of (past settings log)) ≡ true
      → room_in e.window (past settings log) ≡ room → (call : Call) → NextAskedResult room a (Some call) → IsOffer e settings log d (call_of call)
  asking_some e settings log d k a room is at rd r call (inl x) =
      let n = present_next next e settings log a room (call_of call) k.wanted k.steps (laws.driven e.ask e.wanted e.step settings log k.driven) at rd r x in
      let admitted = due.admits e settings log d _ k n (asks_ranges e settings log d k a room at (call_of call) x n) in
      subst (IsOffer e settings log d) (sym x.is) (offer_next e settings log d k _ admitted n x.gaps (a, is, x.ready, n))
  asking_some e settings log d k a room is at rd r call (inr x) =
      let n = close_next e settings log rd (next.closes e.wanted e.step (room_in e.window (past settings log)) (events_at e settings log) a k.wanted k.steps
      at.agenda x.none at.init at.search (at.outstanding ∙ x.idle)) in
      let admitted = due.admits e settings log d origin.Close k n tt in
      subst (IsOffer e settings log d) (sym x.is) (offer_next e settings log d k origin.Close admitted n tt (inr (a, is), n))

-- ---- at each phase

abbrev GivesHere : Errand → Settings → Log → DriverState → Option Call → Type 0
GivesHere e settings log d None = IsIdleLog e settings log
GivesHere e settings log d (Some call) = IsOffer e settings log d (call_of call)

unstanding : (e : Errand) (settings : Settings) (log : Log) → HasOpening (past settings log)
    → has_room (room_for e.window (state_as (state_of (past settings log)))) ≡ false → (call : origin.Call) → IsNextCall e settings log call → ⊥
unstanding e settings log o f =
    let p = past settings log in
    stands_not e settings log (no_call (state_of p) (unfresh_at p o)
    (no_room e.window (state_of p) (unroomy (room_for e.window (state_as (state_of p))) f)))

standing_ready : (e : Errand) (settings : Settings) (log : Log) → has_room (room_for e.window (state_as (state_of (past settings log)))) ≡ true
    → is_ready (state_of (past settings log)) ≡ true
standing_ready e settings log t =
    let r = roomy (room_for e.window (state_as (state_of (past settings log)))) t in (room_at e.window (past settings log) r.0 r.1).0

no_list : {A : Type 0} {x : A} {xs : List A} → x ∷ xs ≡ [] → ⊥
no_list e = cc

pub found_some : (ask : Ask) (p : Past) (three : Bool) (count : ℕ) → HasFound ask p three count
    → flat_map search_in p.admitted ≡ [] → ⊥
found_some ask p three count h none = no_list (sym h.asked ∙ none)

-- if the search was tried and no call is next, the driver gives none
tried_rests : (e : Errand) (settings : Settings) (log : Log) → IsTried settings log
    → ((call : origin.Call) → IsNextCall e settings log call → ⊥) → IsIdleLog e settings log
tried_rests e settings log tried none = record { none = none; tried = λ f o. tried }

-- before Init was answered
unopened_rests : (e : Errand) (settings : Settings) (log : Log) → opening (past settings log) ≡ None
    → ((call : origin.Call) → IsNextCall e settings log call → ⊥) → IsIdleLog e settings log
unopened_rests e settings log n none = record { none = none; tried = λ f o. absurd (no_some (sym o.1 ∙ n)) }

-- if the search is next but no call can be made, the driver gives none
opened_rests : (e : Errand) (settings : Settings) (log : Log) (present three : Bool)
    → (a : AtOpened e settings log present three)
    → has_room (room_for e.window (state_as (state_of (past settings log)))) ≡ false → IsIdleLog e settings log
opened_rests e settings log present three a f =
    let p = past settings log in
    let closing : list_any is_close_call p.admitted ≡ false =
    closing_known e.ask settings log ∙ ap closes_in a.events in
    let unready : is_ready (state_of p) ≡ false =
    no_room e.window (state_of p) (unroomy (room_for e.window (state_as (state_of p))) f) in
    record {
      none = unstanding e settings log a.opening f;
      tried = λ going o. absurd (true≢false (sym (open_ready p a.opening closing going) ∙ unready));
    }

closed_rests : (e : Errand) (settings : Settings) (log : Log) → AtClosed e settings log → IsIdleLog e settings log
closed_rests e settings log a = record {
  none = stands_not e settings log a.closed;
  tried = λ going o. by going (is_rejected (opening (past settings log))) refl;
}
  where
    by : is_stopped (state_as (state_of (past settings log))) ≡ false → (b : Bool)
        → is_rejected (opening (past settings log)) ≡ b → IsTried settings log
    by going true t = absurd (true≢false (sym (rejected_stopped (past settings log) t) ∙ going))
    by going false t = a.tried t

given_in : NextLaws → DrivenLaws → DueLaws → BoundLaws → (e : Errand) (settings : Settings) (log : Log) (d : DriverState) → IsDriver e settings log d
    → (ph : Phase) → d.phase ≡ ph → IsAtPhase e settings log ph → (g : Option Call)
    → GiveResult e.ask e.window (state_as (state_of (past settings log))) ph g → GivesHere e settings log d g
given_in next laws due bounds e settings log d k phases.Fresh is a None g =
    let p = past settings log in
    unopened_rests e settings log a.opening (stands_not e settings log
    (no_call (state_of p) (sym (fresh_as (state_of p)) ∙ given_none (is_fresh_state (state_as (state_of p))) origin.Init g)
    (unready_at p a.opening)))
given_in next laws due bounds e settings log d k phases.Fresh is a (Some call) g =
    let p = past settings log in
    let x = given_some (is_fresh_state (state_as (state_of p))) origin.Init call g in
    let n = init_next e settings log k.room a (sym (fresh_as (state_of p)) ∙ x.0) in
    subst (IsOffer e settings log d) (sym x.1) (offer_next e settings log d k origin.Init (due.admits e settings log d origin.Init k n tt) n tt (is, n))
given_in next laws due bounds e settings log d k phases.Opening is a None g =
    unopened_rests e settings log a.opening (opening_none e settings log a)
given_in next laws due bounds e settings log d k phases.Opening is a (Some call) g = absurd (no_some g)
given_in next laws due bounds e settings log d k (phases.Opened present three) is a None g =
    opened_rests e settings log present three a
    (given_none (has_room (room_for e.window (state_as (state_of (past settings log))))) (origin.Search 1 1 e.ask) g)
given_in next laws due bounds e settings log d k (phases.Opened present three) is a (Some call) g =
    let x = given_some (has_room (room_for e.window (state_as (state_of (past settings log))))) (origin.Search 1 1 e.ask) call g in
    subst (IsOffer e settings log d) (sym x.1) (offer_search due e settings log d k present three is a (standing_ready e settings log x.0))
given_in next laws due bounds e settings log d k (phases.Searching present three) is a None g =
    tried_rests e settings log (inl (λ none. no_list (sym a.search ∙ none))) (searching_none e settings log present three a)
given_in next laws due bounds e settings log d k (phases.Searching present three) is a (Some call) g = absurd (no_some g)
given_in next laws due bounds e settings log d k (phases.Counted three count) is a g x = absurd x
given_in next laws due bounds e settings log d k (phases.Asking agenda) is a g x = by (room_for e.window (state_as (state_of (past settings log)))) refl g x
  where
    tried : IsTried settings log
    tried = inl (found_some e.ask (past settings log) agenda.three a.count a.set)

    by : (o : Option ℕ) → room_for e.window (state_as (state_of (past settings log))) ≡ o → (g : Option Call) → IsGivenInRoom o agenda g → GivesHere e settings log d g
    by None q None x = tried_rests e settings log tried (unstanding e settings log a.opening (ap has_room q))
    by None q (Some call) x = absurd (no_some x)
    by (Some room) q None x =
        tried_rests e settings log tried
        (asking_none e settings log agenda room k.room a (room_at e.window (past settings log) room q).1 x)
    by (Some room) q (Some call) x =
        let r = room_at e.window (past settings log) room q in asking_some next laws due bounds e settings log d k agenda room is a r.0 r.1 call x
given_in next laws due bounds e settings log d k phases.Done is a None g =
    tried_rests e settings log a.tried (unstanding e settings log a.opening
    (given_none (has_room (room_for e.window (state_as (state_of (past settings log))))) origin.Close g))
given_in next laws due bounds e settings log d k phases.Done is a (Some call) g =
    let x = given_some (has_room (room_for e.window (state_as (state_of (past settings log))))) origin.Close call g in
    let n = close_next e settings log (standing_ready e settings log x.0) (a.none, a.outstanding) in
    subst (IsOffer e settings log d) (sym x.1) (offer_next e settings log d k origin.Close (due.admits e settings log d origin.Close k n tt) n tt (inl is, n))
given_in next laws due bounds e settings log d k phases.Closed is a None g = closed_rests e settings log a
given_in next laws due bounds e settings log d k phases.Closed is a (Some call) g = absurd (no_some g)

-- the call that is given at the phase is next
pub gives : NextLaws → DrivenLaws → DueLaws → BoundLaws → (d : DriverState) (state : State) (g : Option Call) → GiveResult d.errand.ask d.errand.window state d.phase g
    → NextCallResult state g d
gives next laws due bounds d state None x = λ e settings log k s. given_in next laws due bounds e settings log d k d.phase refl k.at None
    (subst (λ z. GiveResult e.ask e.window z d.phase None) s (subst (λ z. GiveResult z.ask z.window state d.phase None) k.errand x))
gives next laws due bounds d state (Some call) x = λ e settings log k s. given_in next laws due bounds e settings log d k d.phase refl k.at (Some call)
    (subst (λ z. GiveResult e.ask e.window z d.phase (Some call)) s (subst (λ z. GiveResult z.ask z.window state d.phase (Some call)) k.errand x))
