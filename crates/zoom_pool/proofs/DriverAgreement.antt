-- The driver of a connection still agrees with its log after one more entry.
use Rattle.std.proofs.Common.{◌≡◌, ◌≢◌, inl, inr, ℕ, ◌+◌, ◌-◌, ◌<◌, ◌≤◌, Bool, true, false, cond, List, [], ◌∷◌, ◌++◌, map, length, Option, None, Some, Ok, Err, refl, sym, ap, subst, ◌∙◌, arith, true≢false, append-nil}
use Rattle.std.specs.Prelude.{◌||◌, is_none}
use Rattle.std.specs.List.{list_any, find, flat_map}
use Rattle.std.proofs.lemmas.Grind.{flat_map-append}
use Rattle.zapdu.specs.declared.apdu.Apdu.{Apdu}
use Rattle.zplan.specs.Plan as plan
use Rattle.zplan.specs.Plan.{Operation, PlanEvent, RequestSent, CloseSent, IsDue, IsDriven, asked_in, replies_in, outstanding_in, start_of}
use Rattle.zplan.specs.Positions.{IsIn, IsFrom, AreAscending, IsWanted, first_of, up_to}
use Rattle.zplan.specs.Agenda.{Agenda, IsAgenda, AfterNoteSent, SameAgenda, whole_agenda}
use Rattle.zplan.specs.Laws.{AgendaLaws, NumberLaw}
use Rattle.zplan.proofs.Order.{sent_asked}
use Rattle.zorigin.specs.declared.settings.Settings.{Settings}
use Rattle.zorigin.specs.declared.settings.Ask.{Ask}
use Rattle.zplan.specs.declared.range.Range.{Range}
use Rattle.zorigin.specs.declared.answer.Taken.TheVariants as taken
use Rattle.zorigin.specs.declared.answer.Answer.{Answer}
use Rattle.zorigin.specs.declared.answer.Asked.{Asked}
use Rattle.zorigin.specs.declared.refusal.CallRefused.{CallRefused}
use Rattle.zorigin.specs.declared.refusal.CallRefused.TheVariants as reasons
use Rattle.zorigin.specs.declared.refusal.Refused.{Refused}
use Rattle.zorigin.specs.Standings.{is_ready, is_open, Standing}
use Rattle.zorigin.specs.Sending.{is_unsendable, search_request}
use Rattle.zorigin.specs.Changes.{search_asked}
use Rattle.zorigin.specs.Standings as origin
use Rattle.zplan.specs.Ranges.{positions}
use Rattle.zorigin.specs.Calls.{refusal, early_refusal, or_unsendable}
use Rattle.zorigin.specs.Replies.{verdict}
use Rattle.zorigin.specs.Log.{Log, Made, Got, Past, past, standing, state_of, state_from, opening, force_after, is_close_call, is_init_call, admit, admit_unless, after_verdict, is_opening, is_answer_to, operation_of, search_in}
use Rattle.zoom_pool.specs.declared.phase.Phase.{Phase}
use Rattle.zoom_pool.specs.declared.phase.Phase.TheVariants as phases
use Rattle.zoom_pool.specs.Driving.{plan_of, operation_for, events_of, made_event, got_event, can_search, can_present, IsDueEvent, IsDueCall, DrivenLaws}
use Rattle.zoom_pool.specs.Steering.{Errand, IsNextCall, IsSteeredCall, is_skip, may_call, skipped_in, complete_in, is_rejected, room_in, IsTried}
use Rattle.zoom_pool.specs.Drivers.{DriverState, IsDriver, IsAtPhase, AtFresh, AtOpened, AtCounted, AtAsking, AtDone, AtClosed, HasOpening, AllAnswered, IsFreeStart, HaveApartStarts, events_at, opened_events, searched_events, found_events, left_in, SameDriver, IsOffer, IsPrepared, PrepareStep, IsSamePhase, IsSentAgenda, PhaseAfterCall, NoteSentStep, NoteRefusedStep, RefusedLaw, HasVersion, CanBeSent, HasFound}
use Rattle.zoom_pool.proofs.Phases.{uncallable, any_last, none_due, length_put, apart_put}
use Rattle.zoom_pool.proofs.Nexts.{room_few, found_some}
use Rattle.zoom_pool.proofs.Drivings.{sent_known}

no_some : {A : Type 0} {x : A} → Some x ≡ None → ⊥
no_some e = cc

-- ---- the same log, and another agenda

module _ (laws : AgendaLaws) (e : Errand) (settings : Settings) (log : Log) (w : IsWanted e.wanted) (lo : 0 < e.step) where
  whole : IsDriven e.wanted e.step (events_at e settings log) → (three : Bool) (count : ℕ) → AtCounted e settings log three count
      → AtAsking e settings log (whole_agenda three e.step (up_to count e.wanted))
  whole driven three count a =
      let d : IsDriven e.wanted e.step (found_events three count) = subst (IsDriven e.wanted e.step) a.events driven in
      record {
        agenda = subst (λ ev. IsAgenda e.wanted e.step ev (whole_agenda three e.step (up_to count e.wanted))) (sym a.events)
            (laws.starts e.wanted e.step three (searched_events three) count w lo d.2 (inl refl) refl refl);
        init = subst (λ ev. IsIn plan.Init (asked_in ev)) (sym a.events) (inr (inl refl));
        search = subst (λ ev. IsIn plan.Search (asked_in ev)) (sym a.events) (inl refl);
        opened = λ q. no_some (sym (ap (λ ev. replies_in ev plan.Init) a.events) ∙ q);
        count = count;
        found = ap (λ ev. replies_in ev plan.Search) a.events;
        set = a.set;
        outstanding = ap outstanding_in a.events;
        apart = tt;
        opening = a.opening;
      }

  prepared : IsDriven e.wanted e.step (events_at e settings log) → (old new : Phase) → IsPrepared e.wanted e.step old new → IsAtPhase e settings log old
      → IsAtPhase e settings log new × (left_in e.window old ≡ left_in e.window new)
  prepared driven phases.Fresh new p a = (subst (IsAtPhase e settings log) (sym p) a, ap (left_in e.window) (sym p))
  prepared driven phases.Opening new p a = (subst (IsAtPhase e settings log) (sym p) a, ap (left_in e.window) (sym p))
  prepared driven (phases.Opened present three) new p a = (subst (IsAtPhase e settings log) (sym p) a, ap (left_in e.window) (sym p))
  prepared driven (phases.Searching present three) new p a = (subst (IsAtPhase e settings log) (sym p) a, ap (left_in e.window) (sym p))
  prepared driven (phases.Counted three count) new p a = (
    subst (IsAtPhase e settings log) (sym p) (whole driven three count a),
    (let z : e.window + 2 ≡ e.window + 2 - 0 = omega arith in z) ∙ ap (left_in e.window) (sym p),
  )
  prepared driven (phases.Asking agenda) new p a = (subst (IsAtPhase e settings log) (sym p) a, ap (left_in e.window) (sym p))
  prepared driven phases.Done new p a = (subst (IsAtPhase e settings log) (sym p) a, ap (left_in e.window) (sym p))
  prepared driven phases.Closed new p a = (subst (IsAtPhase e settings log) (sym p) a, ap (left_in e.window) (sym p))

  same_agenda : (a b : Agenda) → SameAgenda a b → AtAsking e settings log a → AtAsking e settings log b
  same_agenda a b s k = record {
    agenda = laws.stays e.wanted e.step (events_at e settings log) a b w lo k.agenda s;
    init = k.init;
    search = k.search;
    opened = k.opened;
    count = k.count;
    found = k.found;
    set = subst (λ t. HasFound e.ask (past settings log) t k.count) (sym s.three) k.set;
    outstanding = k.outstanding ∙ ap length (sym s.waiting);
    apart = subst HaveApartStarts (sym s.waiting) k.apart;
    opening = k.opening;
  }

same_left : (window : ℕ) (old new : Phase) → IsSamePhase old new → left_in window new ≡ left_in window old
same_left window phases.Fresh new p = ap (left_in window) p
same_left window phases.Opening new p = ap (left_in window) p
same_left window (phases.Opened present three) new p = ap (left_in window) p
same_left window (phases.Searching present three) new p = ap (left_in window) p
same_left window (phases.Counted three count) new p = ap (left_in window) p
same_left window (phases.Asking a) (phases.Asking b) p = ap (λ n. window + 2 - n) (ap length p.waiting)
same_left window (phases.Asking a) phases.Fresh p = absurd p
same_left window (phases.Asking a) phases.Opening p = absurd p
same_left window (phases.Asking a) (phases.Opened present three) p = absurd p
same_left window (phases.Asking a) (phases.Searching present three) p = absurd p
same_left window (phases.Asking a) (phases.Counted three count) p = absurd p
same_left window (phases.Asking a) phases.Done p = absurd p
same_left window (phases.Asking a) phases.Closed p = absurd p
same_left window phases.Done new p = ap (left_in window) p
same_left window phases.Closed new p = ap (left_in window) p

same_at : AgendaLaws → (e : Errand) (settings : Settings) (log : Log) → IsWanted e.wanted → 0 < e.step → (old new : Phase) → IsSamePhase old new
    → IsAtPhase e settings log old → IsAtPhase e settings log new
same_at laws e settings log w lo phases.Fresh new p a = subst (IsAtPhase e settings log) (sym p) a
same_at laws e settings log w lo phases.Opening new p a = subst (IsAtPhase e settings log) (sym p) a
same_at laws e settings log w lo (phases.Opened present three) new p a = subst (IsAtPhase e settings log) (sym p) a
same_at laws e settings log w lo (phases.Searching present three) new p a = subst (IsAtPhase e settings log) (sym p) a
same_at laws e settings log w lo (phases.Counted three count) new p a = subst (IsAtPhase e settings log) (sym p) a
same_at laws e settings log w lo (phases.Asking a) (phases.Asking b) p k = same_agenda laws e settings log w lo a b p k
same_at laws e settings log w lo (phases.Asking a) phases.Fresh p k = absurd p
same_at laws e settings log w lo (phases.Asking a) phases.Opening p k = absurd p
same_at laws e settings log w lo (phases.Asking a) (phases.Opened present three) p k = absurd p
same_at laws e settings log w lo (phases.Asking a) (phases.Searching present three) p k = absurd p
same_at laws e settings log w lo (phases.Asking a) (phases.Counted three count) p k = absurd p
same_at laws e settings log w lo (phases.Asking a) phases.Done p k = absurd p
same_at laws e settings log w lo (phases.Asking a) phases.Closed p k = absurd p
same_at laws e settings log w lo phases.Done new p a = subst (IsAtPhase e settings log) (sym p) a
same_at laws e settings log w lo phases.Closed new p a = subst (IsAtPhase e settings log) (sym p) a

-- an agenda was made, and what is due first was cut off: the driver still agrees with the log
pub stays : AgendaLaws → DrivenLaws → (old mid new : DriverState) → PrepareStep old mid → IsSamePhase mid.phase new.phase
    → new.errand ≡ mid.errand → new.skipped ≡ mid.skipped → new.complete ≡ mid.complete
    → mid.left ≡ left_in mid.errand.window mid.phase → new.left ≡ left_in new.errand.window new.phase → SameDriver old new
stays laws driven old mid new p s er sk co l m =
    let kept : new.left ≡ mid.left =
    m ∙ ap (λ z. left_in z.window new.phase) er ∙ same_left mid.errand.window mid.phase new.phase s ∙ sym l in
    let left : new.left ≡ old.left = kept ∙ p.left in (
      λ e settings log k.
          let r = prepared laws e settings log k.wanted k.steps (driven.driven e.ask e.wanted e.step settings log k.driven) old.phase mid.phase
          (subst (λ z. IsPrepared z.wanted z.step old.phase mid.phase) k.errand p.phase) k.at in
          record {
            steered = k.steered;
            driven = k.driven;
            errand = er ∙ p.errand ∙ k.errand;
            fit = k.fit;
            wanted = k.wanted;
            steps = k.steps;
            room = k.room;
            skipped = sk ∙ p.skipped ∙ k.skipped;
            complete = co ∙ p.complete ∙ k.complete;
            left = left ∙ k.left ∙ r.1 ∙ sym (same_left e.window mid.phase new.phase s);
            few = subst (λ n. n ≤ 3 + e.window) (sym left) k.few;
            at = same_at laws e settings log k.wanted k.steps mid.phase new.phase s r.0;
          },
      left,
    )

-- ---- one more entry that changes little

-- the events are the same, and no more calls can be made than before
record Moved (e : Errand) (settings : Settings) (log more : Log) : Type 0 where
  events : events_at e settings more ≡ events_at e settings log
  admitted : (past settings more).admitted ≡ (past settings log).admitted
  accepted : (past settings more).accepted ≡ (past settings log).accepted
  can : is_ready (state_of (past settings more)) ≡ true
      → (is_ready (state_of (past settings log)) ≡ true) × (can_search e.ask (past settings more) ≡ can_search e.ask (past settings log))
  closed : may_call (state_of (past settings log)) ≡ false → may_call (state_of (past settings more)) ≡ false
  skipped : skipped_in settings log ≡ true → skipped_in settings more ≡ true

same_opening : (p q : Past) → q.accepted ≡ p.accepted → opening q ≡ opening p
same_opening p q h = ap (find is_opening) h

still : (e : Errand) (settings : Settings) (log more : Log) → Moved e settings log more → HasOpening (past settings log) → HasOpening (past settings more)
still e settings log more m o = (o.0, same_opening (past settings log) (past settings more) m.accepted ∙ o.1)

pub same_present : (p q : Past) (present : Bool) → opening q ≡ opening p → can_present p ≡ present → can_present q ≡ present
same_present p q present o h = ap (λ a. (force_after a).present) o ∙ h

pub same_version : (p q : Past) (three : Bool) → opening q ≡ opening p → HasVersion p three → HasVersion q three
same_version p q three o h = ap (λ a. (force_after a).v3) o ∙ h

pub same_sending : (ask : Ask) (p q : Past) → opening q ≡ opening p → CanBeSent ask p → CanBeSent ask q
same_sending ask p q o h = subst (λ a. is_unsendable (search_request (force_after a).named 1 1 ask) ≡ false) (sym o) h

-- what the search found is unchanged while no other search is admitted
pub same_found : (ask : Ask) (p q : Past) (three : Bool) (count : ℕ) → flat_map search_in q.admitted ≡ flat_map search_in p.admitted
    → (x : Answer) → find (is_answer_to 1) q.accepted ≡ Some x → (h : HasFound ask p three count) → x ≡ h.answer
    → opening q ≡ opening p → HasFound ask q three count
same_found ask p q three count asked x answered h is o = record {
  asked = asked ∙ h.asked;
  answer = h.answer;
  answered = answered ∙ ap (λ z. Some z) is;
  found = h.found;
  outcome = h.outcome;
  counts = h.counts;
  shows = same_present p q true o h.shows;
  version = same_version p q three o h.version;
  sendable = same_sending ask p q o h.sendable;
}

-- the same calls were admitted, and the same replies accepted
pub kept_found : (ask : Ask) (p q : Past) (three : Bool) (count : ℕ) → flat_map search_in q.admitted ≡ flat_map search_in p.admitted
    → q.accepted ≡ p.accepted → HasFound ask p three count → HasFound ask q three count
kept_found ask p q three count asked accepted h =
    same_found ask p q three count asked h.answer (ap (find (is_answer_to 1)) accepted ∙ h.answered) h refl (same_opening p q accepted)

moved_found : (e : Errand) (settings : Settings) (log more : Log) → Moved e settings log more → (three : Bool) (count : ℕ)
    → HasFound e.ask (past settings log) three count → HasFound e.ask (past settings more) three count
moved_found e settings log more m three count h =
    kept_found e.ask (past settings log) (past settings more) three count (ap (flat_map search_in) m.admitted) m.accepted h

still_tried : (e : Errand) (settings : Settings) (log more : Log) → Moved e settings log more → IsTried settings log
    → IsTried settings more
still_tried e settings log more m (inl some) = inl (λ none. some (sym (ap (flat_map search_in) m.admitted) ∙ none))
still_tried e settings log more m (inr t) = inr (m.skipped t)

moved_at : (e : Errand) (settings : Settings) (log more : Log) → Moved e settings log more → (ph : Phase) → IsAtPhase e settings log ph → IsAtPhase e settings more ph
moved_at e settings log more m phases.Fresh a = record {
  events = m.events ∙ a.events;
  opening = same_opening (past settings log) (past settings more) m.accepted ∙ a.opening;
}
moved_at e settings log more m phases.Opening a = record {
  events = m.events ∙ a.events;
  opening = same_opening (past settings log) (past settings more) m.accepted ∙ a.opening;
}
moved_at e settings log more m (phases.Opened present three) a = record {
  search = a.search;
  events = m.events ∙ a.events;
  can = λ r. let c = m.can r in c.1 ∙ a.can c.0;
  opening = still e settings log more m a.opening;
  shows = same_present (past settings log) (past settings more) present (same_opening (past settings log) (past settings more) m.accepted) a.shows;
  version = same_version (past settings log) (past settings more) three (same_opening (past settings log) (past settings more) m.accepted) a.version;
}
moved_at e settings log more m (phases.Searching present three) a = record {
  events = m.events ∙ a.events;
  opening = still e settings log more m a.opening;
  shows = same_present (past settings log) (past settings more) present (same_opening (past settings log) (past settings more) m.accepted) a.shows;
  version = same_version (past settings log) (past settings more) three (same_opening (past settings log) (past settings more) m.accepted) a.version;
  sendable = same_sending e.ask (past settings log) (past settings more) (same_opening (past settings log) (past settings more) m.accepted) a.sendable;
  search = ap (flat_map search_in) m.admitted ∙ a.search;
}
moved_at e settings log more m (phases.Counted three count) a = record {
  events = m.events ∙ a.events;
  opening = still e settings log more m a.opening;
  set = moved_found e settings log more m three count a.set;
}
moved_at e settings log more m (phases.Asking agenda) a = record {
  agenda = subst (λ ev. IsAgenda e.wanted e.step ev agenda) (sym m.events) a.agenda;
  init = subst (λ ev. IsIn plan.Init (asked_in ev)) (sym m.events) a.init;
  search = subst (λ ev. IsIn plan.Search (asked_in ev)) (sym m.events) a.search;
  opened = subst (λ ev. replies_in ev plan.Init ≡ None → ⊥) (sym m.events) a.opened;
  count = a.count;
  found = ap (λ ev. replies_in ev plan.Search) m.events ∙ a.found;
  set = moved_found e settings log more m agenda.three a.count a.set;
  outstanding = ap outstanding_in m.events ∙ a.outstanding;
  apart = a.apart;
  opening = still e settings log more m a.opening;
}
moved_at e settings log more m phases.Done a = record {
  none = subst (λ ev. (b : Operation) → IsDue e.wanted e.step ev b → ⊥) (sym m.events) a.none;
  all = subst AllAnswered (sym m.events) a.all;
  outstanding = ap outstanding_in m.events ∙ a.outstanding;
  opening = still e settings log more m a.opening;
  tried = still_tried e settings log more m a.tried;
}
moved_at e settings log more m phases.Closed a = record {
  all = subst AllAnswered (sym m.events) a.all;
  closed = m.closed a.closed;
  opening = still e settings log more m a.opening;
  tried = λ f. still_tried e settings log more m
      (a.tried (ap is_rejected (sym (same_opening (past settings log) (past settings more) m.accepted)) ∙ f));
}

-- ---- a refused call

or_more : (a b : Bool) → b ≡ true → (a || b) ≡ true
or_more true b t = refl
or_more false b t = t

refused_moved : (e : Errand) (settings : Settings) (log : Log) (call : origin.Call) (reason : CallRefused)
    → refusal (standing (past settings log)) call ≡ Some reason → Moved e settings log (Made call ∷ log)
refused_moved e settings log call reason q =
    let same : past settings (Made call ∷ log) ≡ past settings log = ap (admit_unless (past settings log) call) q in
    record {
      events = ap (λ r. made_event r call (events_at e settings log)) q;
      admitted = ap (λ (p : Past). p.admitted) same;
      accepted = ap (λ (p : Past). p.accepted) same;
      can = λ r. (sym (ap (λ p. is_ready (state_of p)) same) ∙ r, ap (can_search e.ask) same);
      closed = λ c. ap (λ p. may_call (state_of p)) same ∙ c;
      skipped = or_more (is_skip (refusal (standing (past settings log)) call) call) (skipped_in settings log);
    }

refused_driver : (e : Errand) (settings : Settings) (log : Log) (call : origin.Call) (reason : CallRefused) (old new : DriverState)
    → IsOffer e settings log old call → refusal (standing (past settings log)) call ≡ Some reason → new.errand ≡ old.errand
    → new.skipped ≡ (is_skip (Some reason) call || old.skipped) → new.complete ≡ old.complete → new.left ≡ left_in e.window new.phase
    → new.left ≤ old.left → IsAtPhase e settings (Made call ∷ log) new.phase → IsDriver e settings (Made call ∷ log) new
refused_driver e settings log call reason old new o q er sk co l le at =
    let k = o.knows in
    let same : past settings (Made call ∷ log) ≡ past settings log = ap (admit_unless (past settings log) call) q in
    record {
      steered = (o.steers, k.steered);
      driven = (subst (λ r. IsDueCall e.ask e.wanted e.step (events_at e settings log) r call) (sym q) tt, k.driven);
      errand = er ∙ k.errand;
      fit = k.fit;
      wanted = k.wanted;
      steps = k.steps;
      room = k.room;
      skipped = sk ∙ ap (λ b. is_skip (Some reason) call || b) k.skipped ∙ ap (λ r. is_skip r call || skipped_in settings log) (sym q);
      complete = co ∙ k.complete ∙ ap complete_in (sym same);
      left = l;
      few = let f = k.few in omega (arith, le, f);
      at = at;
    }

skip_made : (settings : Settings) (log : Log) (call : origin.Call) → (r : Option CallRefused)
    → refusal (standing (past settings log)) call ≡ r → is_skip r call ≡ true → skipped_in settings (Made call ∷ log) ≡ true
skip_made settings log call r q t = ap (λ z. is_skip z call || skipped_in settings log) q
    ∙ ap (λ b. b || skipped_in settings log) t

-- the search was refused: nothing more can be asked for
refused_search : (e : Errand) (settings : Settings) (log : Log) (call : origin.Call) (reason : CallRefused)
    (present three : Bool) → refusal (standing (past settings log)) call ≡ Some reason → is_skip (Some reason) call ≡ true
    → refusal (standing (past settings log)) (origin.Search 1 1 e.ask) ≡ Some reason
    → is_ready (state_of (past settings log)) ≡ true → AtOpened e settings log present three
    → AtDone e settings (Made call ∷ log)
refused_search e settings log call reason present three refused skip q rd a =
    let m = refused_moved e settings log call reason refused in
    let no : a.search ≡ false = sym (a.can rd) ∙ ap is_none q in
    let ev : events_at e settings (Made call ∷ log) ≡ opened_events false three =
    m.events ∙ a.events ∙ ap (λ b. opened_events b three) no in
    record {
      none = subst (λ z. (b : Operation) → IsDue e.wanted e.step z b → ⊥) (sym ev)
          (none_due e.wanted e.step (opened_events false three) (inl refl) (λ t x. absurd (cc)) (λ c x. absurd (cc)) (λ l m x. absurd (cc)));
      all = subst AllAnswered (sym ev) answered;
      outstanding = ap outstanding_in ev;
      opening = still e settings log (Made call ∷ log) m a.opening;
      tried = inr (skip_made settings log call (Some reason) refused skip);
    }
  where
    answered : AllAnswered (opened_events false three)
    answered b (inl i) x = no_some (sym (ap (replies_in (opened_events false three)) i) ∙ x)
    answered b (inr i) x = i

-- ---- why a call was refused

unskipped_init : (reason : CallRefused) → is_skip (Some reason) origin.Init ≡ false
unskipped_init reasons.WrongState = refl
unskipped_init reasons.NotOffered = refl
unskipped_init reasons.OpUsed = refl
unskipped_init reasons.SetUsed = refl
unskipped_init reasons.SetUnknown = refl
unskipped_init reasons.SetNotReady = refl
unskipped_init reasons.SetReplaced = refl
unskipped_init reasons.OutOfRange = refl
unskipped_init reasons.Busy = refl
unskipped_init reasons.Unsendable = refl
unskipped_init reasons.Memory = refl

unskipped_present : (reason : CallRefused) (op set : ℕ) (ranges : List Range) → is_skip (Some reason) (origin.Present op set ranges) ≡ false
unskipped_present reasons.WrongState op set ranges = refl
unskipped_present reasons.NotOffered op set ranges = refl
unskipped_present reasons.OpUsed op set ranges = refl
unskipped_present reasons.SetUsed op set ranges = refl
unskipped_present reasons.SetUnknown op set ranges = refl
unskipped_present reasons.SetNotReady op set ranges = refl
unskipped_present reasons.SetReplaced op set ranges = refl
unskipped_present reasons.OutOfRange op set ranges = refl
unskipped_present reasons.Busy op set ranges = refl
unskipped_present reasons.Unsendable op set ranges = refl
unskipped_present reasons.Memory op set ranges = refl

unskipped_close : (reason : CallRefused) → is_skip (Some reason) origin.Close ≡ false
unskipped_close reasons.WrongState = refl
unskipped_close reasons.NotOffered = refl
unskipped_close reasons.OpUsed = refl
unskipped_close reasons.SetUsed = refl
unskipped_close reasons.SetUnknown = refl
unskipped_close reasons.SetNotReady = refl
unskipped_close reasons.SetReplaced = refl
unskipped_close reasons.OutOfRange = refl
unskipped_close reasons.Busy = refl
unskipped_close reasons.Unsendable = refl
unskipped_close reasons.Memory = refl

-- the origin refused the search
skipped_by : (op set : ℕ) (ask : Ask) (reason : CallRefused) (old new : DriverState) → new.errand ≡ old.errand → new.phase ≡ phases.Done
    → new.skipped ≡ (is_skip (Some reason) (origin.Search op set ask) || old.skipped) → new.complete ≡ old.complete
    → new.left ≡ left_in new.errand.window new.phase → (e : Errand) (settings : Settings) (log : Log)
    → IsOffer e settings log old (origin.Search op set ask)
    → refusal (standing (past settings log)) (origin.Search op set ask) ≡ Some reason
    → is_skip (Some reason) (origin.Search op set ask) ≡ true
    → IsDriver e settings (Made (origin.Search op set ask) ∷ log) new × (new.left < old.left)
skipped_by op set ask reason old new er ph sk co l e settings log o q t =
    let k = o.knows in let f = o.offered in
    let was : old.left ≡ 2 = k.left ∙ ap (left_in e.window) f.2 in
    let is : new.left ≡ 1 = l ∙ ap (left_in new.errand.window) ph in
    let a : IsAtPhase e settings log (phases.Opened f.0 f.1) = subst (IsAtPhase e settings log) f.2 k.at in
    let c : origin.Search op set ask ≡ origin.Search 1 1 e.ask = search_same op set ask e.ask f.4 f.5 f.6 in
    let r : refusal (standing (past settings log)) (origin.Search 1 1 e.ask) ≡ Some reason = ap (refusal (standing (past settings log))) (sym c) ∙ q in
    let done : AtDone e settings (Made (origin.Search op set ask) ∷ log) =
    refused_search e settings log (origin.Search op set ask) reason f.0 f.1 q t r f.3 a in (
      refused_driver e settings log (origin.Search op set ask) reason old new o q er sk co (l ∙ ap (λ z. left_in z.window new.phase) (er ∙ k.errand))
          (omega (arith, was, is)) (subst (IsAtPhase e settings (Made (origin.Search op set ask) ∷ log)) (sym ph) done),
      omega (arith, was, is),
    )
  where
    search_same : (op set : ℕ) (a b : Ask) → op ≡ 1 → set ≡ 1 → a ≡ b → origin.Search op set a ≡ origin.Search 1 1 b
    search_same op set a b p q r = cc

-- the origin refused the call, so it was the search
pub knows_refused : (old new : DriverState) → new.errand ≡ old.errand → new.phase ≡ phases.Done → new.skipped ≡ true
    → new.complete ≡ old.complete → new.left ≡ left_in new.errand.window new.phase → NoteRefusedStep old new
knows_refused old new er ph sk co l e settings log call reason o q = by call o q (subst (λ r. IsSteeredCall e settings log r call) q o.steers).0
  where
    by : (call : origin.Call) → IsOffer e settings log old call → refusal (standing (past settings log)) call ≡ Some reason
        → is_skip (Some reason) call ≡ true → IsDriver e settings (Made call ∷ log) new × (new.left < old.left)
    by (origin.Search op set ask) o q t =
        skipped_by op set ask reason old new er ph (sk ∙ ap (λ b. b || old.skipped) (sym t)) co l e settings log o q t
    by origin.Init o q t = absurd (true≢false (sym t ∙ unskipped_init reason))
    by (origin.Present op set ranges) o q t = absurd (true≢false (sym t ∙ unskipped_present reason op set ranges))
    by origin.Close o q t = absurd (true≢false (sym t ∙ unskipped_close reason))

-- ---- a reply that is refused

refused_complete : (p : Past) (reason : Refused) → complete_in (after_verdict p (Err reason)) ≡ complete_in p
refused_complete p reason = elim (is_open (state_of p)) as (λ b. complete_in (cond b (record p { fault = Some reason }) p) ≡ complete_in p) [ true ↦ refl | false ↦ refl ]

refused_admitted : (p : Past) (reason : Refused) → (after_verdict p (Err reason)).admitted ≡ p.admitted
refused_admitted p reason = elim (is_open (state_of p)) as (λ b. (cond b (record p { fault = Some reason }) p).admitted ≡ p.admitted) [ true ↦ refl | false ↦ refl ]

refused_accepted : (p : Past) (reason : Refused) → (after_verdict p (Err reason)).accepted ≡ p.accepted
refused_accepted p reason = elim (is_open (state_of p)) as (λ b. (cond b (record p { fault = Some reason }) p).accepted ≡ p.accepted) [ true ↦ refl | false ↦ refl ]

refused_can : (ask : Ask) (p : Past) (reason : Refused) → is_ready (state_of (after_verdict p (Err reason))) ≡ true
    → (is_ready (state_of p) ≡ true) × (can_search ask (after_verdict p (Err reason)) ≡ can_search ask p)
refused_can ask p reason = elim (is_open (state_of p)) as (λ b. is_ready (state_of (cond b (record p { fault = Some reason }) p)) ≡ true
    → (is_ready (state_of p) ≡ true) × (can_search ask (cond b (record p { fault = Some reason }) p) ≡ can_search ask p)) [
      | true ↦ λ r. absurd (true≢false (sym r))
      | false ↦ λ r. (r, refl)
    ]

refused_closed : (p : Past) (reason : Refused) → may_call (state_of p) ≡ false → may_call (state_of (after_verdict p (Err reason))) ≡ false
refused_closed p reason c = elim (is_open (state_of p)) as (λ b. may_call (state_of (cond b (record p { fault = Some reason }) p)) ≡ false) [ true ↦ refl | false ↦ c ]

pub refused_reply : RefusedLaw
refused_reply = λ e settings log d reply reason k q.
    let p = past settings log in
    let same : past settings (Got reply ∷ log) ≡ after_verdict p (Err reason) = ap (after_verdict p) q in
    let moved : Moved e settings log (Got reply ∷ log) = record {
      events = ap (λ v. got_event e.ask (past settings (Got reply ∷ log)) v (events_at e settings log)) q;
      admitted = ap (λ (z : Past). z.admitted) same ∙ refused_admitted p reason;
      accepted = ap (λ (z : Past). z.accepted) same ∙ refused_accepted p reason;
      can = subst (λ z. is_ready (state_of z) ≡ true → (is_ready (state_of p) ≡ true) × (can_search e.ask z ≡ can_search e.ask p)) (sym same)
          (refused_can e.ask p reason);
      closed = λ c. ap (λ z. may_call (state_of z)) same ∙ refused_closed p reason c;
      skipped = λ t. t;
    } in
    record {
      steered = k.steered;
      driven = k.driven;
      errand = k.errand;
      fit = k.fit;
      wanted = k.wanted;
      steps = k.steps;
      room = k.room;
      skipped = k.skipped;
      complete = k.complete ∙ sym (ap complete_in same ∙ refused_complete p reason);
      left = k.left;
      few = k.few;
      at = moved_at e settings log (Got reply ∷ log) moved d.phase k.at;
    }

-- the target closed the connection
pub closed_reply : (e : Errand) (settings : Settings) (log : Log) (d : DriverState) (reply : Apdu) → IsDriver e settings log d
    → verdict (standing (past settings log)) reply ≡ Ok taken.Closed → IsDriver e settings (Got reply ∷ log) d
closed_reply e settings log d reply k q =
    let p = past settings log in
    let same : past settings (Got reply ∷ log) ≡ record p { closed = true } = ap (after_verdict p) q in
    let moved : Moved e settings log (Got reply ∷ log) = record {
      events = ap (λ v. got_event e.ask (past settings (Got reply ∷ log)) v (events_at e settings log)) q;
      admitted = ap (λ (z : Past). z.admitted) same;
      accepted = ap (λ (z : Past). z.accepted) same;
      can = λ r. absurd (true≢false (sym r ∙ ap (λ z. is_ready (state_of z)) same ∙ closed_ready p.fault (list_any is_close_call p.admitted) (list_any is_init_call p.admitted) (opening p)));
      closed = λ c. ap (λ z. may_call (state_of z)) same ∙ closed_call p.fault (list_any is_close_call p.admitted) (list_any is_init_call p.admitted) (opening p);
      skipped = λ t. t;
    } in
    record {
      steered = k.steered;
      driven = k.driven;
      errand = k.errand;
      fit = k.fit;
      wanted = k.wanted;
      steps = k.steps;
      room = k.room;
      skipped = k.skipped;
      complete = k.complete ∙ ap complete_in (sym same);
      left = k.left;
      few = k.few;
      at = moved_at e settings log (Got reply ∷ log) moved d.phase k.at;
    }
  where
    closed_ready : (fault : Option Refused) (closing begun : Bool) (a : Option Answer) → is_ready (state_from fault true closing begun a) ≡ false
    closed_ready None closing begun a = refl
    closed_ready (Some r) closing begun a = refl

    closed_call : (fault : Option Refused) (closing begun : Bool) (a : Option Answer) → may_call (state_from fault true closing begun a) ≡ false
    closed_call None closing begun a = refl
    closed_call (Some r) closing begun a = refl

-- ---- an admitted call

sent_driver : (e : Errand) (settings : Settings) (log : Log) (call : origin.Call) (old new : DriverState) → IsOffer e settings log old call
    → refusal (standing (past settings log)) call ≡ None → IsNextCall e settings log call
    → IsDueEvent e.ask e.wanted e.step (events_at e settings log) (plan_of call) → new.errand ≡ old.errand → new.skipped ≡ old.skipped
    → new.complete ≡ (is_close_call call || old.complete) → new.left ≡ left_in e.window new.phase → new.left < old.left
    → IsAtPhase e settings (Made call ∷ log) new.phase → IsDriver e settings (Made call ∷ log) new × (new.left < old.left)
sent_driver e settings log call old new o q n due er sk co l lt at =
    let k = o.knows in
    let p = past settings log in
    let same : past settings (Made call ∷ log) ≡ admit p call = ap (admit_unless p call) q in
    let swap : (is_close_call call || complete_in p) ≡ complete_in (admit p call) = more (is_close_call call) (is_rejected (opening p)) (list_any is_close_call p.admitted)
    ∙ ap (λ b. is_rejected (opening p) || b) (sym (any_last p.admitted call)) in (
      record {
        steered = (o.steers, k.steered);
        driven = (subst (λ r. IsDueCall e.ask e.wanted e.step (events_at e settings log) r call) (sym q) (n.numbered, due), k.driven);
        errand = er ∙ k.errand;
        fit = k.fit;
        wanted = k.wanted;
        steps = k.steps;
        room = k.room;
        skipped = sk ∙ k.skipped ∙ ap (λ r. is_skip r call || skipped_in settings log) (sym q);
        complete = co ∙ ap (λ b. is_close_call call || b) k.complete ∙ swap ∙ ap complete_in (sym same);
        left = l;
        few = let f = k.few in omega (arith, lt, f);
        at = at;
      },
      lt,
    )
  where
    more : (c r a : Bool) → (c || (r || a)) ≡ (r || (a || c))
    more true true a = refl
    more true false true = refl
    more true false false = refl
    more false true a = refl
    more false false true = refl
    more false false false = refl

sent_events : (e : Errand) (settings : Settings) (log : Log) (call : origin.Call) → refusal (standing (past settings log)) call ≡ None
    → events_at e settings (Made call ∷ log) ≡ plan_of call ∷ events_at e settings log
sent_events e settings log call q = ap (λ r. made_event r call (events_at e settings log)) q

sent_opening : (settings : Settings) (log : Log) (call : origin.Call) → refusal (standing (past settings log)) call ≡ None
    → opening (past settings (Made call ∷ log)) ≡ opening (past settings log)
sent_opening settings log call q = ap (λ r. opening (admit_unless (past settings log) call r)) q

-- the searches that were admitted
sent_searches : (settings : Settings) (log : Log) (call : origin.Call) → refusal (standing (past settings log)) call ≡ None
    → flat_map search_in (past settings (Made call ∷ log)).admitted ≡ flat_map search_in (past settings log).admitted ++ search_in call
sent_searches settings log call q =
    ap (λ r. flat_map search_in (admit_unless (past settings log) call r).admitted) q
    ∙ flat_map-append search_in (past settings log).admitted (call ∷ [])
    ∙ ap (λ l. flat_map search_in (past settings log).admitted ++ l) (append-nil (search_in call))

some_more : {A : Type 0} (xs ys : List A) → xs ≢ [] → xs ++ ys ≢ []
some_more [] ys some = absurd (some refl)
some_more (x ∷ xs) ys some = λ none. absurd (cc)

-- a search that was tried is still tried
sent_tried : (settings : Settings) (log : Log) (call : origin.Call) → refusal (standing (past settings log)) call ≡ None
    → IsTried settings log → IsTried settings (Made call ∷ log)
sent_tried settings log call q (inl some) =
    inl (λ none. some_more (flat_map search_in (past settings log).admitted) (search_in call) some
    (sym (sent_searches settings log call q) ∙ none))
sent_tried settings log call q (inr t) =
    inr (or_more (is_skip (refusal (standing (past settings log)) call) call) (skipped_in settings log) t)

-- there is no search before one was sent
pub unsearched : (ask : Ask) (settings : Settings) (log : Log) → (IsIn plan.Search (asked_in (events_of ask settings log)) → ⊥)
    → flat_map search_in (past settings log).admitted ≡ []
unsearched ask settings log unsent = none (past settings log).admitted (λ q i. sent_known ask settings log q i)
  where
    none : (calls : List origin.Call) → ((q : Asked) → IsIn q (flat_map operation_of calls) → IsIn (operation_for q.what) (asked_in (events_of ask settings log)))
        → flat_map search_in calls ≡ []
    none [] h = refl
    none (origin.Init ∷ calls) h = none calls (λ q i. h q (inr i))
    none (origin.Search op set a ∷ calls) h = absurd (unsent (h (search_asked op set) (inl refl)))
    none (origin.Present op set ranges ∷ calls) h = none calls (λ q i. h q (inr i))
    none (origin.Close ∷ calls) h = none calls h

-- the first list of the agenda is next
first_is : (e : Errand) (events : List PlanEvent) (a b : Agenda) (l : List ℕ) → IsAgenda e.wanted e.step events a → (s : AfterNoteSent a b)
    → IsDue e.wanted e.step events (plan.Present l)
    → ((o : Operation) → IsDue e.wanted e.step events o → first_of l ≤ start_of o) → l ≡ s.list
first_is e events a b l k s due least = by (subst (IsIn l) s.due (k.all l due)) (subst (λ ls. AreAscending (map first_of ls)) s.due k.ascends)
    (least (plan.Present s.list) (k.only s.list (subst (IsIn s.list) (sym s.due) (inl refl))))
  where
    later : (low : ℕ) (ls : List (List ℕ)) → IsFrom low (map first_of ls) → (m : List ℕ) → IsIn m ls → low ≤ first_of m
    later low [] h m i = absurd i
    later low (x ∷ ls) h m (inl q) = subst (λ z. low ≤ first_of z) (sym q) h.0
    later low (x ∷ ls) h m (inr i) = later low ls h.1 m i

    by : IsIn l (s.list ∷ b.due) → AreAscending (map first_of (s.list ∷ b.due)) → first_of l ≤ first_of s.list → l ≡ s.list
    by (inl q) h le = q
    by (inr i) h le = let lt = later (first_of s.list + 1) b.due h.0 l i in absurd (omega (arith, lt, le))

sent_asking : AgendaLaws → NumberLaw → (e : Errand) (settings : Settings) (log : Log) (a b : Agenda) (op set : ℕ) (ranges : List Range) → IsWanted e.wanted → 0 < e.step
    → IsDriven e.wanted e.step (events_at e settings log) → refusal (standing (past settings log)) (origin.Present op set ranges) ≡ None
    → IsNextCall e settings log (origin.Present op set ranges) → AfterNoteSent a b → AtAsking e settings log a
    → AtAsking e settings (Made (origin.Present op set ranges) ∷ log) b
sent_asking laws number e settings log a b op set ranges w lo driven q n s k =
    let is : positions ranges ≡ s.list = first_is e (events_at e settings log) a b (positions ranges) k.agenda s n.next.0 n.next.2 in
    let ev : events_at e settings (Made (origin.Present op set ranges) ∷ log) ≡ RequestSent (plan.Present s.list) ∷ events_at e settings log =
    sent_events e settings log (origin.Present op set ranges) q ∙ ap (λ l. RequestSent (plan.Present l) ∷ events_at e settings log) is in
    let due : IsDue e.wanted e.step (events_at e settings log) (plan.Present s.list) = k.agenda.only s.list (subst (IsIn s.list) (sym s.due) (inl refl)) in
    let apart : IsFreeStart (first_of s.list) a.waiting = λ m i f.
    let was = k.agenda.asked m i in
    let same : plan.Present m ≡ plan.Present s.list = number e.wanted e.step (replies_in (events_at e settings log)) w lo (plan.Present m) (plan.Present s.list)
    (sent_asked e.wanted e.step (events_at e settings log) driven (plan.Present m) was) due.0 (ap (λ z. z + 1) f) in
    due.1 (subst (λ z. IsIn z (asked_in (events_at e settings log))) same was) in
    record {
      agenda = subst (λ z. IsAgenda e.wanted e.step z b) (sym ev) (laws.sends e.wanted e.step (events_at e settings log) a b w lo driven k.agenda s);
      init = subst (λ z. IsIn plan.Init (asked_in z)) (sym ev) (inr k.init);
      search = subst (λ z. IsIn plan.Search (asked_in z)) (sym ev) (inr k.search);
      opened = subst (λ z. replies_in z plan.Init ≡ None → ⊥) (sym ev) k.opened;
      count = k.count;
      found = ap (λ z. replies_in z plan.Search) ev ∙ k.found;
      set = kept_found e.ask (past settings log) (past settings (Made (origin.Present op set ranges) ∷ log)) b.three k.count
          (sent_searches settings log (origin.Present op set ranges) q ∙ append-nil (flat_map search_in (past settings log).admitted))
          (ap (λ r. (admit_unless (past settings log) (origin.Present op set ranges) r).accepted) q)
          (subst (λ t. HasFound e.ask (past settings log) t k.count) (sym s.three) k.set);
      outstanding = ap outstanding_in ev ∙ ap (λ z. z + 1) k.outstanding ∙ sym (length_put s.list a.waiting) ∙ ap length (sym s.waiting);
      apart = subst HaveApartStarts (sym s.waiting) (apart_put s.list a.waiting apart k.apart);
      opening = (k.opening.0, sent_opening settings log (origin.Present op set ranges) q ∙ k.opening.1);
    }

-- each operation was answered if none is outstanding
pub idle_answered : (e : Errand) (settings : Settings) (log : Log) (a : Agenda) → AtAsking e settings log a → outstanding_in (events_at e settings log) ≡ 0
    → AllAnswered (events_at e settings log)
idle_answered e settings log a k z plan.Init i q = k.opened q
idle_answered e settings log a k z plan.Search i q = no_some (sym k.found ∙ q)
idle_answered e settings log a k z (plan.Present l) i q = none a.waiting (sym k.outstanding ∙ z) (k.agenda.waits l i q)
  where
    none : (ls : List (List ℕ)) → length ls ≡ 0 → IsIn l ls → ⊥
    none [] h i = i
    none (x ∷ ls) h i = absurd (omega (arith, h))

sent_closed : (e : Errand) (settings : Settings) (log : Log) → refusal (standing (past settings log)) origin.Close ≡ None → HasOpening (past settings log)
    → AllAnswered (events_at e settings log) → IsTried settings log → AtClosed e settings (Made origin.Close ∷ log)
sent_closed e settings log q o all tried =
    let p = past settings log in
    let same : past settings (Made origin.Close ∷ log) ≡ admit p origin.Close = ap (admit_unless p origin.Close) q in
    let any : list_any is_close_call (p.admitted ++ origin.Close ∷ []) ≡ true = any_last p.admitted origin.Close ∙ last (list_any is_close_call p.admitted) in
    record {
      all = subst AllAnswered (sym (sent_events e settings log origin.Close q)) all;
      closed = ap (λ z. may_call (state_of z)) same
          ∙ subst (λ b. may_call (state_from p.fault p.closed b (list_any is_init_call (p.admitted ++ origin.Close ∷ [])) (opening p)) ≡ false) (sym any)
          (subst (λ a. may_call (state_from p.fault p.closed true (list_any is_init_call (p.admitted ++ origin.Close ∷ [])) a) ≡ false) (sym o.1)
          (uncallable p.fault p.closed (list_any is_init_call (p.admitted ++ origin.Close ∷ [])) o.0));
      opening = (o.0, sent_opening settings log origin.Close q ∙ o.1);
      tried = λ f. sent_tried settings log origin.Close q tried;
    }
  where
    last : (b : Bool) → (b || true) ≡ true
    last true = refl
    last false = refl

-- each operation that was asked for has a reply
answered_whole : (e : Errand) (events : List PlanEvent) → ((b : Operation) → IsDue e.wanted e.step events b → ⊥) → AllAnswered events
    → IsDueEvent e.ask e.wanted e.step events CloseSent
answered_whole e events none all a asked = by (replies_in events a) refl
  where
    by : (r : Option plan.Reply) → replies_in events a ≡ r → (s : plan.Reply) × (replies_in events a ≡ Some s)
    by (Some s) q = (s, q)
    by None q = absurd (none a (asked, λ i. all a i q))

sent_close : (e : Errand) (settings : Settings) (log : Log) (old new : DriverState) → IsOffer e settings log old origin.Close
    → refusal (standing (past settings log)) origin.Close ≡ None → new.phase ≡ phases.Closed → new.errand ≡ old.errand → new.skipped ≡ old.skipped
    → new.complete ≡ true → new.left ≡ left_in e.window new.phase → HasOpening (past settings log) → AllAnswered (events_at e settings log) → IsTried settings log → 0 < old.left
    → IsDriver e settings (Made origin.Close ∷ log) new × (new.left < old.left)
sent_close e settings log old new o q ph er sk co l op all tried lt =
    let n : IsNextCall e settings log origin.Close = o.offered.1 in
    let z : new.left ≡ 0 = l ∙ ap (left_in e.window) ph in
    sent_driver e settings log origin.Close old new o q n (answered_whole e (events_at e settings log) n.next.0 all) er sk co l (omega (arith, z, lt))
    (subst (IsAtPhase e settings (Made origin.Close ∷ log)) (sym ph) (sent_closed e settings log q op all tried))

-- the request for an admitted search can be sent
sent_sendable : (s : Standing) (op set : ℕ) (ask : Ask) → refusal s (origin.Search op set ask) ≡ None
    → is_unsendable (search_request s.force.named op set ask) ≡ false
unfolding refusal
sent_sendable s op set ask = by (early_refusal s (origin.Search op set ask)) (is_unsendable (search_request s.force.named op set ask))
  where
    by : (early : Option CallRefused) (b : Bool) → or_unsendable b early ≡ None → b ≡ false
    by (Some reason) b q = absurd (no_some q)
    by None true q = absurd (no_some q)
    by None false q = refl

-- the origin admitted the call
pub knows_sent : AgendaLaws → DrivenLaws → NumberLaw → (call : origin.Call) (old new : DriverState) → PhaseAfterCall call old.phase new.phase
    → new.errand ≡ old.errand → new.skipped ≡ old.skipped → new.complete ≡ (is_close_call call || old.complete)
    → new.left ≡ left_in new.errand.window new.phase → NoteSentStep call old new
knows_sent laws driven number origin.Init old new s er sk co l = λ e settings log o q.
    let k = o.knows in
    let left : new.left ≡ left_in e.window new.phase = l ∙ ap (λ z. left_in z.window new.phase) (er ∙ k.errand) in
    let was : old.left ≡ 1 = k.left ∙ ap (left_in e.window) o.offered.0 in
    let is : new.left ≡ 0 = left ∙ ap (left_in e.window) s in
    let a : AtFresh e settings log = subst (IsAtPhase e settings log) o.offered.0 k.at in
    sent_driver e settings log origin.Init old new o q o.offered.1 o.offered.1.next.0 er sk co left (omega (arith, was, is))
    (subst (IsAtPhase e settings (Made origin.Init ∷ log)) (sym s) (record {
      events = sent_events e settings log origin.Init q ∙ ap (λ z. RequestSent plan.Init ∷ z) a.events;
      opening = sent_opening settings log origin.Init q ∙ a.opening;
    }))
knows_sent laws driven number (origin.Search op set ask) old new s er sk co l = λ e settings log o q.
    let k = o.knows in let f = o.offered in
    let left : new.left ≡ left_in e.window new.phase = l ∙ ap (λ z. left_in z.window new.phase) (er ∙ k.errand) in
    let was : old.left ≡ 2 = k.left ∙ ap (left_in e.window) f.2 in
    let to : new.phase ≡ phases.Searching f.0 f.1 = subst (λ z. PhaseAfterCall (origin.Search op set ask) z new.phase) f.2 s in
    let is : new.left ≡ 0 = left ∙ ap (left_in e.window) to in
    let a : AtOpened e settings log f.0 f.1 = subst (IsAtPhase e settings log) f.2 k.at in
    let n : IsNextCall e settings log (origin.Search op set ask) = (subst (λ r. IsSteeredCall e settings log r (origin.Search op set ask)) q o.steers).0 in
    let c : origin.Search op set ask ≡ origin.Search 1 1 e.ask = search_as op set ask e.ask f.4 f.5 f.6 in
    let can : a.search ≡ true = sym (a.can f.3) ∙ ap is_none (ap (refusal (standing (past settings log))) (sym c) ∙ q) in
    sent_driver e settings log (origin.Search op set ask) old new o q n n.next.0 er sk co left (omega (arith, was, is))
    (subst (IsAtPhase e settings (Made (origin.Search op set ask) ∷ log)) (sym to) (record {
      events = sent_events e settings log (origin.Search op set ask) q ∙ ap (λ z. RequestSent plan.Search ∷ z) (a.events ∙ ap (λ b. opened_events b f.1) can);
      opening = (a.opening.0, sent_opening settings log (origin.Search op set ask) q ∙ a.opening.1);
      shows = same_present (past settings log) (past settings (Made (origin.Search op set ask) ∷ log)) f.0
          (sent_opening settings log (origin.Search op set ask) q) a.shows;
      version = same_version (past settings log) (past settings (Made (origin.Search op set ask) ∷ log)) f.1
          (sent_opening settings log (origin.Search op set ask) q) a.version;
      sendable = same_sending e.ask (past settings log) (past settings (Made (origin.Search op set ask) ∷ log))
          (sent_opening settings log (origin.Search op set ask) q)
          (sent_sendable (standing (past settings log)) 1 1 e.ask (ap (refusal (standing (past settings log))) (sym c) ∙ q));
      search = sent_searches settings log (origin.Search op set ask) q
          ∙ ap (λ l. l ++ search_in (origin.Search op set ask)) (unsearched e.ask settings log n.next.0.1) ∙ ap search_in c;
    }))
  where
    search_as : (op set : ℕ) (a b : Ask) → op ≡ 1 → set ≡ 1 → a ≡ b → origin.Search op set a ≡ origin.Search 1 1 b
    search_as op set a b p q r = cc
knows_sent laws driven number (origin.Present op set ranges) old new s er sk co l = λ e settings log o q.
    let k = o.knows in let f = o.offered in
    let left : new.left ≡ left_in e.window new.phase = l ∙ ap (λ z. left_in z.window new.phase) (er ∙ k.errand) in
    let a : AtAsking e settings log f.0 = subst (IsAtPhase e settings log) f.1 k.at in
    let n : IsNextCall e settings log (origin.Present op set ranges) = f.3 in
    let sends : IsSentAgenda true f.0 new.phase = subst (λ b. IsSentAgenda b f.0 new.phase) f.2 (subst (λ z. PhaseAfterCall (origin.Present op set ranges) z new.phase) f.1 s) in
    by e settings log o q f.0 f.1 a n left new.phase refl sends
  where
    by : (e : Errand) (settings : Settings) (log : Log) (o : IsOffer e settings log old (origin.Present op set ranges))
        → refusal (standing (past settings log)) (origin.Present op set ranges) ≡ None → (a : Agenda) → old.phase ≡ phases.Asking a → AtAsking e settings log a
        → IsNextCall e settings log (origin.Present op set ranges) → new.left ≡ left_in e.window new.phase
        → (ph : Phase) → new.phase ≡ ph → IsSentAgenda true a ph → IsDriver e settings (Made (origin.Present op set ranges) ∷ log) new × (new.left < old.left)
    by e settings log o q a was at n left (phases.Asking b) is sent =
        let k = o.knows in
        let before : old.left ≡ e.window + 2 - length a.waiting = k.left ∙ ap (left_in e.window) was in
        let after : new.left ≡ e.window + 2 - length b.waiting = left ∙ ap (left_in e.window) is in
        let more : length b.waiting ≡ length a.waiting + 1 = ap length sent.waiting ∙ length_put sent.list a.waiting in
        let room = n.next.1 in let out = at.outstanding in
        let few : room_in e.window (past settings log) ≤ e.window + 1 = room_few e.window (past settings log) in
        let wide : new.left < old.left = omega (arith, before, after, more, room, out, few) in
        sent_driver e settings log (origin.Present op set ranges) old new o q n n.next.0 er sk co left wide
        (subst (IsAtPhase e settings (Made (origin.Present op set ranges) ∷ log)) (sym is)
        (sent_asking laws number e settings log a b op set ranges k.wanted k.steps (driven.driven e.ask e.wanted e.step settings log k.driven) q n sent at))
    by e settings log o q a was at n left phases.Fresh is sent = absurd sent
    by e settings log o q a was at n left phases.Opening is sent = absurd sent
    by e settings log o q a was at n left (phases.Opened present three) is sent = absurd sent
    by e settings log o q a was at n left (phases.Searching present three) is sent = absurd sent
    by e settings log o q a was at n left (phases.Counted three count) is sent = absurd sent
    by e settings log o q a was at n left phases.Done is sent = absurd sent
    by e settings log o q a was at n left phases.Closed is sent = absurd sent
knows_sent laws driven number origin.Close old new s er sk co l = λ e settings log o q.
    let k = o.knows in
    let left : new.left ≡ left_in e.window new.phase = l ∙ ap (λ z. left_in z.window new.phase) (er ∙ k.errand) in
    elim o.offered.0 [
      | inl is ↦
          let a : AtDone e settings log = subst (IsAtPhase e settings log) is k.at in
          let was : old.left ≡ 1 = k.left ∙ ap (left_in e.window) is in
          sent_close e settings log old new o q s er sk co left a.opening a.all a.tried (omega (arith, was))
      | inr x ↦
          let a : AtAsking e settings log x.0 = subst (IsAtPhase e settings log) x.1 k.at in
          let was : old.left ≡ e.window + 2 - length x.0.waiting = k.left ∙ ap (left_in e.window) x.1 in
          let z = o.offered.1.next.1 in let out = a.outstanding in
          sent_close e settings log old new o q s er sk co left a.opening (idle_answered e settings log x.0 a z)
          (inl (found_some e.ask (past settings log) x.0.three a.count a.set)) (omega (arith, was, z, out))
    ]
