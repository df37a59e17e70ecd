-- The origin admits the calls that are due.
use Rattle.std.proofs.Common.{◌≡◌, inl, inr, ℕ, ◌≤◌, Bool, true, false, cond, not, List, [], ◌∷◌, map, length, Option, None, Some, Result, Ok, Err, refl, sym, ap, subst, ◌∙◌, arith, true≢false}
use Rattle.std.proofs.lemmas.Bool.Decides.{nat_tests}
use Rattle.std.specs.Prelude.{ℤ, pos, ◌||◌, ◌&&◌, ◌==◌, nat_eq, nat_le, int_lt, is_none, is_some, slice_get, ◌-◌}
use Rattle.std.specs.List.{list_any}
use Rattle.zplan.specs.Plan as plan
use Rattle.zplan.specs.Plan.{PlanEvent, Replies, Reply, SearchReply, InitReply, IsPlanned, first, search, cut, rest, IsDue, IsDriven, asked_in, replies_in, outstanding_in, count_in, number}
use Rattle.zplan.specs.Positions.{IsIn}
use Rattle.zplan.specs.Laws.{BoundLaws, NumberLaw}
use Rattle.zplan.proofs.Order.{sent_asked}
use Rattle.zorigin.specs.declared.settings.Settings.{Settings}
use Rattle.zorigin.specs.declared.settings.Ask.{Ask}
use Rattle.zplan.specs.declared.range.Range.{Range}
use Rattle.zorigin.specs.declared.answer.Asked.{Asked}
use Rattle.zorigin.specs.declared.answer.Taken.{Taken}
use Rattle.zorigin.specs.declared.answer.Taken.TheVariants as taken
use Rattle.zorigin.specs.declared.refusal.CallRefused.{CallRefused}
use Rattle.zorigin.specs.declared.refusal.CallRefused.TheVariants as reasons
use Rattle.zorigin.specs.declared.refusal.Refused.{Refused}
use Rattle.zorigin.specs.declared.state.Searched.{Searched}
use Rattle.zorigin.specs.declared.state.Outcome.TheVariants as outcomes
use Rattle.zorigin.specs.Standings.{Call, Init, Search, Present, Close, is_fresh, is_ready, is_open, search_of}
use Rattle.zorigin.specs.Ranges.{are_ranges}
use Rattle.zplan.specs.Ranges.{positions}
use Rattle.zorigin.specs.Fitting.{is_empty}
use Rattle.zorigin.specs.Changes.{unanswered}
use Rattle.zorigin.specs.Sending.{is_unsendable, init_request}
use Rattle.zorigin.specs.Sendable.{SendableLaws}
use Rattle.zorigin.specs.Calls.{refusal, early_refusal, bad_search_bounds, is_unready, is_latest_set, past_count}
use Rattle.zorigin.specs.Replies.{verdict}
use Rattle.zorigin.specs.Laws.{IsOrderly}
use Rattle.zorigin.specs.Log.{Log, Made, Got, Past, past, standing, state_of, opening, force_after, asked, is_answer_to, is_answered, outstanding, op_of, searches_in, with_outcome, outcome_by, by_set, by_operation, admit_unless, after_verdict}
use Rattle.zoom_pool.specs.declared.phase.Phase.{Phase}
use Rattle.zoom_pool.specs.declared.phase.Phase.TheVariants as phases
use Rattle.zoom_pool.specs.Driving.{operation_for, DrivenLaws}
use Rattle.zoom_questions.specs.Askable.{HasFewArcs}
use Rattle.zoom_pool.specs.Steering.{Errand, IsNextCall, is_skip, may_call, room_in}
use Rattle.zoom_pool.specs.Drivers.{DriverState, IsDriver, IsAtPhase, AtOpened, HasOpening, HasFound, AllAnswered, events_at, found_events, opened_events}
use Rattle.zoom_pool.specs.Due.{CanAskFor, CanBeCalled, DueLaws}
use Rattle.zorigin.proofs.Members.{among, contained}
use Rattle.zoom_pool.proofs.Drivings.{sent_known, replied}
use Rattle.zoom_pool.proofs.Drivings as drivings
use Rattle.zoom_pool.proofs.DueRows.{and_false, or_first, any_in, init_rows, search_rows, present_rows, admits_init, admits_close, admits_present, refuses_search, unused, number_init, none_past, none_left}
use Rattle.zoom_pool.proofs.DriverAgreement.{idle_answered, unsearched}
use Rattle.zoom_pool.proofs.Nexts.{unfresh_at, unready_at}

no_some : {A : Type 0} {x : A} → Some x ≡ None → ⊥
no_some e = cc

-- ---- what every log keeps

-- the origin's own settings
pub past_settings : (settings : Settings) (log : Log) → (past settings log).settings ≡ settings
past_settings settings [] = refl
past_settings settings (Made call ∷ log) =
    call_events (refusal (standing (past settings log)) call) ∙ past_settings settings log
  where
    call_events : (r : Option CallRefused) → (admit_unless (past settings log) call r).settings ≡ (past settings log).settings
    call_events None = refl
    call_events (Some reason) = refl
past_settings settings (Got reply ∷ log) =
    got (past settings log) (verdict (standing (past settings log)) reply) ∙ past_settings settings log
  where
    got : (p : Past) (v : Result Taken Refused) → (after_verdict p v).settings ≡ p.settings
    got p (Ok (taken.Opened a)) = refl
    got p (Ok (taken.Rejected a)) = refl
    got p (Ok (taken.Answered a)) = refl
    got p (Ok taken.Closed) = refl
    got p (Err reason) =
        elim (is_open (state_of p)) as (λ b. (cond b (record p { fault = Some reason }) p).settings ≡ p.settings)
        [ true ↦ refl | false ↦ refl ]

-- ---- what was answered

-- a list is asked for once the search was answered with a count
count_of : (wanted : List ℕ) (step : ℕ) (replies : Replies) (l : List ℕ)
    → IsPlanned wanted step replies (plan.Present l) → (count : ℕ) × (replies plan.Search ≡ Some (SearchReply (Some count)))
count_of wanted step replies l (cut three count i m a o h lt x) = (count, h)
count_of wanted step replies l (rest m k a h lo hi) = count_of wanted step replies m a

-- a search is asked for once the association was accepted
pub opened_of : (wanted : List ℕ) (step : ℕ) (replies : Replies) → IsPlanned wanted step replies plan.Search
    → (three : Bool) × (replies plan.Init ≡ Some (InitReply true three))
opened_of wanted step replies (search three a e) = (three, e)

-- once the association was accepted, calls are made in the state Ready
ready_at : (p : Past) → HasOpening p → may_call (state_of p) ≡ true → is_ready (state_of p) ≡ true
ready_at p o h = sym (ap (λ b. b || is_ready (state_of p)) (unfresh_at p o)) ∙ h

-- the search that was found, as the origin files it
abbrev found_search : Ask → ℤ → Searched
found_search ask n = record (unanswered 1 1 ask) { outcome = Some (outcomes.Found n) }

filed_search : (ask : Ask) (p : Past) (three : Bool) (count : ℕ) (h : HasFound ask p three count)
    → map by_set (searches_in p) ≡ (1, found_search ask h.found) ∷ []
filed_search ask p three count h =
    ap (λ l. map by_set (map (with_outcome p.accepted) l)) h.asked
    ∙ ap (λ o. let x : Searched = record (unanswered 1 1 ask) { outcome = outcome_by o } in (1, x) ∷ []) h.answered
    ∙ ap (λ o. let x : Searched = record (unanswered 1 1 ask) { outcome = o } in (1, x) ∷ []) h.outcome

arcs_of : (syntax : Option (List ℕ)) → HasFewArcs syntax → (arcs : List ℕ) → syntax ≡ Some arcs → length arcs ≤ 1000
arcs_of syntax h arcs e = subst HasFewArcs e h

module _ (orderly : (s : Settings) (l : Log) → IsOrderly (past s l)) (laws : DrivenLaws) (numbers : NumberLaw)
    (bounds : BoundLaws) (sends : SendableLaws)
    (e : Errand) (settings : Settings) (log : Log) (d : DriverState) (k : IsDriver e settings log d) where
  abbrev p : Past
  p = past settings log

  abbrev events : List PlanEvent
  events = events_at e settings log

  driven : IsDriven e.wanted e.step events
  driven = laws.driven e.ask e.wanted e.step settings log k.driven

  -- an operation has the number that the plan gives it
  number_of : (q : Asked) → IsIn q (asked p) → q.op ≡ number (operation_for q.what)
  number_of q i = drivings.numbered e.ask settings e.wanted e.step log k.driven q i

  sent_of : (q : Asked) → IsIn q (asked p) → IsIn (operation_for q.what) (asked_in events)
  sent_of q i = sent_known e.ask settings log q i

  -- if each operation was answered, none is outstanding
  answered : AllAnswered events → outstanding p ≡ []
  answered all = none_left p (asked p) (λ q i. by q i (replies_in events (operation_for q.what)) refl)
    where
      by : (q : Asked) → IsIn q (asked p) → (o : Option Reply) → replies_in events (operation_for q.what) ≡ o
          → is_answered p q.op ≡ true
      by q i None n = absurd (all (operation_for q.what) (sent_of q i) n)
      by q i (Some r) n =
          let b = replied e.ask settings log (operation_for q.what) r n in
          let x = b.0 in
          let there = among x.asked (asked p) ((orderly settings log).known x (contained x p.accepted b.1)) in
          let same : x.asked.op ≡ q.op = number_of x.asked there ∙ ap number b.2 ∙ sym (number_of q i) in
          any_in (is_answer_to q.op) p.accepted x b.1
          (let t : (x.asked.op == q.op) ≡ true = grind (arith, nat_tests, same) in t)

  -- ---- Init

  fresh_at : (ph : Phase) → IsAtPhase e settings log ph → IsDue e.wanted e.step events plan.Init
      → may_call (state_of p) ≡ true → is_fresh (state_of p) ≡ true
  fresh_at phases.Fresh a due h = or_first (is_fresh (state_of p)) (is_ready (state_of p)) h (unready_at p a.opening)
  fresh_at phases.Opening a due h =
      absurd (due.1 (subst (λ ev. IsIn plan.Init (asked_in ev)) (sym a.events) (inl refl)))
  fresh_at (phases.Opened present three) a due h =
      absurd (due.1 (subst (λ ev. IsIn plan.Init (asked_in ev)) (sym a.events) (inl refl)))
  fresh_at (phases.Searching present three) a due h =
      absurd (due.1 (subst (λ ev. IsIn plan.Init (asked_in ev)) (sym a.events) (inr (inl refl))))
  fresh_at (phases.Counted three count) a due h =
      absurd (due.1 (subst (λ ev. IsIn plan.Init (asked_in ev)) (sym a.events) (inr (inl refl))))
  fresh_at (phases.Asking agenda) a due h = absurd (due.1 a.init)
  fresh_at phases.Done a due h = absurd (a.none plan.Init due)
  fresh_at phases.Closed a due h = absurd (true≢false (sym h ∙ a.closed))

  init_early : IsNextCall e settings log Init → early_refusal (standing p) Init ≡ None
  init_early n =
      let due : IsDue e.wanted e.step events plan.Init = n.next.0 in
      let zero_unused : list_any (nat_eq 0) (map op_of (asked p)) ≡ false =
      unused 0 (asked p) (λ q i z. due.1 (subst (λ a. IsIn a (asked_in events))
      (number_init (operation_for q.what) (sym (number_of q i) ∙ z)) (sent_of q i))) in
      init_rows (is_fresh (state_of p)) (list_any (nat_eq 0) (map op_of (asked p)))
      (fresh_at d.phase k.at due n.stands) zero_unused

  init_admitted : IsNextCall e settings log Init → refusal (standing p) Init ≡ None
  init_admitted n =
      admits_init (standing p) (init_early n)
      (ap (λ s. is_unsendable (init_request s)) (past_settings settings log) ∙ sends.init settings k.fit.name)

  -- ---- Close

  close_ready : (ph : Phase) → IsAtPhase e settings log ph → IsNextCall e settings log Close → is_ready (state_of p) ≡ true
  close_ready phases.Fresh a n =
      absurd (n.next.0 plan.Init (first, λ i. subst (λ ev. IsIn plan.Init (asked_in ev)) a.events i))
  close_ready phases.Opening a n =
      let none = n.next.1 in
      let one : outstanding_in events ≡ 1 = ap outstanding_in a.events in
      absurd (omega (arith, none, one))
  close_ready (phases.Opened present three) a n = ready_at p a.opening n.stands
  close_ready (phases.Searching present three) a n = ready_at p a.opening n.stands
  close_ready (phases.Counted three count) a n = ready_at p a.opening n.stands
  close_ready (phases.Asking agenda) a n = ready_at p a.opening n.stands
  close_ready phases.Done a n = ready_at p a.opening n.stands
  close_ready phases.Closed a n = absurd (true≢false (sym n.stands ∙ a.closed))

  close_admitted : IsNextCall e settings log Close → refusal (standing p) Close ≡ None
  close_admitted n =
      admits_close (standing p) (ap (λ b. cond (not b) (Some reasons.WrongState) None) (close_ready d.phase k.at n))

  -- ---- the search

  module _ (present three : Bool) (a : AtOpened e settings log present three) where
    unsent : IsIn plan.Search (asked_in events) → ⊥
    unsent i = elim (subst (λ ev. IsIn plan.Search (asked_in ev)) a.events i) [ inl q ↦ absurd (cc) | inr j ↦ j ]

    -- Init is the only call that was made
    one_unused : list_any (nat_eq 1) (map op_of (asked p)) ≡ false
    one_unused = unused 1 (asked p) (λ q i z. let none : ⊥ =
        elim (subst (λ ev. IsIn (operation_for q.what) (asked_in ev)) a.events (sent_of q i)) [
          | inl is ↦ let zero_is : q.op ≡ 0 = number_of q i ∙ ap number is in absurd (omega (arith, zero_is, z))
          | inr j ↦ j
        ] in none)

    all_answered : AllAnswered events
    all_answered = subst AllAnswered (sym a.events) by
      where
        by : AllAnswered (opened_events a.search three)
        by b (inl i) x = no_some (sym (ap (replies_in (opened_events a.search three)) i) ∙ x)
        by b (inr i) x = i

    within_bounds : bad_search_bounds 1 e.ask ≡ false
    within_bounds = λ i.
        1 == 0 || int_lt (k.fit.small i) (pos 0) || int_lt (k.fit.large i) (pos 0) || int_lt (k.fit.medium i) (pos 0)
        || not (int_lt (k.fit.small i) (k.fit.large i))

    search_early : is_ready (state_of p) ≡ true
        → early_refusal (standing p) (Search 1 1 e.ask)
        ≡ cond (not (force_after (opening p)).search) (Some reasons.NotOffered) None
    search_early ready =
        let s = standing p in
        let others : Bool = not s.force.concurrent || (not s.force.named && not (is_empty s.searches)) in
        search_rows (is_ready (state_of p)) s.force.search (list_any (nat_eq 1) s.used)
        (is_some (search_of s.searches 1)) (bad_search_bounds 1 e.ask) (not (is_empty s.outstanding) && others)
        ready one_unused
        (ap (λ l. is_some (search_of (map by_set (map (with_outcome p.accepted) l)) 1))
        (unsearched e.ask settings log unsent))
        within_bounds
        (ap (λ l. not (is_empty (map by_operation l)) && others) (answered all_answered))

    search_skips : (reason : CallRefused) → is_ready (state_of p) ≡ true
        → refusal (standing p) (Search 1 1 e.ask) ≡ Some reason → is_skip (Some reason) (Search 1 1 e.ask) ≡ true
    search_skips reason ready q = refuses_search (standing p) 1 1 e.ask reason (search_early ready) q

  -- the search is next once the association was accepted, but only if the origin admits it
  module _ (op set : ℕ) (ask : Ask) (n : IsNextCall e settings log (Search op set ask)) where
    accepted : (three : Bool) × (replies_in events plan.Init ≡ Some (InitReply true three))
    accepted = opened_of e.wanted e.step (replies_in events) n.next.0.0

    search_here : (ph : Phase) → IsAtPhase e settings log ph → refusal (standing p) (Search 1 1 e.ask) ≡ None
    search_here phases.Fresh a =
        absurd (no_some (sym accepted.1 ∙ ap (λ ev. replies_in ev plan.Init) a.events))
    search_here phases.Opening a =
        absurd (no_some (sym accepted.1 ∙ ap (λ ev. replies_in ev plan.Init) a.events))
    search_here (phases.Opened present three) a =
        let q : Some (InitReply a.search three) ≡ Some (InitReply true accepted.0) =
        sym (ap (λ ev. replies_in ev plan.Init) a.events) ∙ accepted.1 in
        let t : a.search ≡ true = cc in
        admitted (refusal (standing p) (Search 1 1 e.ask)) (a.can (ready_at p a.opening n.stands) ∙ t)
      where
        admitted : (o : Option CallRefused) → is_none o ≡ true → o ≡ None
        admitted None t = refl
        admitted (Some reason) t = absurd (true≢false (sym t))
    search_here (phases.Searching present three) a =
        absurd (n.next.0.1 (subst (λ ev. IsIn plan.Search (asked_in ev)) (sym a.events) (inl refl)))
    search_here (phases.Counted three count) a =
        absurd (n.next.0.1 (subst (λ ev. IsIn plan.Search (asked_in ev)) (sym a.events) (inl refl)))
    search_here (phases.Asking agenda) a = absurd (n.next.0.1 a.search)
    search_here phases.Done a = absurd (a.none plan.Search n.next.0)
    search_here phases.Closed a = absurd (true≢false (sym n.stands ∙ a.closed))

    search_admitted : refusal (standing p) (Search op set ask) ≡ None
    search_admitted =
        ap (refusal (standing p)) (same op set ask e.ask n.numbered n.of.0 n.of.1) ∙ search_here d.phase k.at
      where
        same : (op set : ℕ) (a b : Ask) → op ≡ 1 → set ≡ 1 → a ≡ b → Search op set a ≡ Search 1 1 b
        same op set a b x y z = cc

  -- ---- a Present

  -- what is known if a Present is next
  record HasSet : Type 0 where
    three : Bool
    count : ℕ
    set : HasFound e.ask p three count
    found : replies_in events plan.Search ≡ Some (SearchReply (Some count))
    opened : HasOpening p
    all : outstanding_in events ≡ 0 → AllAnswered events

  set_here : (op set : ℕ) (ranges : List Range) → IsNextCall e settings log (Present op set ranges)
      → (ph : Phase) → IsAtPhase e settings log ph → HasSet
  set_here op set ranges n = here
    where
      counted : (count : ℕ) × (replies_in events plan.Search ≡ Some (SearchReply (Some count)))
      counted = count_of e.wanted e.step (replies_in events) (positions ranges) n.next.0.0

      all_found : (three : Bool) (count : ℕ) → AllAnswered (found_events three count)
      all_found three count b (inl i) x = no_some (sym (ap (replies_in (found_events three count)) i) ∙ x)
      all_found three count b (inr (inl i)) x = no_some (sym (ap (replies_in (found_events three count)) i) ∙ x)
      all_found three count b (inr (inr i)) x = i

      here : (ph : Phase) → IsAtPhase e settings log ph → HasSet
      here phases.Fresh a = absurd (no_some (sym counted.1 ∙ ap (λ ev. replies_in ev plan.Search) a.events))
      here phases.Opening a = absurd (no_some (sym counted.1 ∙ ap (λ ev. replies_in ev plan.Search) a.events))
      here (phases.Opened present three) a =
          absurd (no_some (sym counted.1 ∙ ap (λ ev. replies_in ev plan.Search) a.events))
      here (phases.Searching present three) a =
          absurd (no_some (sym counted.1 ∙ ap (λ ev. replies_in ev plan.Search) a.events))
      here (phases.Counted three count) a = record {
        three = three;
        count = count;
        set = a.set;
        found = ap (λ ev. replies_in ev plan.Search) a.events;
        opened = a.opening;
        all = λ z. subst AllAnswered (sym a.events) (all_found three count);
      }
      here (phases.Asking agenda) a = record {
        three = agenda.three;
        count = a.count;
        set = a.set;
        found = a.found;
        opened = a.opening;
        all = idle_answered e settings log agenda a;
      }
      here phases.Done a = absurd (a.none (plan.Present (positions ranges)) n.next.0)
      here phases.Closed a = absurd (true≢false (sym n.stands ∙ a.closed))

  module _ (op : ℕ) (ranges : List Range) (n : IsNextCall e settings log (Present op 1 ranges))
      (c : CanAskFor (force_after (opening p)).v3 ranges) (h : HasSet) where
    is_due : IsDue e.wanted e.step events (plan.Present (positions ranges))
    is_due = n.next.0

    searches : (standing p).searches ≡ (1, found_search e.ask h.set.found) ∷ []
    searches = filed_search e.ask p h.three h.count h.set

    abbrev unoffered : Bool → Bool → Bool
    unoffered present three = not present || (nat_le 2 (length ranges) && not three)

    offered : unoffered (force_after (opening p)).present (force_after (opening p)).v3 ≡ false
    offered =
        ap (λ b. unoffered b (force_after (opening p)).v3) h.set.shows ∙ by (force_after (opening p)).v3 refl
      where
        by : (b : Bool) → (force_after (opening p)).v3 ≡ b → unoffered true (force_after (opening p)).v3 ≡ false
        by true q = ap (unoffered true) q ∙ and_false (nat_le 2 (length ranges))
        by false q = ap (unoffered true) q ∙ ap (λ m. nat_le 2 m && true) (c.single q)

    op_unused : list_any (nat_eq op) (map op_of (asked p)) ≡ false
    op_unused = unused op (asked p) (λ q i z.
        let sent = sent_of q i in
        let same : operation_for q.what ≡ plan.Present (positions ranges) =
        numbers e.wanted e.step (replies_in events) k.wanted k.steps (operation_for q.what)
        (plan.Present (positions ranges)) (sent_asked e.wanted e.step events driven (operation_for q.what) sent)
        is_due.0 (sym (number_of q i) ∙ z ∙ n.numbered) in
        is_due.1 (subst (λ x. IsIn x (asked_in events)) same sent))

    positions_found : past_count (positions ranges) (search_of (standing p).searches 1) ≡ false
    positions_found =
        ap (λ l. past_count (positions ranges) (search_of l 1)) searches
        ∙ none_past h.set.found h.count (positions ranges) h.set.counts (λ x i.
        let b = bounds.found e.wanted e.step (replies_in events) (positions ranges) x k.wanted k.steps is_due.0 i in
        let same : count_in (replies_in events) ≡ h.count = ap plan.count_of_reply h.found in
        let hi = b.1 in
        (b.0, omega (arith, hi, same)))

    abbrev busy_with : Bool → Bool
    busy_with concurrent = not (is_empty (standing p).outstanding) && not concurrent

    idle : (b : Bool) → (force_after (opening p)).concurrent ≡ b
        → busy_with (force_after (opening p)).concurrent ≡ false
    idle true q = ap busy_with q ∙ and_false (not (is_empty (standing p).outstanding))
    idle false q =
        let room : room_in e.window p ≡ 1 = ap (λ b. cond b e.window 1) q in
        let lt = n.next.1 in
        let none : outstanding p ≡ [] = answered (h.all (omega (arith, room, lt))) in
        ap (λ l. not (is_empty (map by_operation l)) && not (force_after (opening p)).concurrent) none

    present_early : early_refusal (standing p) (Present op 1 ranges) ≡ None
    present_early =
        let s = standing p in
        present_rows (is_ready (state_of p)) (unoffered s.force.present s.force.v3) (list_any (nat_eq op) s.used)
        (is_none (search_of s.searches 1)) (is_unready (search_of s.searches 1))
        (not s.force.named && not (is_latest_set 1 (slice_get s.searches (length s.searches - 1))))
        (not (are_ranges ranges) || past_count (positions ranges) (search_of s.searches 1))
        (busy_with s.force.concurrent)
        (ready_at p h.opened n.stands) offered op_unused
        (ap (λ l. is_none (search_of l 1)) searches)
        (ap (λ l. is_unready (search_of l 1)) searches)
        (ap (λ l. not s.force.named && not (is_latest_set 1 (slice_get l (length l - 1)))) searches
        ∙ and_false (not s.force.named))
        (ap (λ b. not b || past_count (positions ranges) (search_of s.searches 1)) c.ascend ∙ positions_found)
        (idle s.force.concurrent refl)

    present_sent : (r : Range) (rs : List Range) → ranges ≡ r ∷ rs → refusal (standing p) (Present op 1 ranges) ≡ None
    present_sent r rs is =
        let found = found_search e.ask h.set.found in
        ap (λ l. refusal (standing p) (Present op 1 l)) is
        ∙ admits_present (standing p) op 1 r rs found (ap (λ l. search_of l 1) searches)
        (ap (λ l. early_refusal (standing p) (Present op 1 l)) (sym is) ∙ present_early)
        (sends.present (force_after (opening p)).named 1 1 op e.ask found r rs h.set.sendable
        (arcs_of e.ask.syntax k.fit.syntax) refl refl (ap are_ranges (sym is) ∙ c.ascend)
        (subst (λ l. length l ≤ 1000) is c.few))

    present_one : (l : List Range) → ranges ≡ l → refusal (standing p) (Present op 1 ranges) ≡ None
    present_one [] is = absurd (true≢false (sym c.ascend ∙ ap are_ranges is))
    present_one (r ∷ rs) is = present_sent r rs is

  present_admitted : (op set : ℕ) (ranges : List Range) → IsNextCall e settings log (Present op set ranges)
      → CanAskFor (force_after (opening p)).v3 ranges → refusal (standing p) (Present op set ranges) ≡ None
  present_admitted op set ranges n c =
      let m : IsNextCall e settings log (Present op 1 ranges) =
      subst (λ z. IsNextCall e settings log (Present op z ranges)) n.of n in
      ap (λ z. refusal (standing p) (Present op z ranges)) n.of
      ∙ present_one op ranges m c (set_here op set ranges n d.phase k.at) ranges refl

  -- ---- each call

  pub admitted : (call : Call) → IsNextCall e settings log call → CanBeCalled p call → refusal (standing p) call ≡ None
  admitted Init n c = init_admitted n
  admitted (Search op set ask) n c = search_admitted op set ask n
  admitted (Present op set ranges) n c = present_admitted op set ranges n c
  admitted Close n c = close_admitted n

  pub skipped : (present three : Bool) (reason : CallRefused) → d.phase ≡ phases.Opened present three
      → is_ready (state_of p) ≡ true → refusal (standing p) (Search 1 1 e.ask) ≡ Some reason
      → is_skip (Some reason) (Search 1 1 e.ask) ≡ true
  skipped present three reason is ready q =
      search_skips present three (subst (IsAtPhase e settings log) is k.at) reason ready q

pub due_laws : ((s : Settings) (l : Log) → IsOrderly (past s l)) → DrivenLaws → NumberLaw → BoundLaws → SendableLaws
    → DueLaws
due_laws orderly laws numbers bounds sends = record {
  admits = λ e settings log d call k n c. admitted orderly laws numbers bounds sends e settings log d k call n c;
  skips = λ e settings log d present three reason k is ready q.
      skipped orderly laws numbers bounds sends e settings log d k present three reason is ready q;
}
