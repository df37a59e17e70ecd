-- A driven connection that waits for no reply is over, or some call is next on it.
use Rattle.std.proofs.Common.{◌≡◌, ◌≢◌, inl, inr, ℕ, ◌<◌, ◌≤◌, Bool, true, false, List, [], ◌∷◌, length, slice_get, Some, refl, sym, ap, subst, ◌∙◌, arith, true≢false}
use Rattle.std.specs.Prelude.{pos}
use Rattle.zplan.specs.Plan as plan
use Rattle.zplan.specs.Plan.{Operation, PlanEvent, RequestSent, CloseSent, first, search, IsDue, IsDriven, IsNextEvent, asked_in, outstanding_in, start_of, number}
use Rattle.zplan.specs.Positions.{IsIn, up_to}
use Rattle.zplan.specs.Agenda.{Agenda, IsAgenda, whole_agenda}
use Rattle.zplan.specs.Laws.{NextLaws, AgendaLaws}
use Rattle.zorigin.specs.declared.settings.Settings.{Settings}
use Rattle.zplan.specs.declared.range.Range.{Range}
use Rattle.zorigin.specs.declared.state.State.{State as OriginState}
use Rattle.zorigin.specs.declared.state.State.TheVariants as origins
use Rattle.zorigin.specs.Standings.{Call, Init, Search, Present, Close}
use Rattle.zplan.specs.Ranges.{positions}
use Rattle.zorigin.specs.Log.{Log, Past, past, state_of, outstanding}
use Rattle.zoom_pool.specs.declared.phase.Phase.{Phase}
use Rattle.zoom_pool.specs.declared.phase.Phase.TheVariants as phases
use Rattle.zoom_pool.specs.declared.state.State.TheVariants as states
use Rattle.zoom_pool.specs.States.{state_as, is_stopped, or_else}
use Rattle.zoom_pool.specs.Transcripts.{past_of, state_at}
use Rattle.zoom_pool.specs.Driving.{DrivenLaws}
use Rattle.zoom_pool.specs.Steering.{Errand, errand_of, IsNextCall, may_call, room_in}
use Rattle.zoom_pool.specs.Drivers.{DriverState, IsDriver, IsAtPhase, AllAnswered, events_at, opened_events, searched_events, found_events}
use Rattle.zoom_pool.proofs.MetaLaws.{driver_of}
use Rattle.zoom_pool.proofs.Nexts.{room_some}
use Rattle.zoom_pool.proofs.Phases.{none_due}
use Rattle.zoom_laws.specs.Exchange.{EndedLaw}
use Rattle.zoom_laws.proofs.ExchangeTheory.Answering.{all_answered}

-- ---- positions, as ranges of one each

abbrev ranges_of : List ℕ → List Range
ranges_of [] = []
ranges_of (n ∷ ns) = record { start = pos n; n = pos 1 } ∷ ranges_of ns

positions_of : (ns : List ℕ) → positions (ranges_of ns) ≡ ns
positions_of [] = refl
positions_of (n ∷ ns) = ap (λ z. n ∷ z) (positions_of ns)

-- ---- some call is next

module _ (next : NextLaws) (agendas : AgendaLaws) (laws : DrivenLaws) (e : Errand) (settings : Settings) (log : Log)
    (d : DriverState) (k : IsDriver e settings log d) where
  abbrev p : Past
  p = past settings log

  abbrev events : List PlanEvent
  events = events_at e settings log

  abbrev room : ℕ
  room = room_in e.window p

  driven : IsDriven e.wanted e.step events
  driven = laws.driven e.ask e.wanted e.step settings log k.driven

  some_room : 0 < room
  some_room = room_some e.window p k.room

  module _ (may : may_call (state_of p) ≡ true) (none : (call : Call) → IsNextCall e settings log call → ⊥) where
    no_close : IsNextEvent e.wanted e.step room events CloseSent → ⊥
    no_close n = none Close (record { stands = may; of = tt; numbered = tt; next = n })

    no_init : events ≡ [] → ⊥
    no_init is =
        let least = λ (b : Operation) (h : IsDue e.wanted e.step [] b). let z : 0 ≤ start_of b = omega arith in z in
        none Init (record {
          stands = may;
          of = tt;
          numbered = tt;
          next = subst (λ ev. IsNextEvent e.wanted e.step room ev (RequestSent plan.Init)) (sym is)
              ((first, λ i. i), some_room, least);
        })

    no_search : (three : Bool) → events ≡ opened_events true three → ⊥
    no_search three is =
        let least = λ (b : Operation) (h : IsDue e.wanted e.step (opened_events true three) b).
        let z : 0 ≤ start_of b = omega arith in z in
        let unasked = λ (i : IsIn plan.Search (asked_in (opened_events true three))).
        let r : ⊥ = elim i [ inl q ↦ absurd (cc) | inr j ↦ j ] in r in
        none (Search 1 1 e.ask) (record {
          stands = may;
          of = (refl, refl);
          numbered = refl;
          next = subst (λ ev. IsNextEvent e.wanted e.step room ev (RequestSent plan.Search)) (sym is)
              ((search three first refl, unasked), some_room, least);
        })

    -- the search was skipped
    no_skip : (three : Bool) → events ≡ opened_events false three → ⊥
    no_skip three is =
        let idle = none_due e.wanted e.step (opened_events false three) (inl refl) (λ t q. absurd (cc))
        (λ c q. absurd (cc)) (λ l m q. absurd (cc)) in
        no_close (subst (λ ev. IsNextEvent e.wanted e.step room ev CloseSent) (sym is) (idle, refl))

    no_opened : (can three : Bool) → events ≡ opened_events can three → ⊥
    no_opened true three is = no_search three is
    no_opened false three is = no_skip three is

    no_present : (l : List ℕ) → IsNextEvent e.wanted e.step room events (RequestSent (plan.Present l)) → ⊥
    no_present l n =
        let ranges = ranges_of l in
        none (Present (number (plan.Present (positions ranges))) 1 ranges) (record {
          stands = may;
          of = refl;
          numbered = refl;
          next = subst (λ z. IsNextEvent e.wanted e.step room events (RequestSent (plan.Present z))) (sym (positions_of l)) n;
        })

    -- in a schedule in which nothing waits
    no_asking : (a : Agenda) → IsAgenda e.wanted e.step events a → IsIn plan.Init (asked_in events)
        → IsIn plan.Search (asked_in events) → outstanding_in events ≡ 0 → (due : List (List ℕ)) → a.due ≡ due → ⊥
    no_asking a g i j zero [] is =
        no_close (next.closes e.wanted e.step room events a k.wanted k.steps g is i j zero)
    no_asking a g i j zero (l ∷ ls) is =
        let lo = some_room in
        no_present l
        (next.asks e.wanted e.step room events a l ls k.wanted k.steps driven g is (omega (arith, zero, lo)))

    none_waits : (a : Agenda) → IsAgenda e.wanted e.step events a → AllAnswered events → (waiting : List (List ℕ))
        → a.waiting ≡ waiting → length waiting ≡ 0
    none_waits a g all [] is = refl
    none_waits a g all (l ∷ ls) is =
        let i : IsIn l a.waiting = subst (IsIn l) (sym is) (inl refl) in
        absurd (all (plan.Present l) (g.asked l i) (g.unanswered l i))

    -- at each phase
    never : AllAnswered events → (ph : Phase) → IsAtPhase e settings log ph → ⊥
    never all phases.Fresh a = no_init a.events
    never all phases.Opening a = subst AllAnswered a.events all plan.Init (inl refl) refl
    never all (phases.Opened present three) a = no_opened a.search three a.events
    never all (phases.Searching present three) a = subst AllAnswered a.events all plan.Search (inl refl) refl
    never all (phases.Counted three count) a =
        let was : IsDriven e.wanted e.step (found_events three count) =
        subst (IsDriven e.wanted e.step) a.events driven in
        let g : IsAgenda e.wanted e.step events (whole_agenda three e.step (up_to count e.wanted)) =
        subst (λ ev. IsAgenda e.wanted e.step ev (whole_agenda three e.step (up_to count e.wanted))) (sym a.events)
        (agendas.starts e.wanted e.step three (searched_events three) count k.wanted k.steps was.2 (inl refl) refl
        refl) in
        no_asking (whole_agenda three e.step (up_to count e.wanted)) g
        (subst (λ ev. IsIn plan.Init (asked_in ev)) (sym a.events) (inr (inl refl)))
        (subst (λ ev. IsIn plan.Search (asked_in ev)) (sym a.events) (inl refl))
        (ap outstanding_in a.events) (whole_agenda three e.step (up_to count e.wanted)).due refl
    never all (phases.Asking agenda) a =
        no_asking agenda a.agenda a.init a.search
        (a.outstanding ∙ none_waits agenda a.agenda all agenda.waiting refl) agenda.due refl
    never all phases.Done a = no_close (a.none, a.outstanding)
    never all phases.Closed a = true≢false (sym may ∙ a.closed)

  pub some_next : may_call (state_of p) ≡ true → outstanding p ≡ []
      → ((call : Call) → IsNextCall e settings log call → ⊥) → ⊥
  some_next may waits none = never may none (all_answered e.ask settings log waits) d.phase k.at

-- ---- states

callable : (s : OriginState) → is_stopped (state_as s) ≡ false → state_as s ≢ states.Initialising
    → state_as s ≢ states.Closing → may_call s ≡ true
callable origins.Fresh going begun closed = refl
callable origins.Initialising going begun closed = absurd (begun refl)
callable (origins.Ready v3 concurrent named) going begun closed = refl
callable origins.Closing going begun closed = absurd (closed refl)
callable origins.Closed going begun closed = absurd (true≢false going)
callable (origins.Failed reason) going begun closed = absurd (true≢false going)

pub ended : NextLaws → AgendaLaws → DrivenLaws → EndedLaw
ended next agendas laws questions s h meta c q p a at transcript none goes waits begun closed =
    by (is_stopped (state_at p)) refl
  where
    d : (x : DriverState) × (slice_get meta.drivers c ≡ Some x)
    d = driver_of questions meta.drivers c q a.driven.size at

    stands : state_at p ≡ state_as (state_of (past_of p))
    stands = ap (λ z. or_else (state_as (state_of (past_of p))) z) goes

    by : (b : Bool) → is_stopped (state_at p) ≡ b → is_stopped (state_at p) ≡ true
    by true e = e
    by false e =
        let may : may_call (state_of (past_of p)) ≡ true =
        callable (state_of (past_of p)) (ap is_stopped (sym stands) ∙ e) (λ f. begun (stands ∙ f))
        (λ f. closed (stands ∙ f)) in
        absurd (some_next next agendas laws (errand_of s q) p.settings p.log d.0
        (a.driven.each c q d.0 p at d.1 transcript) may waits (none e))
