-- The driver of a connection agrees with its log after a reply.
use Rattle.std.proofs.Common.{◌≡◌, ◌⊎◌, inl, inr, ℕ, suc, ◌+◌, ◌-◌, ◌<◌, ◌≤◌, Bool, true, false, cond, not, List, [], ◌∷◌, ◌++◌, length, Option, None, Some, Result, Ok, Err, refl, sym, ap, subst, ◌∙◌, arith, true≢false}
use Rattle.std.proofs.lemmas.Bool.Decides.{nat_tests}
use Rattle.std.proofs.lemmas.Map.Keys.{IsDistinct-tail}
use Rattle.std.specs.Prelude.{ℤ, map, nat_eq, ◌||◌, ◌&&◌, ◌==◌}
use Rattle.std.specs.List.{list_any, find, flat_map, IsDistinct}
use Rattle.zapdu.specs.declared.apdu.Apdu.{Apdu}
use Rattle.zapdu.specs.declared.apdu.Apdu.TheVariants as apdus
use Rattle.zapdu.specs.declared.productions.init_response.InitResponse.{InitResponse}
use Rattle.zapdu.specs.declared.productions.search_response.SearchResponse.{SearchResponse}
use Rattle.zapdu.specs.declared.productions.present_response.PresentResponse.{PresentResponse}
use Rattle.zplan.specs.Plan as plan
use Rattle.zplan.specs.Plan.{Operation, PlanEvent, RequestSent, ReplyAccepted, Reply, InitReply, SearchReply, PresentReply, IsDue, IsDriven, asked_in, replies_in, outstanding_in, number}
use Rattle.zplan.specs.Positions.{IsIn, IsWanted, first_of}
use Rattle.zplan.specs.Agenda.{Agenda, IsAgenda, AfterNoteAnswered, HasWaiting, without_start}
use Rattle.zplan.specs.Laws.{AgendaLaws, NumberLaw}
use Rattle.zplan.proofs.Order.{sent_asked}
use Rattle.zorigin.specs.declared.settings.Settings.{Settings}
use Rattle.zplan.specs.declared.range.Range.{Range}
use Rattle.zorigin.specs.declared.answer.Asked.{Asked}
use Rattle.zorigin.specs.declared.answer.Answer.{Answer}
use Rattle.zorigin.specs.declared.answer.What.{What}
use Rattle.zorigin.specs.declared.answer.What.TheVariants as what
use Rattle.zorigin.specs.declared.answer.Taken.{Taken}
use Rattle.zorigin.specs.declared.answer.Taken.TheVariants as taken
use Rattle.zorigin.specs.declared.refusal.Refused.{Refused}
use Rattle.zorigin.specs.declared.refusal.Refused.TheVariants as refused
use Rattle.zorigin.specs.Standings.{Standing, is_open, ready, nothing_in_force}
use Rattle.zorigin.specs.declared.state.State.TheVariants as origins
use Rattle.zorigin.specs.declared.state.Outcome.TheVariants as outcomes
use Rattle.zplan.specs.Ranges.{natural, positions}
use Rattle.zorigin.specs.Fitting.{fault_of, search_fault, present_fault, records_in}
use Rattle.zorigin.specs.Replies.{verdict, open_verdict, against, judged, named, taken_by}
use Rattle.zorigin.specs.Changes.{options_in_force, outcome_in}
use Rattle.zorigin.specs.Laws.{IsOrderly, answered_op}
use Rattle.zorigin.specs.Log.{Log, Got, Past, past, standing, state_from, opening, is_opening, is_init, force_after, force_by, closing_state, state_by, accept, after_verdict, is_close_call, is_init_call, is_answer_to, search_in}
use Rattle.zoom_pool.specs.declared.phase.Phase.{Phase}
use Rattle.zoom_pool.specs.declared.phase.Phase.TheVariants as phases
use Rattle.zoom_pool.specs.Driving.{operation_for, reply_for, got_event, can_search, can_present, counted, DrivenLaws}
use Rattle.zoom_pool.specs.Steering.{Errand, may_call, complete_in, is_rejected, is_rejection}
use Rattle.zoom_pool.specs.Drivers.{DriverState, IsDriver, IsAtPhase, AtOpening, AtOpened, AtSearching, AtAsking, AtClosed, HasOpening, AllAnswered, IsFreeStart, HaveApartStarts, events_at, searched_events, left_in, opened_phase, counted_phase, IsAnsweredAgenda, AnswerStep, TakenStep, NoteReplyStep, HasFound, is_rejection_of}
use Rattle.zoom_pool.proofs.Phases.{none_due}
use Rattle.zoom_pool.proofs.DriverAgreement.{closed_reply, same_version, same_sending, same_found}
use Rattle.zoom_pool.proofs.Drivings.{answered_number, differ}

no_some : {A : Type 0} {x : A} → Some x ≡ None → ⊥
no_some e = cc

no_list : {A : Type 0} {x : A} {xs : List A} → x ∷ xs ≡ [] → ⊥
no_list e = cc

no_err : {A E : Type 0} {x : A} {e : E} → Err e ≡ Ok x → ⊥
no_err e = cc

-- ---- what the origin took

abbrev IsTakenOf : Taken → Apdu → Type 0
IsTakenOf (taken.Opened a) reply = (v : InitResponse) × (a.reply ≡ apdus.InitResponse v) × (v.result ≡ true) × (a.asked.what ≡ what.Init)
IsTakenOf (taken.Rejected a) reply = (v : InitResponse) × (a.reply ≡ apdus.InitResponse v) × (v.result ≡ false) × (a.asked.what ≡ what.Init)
IsTakenOf (taken.Answered a) reply =
    ((v : SearchResponse) × (a.reply ≡ apdus.SearchResponse v) × (a.asked.what ≡ what.Search))
    ⊎ ((v : PresentResponse) × (ranges : List Range) × (a.reply ≡ apdus.PresentResponse v) × (a.asked.what ≡ what.Present ranges))
IsTakenOf taken.Closed reply = Unit {0}

abbrev okay : Taken → Result Taken Refused
okay x = Ok x

judged_init : (a : Answer) (v : InitResponse) (x : Taken) (w : What) → a.reply ≡ apdus.InitResponse v → a.asked.what ≡ w
    → judged a (fault_of w (apdus.InitResponse v)) ≡ Ok x → IsTakenOf x (apdus.InitResponse v)
judged_init a v x what.Init r q f =
    let g : okay (taken_by a (apdus.InitResponse v)) ≡ okay x = subst (λ z. judged a None ≡ okay x → okay (taken_by a z) ≡ okay x) r (λ h. h) f in
    elim v.result as (λ b. v.result ≡ b → okay (cond b (taken.Opened a) (taken.Rejected a)) ≡ okay x → IsTakenOf x (apdus.InitResponse v)) [
      | true ↦ λ t h. let i : taken.Opened a ≡ x = cc in subst (λ z. IsTakenOf z (apdus.InitResponse v)) i (v, r, t, q)
      | false ↦ λ t h. let i : taken.Rejected a ≡ x = cc in subst (λ z. IsTakenOf z (apdus.InitResponse v)) i (v, r, t, q)
    ] refl g
judged_init a v x what.Search r q f = absurd (no_err f)
judged_init a v x (what.Present ranges) r q f = absurd (no_err f)

against_init : (o : Option Asked) (v : InitResponse) (x : Taken) → against o (apdus.InitResponse v) ≡ Ok x → IsTakenOf x (apdus.InitResponse v)
against_init None v x e = absurd (no_err e)
against_init (Some asked) v x e = judged_init (record { asked = asked; reply = apdus.InitResponse v }) v x asked.what refl refl e

fits_search : (a : Answer) (v : SearchResponse) (x : Taken) (o : Option Refused) → a.reply ≡ apdus.SearchResponse v → a.asked.what ≡ what.Search
    → judged a o ≡ Ok x → IsTakenOf x (apdus.SearchResponse v)
fits_search a v x None r q f =
    let g : okay (taken_by a (apdus.SearchResponse v)) ≡ okay x = subst (λ z. judged a None ≡ okay x → okay (taken_by a z) ≡ okay x) r (λ h. h) f in
    let i : taken.Answered a ≡ x = cc in subst (λ z. IsTakenOf z (apdus.SearchResponse v)) i (inl (v, r, q))
fits_search a v x (Some reason) r q f = absurd (no_err f)

judged_search : (a : Answer) (v : SearchResponse) (x : Taken) (w : What) → a.reply ≡ apdus.SearchResponse v → a.asked.what ≡ w
    → judged a (fault_of w (apdus.SearchResponse v)) ≡ Ok x → IsTakenOf x (apdus.SearchResponse v)
judged_search a v x what.Init r q f = absurd (no_err f)
judged_search a v x what.Search r q f = fits_search a v x (search_fault v) r q f
judged_search a v x (what.Present ranges) r q f = absurd (no_err f)

against_search : (o : Option Asked) (v : SearchResponse) (x : Taken) → against o (apdus.SearchResponse v) ≡ Ok x → IsTakenOf x (apdus.SearchResponse v)
against_search None v x e = absurd (no_err e)
against_search (Some asked) v x e = judged_search (record { asked = asked; reply = apdus.SearchResponse v }) v x asked.what refl refl e

fits_present : (a : Answer) (v : PresentResponse) (x : Taken) (ranges : List Range) (o : Option Refused) → a.reply ≡ apdus.PresentResponse v
    → a.asked.what ≡ what.Present ranges → judged a o ≡ Ok x → IsTakenOf x (apdus.PresentResponse v)
fits_present a v x ranges None r q f =
    let g : okay (taken_by a (apdus.PresentResponse v)) ≡ okay x = subst (λ z. judged a None ≡ okay x → okay (taken_by a z) ≡ okay x) r (λ h. h) f in
    let i : taken.Answered a ≡ x = cc in subst (λ z. IsTakenOf z (apdus.PresentResponse v)) i (inr (v, ranges, r, q))
fits_present a v x ranges (Some reason) r q f = absurd (no_err f)

judged_present : (a : Answer) (v : PresentResponse) (x : Taken) (w : What) → a.reply ≡ apdus.PresentResponse v → a.asked.what ≡ w
    → judged a (fault_of w (apdus.PresentResponse v)) ≡ Ok x → IsTakenOf x (apdus.PresentResponse v)
judged_present a v x what.Init r q f = absurd (no_err f)
judged_present a v x what.Search r q f = absurd (no_err f)
judged_present a v x (what.Present ranges) r q f = fits_present a v x ranges (present_fault (positions ranges) v) r q f

against_present : (o : Option Asked) (v : PresentResponse) (x : Taken) → against o (apdus.PresentResponse v) ≡ Ok x → IsTakenOf x (apdus.PresentResponse v)
against_present None v x e = absurd (no_err e)
against_present (Some asked) v x e = judged_present (record { asked = asked; reply = apdus.PresentResponse v }) v x asked.what refl refl e

answered_taken : (s : Standing) (reply : Apdu) (x : Taken) → open_verdict s reply ≡ Ok x → IsTakenOf x reply
answered_taken s (apdus.InitResponse v) x e = against_init (named s v.reference_id) v x e
answered_taken s (apdus.SearchResponse v) x e = against_search (named s v.reference_id) v x e
answered_taken s (apdus.PresentResponse v) x e = against_present (named s v.reference_id) v x e
answered_taken s (apdus.Close v) x e = let i : taken.Closed ≡ x = cc in subst (λ z. IsTakenOf z (apdus.Close v)) i tt
answered_taken s (apdus.InitRequest v) x e = absurd (no_err e)
answered_taken s (apdus.SearchRequest v) x e = absurd (no_err e)
answered_taken s (apdus.PresentRequest v) x e = absurd (no_err e)

taken_of : (s : Standing) (reply : Apdu) (x : Taken) → verdict s reply ≡ Ok x → IsTakenOf x reply
unfolding verdict
taken_of s reply x e = elim (is_open s.state) as (λ b. cond b (open_verdict s reply) (Err refused.WrongState) ≡ okay x → IsTakenOf x reply) [
  | true ↦ answered_taken s reply x
  | false ↦ λ f. absurd (no_err f)
] e

-- ---- the reply to Init

find_last : (xs : List Answer) (a : Answer) → find is_opening xs ≡ None → is_opening a ≡ true → find is_opening (xs ++ a ∷ []) ≡ Some a
find_last [] a n t = ap (λ b. cond b (Some a) None) t
find_last (x ∷ xs) a n t =
    elim (is_opening x) as (λ b. cond b (Some x) (find is_opening xs) ≡ None → cond b (Some x) (find is_opening (xs ++ a ∷ [])) ≡ Some a) [
      | true ↦ λ q. absurd (no_some q)
      | false ↦ λ q. find_last xs a q t
    ] n

find_other : (xs : List Answer) (a : Answer) → is_opening a ≡ false → find is_opening (xs ++ a ∷ []) ≡ find is_opening xs
find_other [] a f = ap (λ b. cond b (Some a) None) f
find_other (x ∷ xs) a f =
    let later = find_other xs a f in
    elim (is_opening x) as (λ b. cond b (Some x) (find is_opening (xs ++ a ∷ [])) ≡ cond b (Some x) (find is_opening xs)) [ true ↦ refl | false ↦ later ]

find_kept : (f : Answer → Bool) (xs ys : List Answer) (y : Answer) → find f xs ≡ Some y → find f (xs ++ ys) ≡ Some y
find_kept f [] ys y e = absurd (no_some (sym e))
find_kept f (x ∷ xs) ys y e =
    elim (f x) as (λ b. cond b (Some x) (find f xs) ≡ Some y → cond b (Some x) (find f (xs ++ ys)) ≡ Some y) [
      | true ↦ λ q. q
      | false ↦ λ q. find_kept f xs ys y q
    ] e

-- the first answer to an operation, if it is new
find_new : (xs : List Answer) (a : Answer) (op : ℕ) → a.asked.op ≡ op → IsDistinct nat_eq (map answered_op (xs ++ a ∷ []))
    → find (is_answer_to op) (xs ++ a ∷ []) ≡ Some a
find_new [] a op is d =
    let t : (a.asked.op == op) ≡ true = grind (arith, nat_tests, is) in ap (λ b. cond b (Some a) None) t
find_new (x ∷ xs) a op is d =
    let other : nat_eq (answered_op x) (answered_op a) ≡ false = differ (x ∷ xs) a x d (inl refl) in
    let f : (x.asked.op == op) ≡ false = grind (arith, nat_tests, is, other) in
    ap (λ b. cond b (Some x) (find (is_answer_to op) (xs ++ a ∷ []))) f
    ∙ find_new xs a op is (IsDistinct-tail nat_eq (answered_op x) (map answered_op (xs ++ a ∷ [])) d)

counted_some : (status present : Bool) (n : ℤ) (count : ℕ) → counted (status && present) n ≡ Some count
    → (status ≡ true) × (present ≡ true) × (natural n ≡ count)
counted_some true true n count q = (refl, refl, (let e : natural n ≡ count = cc in e))
counted_some true false n count q = absurd (no_some (sym q))
counted_some false present n count q = absurd (no_some (sym q))

-- ---- the phase before the reply

init_phase : (e : Errand) (settings : Settings) (log : Log) (ph : Phase) → IsAtPhase e settings log ph → IsIn plan.Init (asked_in (events_at e settings log))
    → replies_in (events_at e settings log) plan.Init ≡ None → ph ≡ phases.Opening
init_phase e settings log phases.Fresh a i q = absurd (subst (λ z. IsIn plan.Init (asked_in z)) a.events i)
init_phase e settings log phases.Opening a i q = refl
init_phase e settings log (phases.Opened present three) a i q = absurd (no_some (sym (ap (λ z. replies_in z plan.Init) a.events) ∙ q))
init_phase e settings log (phases.Searching present three) a i q = absurd (no_some (sym (ap (λ z. replies_in z plan.Init) a.events) ∙ q))
init_phase e settings log (phases.Counted three count) a i q = absurd (no_some (sym (ap (λ z. replies_in z plan.Init) a.events) ∙ q))
init_phase e settings log (phases.Asking agenda) a i q = absurd (a.opened q)
init_phase e settings log phases.Done a i q = absurd (a.all plan.Init i q)
init_phase e settings log phases.Closed a i q = absurd (a.all plan.Init i q)

one_asked : (a b : Operation) → IsIn a (b ∷ []) → (a ≡ b → ⊥) → ⊥
one_asked a b (inl q) other = other q
one_asked a b (inr i) other = i

search_phase : (e : Errand) (settings : Settings) (log : Log) (ph : Phase) → IsAtPhase e settings log ph → IsIn plan.Search (asked_in (events_at e settings log))
    → replies_in (events_at e settings log) plan.Search ≡ None → (present : Bool) × (three : Bool) × (ph ≡ phases.Searching present three)
search_phase e settings log phases.Fresh a i q = absurd (subst (λ z. IsIn plan.Search (asked_in z)) a.events i)
search_phase e settings log phases.Opening a i q = absurd (one_asked plan.Search plan.Init (subst (λ z. IsIn plan.Search (asked_in z)) a.events i) (λ x. absurd (cc)))
search_phase e settings log (phases.Opened present three) a i q = absurd (one_asked plan.Search plan.Init (subst (λ z. IsIn plan.Search (asked_in z)) a.events i) (λ x. absurd (cc)))
search_phase e settings log (phases.Searching present three) a i q = (present, three, refl)
search_phase e settings log (phases.Counted three count) a i q = absurd (no_some (sym (ap (λ z. replies_in z plan.Search) a.events) ∙ q))
search_phase e settings log (phases.Asking agenda) a i q = absurd (no_some (sym a.found ∙ q))
search_phase e settings log phases.Done a i q = absurd (a.all plan.Search i q)
search_phase e settings log phases.Closed a i q = absurd (a.all plan.Search i q)

two_asked : (a b c : Operation) → IsIn a (b ∷ c ∷ []) → (a ≡ b → ⊥) → (a ≡ c → ⊥) → ⊥
two_asked a b c (inl q) one other = one q
two_asked a b c (inr i) one other = one_asked a c i other

present_phase : (e : Errand) (settings : Settings) (log : Log) (l : List ℕ) (ph : Phase) → IsAtPhase e settings log ph
    → IsIn (plan.Present l) (asked_in (events_at e settings log)) → replies_in (events_at e settings log) (plan.Present l) ≡ None
    → (agenda : Agenda) × (ph ≡ phases.Asking agenda)
present_phase e settings log l phases.Fresh a i q = absurd (subst (λ z. IsIn (plan.Present l) (asked_in z)) a.events i)
present_phase e settings log l phases.Opening a i q = absurd (one_asked (plan.Present l) plan.Init (subst (λ z. IsIn (plan.Present l) (asked_in z)) a.events i) (λ x. absurd (cc)))
present_phase e settings log l (phases.Opened present three) a i q = absurd (one_asked (plan.Present l) plan.Init (subst (λ z. IsIn (plan.Present l) (asked_in z)) a.events i) (λ x. absurd (cc)))
present_phase e settings log l (phases.Searching present three) a i q =
    absurd (two_asked (plan.Present l) plan.Search plan.Init (subst (λ z. IsIn (plan.Present l) (asked_in z)) a.events i) (λ x. absurd (cc)) (λ x. absurd (cc)))
present_phase e settings log l (phases.Counted three count) a i q =
    absurd (two_asked (plan.Present l) plan.Search plan.Init (subst (λ z. IsIn (plan.Present l) (asked_in z)) a.events i) (λ x. absurd (cc)) (λ x. absurd (cc)))
present_phase e settings log l (phases.Asking agenda) a i q = (agenda, refl)
present_phase e settings log l phases.Done a i q = absurd (a.all (plan.Present l) i q)
present_phase e settings log l phases.Closed a i q = absurd (a.all (plan.Present l) i q)

-- ---- lists that no longer wait

none_without : (p : ℕ) (ls : List (List ℕ)) → IsFreeStart p ls → without_start p ls ≡ ls
none_without p [] n = refl
none_without p (l ∷ ls) n =
    let later = none_without p ls (λ m i. n m (inr i)) in
    elim (first_of l == p) as (λ b. (first_of l == p) ≡ b → cond (not b) (l ∷ without_start p ls) (without_start p ls) ≡ l ∷ ls) [
      | true ↦ λ t. absurd (n l (inl refl) (let z : first_of l ≡ p = grind (arith, nat_tests) in z))
      | false ↦ λ t. ap (λ z. l ∷ z) later
    ] refl

length_without : (p : ℕ) (l : List ℕ) (ls : List (List ℕ)) → HaveApartStarts ls → IsIn l ls → first_of l ≡ p → length (without_start p ls) + 1 ≡ length ls
length_without p l [] a i f = absurd i
length_without p l (m ∷ ls) a i f =
    let later = length_without p l ls a.1 in
    elim (first_of m == p) as (λ b. (first_of m == p) ≡ b → length (cond (not b) (m ∷ without_start p ls) (without_start p ls)) + 1 ≡ suc (length ls)) [
      | true ↦ λ t.
          let z : first_of m ≡ p = grind (arith, nat_tests) in
          let n : without_start p ls ≡ ls = none_without p ls (subst (λ k. IsFreeStart k ls) z a.0) in
          let c : length (without_start p ls) ≡ length ls = ap length n in omega (arith, c)
      | false ↦ λ t.
          let apart : first_of m ≡ p → ⊥ = λ z. let r : (first_of m == p) ≡ true = grind (arith, nat_tests, z) in true≢false (sym r ∙ t) in
          let j : IsIn l ls = elim i [ inl q ↦ absurd (apart (ap first_of (sym q) ∙ f)) | inr j ↦ j ] in
          let c = later j f in omega (arith, c)
    ] refl

without_in : (p : ℕ) (m : List ℕ) (ls : List (List ℕ)) → IsIn m (without_start p ls) → IsIn m ls
without_in p m [] i = absurd i
without_in p m (l ∷ ls) i =
    let later = without_in p m ls in
    elim (first_of l == p) as (λ b. IsIn m (cond (not b) (l ∷ without_start p ls) (without_start p ls)) → IsIn m (l ∷ ls)) [
      | true ↦ λ j. inr (later j)
      | false ↦ λ j. elim j [ inl q ↦ inl q | inr k ↦ inr (later k) ]
    ] i

apart_without : (p : ℕ) (ls : List (List ℕ)) → HaveApartStarts ls → HaveApartStarts (without_start p ls)
apart_without p [] a = tt
apart_without p (l ∷ ls) a =
    let later = apart_without p ls a.1 in
    elim (first_of l == p) as (λ b. HaveApartStarts (cond (not b) (l ∷ without_start p ls) (without_start p ls))) [
      | true ↦ later
      | false ↦ ((λ m i. a.0 m (without_in p m ls i)), later)
    ]

-- ---- the log with the reply

module _ (laws : AgendaLaws) (driven : DrivenLaws) (numbers : NumberLaw) (orderly : (s : Settings) (l : Log) → IsOrderly (past s l))
    (e : Errand) (settings : Settings) (log : Log) (reply : Apdu) where
  abbrev old_past : Past
  old_past = past settings log

  abbrev new_past : Past
  new_past = past settings (Got reply ∷ log)

  abbrev old_events : List PlanEvent
  old_events = events_at e settings log

  abbrev new_events : List PlanEvent
  new_events = events_at e settings (Got reply ∷ log)

  -- an answer was accepted
  record Accepted (a : Answer) : Type 0 where
    past : new_past ≡ accept old_past a
    events : new_events ≡ ReplyAccepted (operation_for a.asked.what) (reply_for e.ask new_past a.reply) ∷ old_events
    asked : IsIn (operation_for a.asked.what) (asked_in old_events)
    unanswered : replies_in old_events (operation_for a.asked.what) ≡ None
    before : IsDriven e.wanted e.step old_events

  accepted_by : (d : DriverState) → IsDriver e settings log d → (a : Answer) (v : Result Taken Refused) → verdict (standing old_past) reply ≡ v
      → got_event e.ask new_past v old_events ≡ ReplyAccepted (operation_for a.asked.what) (reply_for e.ask new_past a.reply) ∷ old_events
      → after_verdict old_past v ≡ accept old_past a → Accepted a
  accepted_by d k a v q ev pa =
      let here : new_events ≡ ReplyAccepted (operation_for a.asked.what) (reply_for e.ask new_past a.reply) ∷ old_events =
      ap (λ z. got_event e.ask new_past z old_events) q ∙ ev in
      let is : IsDriven e.wanted e.step (ReplyAccepted (operation_for a.asked.what) (reply_for e.ask new_past a.reply) ∷ old_events) =
      subst (IsDriven e.wanted e.step) here (driven.driven e.ask e.wanted e.step settings (Got reply ∷ log) k.driven) in
      record { past = ap (after_verdict old_past) q ∙ pa; events = here; asked = is.0; unanswered = is.1; before = is.2 }

  outcome_driver : (old new : DriverState) → IsDriver e settings log old → new.errand ≡ old.errand → new.skipped ≡ old.skipped
      → new.complete ≡ complete_in new_past → new.left ≡ left_in new.errand.window new.phase → left_in e.window new.phase ≤ 3 + e.window
      → IsAtPhase e settings (Got reply ∷ log) new.phase → IsDriver e settings (Got reply ∷ log) new
  outcome_driver old new k er sk co l few at =
      let left : new.left ≡ left_in e.window new.phase = l ∙ ap (λ z. left_in z.window new.phase) (er ∙ k.errand) in
      record {
        steered = k.steered;
        driven = k.driven;
        errand = er ∙ k.errand;
        fit = k.fit;
        wanted = k.wanted;
        steps = k.steps;
        room = k.room;
        skipped = sk ∙ k.skipped;
        complete = co;
        left = left;
        few = subst (λ n. n ≤ 3 + e.window) (sym left) few;
        at = at;
      }

  -- the target accepted the association
  opened_at : (a : Answer) (v : InitResponse) → Accepted a → a.reply ≡ apdus.InitResponse v → v.result ≡ true → a.asked.what ≡ what.Init
      → AtOpening e settings log → AtOpened e settings (Got reply ∷ log) (options_in_force v).present (options_in_force v).v3
  opened_at a v acc r t w k =
      let op : opening new_past ≡ Some a = ap opening acc.past ∙ find_last old_past.accepted a k.opening (ap is_init w) in
      record {
        search = can_search e.ask new_past;
        events = acc.events
            ∙ ap (λ x. ReplyAccepted (operation_for x) (reply_for e.ask new_past a.reply) ∷ old_events) w
            ∙ ap (λ x. ReplyAccepted plan.Init (reply_for e.ask new_past x) ∷ old_events) r
            ∙ ap (λ b. ReplyAccepted plan.Init (InitReply (b && can_search e.ask new_past) (options_in_force v).v3) ∷ old_events) t
            ∙ ap (λ z. ReplyAccepted plan.Init (InitReply (can_search e.ask new_past) (options_in_force v).v3) ∷ z) k.events;
        can = λ rd. refl;
        opening = (a, op);
        shows = ap (λ o. (force_after o).present) op ∙ ap (λ x. (force_by x).present) r
            ∙ ap (λ b. (cond b (options_in_force v) nothing_in_force).present) t;
        version = ap (λ o. (force_after o).v3) op ∙ ap (λ x. (force_by x).v3) r
            ∙ ap (λ b. (cond b (options_in_force v) nothing_in_force).v3) t;
      }

  -- the target rejected the association
  rejected_at : (a : Answer) (v : InitResponse) → Accepted a → a.reply ≡ apdus.InitResponse v → v.result ≡ false → a.asked.what ≡ what.Init
      → AtOpening e settings log → AtClosed e settings (Got reply ∷ log)
  rejected_at a v acc r f w k =
      let op : opening new_past ≡ Some a = ap opening acc.past ∙ find_last old_past.accepted a k.opening (ap is_init w) in
      let shape : Reply = reply_for e.ask new_past a.reply in
      let ev : new_events ≡ ReplyAccepted plan.Init shape ∷ RequestSent plan.Init ∷ [] =
      acc.events ∙ ap (λ x. ReplyAccepted (operation_for x) shape ∷ old_events) w ∙ ap (λ z. ReplyAccepted plan.Init shape ∷ z) k.events in
      record {
        all = subst AllAnswered (sym ev) (replied shape);
        closed = subst (λ o. may_call (state_from new_past.fault new_past.closed (list_any is_close_call new_past.admitted) (list_any is_init_call new_past.admitted) o) ≡ false)
            (sym op) (by new_past.fault new_past.closed (list_any is_close_call new_past.admitted) (list_any is_init_call new_past.admitted));
        opening = (a, op);
        tried = λ t. absurd (true≢false (sym (ap is_rejected op ∙ ap is_rejection r ∙ ap not f) ∙ t));
      }
    where
      replied : (r : Reply) → AllAnswered (ReplyAccepted plan.Init r ∷ RequestSent plan.Init ∷ [])
      replied r b (inl i) x = no_some (sym (ap (replies_in (ReplyAccepted plan.Init r ∷ RequestSent plan.Init ∷ [])) i) ∙ x)
      replied r b (inr i) x = i

      shut : (closing : Bool) → may_call (closing_state closing (state_by a.reply)) ≡ false
      shut closing = ap (λ x. may_call (closing_state closing (state_by x))) r
          ∙ ap (λ b. may_call (closing_state closing (cond b (ready (options_in_force v)) origins.Closed))) f

      by : (fault : Option Refused) (closed closing begun : Bool) → may_call (state_from fault closed closing begun (Some a)) ≡ false
      by (Some reason) closed closing begun = refl
      by None true closing begun = refl
      by None false closing begun = shut closing

  -- the search was answered
  found_at : (a : Answer) (v : SearchResponse) (present three : Bool) → Accepted a → a.reply ≡ apdus.SearchResponse v → a.asked.what ≡ what.Search
      → a.asked.op ≡ 1 → AtSearching e settings log present three → (o : Option ℕ) → counted (v.search_status && present) v.result_count ≡ o
      → IsAtPhase e settings (Got reply ∷ log) (counted_phase three o)
  found_at a v present three acc r w one k o c =
      let op : opening new_past ≡ opening old_past = ap opening acc.past ∙ find_other old_past.accepted a (ap is_init w) in
      let can : can_present new_past ≡ present = ap (λ x. (force_after x).present) op ∙ k.shows in
      let ev : new_events ≡ ReplyAccepted plan.Search (SearchReply o) ∷ searched_events three =
      acc.events ∙ ap (λ x. ReplyAccepted (operation_for x) (reply_for e.ask new_past a.reply) ∷ old_events) w
      ∙ ap (λ x. ReplyAccepted plan.Search (reply_for e.ask new_past x) ∷ old_events) r
      ∙ ap (λ b. ReplyAccepted plan.Search (SearchReply (counted (v.search_status && b) v.result_count)) ∷ old_events) can
      ∙ ap (λ x. ReplyAccepted plan.Search (SearchReply x) ∷ old_events) c
      ∙ ap (λ z. ReplyAccepted plan.Search (SearchReply o) ∷ z) k.events in
      by o ev (k.opening.0, op ∙ k.opening.1) (set op can o c)
    where
      once : IsOrderly (accept old_past a)
      once = subst IsOrderly acc.past (orderly settings (Got reply ∷ log))

      IsFoundSet : Option ℕ → Type 0
      IsFoundSet o = (count : ℕ) → o ≡ Some count → HasFound e.ask new_past three count

      set : opening new_past ≡ opening old_past → can_present new_past ≡ present → (o : Option ℕ)
          → counted (v.search_status && present) v.result_count ≡ o → IsFoundSet o
      set op can o c count is =
          let n = counted_some v.search_status present v.result_count count (c ∙ is) in
          record {
            asked = ap (λ (p : Past). flat_map search_in p.admitted) acc.past ∙ k.search;
            answer = a;
            answered = ap (λ (p : Past). find (is_answer_to 1) p.accepted) acc.past ∙ find_new old_past.accepted a 1 one once.once;
            found = v.result_count;
            outcome = ap outcome_in r ∙ ap (λ b. cond b (Some (outcomes.Found v.result_count)) (Some outcomes.Failed)) n.0;
            counts = n.2;
            shows = can ∙ n.1;
            version = same_version old_past new_past three op k.version;
            sendable = same_sending e.ask old_past new_past op k.sendable;
          }

      replied : AllAnswered (ReplyAccepted plan.Search (SearchReply None) ∷ searched_events three)
      replied b (inl i) x = no_some (sym (ap (replies_in (ReplyAccepted plan.Search (SearchReply None) ∷ searched_events three)) i) ∙ x)
      replied b (inr (inl i)) x = no_some (sym (ap (replies_in (ReplyAccepted plan.Search (SearchReply None) ∷ searched_events three)) i) ∙ x)
      replied b (inr (inr i)) x = i

      by : (o : Option ℕ) → new_events ≡ ReplyAccepted plan.Search (SearchReply o) ∷ searched_events three → HasOpening new_past
          → IsFoundSet o → IsAtPhase e settings (Got reply ∷ log) (counted_phase three o)
      by (Some count) ev op set = record { events = ev; opening = op; set = set count refl }
      by None ev op set = record {
        none = subst (λ z. (b : Operation) → IsDue e.wanted e.step z b → ⊥) (sym ev)
            (none_due e.wanted e.step (ReplyAccepted plan.Search (SearchReply None) ∷ searched_events three) (inr (inl refl)) (λ t x. inl refl)
            (λ c x. absurd (cc)) (λ l m x. absurd (cc)));
        all = subst AllAnswered (sym ev) replied;
        outstanding = ap outstanding_in ev;
        opening = op;
        tried = inl (λ none. no_list
            (sym (ap (λ (p : Past). flat_map search_in p.admitted) acc.past ∙ k.search) ∙ none));
      }

  -- a Present was answered
  shown_at : (a : Answer) (v : PresentResponse) (ranges : List Range) (was is : Agenda) → IsWanted e.wanted → 0 < e.step → Accepted a
      → a.reply ≡ apdus.PresentResponse v → a.asked.what ≡ what.Present ranges → a.asked.op ≡ first_of (positions ranges) + 1
      → (HasWaiting (a.asked.op - 1) was → AfterNoteAnswered (a.asked.op - 1) (length (records_in v.records)) was is)
      → AtAsking e settings log was → AtAsking e settings (Got reply ∷ log) is
  shown_at a v ranges was is w lo acc r asks op step k =
      let l = positions ranges in
      let n = length (records_in v.records) in
      let first : first_of l ≡ a.asked.op - 1 = omega (arith, op) in
      let here : IsIn (plan.Present l) (asked_in old_events) = subst (λ x. IsIn (operation_for x) (asked_in old_events)) asks acc.asked in
      let none : replies_in old_events (plan.Present l) ≡ None = subst (λ x. replies_in old_events (operation_for x) ≡ None) asks acc.unanswered in
      let waits : IsIn l was.waiting = k.agenda.waits l here none in
      let s = step (l, waits, first) in
      let same : plan.Present s.list ≡ plan.Present l = numbers e.wanted e.step (replies_in old_events) w lo (plan.Present s.list) (plan.Present l)
      (sent_asked e.wanted e.step old_events acc.before (plan.Present s.list) (k.agenda.asked s.list s.waited))
      (sent_asked e.wanted e.step old_events acc.before (plan.Present l) here) (ap (λ z. z + 1) (s.begins ∙ sym first)) in
      let ev : new_events ≡ ReplyAccepted (plan.Present s.list) (PresentReply n) ∷ old_events =
      acc.events ∙ ap (λ x. ReplyAccepted (operation_for x) (reply_for e.ask new_past a.reply) ∷ old_events) asks
      ∙ ap (λ x. ReplyAccepted (plan.Present l) (reply_for e.ask new_past x) ∷ old_events) r
      ∙ ap (λ o. ReplyAccepted o (PresentReply n) ∷ old_events) (sym same) in
      let opn : opening new_past ≡ opening old_past = ap opening acc.past ∙ find_other old_past.accepted a (ap is_init asks) in
      let fewer : length (without_start (a.asked.op - 1) was.waiting) + 1 ≡ length was.waiting =
      length_without (a.asked.op - 1) l was.waiting k.apart waits first in
      let less : length is.waiting ≡ length (without_start (a.asked.op - 1) was.waiting) = ap length s.waiting in
      let out = k.outstanding in
      record {
        agenda = subst (λ z. IsAgenda e.wanted e.step z is) (sym ev)
            (laws.receives e.wanted e.step old_events (a.asked.op - 1) n was is w lo acc.before k.agenda s);
        init = subst (λ z. IsIn plan.Init (asked_in z)) (sym ev) k.init;
        search = subst (λ z. IsIn plan.Search (asked_in z)) (sym ev) k.search;
        opened = subst (λ z. replies_in z plan.Init ≡ None → ⊥) (sym ev) k.opened;
        count = k.count;
        found = ap (λ z. replies_in z plan.Search) ev ∙ k.found;
        set = subst (λ t. HasFound e.ask new_past t k.count) (sym s.three)
            (same_found e.ask old_past new_past was.three k.count (ap (λ (p : Past). flat_map search_in p.admitted) acc.past) k.set.answer
            (ap (λ (p : Past). find (is_answer_to 1) p.accepted) acc.past ∙ find_kept (is_answer_to 1) old_past.accepted (a ∷ []) k.set.answer k.set.answered)
            k.set refl opn);
        outstanding = ap outstanding_in ev ∙ (let z : outstanding_in old_events - 1 ≡ length is.waiting = omega (arith, out, less, fewer) in z);
        apart = subst HaveApartStarts (sym s.waiting) (apart_without (a.asked.op - 1) was.waiting k.apart);
        opening = (k.opening.0, opn ∙ k.opening.1);
      }

-- ---- the outcome of the reply

few_left : (window : ℕ) (ph : Phase) → left_in window ph ≤ 3 + window
few_left window phases.Fresh = omega arith
few_left window phases.Opening = omega arith
few_left window (phases.Opened present three) = omega arith
few_left window (phases.Searching present three) = omega arith
few_left window (phases.Counted three count) = omega arith
few_left window (phases.Asking agenda) = omega arith
few_left window phases.Done = omega arith
few_left window phases.Closed = omega arith

-- an answer to another request than Init completes nothing
other_complete : (p q : Past) (a : Answer) → q ≡ accept p a → is_opening a ≡ false → complete_in q ≡ complete_in p
other_complete p q a s f = ap complete_in s ∙ ap (λ o. is_rejected o || list_any is_close_call p.admitted) (find_other p.accepted a f)

first_complete : (p q : Past) (a : Answer) → q ≡ accept p a → opening p ≡ None → is_opening a ≡ true
    → complete_in q ≡ (is_rejected (Some a) || complete_in p)
first_complete p q a s n t =
    ap complete_in s ∙ ap (λ o. is_rejected o || list_any is_close_call p.admitted) (find_last p.accepted a n t)
    ∙ ap (λ b. is_rejected (Some a) || b) (sym (ap (λ o. is_rejected o || list_any is_close_call p.admitted) n))

pub knows_outcome : AgendaLaws → DrivenLaws → NumberLaw → ((s : Settings) (l : Log) → IsOrderly (past s l)) → (x : Taken) (old new : DriverState)
    → TakenStep x old.phase new.phase → new.errand ≡ old.errand → new.skipped ≡ old.skipped → new.complete ≡ (is_rejection_of x || old.complete)
    → new.left ≡ left_in new.errand.window new.phase → NoteReplyStep x old new
knows_outcome laws driven numbers orderly (taken.Opened a) old new s er sk co l = λ e settings log reply k q.
    let f = taken_of (standing (past settings log)) reply (taken.Opened a) q in
    let acc = accepted_by laws driven numbers orderly e settings log reply old k a (Ok (taken.Opened a)) q refl refl in
    let ph : old.phase ≡ phases.Opening = init_phase e settings log old.phase k.at
    (subst (λ w. IsIn (operation_for w) (asked_in (events_at e settings log))) f.3 acc.asked)
    (subst (λ w. replies_in (events_at e settings log) (operation_for w) ≡ None) f.3 acc.unanswered) in
    let o : AtOpening e settings log = subst (IsAtPhase e settings log) ph k.at in
    let to : new.phase ≡ phases.Opened (options_in_force f.0).present (options_in_force f.0).v3 = s ∙ ap opened_phase f.1 in
    let c : complete_in (past settings (Got reply ∷ log)) ≡ complete_in (past settings log) =
    first_complete (past settings log) (past settings (Got reply ∷ log)) a acc.past o.opening (ap is_init f.3)
    ∙ ap (λ b. b || complete_in (past settings log)) (ap (λ z. is_rejection z) f.1 ∙ ap not f.2) in
    outcome_driver laws driven numbers orderly e settings log reply old new k er sk (co ∙ k.complete ∙ sym c) l (few_left e.window new.phase)
    (subst (IsAtPhase e settings (Got reply ∷ log)) (sym to) (opened_at laws driven numbers orderly e settings log reply a f.0 acc f.1 f.2 f.3 o))
knows_outcome laws driven numbers orderly (taken.Rejected a) old new s er sk co l = λ e settings log reply k q.
    let f = taken_of (standing (past settings log)) reply (taken.Rejected a) q in
    let acc = accepted_by laws driven numbers orderly e settings log reply old k a (Ok (taken.Rejected a)) q refl refl in
    let ph : old.phase ≡ phases.Opening = init_phase e settings log old.phase k.at
    (subst (λ w. IsIn (operation_for w) (asked_in (events_at e settings log))) f.3 acc.asked)
    (subst (λ w. replies_in (events_at e settings log) (operation_for w) ≡ None) f.3 acc.unanswered) in
    let o : AtOpening e settings log = subst (IsAtPhase e settings log) ph k.at in
    let c : complete_in (past settings (Got reply ∷ log)) ≡ true =
    first_complete (past settings log) (past settings (Got reply ∷ log)) a acc.past o.opening (ap is_init f.3)
    ∙ ap (λ b. b || complete_in (past settings log)) (ap (λ z. is_rejection z) f.1 ∙ ap not f.2) in
    outcome_driver laws driven numbers orderly e settings log reply old new k er sk (co ∙ sym c) l (few_left e.window new.phase)
    (subst (IsAtPhase e settings (Got reply ∷ log)) (sym s) (rejected_at laws driven numbers orderly e settings log reply a f.0 acc f.1 f.2 f.3 o))
knows_outcome laws driven numbers orderly (taken.Answered a) old new s er sk co l = λ e settings log reply k q.
    let acc = accepted_by laws driven numbers orderly e settings log reply old k a (Ok (taken.Answered a)) q refl refl in
    elim (taken_of (standing (past settings log)) reply (taken.Answered a) q) [
      | inl f ↦
          let ph = search_phase e settings log old.phase k.at
          (subst (λ w. IsIn (operation_for w) (asked_in (events_at e settings log))) f.2 acc.asked)
          (subst (λ w. replies_in (events_at e settings log) (operation_for w) ≡ None) f.2 acc.unanswered) in
          let was : AtSearching e settings log ph.0 ph.1 = subst (IsAtPhase e settings log) ph.2 k.at in
          let to : new.phase ≡ counted_phase ph.1 (counted (f.0.search_status && ph.0) f.0.result_count) =
          subst (λ z. AnswerStep a.asked.op z (phases.Searching ph.0 ph.1) new.phase) f.1 (subst (λ z. AnswerStep a.asked.op a.reply z new.phase) ph.2 s) in
          let c = other_complete (past settings log) (past settings (Got reply ∷ log)) a acc.past (ap is_init f.2) in
          let one : a.asked.op ≡ 1 =
          answered_number e.ask settings e.wanted e.step log orderly k.driven a (subst IsOrderly acc.past (orderly settings (Got reply ∷ log)))
          ∙ ap (λ w. number (operation_for w)) f.2 in
          outcome_driver laws driven numbers orderly e settings log reply old new k er sk (co ∙ k.complete ∙ sym c) l (few_left e.window new.phase)
          (subst (IsAtPhase e settings (Got reply ∷ log)) (sym to)
          (found_at laws driven numbers orderly e settings log reply a f.0 ph.0 ph.1 acc f.1 f.2 one was
          (counted (f.0.search_status && ph.0) f.0.result_count) refl))
      | inr f ↦
          let ph = present_phase e settings log (positions f.1) old.phase k.at
          (subst (λ w. IsIn (operation_for w) (asked_in (events_at e settings log))) f.3 acc.asked)
          (subst (λ w. replies_in (events_at e settings log) (operation_for w) ≡ None) f.3 acc.unanswered) in
          let was : AtAsking e settings log ph.0 = subst (IsAtPhase e settings log) ph.1 k.at in
          let to : IsAnsweredAgenda (a.asked.op - 1) (length (records_in f.0.records)) ph.0 new.phase =
          subst (λ z. AnswerStep a.asked.op z (phases.Asking ph.0) new.phase) f.2 (subst (λ z. AnswerStep a.asked.op a.reply z new.phase) ph.1 s) in
          let c = other_complete (past settings log) (past settings (Got reply ∷ log)) a acc.past (ap is_init f.3) in
          let op : a.asked.op ≡ first_of (positions f.1) + 1 =
          answered_number e.ask settings e.wanted e.step log orderly k.driven a (subst IsOrderly acc.past (orderly settings (Got reply ∷ log)))
          ∙ ap (λ w. number (operation_for w)) f.3 in
          outcome_driver laws driven numbers orderly e settings log reply old new k er sk (co ∙ k.complete ∙ sym c) l (few_left e.window new.phase)
          (shown e settings log reply k acc f.0 f.1 f.2 f.3 op ph.0 was new.phase to)
    ]
  where
    shown : (e : Errand) (settings : Settings) (log : Log) (reply : Apdu) → IsDriver e settings log old
        → Accepted laws driven numbers orderly e settings log reply a → (v : PresentResponse) (ranges : List Range) → a.reply ≡ apdus.PresentResponse v
        → a.asked.what ≡ what.Present ranges → a.asked.op ≡ first_of (positions ranges) + 1 → (was : Agenda) → AtAsking e settings log was
        → (ph : Phase) → IsAnsweredAgenda (a.asked.op - 1) (length (records_in v.records)) was ph → IsAtPhase e settings (Got reply ∷ log) ph
    shown e settings log reply k acc v ranges r w op was at (phases.Asking is) to =
        shown_at laws driven numbers orderly e settings log reply a v ranges was is k.wanted k.steps acc r w op to.0 at
    shown e settings log reply k acc v ranges r w op was at phases.Fresh to = absurd to
    shown e settings log reply k acc v ranges r w op was at phases.Opening to = absurd to
    shown e settings log reply k acc v ranges r w op was at (phases.Opened present three) to = absurd to
    shown e settings log reply k acc v ranges r w op was at (phases.Searching present three) to = absurd to
    shown e settings log reply k acc v ranges r w op was at (phases.Counted three count) to = absurd to
    shown e settings log reply k acc v ranges r w op was at phases.Done to = absurd to
    shown e settings log reply k acc v ranges r w op was at phases.Closed to = absurd to
knows_outcome laws driven numbers orderly taken.Closed old new s er sk co l = λ e settings log reply k q.
    let r = closed_reply e settings log old reply k q in
    let left : new.left ≡ left_in e.window new.phase = l ∙ ap (λ z. left_in z.window new.phase) (er ∙ k.errand) in
    record {
      steered = r.steered;
      driven = r.driven;
      errand = er ∙ k.errand;
      fit = k.fit;
      wanted = k.wanted;
      steps = k.steps;
      room = k.room;
      skipped = sk ∙ r.skipped;
      complete = co ∙ r.complete;
      left = left;
      few = subst (λ n. n ≤ 3 + e.window) (sym left) (few_left e.window new.phase);
      at = subst (IsAtPhase e settings (Got reply ∷ log)) (sym s) r.at;
    }
