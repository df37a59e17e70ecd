-- What each log keeps, and that an admitted call has a request.
use Rattle.std.proofs.Common.{◌≡◌, inl, inr, ℕ, Bool, true, false, cond, nat_eq, ◌||◌, ◌==◌, List, [], ◌∷◌, ◌++◌, map, Option, None, Some, Result, Ok, Err, refl, sym, ap, subst, ◌∙◌, true≢false, arith}
use Rattle.std.proofs.lemmas.Bool.Decides.{nat_tests}
use Rattle.std.specs.Prelude.{Contains}
use Rattle.std.specs.List.{list_any, AllByRecursion, IsDistinct}
use Rattle.zplan.specs.Positions.{IsIn}
use Rattle.zplan.proofs.Cuts.{in_left}
use Rattle.zapdu.specs.declared.apdu.Apdu.{Apdu}
use Rattle.zapdu.specs.declared.apdu.Apdu.TheVariants as apdus
use Rattle.zorigin.specs.declared.settings.Settings.{Settings}
use Rattle.zorigin.specs.declared.answer.What.{What}
use Rattle.zorigin.specs.declared.answer.What.TheVariants as what
use Rattle.zorigin.specs.declared.answer.Asked.{Asked}
use Rattle.zorigin.specs.declared.answer.Answer.{Answer}
use Rattle.zorigin.specs.declared.answer.Taken.{Taken}
use Rattle.zorigin.specs.declared.answer.Taken.TheVariants as taken
use Rattle.zorigin.specs.declared.refusal.CallRefused.{CallRefused}
use Rattle.zorigin.specs.declared.refusal.Refused.{Refused}
use Rattle.zorigin.specs.declared.state.State.TheVariants as states
use Rattle.zorigin.specs.declared.state.Searched.{Searched}
use Rattle.zorigin.specs.Answers.{has_valid_ranges}
use Rattle.zorigin.specs.Standings.{Call, Init, Search, Present, Close, Standing, is_open, is_ready}
use Rattle.zorigin.specs.Sending.{init_request, search_request, close_request, request_of}
use Rattle.zorigin.specs.Calls.{refusal, early_refusal, or_unsendable, unsendable, call_result_by}
use Rattle.zorigin.specs.Changes.{options_in_force}
use Rattle.zorigin.specs.Replies.{verdict}
use Rattle.zorigin.specs.Log.{Made, Got, Log, Past, past, operation_of, asked, is_answer_to, is_init, is_opening, opening, is_init_call, is_close_call, state_by, closing_state, state_from, state_of, searches_in, op_of, standing, admit, admit_unless, after_verdict}
use Rattle.zorigin.specs.Laws.{searched_set, answered_op, IsAcceptance, HasAssociation, IsOrderly, HasRequest}
use Rattle.zorigin.proofs.Operations.{has, AreDistinct}
use Rattle.zorigin.proofs.Searches.{of_set, AreSetsDistinct, sets_with}
use Rattle.zorigin.proofs.Proper.{made, asked_more, proper, IsNews, news, answer_in, free, ready_if}
use Rattle.zorigin.proofs.Members.{contained, among, in_push, of_all, find_in}
use Rattle.zorigin.proofs.Accepting.{same_call, stays, accepted_so}
use Rattle.zorigin.proofs.Calling.{ready_present}

neither : (a b : Bool) → (a || b) ≡ false → (a ≡ false) × (b ≡ false)
neither false b h = (refl, h)
neither true b h = absurd (true≢false h)

-- ---- distinct numbers

apart_ops : (op : ℕ) (qs : List Asked) → list_any (has op) qs ≡ false → AllByRecursion (λ m. nat_eq op m ≡ false) (map op_of qs)
apart_ops op [] h = tt
apart_ops op (q ∷ qs) h = let n = neither (q.op == op) (list_any (has op) qs) h in (other q.op n.0, apart_ops op qs n.1)
  where
    other : (m : ℕ) → (m == op) ≡ false → nat_eq op m ≡ false
    other m e = grind (arith, nat_tests)

distinct_ops : (qs : List Asked) → AreDistinct qs → IsDistinct nat_eq (map op_of qs)
unfolding IsDistinct
distinct_ops [] d = tt
distinct_ops (q ∷ qs) d = (apart_ops q.op qs d.0, distinct_ops qs d.1)

apart_sets : (set : ℕ) (ss : List Searched) → list_any (of_set set) ss ≡ false → AllByRecursion (λ m. nat_eq set m ≡ false) (map searched_set ss)
apart_sets set [] h = tt
apart_sets set (s ∷ ss) h = let n = neither (nat_eq set s.set) (list_any (of_set set) ss) h in (n.0, apart_sets set ss n.1)

distinct_sets : (ss : List Searched) → AreSetsDistinct ss → IsDistinct nat_eq (map searched_set ss)
unfolding IsDistinct
distinct_sets [] d = tt
distinct_sets (s ∷ ss) d = (apart_sets s.set ss d.0, distinct_sets ss d.1)

all_answers : (P : ℕ → Type 0) (xs : List Answer) (a : Answer) → AllByRecursion P (map answered_op xs) → P a.asked.op → AllByRecursion P (map answered_op (xs ++ a ∷ []))
all_answers P [] a h x = (x, tt)
all_answers P (y ∷ ys) a h x = (h.0, all_answers P ys a h.1 x)

answer_more : (xs : List Answer) (a : Answer) → list_any (is_answer_to a.asked.op) xs ≡ false → IsDistinct nat_eq (map answered_op xs) → IsDistinct nat_eq (map answered_op (xs ++ a ∷ []))
unfolding IsDistinct
answer_more [] a h d = (tt, tt)
answer_more (x ∷ xs) a h d =
    let n = neither (x.asked.op == a.asked.op) (list_any (is_answer_to a.asked.op) xs) h in
    (all_answers (λ m. nat_eq x.asked.op m ≡ false) xs a d.0 n.0, answer_more xs a n.1 d.1)

abbrev AreOnce : List Answer → Type 0
AreOnce xs = IsDistinct nat_eq (map answered_op xs)

once_verdict : (p : Past) (reply : Apdu) (v : Result Taken Refused) → ((a : Answer) → answer_in v ≡ Some a → IsNews p reply a) → AreOnce p.accepted → AreOnce (after_verdict p v).accepted
once_verdict p reply (Ok (taken.Opened a)) n d = answer_more p.accepted a (n a refl).unanswered d
once_verdict p reply (Ok (taken.Rejected a)) n d = answer_more p.accepted a (n a refl).unanswered d
once_verdict p reply (Ok (taken.Answered a)) n d = answer_more p.accepted a (n a refl).unanswered d
once_verdict p reply (Ok taken.Closed) n d = d
once_verdict p reply (Err r) n d = elim (is_open (state_of p)) as (λ b. AreOnce (cond b (record p { fault = Some r }) p).accepted) [ true ↦ d | false ↦ d ]

once : (settings : Settings) (log : Log) → AreOnce (past settings log).accepted
unfolding IsDistinct
once settings [] = tt
once settings (Made c ∷ log) = let p = past settings log in subst AreOnce (sym (same_call p c (refusal (standing p) c))) (once settings log)
once settings (Got reply ∷ log) = let p = past settings log in once_verdict p reply (verdict (standing p) reply) (λ a. news p reply a (proper settings log)) (once settings log)

-- ---- an answered operation was admitted

asked_call : (p : Past) (c : Call) (r : Option CallRefused) (q : Asked) → IsIn q (asked p) → IsIn q (asked (admit_unless p c r))
asked_call p c (Some r) q i = i
asked_call p c None q i = subst (λ l. IsIn q l) (sym (asked_more p c)) (in_left q (asked p) (operation_of c) i)

same_admitted : (p : Past) (v : Result Taken Refused) → p.admitted ≡ (after_verdict p v).admitted
same_admitted p (Ok (taken.Opened a)) = refl
same_admitted p (Ok (taken.Rejected a)) = refl
same_admitted p (Ok (taken.Answered a)) = refl
same_admitted p (Ok taken.Closed) = refl
same_admitted p (Err r) = elim (is_open (state_of p)) as (λ b. p.admitted ≡ (cond b (record p { fault = Some r }) p).admitted) [ true ↦ refl | false ↦ refl ]

asked_verdict : (p : Past) (v : Result Taken Refused) (q : Asked) → IsIn q (asked p) → IsIn q (asked (after_verdict p v))
asked_verdict p (Ok (taken.Opened a)) q i = i
asked_verdict p (Ok (taken.Rejected a)) q i = i
asked_verdict p (Ok (taken.Answered a)) q i = i
asked_verdict p (Ok taken.Closed) q i = i
asked_verdict p (Err r) q i = elim (is_open (state_of p)) as (λ b. IsIn q (asked (cond b (record p { fault = Some r }) p))) [ true ↦ i | false ↦ i ]

asked_over : (settings : Settings) (later log : Log) (q : Asked) → IsIn q (asked (past settings log)) → IsIn q (asked (past settings (later ++ log)))
asked_over settings [] log q i = i
asked_over settings (Made c ∷ later) log q i = let p = past settings (later ++ log) in asked_call p c (refusal (standing p) c) q (asked_over settings later log q i)
asked_over settings (Got reply ∷ later) log q i = let p = past settings (later ++ log) in asked_verdict p (verdict (standing p) reply) q (asked_over settings later log q i)

known : (settings : Settings) (log : Log) (a : Answer) → Contains (past settings log).accepted a → Contains (asked (past settings log)) a.asked
known settings log a h =
    let i = accepted_so settings log a h in
    let there = among a.asked (asked (past settings i.earlier)) i.asked in
    let then = asked_over settings (Got a.reply ∷ []) i.earlier a.asked there in
    let now = asked_over settings i.later (Got a.reply ∷ i.earlier) a.asked then in
    subst (λ l. Contains (asked (past settings l)) a.asked) (sym i.cut) (contained a.asked (asked (past settings (i.later ++ Got a.reply ∷ i.earlier))) now)

-- ---- Close

pub init_what : (w : What) → is_init w ≡ true → w ≡ what.Init
init_what what.Init h = refl
init_what what.Search h = absurd (true≢false (sym h))
init_what (what.Present ranges) h = absurd (true≢false (sym h))

-- Ready is said only by a response that accepts
ready_accepts : (closing : Bool) (reply : Apdu) → is_ready (closing_state closing (state_by reply)) ≡ true → IsAcceptance reply
ready_accepts closing (apdus.InitResponse v) h = by v.result closing (options_in_force v).v3 (options_in_force v).concurrent (options_in_force v).named h
  where
    by : (b c v3 concurrent named : Bool) → is_ready (closing_state c (cond b (states.Ready v3 concurrent named) states.Closed)) ≡ true → b ≡ true
    by true c v3 concurrent named e = refl
    by false c v3 concurrent named e = absurd (true≢false (sym e))
ready_accepts closing (apdus.InitRequest v) h = absurd (true≢false (sym h))
ready_accepts closing (apdus.SearchRequest v) h = absurd (true≢false (sym h))
ready_accepts closing (apdus.SearchResponse v) h = absurd (true≢false (sym h))
ready_accepts closing (apdus.PresentRequest v) h = absurd (true≢false (sym h))
ready_accepts closing (apdus.PresentResponse v) h = absurd (true≢false (sym h))
ready_accepts closing (apdus.Close v) h = absurd (true≢false (sym h))

answer_ready : (f : Option Refused) (closed closing begun : Bool) (o : Option Answer) → is_ready (state_from f closed closing begun o) ≡ true → (a : Answer) × (o ≡ Some a) × IsAcceptance a.reply
answer_ready (Some r) closed closing begun o h = absurd (true≢false (sym h))
answer_ready None true closing begun o h = absurd (true≢false (sym h))
answer_ready None false closing true None h = absurd (true≢false (sym h))
answer_ready None false closing false None h = absurd (true≢false (sym h))
answer_ready None false closing begun (Some a) h = (a, refl, ready_accepts closing a.reply h)

ready_opened : (p : Past) → is_ready (state_of p) ≡ true → HasAssociation p
ready_opened p h =
    let answer = answer_ready p.fault p.closed (list_any is_close_call p.admitted) (list_any is_init_call p.admitted) (opening p) h in
    let found = find_in is_opening p.accepted answer.0 answer.1 in
    record { answer = answer.0; accepted = contained answer.0 p.accepted found.0; init = init_what answer.0.asked.what found.1; accepts = answer.2 }

opened_more : (p q : Past) → ((a : Answer) → IsIn a p.accepted → IsIn a q.accepted) → HasAssociation p → HasAssociation q
opened_more p q kept o = record { answer = o.answer; accepted = contained o.answer q.accepted (kept o.answer (among o.answer p.accepted o.accepted)); init = o.init; accepts = o.accepts }

closing_call : (p : Past) (c : Call) (r : Option CallRefused) → refusal (standing p) c ≡ r → (IsIn Close p.admitted → HasAssociation p) → IsIn Close (admit_unless p c r).admitted → HasAssociation (admit_unless p c r)
closing_call p c (Some r) e before i = before i
closing_call p c None e before i = opened_more p (admit p c) (λ a j. j) (elim (in_push Close c p.admitted i) [ inl j ↦ before j | inr same ↦ now same ])
  where
    now : Close ≡ c → HasAssociation p
    now same =
        let free_close = free (standing p) Close (subst (λ x. refusal (standing p) x ≡ None) (sym same) e) in
        ready_opened p (ready_if (is_ready (state_of p)) free_close.state)

closing : (settings : Settings) (log : Log) → IsIn Close (past settings log).admitted → HasAssociation (past settings log)
closing settings [] i = absurd i
closing settings (Made c ∷ log) i = let p = past settings log in closing_call p c (refusal (standing p) c) refl (closing settings log) i
closing settings (Got reply ∷ log) i =
    let p = past settings log in
    let v = verdict (standing p) reply in
    opened_more p (after_verdict p v) (stays p v) (closing settings log (subst (λ l. IsIn Close l) (sym (same_admitted p v)) i))

-- ---- all of it

pub orderly : (settings : Settings) (log : Log) → IsOrderly (past settings log)
orderly settings log =
    let p = past settings log in
    let ok = proper settings log in
    record {
      operations = distinct_ops (asked p) ok.distinct;
      sets = distinct_sets (searches_in p) (sets_with p.accepted (made p) ok.sets);
      known = known settings log;
      once = once settings log;
      positions = λ q h. of_all (λ (x : Asked). has_valid_ranges x.what ≡ true) (asked p) q ok.positions (among q (asked p) h);
      closing = λ h. closing settings log (among Close p.admitted h);
    }

-- ---- requests

early : (s : Standing) (c : Call) → refusal s c ≡ None → early_refusal s c ≡ None
unfolding refusal
early s c h = none (unsendable s c) (early_refusal s c) h
  where
    none : (b : Bool) (o : Option CallRefused) → or_unsendable b o ≡ None → o ≡ None
    none b None e = refl
    none b (Some r) e = absurd (cc)

answered : (s : Standing) (c : Call) (apdu : Apdu) → refusal s c ≡ None → request_of s c ≡ Some apdu → HasRequest s c
answered s c apdu h e = record { request = apdu; made = e; returned = ap (λ r. call_result_by r (request_of s c)) h ∙ ap (call_result_by None) e }

pub sent_request : (s : Standing) (c : Call) → refusal s c ≡ None → HasRequest s c
sent_request s Init h = answered s Init (init_request s.settings) h refl
sent_request s (Search op set ask) h = answered s (Search op set ask) (search_request s.force.named op set ask) h refl
sent_request s (Present op set ranges) h =
    let ready = ready_present s op set ranges (early s (Present op set ranges) h) in
    answered s (Present op set ranges) ready.0 h ready.1.request
sent_request s Close h = answered s Close close_request h refl
