-- What holds of each log: how its operations, answers and calls hang together.
use Rattle.std.proofs.Common.{◌≡◌, ℕ, Bool, true, false, cond, not, ◌||◌, ◌==◌, nat_eq, List, [], ◌∷◌, ◌++◌, Option, None, Some, Result, Ok, Err, refl, sym, ap, subst, ◌∙◌, true≢false, arith, append-nil}
use Rattle.std.specs.List.{list_any, flat_map, AllByRecursion}
use Rattle.std.proofs.lemmas.Grind.{flat_map-append}
use Rattle.std.proofs.lemmas.List.Folds.{list_any-append}
use Rattle.zapdu.specs.declared.apdu.Apdu.{Apdu}
use Rattle.zapdu.specs.declared.apdu.Apdu.TheVariants as apdus
use Rattle.zorigin.specs.declared.settings.Settings.{Settings}
use Rattle.zorigin.specs.declared.settings.Ask.{Ask}
use Rattle.zorigin.specs.declared.answer.What.TheVariants as what
use Rattle.zorigin.specs.declared.answer.Asked.{Asked}
use Rattle.zorigin.specs.declared.answer.Answer.{Answer}
use Rattle.zorigin.specs.declared.answer.Taken.{Taken}
use Rattle.zorigin.specs.declared.answer.Taken.TheVariants as taken
use Rattle.zorigin.specs.declared.refusal.CallRefused.{CallRefused}
use Rattle.zorigin.specs.declared.refusal.Refused.{Refused}
use Rattle.zorigin.specs.declared.refusal.Refused.TheVariants as refused
use Rattle.zorigin.specs.declared.state.Searched.{Searched}
use Rattle.zorigin.specs.References.{operation_number}
use Rattle.zorigin.specs.Fitting.{first_row, fault_of}
use Rattle.zorigin.specs.Ranges.{are_ranges}
use Rattle.zorigin.specs.Answers.{has_valid_ranges}
use Rattle.zorigin.specs.Standings.{Call, Init, Search, Present, Close, Standing, is_open, is_ready}
use Rattle.zorigin.specs.Calls.{refusal, or_unsendable, unsendable, early_rows, early_refusal, wrong_state, op_used, set_used, out_of_range}
use Rattle.zorigin.specs.Replies.{only_of, numbered_as, named, against, judged, open_verdict, verdict, taken_as, taken_by}
use Rattle.zorigin.specs.Changes.{init_asked, search_asked, unanswered}
use Rattle.zorigin.specs.Accepts.{id_of}
use Rattle.zorigin.specs.Log.{Made, Got, Log, Past, past, operation_of, asked, is_answer_to, is_answered, outstanding, is_init, is_opening, opening, is_init_call, is_close_call, state_from, state_of, search_in, standing, admit, admit_unless, accept, after_verdict}
use Rattle.zorigin.proofs.Operations.{has, AreDistinct, same_op, or_none, any_ops, find_some, all_filter, all_passed, all_push, all_looked, all_only, all_has, distinct_push}
use Rattle.zorigin.proofs.Searches.{of_set, AreSetsDistinct, Agrees, AreAgreed, sets_push, agreed_more, agreed_new, none_filed}

-- ---- operations

pub asked_more : (p : Past) (c : Call) → asked (admit p c) ≡ asked p ++ operation_of c
asked_more p c = flat_map-append operation_of p.admitted (c ∷ []) ∙ ap (λ l. asked p ++ l) (append-nil (operation_of c))

-- the searches, without what came of them
abbrev pub made : Past → List Searched
made p = flat_map search_in p.admitted

made_more : (p : Past) (c : Call) → made (admit p c) ≡ made p ++ search_in c
made_more p c = flat_map-append search_in p.admitted (c ∷ []) ∙ ap (λ l. made p ++ l) (append-nil (search_in c))

made_same : (p : Past) (c : Call) → search_in c ≡ [] → made (admit p c) ≡ made p
made_same p c e = made_more p c ∙ ap (λ l. made p ++ l) e ∙ append-nil (made p)

pub record IsProper (p : Past) : Type 0 where
  -- a reply was accepted only to an operation that was asked
  pub known : (op : ℕ) → list_any (has op) (asked p) ≡ false → list_any (is_answer_to op) p.accepted ≡ false
  -- Init has number 0, and asked positions are some
  pub zero : AllByRecursion (λ (q : Asked). is_init q.what ≡ true → q.op ≡ 0) (asked p)
  pub positions : AllByRecursion (λ (q : Asked). has_valid_ranges q.what ≡ true) (asked p)
  pub opened_zero : AllByRecursion (λ (a : Answer). is_opening a ≡ true → a.asked.op ≡ 0) p.accepted
  pub distinct : AreDistinct (asked p)
  -- no two searches have one set, and one with an operation's number has its set
  pub sets : AreSetsDistinct (made p)
  pub agreed : AreAgreed (made p) (asked p)
  -- Close comes once Init was answered
  pub closing : list_any is_close_call p.admitted ≡ true → list_any is_opening p.accepted ≡ true

-- ---- a verdict

-- the answer in a verdict
abbrev pub answer_in : Result Taken Refused → Option Answer
answer_in (Ok (taken.Opened answer)) = Some answer
answer_in (Ok (taken.Rejected answer)) = Some answer
answer_in (Ok (taken.Answered answer)) = Some answer
answer_in (Ok taken.Closed) = None
answer_in (Err reason) = None

-- what a verdict says of its answer
pub record IsFound (s : Standing) (got : Apdu) (a : Answer) : Type 0 where
  pub reply : a.reply ≡ got
  pub named : named s (id_of got) ≡ Some a.asked
  pub fits : fault_of a.asked.what a.reply ≡ None

answers_taken : (x a : Answer) → answer_in (Ok (taken_as x)) ≡ Some a → x ≡ a
answers_taken x a h = by x.reply h
  where
    either : (b : Bool) → answer_in (Ok (cond b (taken.Opened x) (taken.Rejected x))) ≡ Some a → x ≡ a
    either true e = cc
    either false e = cc

    by : (reply : Apdu) → answer_in (Ok (taken_by x reply)) ≡ Some a → x ≡ a
    by (apdus.InitRequest v) e = cc
    by (apdus.InitResponse v) e = either v.result e
    by (apdus.SearchRequest v) e = cc
    by (apdus.SearchResponse v) e = cc
    by (apdus.PresentRequest v) e = cc
    by (apdus.PresentResponse v) e = cc
    by (apdus.Close v) e = cc

judged_found : (q : Asked) (reply : Apdu) (a : Answer) (f : Option Refused) → fault_of q.what reply ≡ f
    → answer_in (judged (record { asked = q; reply = reply }) f) ≡ Some a → (a.reply ≡ reply) × (q ≡ a.asked) × (fault_of a.asked.what a.reply ≡ None)
judged_found q reply a (Some r) e h = absurd (cc)
judged_found q reply a None e h =
    let x : record { asked = q; reply = reply } ≡ a = answers_taken (record { asked = q; reply = reply }) a h in
    (λ i. (sym x i).reply, λ i. (x i).asked, subst (λ (y : Answer). fault_of y.asked.what y.reply ≡ None) x e)

against_found : (s : Standing) (o : Option Asked) (reply : Apdu) (a : Answer) → named s (id_of reply) ≡ o → answer_in (against o reply) ≡ Some a → IsFound s reply a
against_found s None reply a n h = absurd (cc)
against_found s (Some q) reply a n h =
    let f = judged_found q reply a (fault_of q.what reply) refl h in
    record { reply = f.0; named = n ∙ ap (λ x. Some x) f.1; fits = f.2 }

answered_found : (s : Standing) (reply : Apdu) (a : Answer) → answer_in (open_verdict s reply) ≡ Some a → IsFound s reply a
answered_found s (apdus.InitResponse v) a h = against_found s (named s v.reference_id) (apdus.InitResponse v) a refl h
answered_found s (apdus.SearchResponse v) a h = against_found s (named s v.reference_id) (apdus.SearchResponse v) a refl h
answered_found s (apdus.PresentResponse v) a h = against_found s (named s v.reference_id) (apdus.PresentResponse v) a refl h
answered_found s (apdus.InitRequest v) a h = absurd (cc)
answered_found s (apdus.SearchRequest v) a h = absurd (cc)
answered_found s (apdus.PresentRequest v) a h = absurd (cc)
answered_found s (apdus.Close v) a h = absurd (cc)

pub verdict_found : (s : Standing) (reply : Apdu) (a : Answer) → answer_in (verdict s reply) ≡ Some a → (is_open s.state ≡ true) × IsFound s reply a
unfolding verdict
verdict_found s reply a h = elim (is_open s.state) as (λ b. answer_in (cond b (open_verdict s reply) (Err refused.WrongState)) ≡ Some a → (b ≡ true) × IsFound s reply a) [
  | true ↦ λ e. (refl, answered_found s reply a e)
  | false ↦ λ e. absurd (cc)
] h

-- what holds of each outstanding operation holds of the one that is named
pub named_all : (P : Asked → Type 0) (p : Past) → AllByRecursion P (outstanding p) → (id : Option (List ℕ)) (q : Asked) → named (standing p) id ≡ Some q → P q
named_all P p h None q e = by (standing p).force.concurrent e
  where
    by : (b : Bool) → cond b None (only_of (standing p).outstanding) ≡ Some q → P q
    by true e = absurd (cc)
    by false e = all_only P (outstanding p) q h e
named_all P p h (Some id) q e = by (operation_number id) e
  where
    by : (o : Option ℕ) → numbered_as (standing p).outstanding o ≡ Some q → P q
    by None e = absurd (cc)
    by (Some op) e = all_looked P op (outstanding p) q h e

-- what is known of an answer that a verdict gives
pub record IsNews (p : Past) (reply : Apdu) (a : Answer) : Type 0 where
  pub taking : is_open (state_of p) ≡ true
  pub found : IsFound (standing p) reply a
  pub unanswered : is_answered p a.asked.op ≡ false
  pub asked : list_any (has a.asked.op) (asked p) ≡ true
  pub zero : is_init a.asked.what ≡ true → a.asked.op ≡ 0
  pub positions : has_valid_ranges a.asked.what ≡ true
  pub agreed : AllByRecursion (Agrees a.asked) (made p)

pub not_false : (b : Bool) → not b ≡ true → b ≡ false
not_false false h = refl
not_false true h = absurd (true≢false (sym h))

pub news : (p : Past) (reply : Apdu) (a : Answer) → IsProper p → answer_in (verdict (standing p) reply) ≡ Some a → IsNews p reply a
news p reply a ok h =
    let f = verdict_found (standing p) reply a h in
    let still = λ (q : Asked). not (is_answered p q.op) in
    let each = λ (P : Asked → Type 0) (all : AllByRecursion P (asked p)). named_all P p (all_filter P still (asked p) all) (id_of reply) a.asked f.1.named in
    record {
      taking = f.0;
      found = f.1;
      unanswered = not_false (is_answered p a.asked.op) (named_all (λ q. still q ≡ true) p (all_passed still (asked p)) (id_of reply) a.asked f.1.named);
      asked = each (λ (q : Asked). list_any (has q.op) (asked p) ≡ true) (all_has (asked p));
      zero = each (λ (q : Asked). is_init q.what ≡ true → q.op ≡ 0) ok.zero;
      positions = each (λ (q : Asked). has_valid_ranges q.what ≡ true) ok.positions;
      agreed = each (λ (q : Asked). AllByRecursion (Agrees q) (made p)) ok.agreed;
    }

proper_accept : (p : Past) (reply : Apdu) (a : Answer) → IsNews p reply a → IsProper p → IsProper (accept p a)
proper_accept p reply a n ok = record {
  known = λ op h. list_any-append (is_answer_to op) p.accepted (a ∷ []) ∙ rw (ok.known op h, other op h) refl;
  zero = ok.zero;
  positions = ok.positions;
  opened_zero = all_push (λ (x : Answer). is_opening x ≡ true → x.asked.op ≡ 0) p.accepted a ok.opened_zero n.zero;
  distinct = ok.distinct;
  sets = ok.sets;
  agreed = ok.agreed;
  closing = λ h. list_any-append is_opening p.accepted (a ∷ []) ∙ rw (ok.closing h) refl;
}
  where
    other : (op : ℕ) → list_any (has op) (asked p) ≡ false → (a.asked.op == op) ≡ false
    other op h = by (a.asked.op == op) refl
      where
        by : (b : Bool) → (a.asked.op == op) ≡ b → (a.asked.op == op) ≡ false
        by false e = e
        by true e = absurd (true≢false (sym n.asked ∙ ap (λ m. list_any (has m) (asked p)) (same_op a.asked.op op e) ∙ h))

proper_verdict : (p : Past) (reply : Apdu) (v : Result Taken Refused) → ((a : Answer) → answer_in v ≡ Some a → IsNews p reply a) → IsProper p → IsProper (after_verdict p v)
proper_verdict p reply (Ok (taken.Opened a)) n ok = proper_accept p reply a (n a refl) ok
proper_verdict p reply (Ok (taken.Rejected a)) n ok = proper_accept p reply a (n a refl) ok
proper_verdict p reply (Ok (taken.Answered a)) n ok = proper_accept p reply a (n a refl) ok
proper_verdict p reply (Ok taken.Closed) n ok = record { known = ok.known; zero = ok.zero; positions = ok.positions; opened_zero = ok.opened_zero; distinct = ok.distinct; sets = ok.sets; agreed = ok.agreed; closing = ok.closing }
proper_verdict p reply (Err r) n ok = by (is_open (state_of p))
  where
    by : (b : Bool) → IsProper (cond b (record p { fault = Some r }) p)
    by true = record { known = ok.known; zero = ok.zero; positions = ok.positions; opened_zero = ok.opened_zero; distinct = ok.distinct; sets = ok.sets; agreed = ok.agreed; closing = ok.closing }
    by false = ok

-- ---- a call

passed : {R : Type 0} (rows : List (Bool × R)) → first_row rows ≡ None → AllByRecursion (λ (row : Bool × R). row.0 ≡ false) rows
passed [] h = tt
passed (row ∷ rows) h =
    let more = passed rows in
    elim row.0 as (λ b. row.0 ≡ b → cond b (Some row.1) (first_row rows) ≡ None → AllByRecursion (λ x. x.0 ≡ false) (row ∷ rows)) [ true ↦ λ e g. absurd (cc) | false ↦ λ e g. (e, more g) ] refl h

-- what holds where a call is admitted
pub record IsFree (s : Standing) (c : Call) : Type 0 where
  pub state : wrong_state s c ≡ false
  pub op : op_used s c ≡ false
  pub set : set_used s c ≡ false
  pub range : out_of_range s c ≡ false

early_none : (b : Bool) (o : Option CallRefused) → or_unsendable b o ≡ None → o ≡ None
early_none b None h = refl
early_none b (Some r) h = absurd (cc)

pub free : (s : Standing) (c : Call) → refusal s c ≡ None → IsFree s c
unfolding refusal
free s c h =
    let rows = passed (early_rows s c) (early_none (unsendable s c) (early_refusal s c) h) in
    record { state = rows.0; op = rows.1.1.0; set = rows.1.1.1.0; range = rows.1.1.1.1.1.1.1.0 }

-- Ready comes of an answer to Init
pub ready_opened : (p : Past) → is_ready (state_of p) ≡ true → list_any is_opening p.accepted ≡ true
ready_opened p h = by (opening p) refl h
  where
    nobody : (f : Option Refused) (closed closing begun : Bool) → is_ready (state_from f closed closing begun None) ≡ true → ⊥
    nobody (Some r) closed closing begun e = cc
    nobody None true closing begun e = cc
    nobody None false closing true e = cc
    nobody None false closing false e = cc

    by : (o : Option Answer) → opening p ≡ o → is_ready (state_from p.fault p.closed (list_any is_close_call p.admitted) (list_any is_init_call p.admitted) o) ≡ true → list_any is_opening p.accepted ≡ true
    by (Some a) e g = find_some is_opening p.accepted a e
    by None e g = absurd (nobody p.fault p.closed (list_any is_close_call p.admitted) (list_any is_init_call p.admitted) g)

proper_operation : (p : Past) (c : Call) (q : Asked) → operation_of c ≡ q ∷ [] → is_close_call c ≡ false
    → list_any (has q.op) (asked p) ≡ false → (is_init q.what ≡ true → q.op ≡ 0) → has_valid_ranges q.what ≡ true
    → AreSetsDistinct (made (admit p c)) → AreAgreed (made (admit p c)) (asked p ++ q ∷ []) → IsProper p → IsProper (admit p c)
proper_operation p c q e close fresh zero positions sets agreed ok =
    let more : asked (admit p c) ≡ asked p ++ q ∷ [] = asked_more p c ∙ ap (λ l. asked p ++ l) e in
    record {
      known = λ op h. ok.known op (earlier op (ap (list_any (has op)) (sym more) ∙ h));
      zero = subst (AllByRecursion (λ (x : Asked). is_init x.what ≡ true → x.op ≡ 0)) (sym more) (all_push (λ (x : Asked). is_init x.what ≡ true → x.op ≡ 0) (asked p) q ok.zero zero);
      positions = subst (AllByRecursion (λ (x : Asked). has_valid_ranges x.what ≡ true)) (sym more) (all_push (λ (x : Asked). has_valid_ranges x.what ≡ true) (asked p) q ok.positions positions);
      opened_zero = ok.opened_zero;
      distinct = subst AreDistinct (sym more) (distinct_push (asked p) q ok.distinct fresh);
      sets = sets;
      agreed = subst (AreAgreed (made (admit p c))) (sym more) agreed;
      closing = λ h. ok.closing (sym (or_none (list_any is_close_call p.admitted)) ∙ ap (λ b. list_any is_close_call p.admitted || (b || false)) (sym close) ∙ sym (list_any-append is_close_call p.admitted (c ∷ [])) ∙ h);
    }
  where
    earlier : (op : ℕ) → list_any (has op) (asked p ++ q ∷ []) ≡ false → list_any (has op) (asked p) ≡ false
    earlier op h = let e = list_any-append (has op) (asked p) (q ∷ []) in grind arith

pub fresh_op : (p : Past) (op : ℕ) → list_any (nat_eq op) (standing p).used ≡ false → list_any (has op) (asked p) ≡ false
fresh_op p op h = sym (any_ops op (asked p)) ∙ h

in_range : (b c : Bool) → (not b || c) ≡ false → b ≡ true
in_range true c h = refl
in_range false c h = absurd (true≢false h)

pub ready_if : (b : Bool) → not b ≡ false → b ≡ true
ready_if true h = refl
ready_if false h = absurd (true≢false h)

-- a call that is no search
sets_same : (p : Past) (c : Call) → search_in c ≡ [] → IsProper p → AreSetsDistinct (made (admit p c))
sets_same p c e ok = subst AreSetsDistinct (sym (made_same p c e)) ok.sets

agreed_same : (p : Past) (c : Call) (q : Asked) → search_in c ≡ [] → list_any (has q.op) (asked p) ≡ false → IsProper p → AreAgreed (made (admit p c)) (asked p ++ q ∷ [])
agreed_same p c q e fresh ok =
    subst (λ ss. AreAgreed ss (asked p ++ q ∷ [])) (sym (made_same p c e))
    (all_push (λ (x : Asked). AllByRecursion (Agrees x) (made p)) (asked p) q ok.agreed (agreed_new q p.admitted fresh))

sets_search : (p : Past) (op set : ℕ) (ask : Ask) → list_any (of_set set) (made p) ≡ false → IsProper p → AreSetsDistinct (made (admit p (Search op set ask)))
sets_search p op set ask fresh ok = subst AreSetsDistinct (sym (made_more p (Search op set ask))) (sets_push (made p) (unanswered op set ask) ok.sets fresh)

agreed_search : (p : Past) (op set : ℕ) (ask : Ask) → list_any (has op) (asked p) ≡ false → IsProper p
    → AreAgreed (made (admit p (Search op set ask))) (asked p ++ search_asked op set ∷ [])
agreed_search p op set ask fresh ok =
    let q = search_asked op set in
    let s = unanswered op set ask in
    subst (λ ss. AreAgreed ss (asked p ++ q ∷ [])) (sym (made_more p (Search op set ask)))
    (all_push (λ (x : Asked). AllByRecursion (Agrees x) (made p ++ s ∷ [])) (asked p) q (agreed_more s (asked p) (made p) fresh ok.agreed)
    (all_push (Agrees q) (made p) s (agreed_new q p.admitted fresh) (λ _. refl)))

proper_admit : (p : Past) (c : Call) → IsFree (standing p) c → IsProper p → IsProper (admit p c)
proper_admit p Init f ok =
    let fresh = fresh_op p 0 f.op in
    proper_operation p Init init_asked refl refl fresh (λ _. refl) refl (sets_same p Init refl ok) (agreed_same p Init init_asked refl fresh ok) ok
proper_admit p (Search op set ask) f ok =
    let fresh = fresh_op p op f.op in
    proper_operation p (Search op set ask) (search_asked op set) refl refl fresh (λ h. absurd (true≢false (sym h))) refl
    (sets_search p op set ask (none_filed p.accepted set (made p) f.set) ok) (agreed_search p op set ask fresh ok) ok
proper_admit p (Present op set ranges) f ok =
    let fresh = fresh_op p op f.op in
    let q : Asked = record { op = op; set = set; what = what.Present ranges } in
    proper_operation p (Present op set ranges) q refl refl fresh (λ h. absurd (true≢false (sym h))) (in_range (are_ranges ranges) _ f.range)
    (sets_same p (Present op set ranges) refl ok) (agreed_same p (Present op set ranges) q refl fresh ok) ok
proper_admit p Close f ok =
    let more : asked (admit p Close) ≡ asked p = asked_more p Close ∙ append-nil (asked p) in
    record {
      known = λ op h. ok.known op (ap (list_any (has op)) (sym more) ∙ h);
      zero = subst (AllByRecursion (λ (x : Asked). is_init x.what ≡ true → x.op ≡ 0)) (sym more) ok.zero;
      positions = subst (AllByRecursion (λ (x : Asked). has_valid_ranges x.what ≡ true)) (sym more) ok.positions;
      opened_zero = ok.opened_zero;
      distinct = subst AreDistinct (sym more) ok.distinct;
      sets = sets_same p Close refl ok;
      agreed = subst (AreAgreed (made (admit p Close))) (sym more) (subst (λ ss. AreAgreed ss (asked p)) (sym (made_same p Close refl)) ok.agreed);
      closing = λ _. ready_opened p (ready_if (is_ready (state_of p)) f.state);
    }

pub proper_call : (p : Past) (c : Call) (r : Option CallRefused) → refusal (standing p) c ≡ r → IsProper p → IsProper (admit_unless p c r)
proper_call p c (Some r) e ok = ok
proper_call p c None e ok = proper_admit p c (free (standing p) c e) ok

pub proper : (settings : Settings) (log : Log) → IsProper (past settings log)
proper settings [] = record { known = λ op h. refl; zero = tt; positions = tt; opened_zero = tt; distinct = tt; sets = tt; agreed = tt; closing = λ h. absurd (true≢false (sym h)) }
proper settings (Made c ∷ log) = proper_call (past settings log) c (refusal (standing (past settings log)) c) refl (proper settings log)
proper settings (Got reply ∷ log) =
    let p = past settings log in
    proper_verdict p reply (verdict (standing p) reply) (λ a. news p reply a (proper settings log)) (proper settings log)
