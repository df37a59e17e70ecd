-- The accepted replies of a log are those that some part of it accepts.
use Rattle.std.proofs.Common.{◌≡◌, ◌⊎◌, inl, inr, ℕ, Bool, true, false, cond, not, nat_eq, List, [], ◌∷◌, ◌++◌, map, Option, None, Some, Result, Ok, Err, refl, sym, ap, subst, ◌∙◌, true≢false, arith}
use Rattle.std.specs.Prelude.{Contains}
use Rattle.std.proofs.lemmas.Bool.Decides.{nat_tests}
use Rattle.std.specs.List.{list_any}
use Rattle.std.specs.Map.{lookup}
use Rattle.zplan.specs.Positions.{IsIn}
use Rattle.zplan.proofs.Cuts.{in_left, in_right}
use Rattle.zapdu.specs.declared.apdu.Apdu.{Apdu}
use Rattle.zapdu.specs.declared.apdu.Apdu.TheVariants as apdus
use Rattle.zorigin.specs.declared.settings.Settings.{Settings}
use Rattle.zorigin.specs.declared.answer.What.{What}
use Rattle.zorigin.specs.declared.answer.What.TheVariants as what
use Rattle.zorigin.specs.declared.answer.Asked.{Asked}
use Rattle.zorigin.specs.declared.answer.Answer.{Answer}
use Rattle.zorigin.specs.declared.answer.Taken.{Taken}
use Rattle.zorigin.specs.declared.answer.Taken.TheVariants as taken
use Rattle.zorigin.specs.declared.refusal.CallRefused.{CallRefused}
use Rattle.zorigin.specs.declared.refusal.Refused.{Refused}
use Rattle.zorigin.specs.declared.refusal.Refused.TheVariants as refused
use Rattle.zorigin.specs.References.{reference_id, operation_number}
use Rattle.zorigin.specs.Fitting.{fault_of, IsFitReply}
use Rattle.zorigin.specs.Standings.{Call, Standing, is_open}
use Rattle.zorigin.specs.Calls.{refusal}
use Rattle.zorigin.specs.Replies.{only_of, numbered_as, named, taken_as, taken_by, judged, against, open_verdict, verdict}
use Rattle.zorigin.specs.Log.{Log, Entry, Made, Got, past, Past, state_of, asked, is_answered, outstanding, opening, force_after, by_operation, standing, admit_unless, after_verdict}
use Rattle.zorigin.specs.Accepts.{id_of, IsReferenceTo, IsAccepted}
use Rattle.zorigin.proofs.Members.{contained, among, in_push, any_in, in_filter, of_filter}
use Rattle.zorigin.proofs.Operations.{has, AreDistinct, distinct_filter}
use Rattle.zorigin.proofs.Proper.{IsProper, proper, answer_in, news}
use Rattle.zorigin.proofs.Ids.{spelled_number, number_spelled}
use Rattle.zorigin.proofs.Fittings.{fitting, fits_none}

in_any : (qs : List Asked) (q : Asked) → IsIn q qs → list_any (has q.op) qs ≡ true
in_any qs q i = any_in (has q.op) qs q i (grind (arith, nat_tests))

-- ---- the operation that a reference id names

looked_in : (op : ℕ) (qs : List Asked) (q : Asked) → lookup (nat_eq op) (map by_operation qs) ≡ Some q → IsIn q qs × (q.op ≡ op)
looked_in op [] q h = absurd (cc)
looked_in op (x ∷ xs) q h =
    let more = looked_in op xs q in
    elim (nat_eq op x.op) as (λ b. nat_eq op x.op ≡ b → cond b (Some x) (lookup (nat_eq op) (map by_operation xs)) ≡ Some q → IsIn q (x ∷ xs) × (q.op ≡ op)) [
      | true ↦ λ e g. (let same : x ≡ q = cc in let number : x.op ≡ op = grind (arith, nat_tests) in (inl (sym same), ap (λ (y : Asked). y.op) (sym same) ∙ number))
      | false ↦ λ e g. (inr (more g).0, (more g).1)
    ] refl h

pub looked_up : (qs : List Asked) (q : Asked) → AreDistinct qs → IsIn q qs → lookup (nat_eq q.op) (map by_operation qs) ≡ Some q
looked_up [] q d i = absurd i
looked_up (x ∷ xs) q d (inl e) =
    let s : nat_eq q.op x.op ≡ true = (let o : q.op ≡ x.op = ap (λ (y : Asked). y.op) e in grind (arith, nat_tests)) in
    ap (λ b. cond b (Some x) (lookup (nat_eq q.op) (map by_operation xs))) s ∙ ap (λ y. Some y) (sym e)
looked_up (x ∷ xs) q d (inr i) =
    let more = looked_up xs q d.1 i in
    let there = in_any xs q i in
    elim (nat_eq q.op x.op) as (λ b. nat_eq q.op x.op ≡ b → cond b (Some x) (lookup (nat_eq q.op) (map by_operation xs)) ≡ Some q) [
      | true ↦ λ t. let o : x.op ≡ q.op = grind (arith, nat_tests) in absurd (true≢false (sym there ∙ ap (λ n. list_any (has n) xs) (sym o) ∙ d.0))
      | false ↦ λ t. more
    ] refl

only_in : (qs : List Asked) (q : Asked) → only_of (map by_operation qs) ≡ Some q → qs ≡ q ∷ []
only_in [] q h = absurd (cc)
only_in (x ∷ []) q h = let same : x ≡ q = cc in ap (λ y. y ∷ []) same
only_in (x ∷ y ∷ qs) q h = absurd (cc)

named_in : (p : Past) (id : Option (List ℕ)) (q : Asked) → named (standing p) id ≡ Some q → IsIn q (outstanding p) × IsReferenceTo p q id
named_in p (Some id) q h = by (operation_number id) refl h
  where
    by : (o : Option ℕ) → operation_number id ≡ o → numbered_as (map by_operation (outstanding p)) o ≡ Some q → IsIn q (outstanding p) × IsReferenceTo p q (Some id)
    by None e g = absurd (cc)
    by (Some op) e g =
        let found = looked_in op (outstanding p) q g in
        (found.0, number_spelled id op e ∙ ap reference_id (sym found.1))
named_in p None q h = by (force_after (opening p)).concurrent refl h
  where
    by : (b : Bool) → (force_after (opening p)).concurrent ≡ b → cond b None (only_of (map by_operation (outstanding p))) ≡ Some q → IsIn q (outstanding p) × IsReferenceTo p q None
    by true e g = absurd (cc)
    by false e g =
        let only = only_in (outstanding p) q g in
        (subst (λ l. IsIn q l) (sym only) (inl refl), (e, only))

in_named : (p : Past) (id : Option (List ℕ)) (q : Asked) → IsProper p → IsIn q (outstanding p) → IsReferenceTo p q id → named (standing p) id ≡ Some q
in_named p (Some id) q ok i r =
    ap (numbered_as (map by_operation (outstanding p))) (ap operation_number r ∙ spelled_number q.op)
    ∙ looked_up (outstanding p) q (distinct_filter (λ (x : Asked). not (is_answered p x.op)) (asked p) ok.distinct) i
in_named p None q ok i r = (λ j. cond (r.0 j) None (only_of (map by_operation (r.1 j))))

-- ---- an accepted reply was taken somewhere

newest : (settings : Settings) (log : Log) (reply : Apdu) (a : Answer) → answer_in (verdict (standing (past settings log)) reply) ≡ Some a → IsAccepted settings (Got reply ∷ log) a
newest settings log reply a h =
    let p = past settings log in
    let n = news p reply a (proper settings log) h in
    let found = named_in p (id_of reply) a.asked n.found.named in
    record {
      later = [];
      earlier = log;
      cut = ap (λ r. Got r ∷ log) (sym n.found.reply);
      taking = n.taking;
      asked = contained a.asked (asked p) (of_filter (λ (x : Asked). not (is_answered p x.op)) (asked p) a.asked found.0);
      unanswered = n.unanswered;
      refers = subst (λ r. IsReferenceTo p a.asked (id_of r)) (sym n.found.reply) found.1;
      fits = fitting a.asked.what a.reply n.found.fits;
    }

longer : (settings : Settings) (e : Entry) (log : Log) (a : Answer) → IsAccepted settings log a → IsAccepted settings (e ∷ log) a
longer settings e log a i = record { later = e ∷ i.later; earlier = i.earlier; cut = ap (λ l. e ∷ l) i.cut; taking = i.taking; asked = i.asked; unanswered = i.unanswered; refers = i.refers; fits = i.fits }

in_verdict : (p : Past) (v : Result Taken Refused) (a : Answer) → IsIn a (after_verdict p v).accepted → IsIn a p.accepted ⊎ (answer_in v ≡ Some a)
in_verdict p (Ok (taken.Opened b)) a i = elim (in_push a b p.accepted i) [ inl j ↦ inl j | inr e ↦ inr (ap (λ x. Some x) (sym e)) ]
in_verdict p (Ok (taken.Rejected b)) a i = elim (in_push a b p.accepted i) [ inl j ↦ inl j | inr e ↦ inr (ap (λ x. Some x) (sym e)) ]
in_verdict p (Ok (taken.Answered b)) a i = elim (in_push a b p.accepted i) [ inl j ↦ inl j | inr e ↦ inr (ap (λ x. Some x) (sym e)) ]
in_verdict p (Ok taken.Closed) a i = inl i
in_verdict p (Err r) a i = inl (elim (is_open (state_of p)) as (λ b. IsIn a (cond b (record p { fault = Some r }) p).accepted → IsIn a p.accepted) [ true ↦ λ j. j | false ↦ λ j. j ] i)

pub same_call : (p : Past) (c : Call) (r : Option CallRefused) → (admit_unless p c r).accepted ≡ p.accepted
same_call p c None = refl
same_call p c (Some r) = refl

accepted_in : (settings : Settings) (log : Log) (a : Answer) → IsIn a (past settings log).accepted → IsAccepted settings log a
accepted_in settings [] a i = absurd i
accepted_in settings (Made c ∷ log) a i = longer settings (Made c) log a (accepted_in settings log a (subst (λ l. IsIn a l) (same_call (past settings log) c (refusal (standing (past settings log)) c)) i))
accepted_in settings (Got reply ∷ log) a i =
    let older = accepted_in settings log a in
    elim (in_verdict (past settings log) (verdict (standing (past settings log)) reply) a i) [ inl j ↦ longer settings (Got reply) log a (older j) | inr e ↦ newest settings log reply a e ]

pub accepted_so : (settings : Settings) (log : Log) (a : Answer) → Contains (past settings log).accepted a → IsAccepted settings log a
accepted_so settings log a h = accepted_in settings log a (among a (past settings log).accepted h)

-- ---- and back

verdict_in : (p : Past) (v : Result Taken Refused) (a : Answer) → answer_in v ≡ Some a → IsIn a (after_verdict p v).accepted
verdict_in p (Ok (taken.Opened b)) a h = let e : b ≡ a = cc in subst (λ x. IsIn x (p.accepted ++ b ∷ [])) e (in_right b p.accepted (b ∷ []) (inl refl))
verdict_in p (Ok (taken.Rejected b)) a h = let e : b ≡ a = cc in subst (λ x. IsIn x (p.accepted ++ b ∷ [])) e (in_right b p.accepted (b ∷ []) (inl refl))
verdict_in p (Ok (taken.Answered b)) a h = let e : b ≡ a = cc in subst (λ x. IsIn x (p.accepted ++ b ∷ [])) e (in_right b p.accepted (b ∷ []) (inl refl))
verdict_in p (Ok taken.Closed) a h = absurd (cc)
verdict_in p (Err r) a h = absurd (cc)

pub stays : (p : Past) (v : Result Taken Refused) (a : Answer) → IsIn a p.accepted → IsIn a (after_verdict p v).accepted
stays p (Ok (taken.Opened b)) a i = in_left a p.accepted (b ∷ []) i
stays p (Ok (taken.Rejected b)) a i = in_left a p.accepted (b ∷ []) i
stays p (Ok (taken.Answered b)) a i = in_left a p.accepted (b ∷ []) i
stays p (Ok taken.Closed) a i = i
stays p (Err r) a i = elim (is_open (state_of p)) as (λ b. IsIn a (cond b (record p { fault = Some r }) p).accepted) [ true ↦ i | false ↦ i ]

stays_over : (settings : Settings) (later log : Log) (a : Answer) → IsIn a (past settings log).accepted → IsIn a (past settings (later ++ log)).accepted
stays_over settings [] log a i = i
stays_over settings (Made c ∷ later) log a i =
    let p = past settings (later ++ log) in
    subst (λ l. IsIn a l) (sym (same_call p c (refusal (standing p) c))) (stays_over settings later log a i)
stays_over settings (Got r ∷ later) log a i =
    let p = past settings (later ++ log) in
    stays p (verdict (standing p) r) a (stays_over settings later log a i)

taken_answer : (x : Answer) → answer_in (Ok (taken_as x)) ≡ Some x
taken_answer x = by x.reply
  where
    by : (reply : Apdu) → answer_in (Ok (taken_by x reply)) ≡ Some x
    by (apdus.InitRequest v) = refl
    by (apdus.InitResponse v) = elim v.result as (λ b. answer_in (Ok (cond b (taken.Opened x) (taken.Rejected x))) ≡ Some x) [ true ↦ refl | false ↦ refl ]
    by (apdus.SearchRequest v) = refl
    by (apdus.SearchResponse v) = refl
    by (apdus.PresentRequest v) = refl
    by (apdus.PresentResponse v) = refl
    by (apdus.Close v) = refl

against_answer : (o : Option Asked) (a : Answer) → o ≡ Some a.asked → fault_of a.asked.what a.reply ≡ None → answer_in (against o a.reply) ≡ Some a
against_answer o a e f = ap (λ x. answer_in (against x a.reply)) e ∙ ap (λ x. answer_in (judged a x)) f ∙ taken_answer a

-- only a response fits
module _ (s : Standing) (q : Asked) where
  answered_answer : (reply : Apdu) → named s (id_of reply) ≡ Some q → IsFitReply q.what reply → answer_in (open_verdict s reply) ≡ Some (record { asked = q; reply = reply })
  answered_answer (apdus.InitRequest v) e f = absurd (no_request q.what f)
    where
      no_request : (w : What) → IsFitReply w (apdus.InitRequest v) → ⊥
      no_request what.Init h = h
      no_request what.Search h = h
      no_request (what.Present ranges) h = h
  answered_answer (apdus.SearchRequest v) e f = absurd (no_request q.what f)
    where
      no_request : (w : What) → IsFitReply w (apdus.SearchRequest v) → ⊥
      no_request what.Init h = h
      no_request what.Search h = h
      no_request (what.Present ranges) h = h
  answered_answer (apdus.PresentRequest v) e f = absurd (no_request q.what f)
    where
      no_request : (w : What) → IsFitReply w (apdus.PresentRequest v) → ⊥
      no_request what.Init h = h
      no_request what.Search h = h
      no_request (what.Present ranges) h = h
  answered_answer (apdus.Close v) e f = absurd (no_close q.what f)
    where
      no_close : (w : What) → IsFitReply w (apdus.Close v) → ⊥
      no_close what.Init h = h
      no_close what.Search h = h
      no_close (what.Present ranges) h = h
  answered_answer (apdus.InitResponse v) e f = against_answer (named s v.reference_id) (record { asked = q; reply = apdus.InitResponse v }) e (fits_none q.what (apdus.InitResponse v) f)
  answered_answer (apdus.SearchResponse v) e f = against_answer (named s v.reference_id) (record { asked = q; reply = apdus.SearchResponse v }) e (fits_none q.what (apdus.SearchResponse v) f)
  answered_answer (apdus.PresentResponse v) e f = against_answer (named s v.reference_id) (record { asked = q; reply = apdus.PresentResponse v }) e (fits_none q.what (apdus.PresentResponse v) f)

verdict_answer : (s : Standing) (a : Answer) → is_open s.state ≡ true → named s (id_of a.reply) ≡ Some a.asked → IsFitReply a.asked.what a.reply → answer_in (verdict s a.reply) ≡ Some a
unfolding verdict
verdict_answer s a t e f = ap (λ b. answer_in (cond b (open_verdict s a.reply) (Err refused.WrongState))) t ∙ answered_answer s a.asked a.reply e f

pub so_accepted : (settings : Settings) (log : Log) (a : Answer) → IsAccepted settings log a → Contains (past settings log).accepted a
so_accepted settings log a i =
    let p = past settings i.earlier in
    let here : IsIn a.asked (outstanding p) = in_filter (λ (x : Asked). not (is_answered p x.op)) (asked p) a.asked (among a.asked (asked p) i.asked) (ap not i.unanswered) in
    let name : named (standing p) (id_of a.reply) ≡ Some a.asked = in_named p (id_of a.reply) a.asked (proper settings i.earlier) here i.refers in
    let v : answer_in (verdict (standing p) a.reply) ≡ Some a = verdict_answer (standing p) a i.taking name i.fits in
    contained a (past settings log).accepted (subst (λ l. IsIn a (past settings l).accepted) (sym i.cut) (stays_over settings i.later (Got a.reply ∷ i.earlier) a (verdict_in p (verdict (standing p) a.reply) a v)))
