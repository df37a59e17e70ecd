-- Where a connection stands after one call more.
use Rattle.std.proofs.Common.{◌≡◌, ℕ, Bool, true, false, cond, not, ◌||◌, nat_eq, is_some, [], ◌∷◌, ◌++◌, map, filter, Option, None, Some, Result, refl, sym, ap, ◌∙◌, true≢false, append-nil}
use Rattle.std.specs.List.{list_any, flat_map}
use Rattle.std.proofs.lemmas.Grind.{flat_map-append}
use Rattle.std.proofs.lemmas.List.{map-append}
use Rattle.std.proofs.lemmas.List.Elements.{filter-append}
use Rattle.std.proofs.lemmas.List.Folds.{list_any-append}
use Rattle.indexmap.specs.IndexMap.{insert_entry}
use Rattle.indexmap.specs.IndexSet.{insert_key}
use Rattle.zapdu.specs.declared.apdu.Apdu.{Apdu}
use Rattle.zapdu.specs.declared.apdu.Apdu.TheVariants as apdus
use Rattle.zorigin.specs.declared.settings.Settings.{Settings}
use Rattle.zorigin.specs.declared.settings.Ask.{Ask}
use Rattle.zorigin.specs.declared.answer.Asked.{Asked}
use Rattle.zorigin.specs.declared.answer.Answer.{Answer}
use Rattle.zorigin.specs.declared.answer.Sent.{Sent}
use Rattle.zorigin.specs.declared.refusal.CallRefused.{CallRefused}
use Rattle.zorigin.specs.declared.refusal.Refused.{Refused}
use Rattle.zorigin.specs.declared.state.State.{State}
use Rattle.zorigin.specs.declared.state.State.TheVariants as states
use Rattle.zorigin.specs.Standings.{Call, Init, Search, Present, Close, Standing, is_fresh, is_ready, search_of}
use Rattle.zorigin.specs.Calls.{early_refusal, refusal, call_result}
use Rattle.zorigin.specs.Changes.{admitted_at, admitted_unless, called_at, unanswered, options_in_force}
use Rattle.zorigin.specs.Log.{Made, Log, Past, past, operation_of, asked, is_answer_to, is_answered, outstanding, opening, is_init_call, is_close_call, state_by, opened_state, closing_state, state_from, state_of, force_after, outcome_by, search_in, with_outcome, searches_in, by_operation, by_set, op_of, standing, admit, admit_unless, After}
use Rattle.zorigin.proofs.Operations.{has, or_none, or_last, any_ops, any_filter, insert_absent, find_none}
use Rattle.zorigin.proofs.Searches.{file_absent}
use Rattle.zorigin.proofs.Proper.{IsProper, asked_more, IsFree, free, fresh_op, ready_if, proper}

-- ---- the parts of a standing

unchanged : (t : Call → Bool) (p : Past) (c : Call) → t c ≡ false → list_any t (p.admitted ++ c ∷ []) ≡ list_any t p.admitted
unchanged t p c h = list_any-append t p.admitted (c ∷ []) ∙ ap (λ b. list_any t p.admitted || (b || false)) h ∙ or_none (list_any t p.admitted)

changed : (t : Call → Bool) (p : Past) (c : Call) → t c ≡ true → list_any t (p.admitted ++ c ∷ []) ≡ true
changed t p c h = list_any-append t p.admitted (c ∷ []) ∙ ap (λ b. list_any t p.admitted || (b || false)) h ∙ or_last (list_any t p.admitted)

same_state : (p : Past) (c : Call) → is_close_call c ≡ false → is_init_call c ≡ false → state_of p ≡ state_of (admit p c)
same_state p c h k = λ i. state_from p.fault p.closed (sym (unchanged is_close_call p c h) i) (sym (unchanged is_init_call p c k) i) (opening p)

used_more : (p : Past) (c : Call) (q : Asked) → operation_of c ≡ q ∷ [] → list_any (has q.op) (asked p) ≡ false
    → insert_key nat_eq (map op_of (asked p)) q.op ≡ map op_of (asked (admit p c))
used_more p c q e fresh =
    ap (λ b. cond b (map op_of (asked p)) (map op_of (asked p) ++ q.op ∷ [])) (any_ops q.op (asked p) ∙ fresh)
    ∙ sym (ap (map op_of) (asked_more p c ∙ ap (λ l. asked p ++ l) e) ∙ map-append op_of (asked p) (q ∷ []))

outstanding_more : (p : Past) (c : Call) (q : Asked) → IsProper p → operation_of c ≡ q ∷ [] → list_any (has q.op) (asked p) ≡ false
    → insert_entry nat_eq (map by_operation (outstanding p)) q.op q ≡ map by_operation (outstanding (admit p c))
outstanding_more p c q ok e fresh =
    let still = λ (x : Asked). not (is_answered p x.op) in
    let waiting : is_answered p q.op ≡ false = ok.known q.op fresh in
    let last : filter still (q ∷ []) ≡ q ∷ [] = ap (λ b. cond (not b) (q ∷ []) []) waiting in
    insert_absent q (outstanding p) (any_filter (has q.op) still (asked p) fresh)
    ∙ ap (map by_operation) (sym (ap (filter still) (asked_more p c ∙ ap (λ l. asked p ++ l) e) ∙ filter-append still (asked p) (q ∷ []) ∙ ap (λ l. outstanding p ++ l) last))

searches_more : (p : Past) (c : Call) → searches_in (admit p c) ≡ searches_in p ++ map (with_outcome p.accepted) (search_in c)
searches_more p c =
    ap (map (with_outcome p.accepted)) (flat_map-append search_in p.admitted (c ∷ []) ∙ ap (λ l. flat_map search_in p.admitted ++ l) (append-nil (search_in c)))
    ∙ map-append (with_outcome p.accepted) (flat_map search_in p.admitted) (search_in c)

no_search : (p : Past) (c : Call) → search_in c ≡ [] → searches_in p ≡ searches_in (admit p c)
no_search p c e = sym (searches_more p c ∙ ap (λ l. searches_in p ++ map (with_outcome p.accepted) l) e ∙ append-nil (searches_in p))

one_search : (p : Past) (op set : ℕ) (ask : Ask) → is_answered p op ≡ false → is_some (search_of (standing p).searches set) ≡ false
    → insert_entry nat_eq (map by_set (searches_in p)) set (unanswered op set ask) ≡ map by_set (searches_in (admit p (Search op set ask)))
one_search p op set ask h absent =
    file_absent (unanswered op set ask) (searches_in p) absent ∙ ap (map by_set) (sym (searches_more p (Search op set ask) ∙ ap (λ l. searches_in p ++ l) (λ i. record (unanswered op set ask) { outcome = outcome_by (find_none (is_answer_to op) p.accepted h i) } ∷ [])))

-- ---- the calls

init_state : (f : Option Refused) (closed closing closes begun : Bool) (o : Option Answer) → is_fresh (state_from f closed closing begun o) ≡ true → states.Initialising ≡ state_from f closed closes true o
init_state (Some r) closed closing closes begun o h = absurd (true≢false (sym h))
init_state None true closing closes begun o h = absurd (true≢false (sym h))
init_state None false closing closes begun None h = refl
init_state None false closing closes begun (Some a) h = absurd (never a.reply h)
  where
    opened : (b c v3 concurrent named : Bool) → is_fresh (closing_state c (cond b (states.Ready v3 concurrent named) states.Closed)) ≡ true → ⊥
    opened true true v3 concurrent named e = cc
    opened true false v3 concurrent named e = cc
    opened false c v3 concurrent named e = cc

    never : (reply : Apdu) → is_fresh (closing_state closing (state_by reply)) ≡ true → ⊥
    never (apdus.InitRequest v) e = cc
    never (apdus.InitResponse v) e = opened v.result closing (options_in_force v).v3 (options_in_force v).concurrent (options_in_force v).named e
    never (apdus.SearchRequest v) e = cc
    never (apdus.SearchResponse v) e = cc
    never (apdus.PresentRequest v) e = cc
    never (apdus.PresentResponse v) e = cc
    never (apdus.Close v) e = cc

close_state : (f : Option Refused) (closed closing begun : Bool) (o : Option Answer) → is_ready (state_from f closed closing begun o) ≡ true → states.Closing ≡ state_from f closed true begun o
close_state (Some r) closed closing begun o h = absurd (true≢false (sym h))
close_state None true closing begun o h = absurd (true≢false (sym h))
close_state None false closing begun o h = by (opened_state begun o) h
  where
    by : (s : State) → is_ready (closing_state closing s) ≡ true → states.Closing ≡ closing_state true s
    by states.Fresh e = absurd (true≢false (sym e))
    by states.Initialising e = absurd (true≢false (sym e))
    by (states.Ready v3 concurrent named) e = refl
    by states.Closing e = refl
    by states.Closed e = absurd (true≢false (sym e))
    by (states.Failed r) e = absurd (true≢false (sym e))

admitted-standing : (p : Past) (c : Call) → IsProper p → IsFree (standing p) c → admitted_at (standing p) c ≡ standing (admit p c)
admitted-standing p Init ok f =
    let fresh = fresh_op p 0 f.op in
    let began = init_state p.fault p.closed (list_any is_close_call p.admitted) (list_any is_close_call (p.admitted ++ Init ∷ [])) (list_any is_init_call p.admitted) (opening p) (ready_if (is_fresh (state_of p)) f.state)
    ∙ (λ i. state_from p.fault p.closed (list_any is_close_call (p.admitted ++ Init ∷ [])) (sym (changed is_init_call p Init refl) i) (opening p)) in
    λ i. record {
      settings = p.settings;
      state = began i;
      force = force_after (opening p);
      used = used_more p Init _ refl fresh i;
      searches = map by_set (no_search p Init refl i);
      outstanding = outstanding_more p Init _ ok refl fresh i;
    }
admitted-standing p (Search op set ask) ok f =
    let fresh = fresh_op p op f.op in
    λ i. record {
      settings = p.settings;
      state = same_state p (Search op set ask) refl refl i;
      force = force_after (opening p);
      used = used_more p (Search op set ask) _ refl fresh i;
      searches = one_search p op set ask (ok.known op fresh) f.set i;
      outstanding = outstanding_more p (Search op set ask) _ ok refl fresh i;
    }
admitted-standing p (Present op set ranges) ok f =
    let fresh = fresh_op p op f.op in
    λ i. record {
      settings = p.settings;
      state = same_state p (Present op set ranges) refl refl i;
      force = force_after (opening p);
      used = used_more p (Present op set ranges) _ refl fresh i;
      searches = map by_set (no_search p (Present op set ranges) refl i);
      outstanding = outstanding_more p (Present op set ranges) _ ok refl fresh i;
    }
admitted-standing p Close ok f =
    let same : asked p ≡ asked (admit p Close) = sym (asked_more p Close ∙ append-nil (asked p)) in
    let closed = close_state p.fault p.closed (list_any is_close_call p.admitted) (list_any is_init_call p.admitted) (opening p) (ready_if (is_ready (state_of p)) f.state)
    ∙ (λ i. state_from p.fault p.closed (sym (changed is_close_call p Close refl) i) (sym (unchanged is_init_call p Close refl) i) (opening p)) in
    λ i. record {
      settings = p.settings;
      state = closed i;
      force = force_after (opening p);
      used = map op_of (same i);
      searches = map by_set (no_search p Close refl i);
      outstanding = map by_operation (filter (λ (x : Asked). not (is_answered p x.op)) (same i));
    }

called : (p : Past) (c : Call) (r : Option CallRefused) → IsProper p → refusal (standing p) c ≡ r → admitted_unless (standing p) c r ≡ standing (admit_unless p c r)
called p c (Some r) ok e = refl
called p c None ok e = admitted-standing p c ok (free (standing p) c e)

pub called_after : {s t : Standing} (settings : Settings) (log : Log) (c : Call) → After settings log s → t ≡ called_at s c → After settings (Made c ∷ log) t
called_after {s} {t} settings log c h e = record {
  is = e ∙ ap (λ x. called_at x c) h.is ∙ called (past settings log) c (refusal (standing (past settings log)) c) (proper settings log) refl;
}

pub call_answered : {s : Standing} {r : Result Sent CallRefused} (settings : Settings) (log : Log) (c : Call) → After settings log s → r ≡ call_result s c → r ≡ call_result (standing (past settings log)) c
call_answered settings log c h e = e ∙ ap (λ x. call_result x c) h.is

pub call_admissible : {s : Standing} (settings : Settings) (log : Log) (c : Call) → After settings log s → early_refusal s c ≡ None → early_refusal (standing (past settings log)) c ≡ None
call_admissible settings log c h e = ap (λ x. early_refusal x c) (sym h.is) ∙ e
