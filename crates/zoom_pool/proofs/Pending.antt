-- What the next message of a connection says: events other than a Take do not change it.
use Rattle.std.proofs.Common.{◌≡◌, ℕ, Bool, true, false, cond, not, nat_eq, List, [], ◌∷◌, ◌++◌, map, filter}
use Rattle.std.proofs.Common.{Option, None, Some, Result, Ok, Err, refl, sym, ap, subst, ◌∙◌, true≢false, append-nil}
use Rattle.std.specs.Prelude.{Contains, is_some, ◌||◌, ◌&&◌}
use Rattle.std.specs.List.{list_any, AllByRecursion}
use Rattle.std.specs.Map.{lookup}
use Rattle.std.proofs.lemmas.List.{map-append}
use Rattle.std.proofs.lemmas.List.Elements.{filter-append}
use Rattle.std.proofs.lemmas.List.Folds.{list_any-append}
use Rattle.zber.specs.Laws.{StreamLaws}
use Rattle.zber.specs.declared.framer.TheConstants.{MESSAGE_LIMIT}
use Rattle.zapdu.specs.declared.apdu.Apdu.{Apdu}
use Rattle.zapdu.specs.declared.apdu.Apdu.TheVariants as apdus
use Rattle.zknow.specs.declared.fact.Fact.{Fact}
use Rattle.zknow.specs.Tables.DistinctLaws.{none_in_nil}
use Rattle.zorigin.specs.declared.answer.Asked.{Asked}
use Rattle.zorigin.specs.declared.answer.Answer.{Answer}
use Rattle.zorigin.specs.declared.answer.Taken.{Taken}
use Rattle.zorigin.specs.declared.refusal.Refused.{Refused}
use Rattle.zorigin.specs.declared.refusal.Refused.TheVariants as refused
use Rattle.zorigin.specs.declared.refusal.CallRefused.{CallRefused}
use Rattle.zorigin.specs.declared.state.State.{State as OriginState}
use Rattle.zorigin.specs.declared.state.State.TheVariants as origins
use Rattle.zorigin.specs.Standings.{Call, Init, Search, Present, Close, Standing, is_fresh, is_open}
use Rattle.zorigin.specs.Fitting.{first_row, is_empty}
use Rattle.zorigin.specs.Calls.{busy, early_rows, early_refusal, or_unsendable, unsendable, refusal}
use Rattle.zorigin.specs.Replies.{only_of, numbered_as, named, against, open_verdict, verdict}
use Rattle.zorigin.specs.Log.{Made, Past, asked, operation_of, is_answered, outstanding, opening, is_init_call, is_close_call}
use Rattle.zorigin.specs.Log.{state_by, closing_state, state_from, state_of, by_operation, standing, admit, admit_unless}
use Rattle.zorigin.specs.References.{operation_number}
use Rattle.zorigin.proofs.Proper.{asked_more, free}
use Rattle.zoom_pool.specs.States.{state_as, is_stopped}
use Rattle.zoom_pool.specs.Inputs.{AlreadyStopped, Message, Foreign, Fault, Rest, Nothing, HasMessage, IsBehind}
use Rattle.zoom_pool.specs.Transcripts.{Transcript, NextInput, state_at, past_of, after_call, after_feed, facts_of_verdict}
use Rattle.zoom_pool.specs.History.{IsPendingAt}
use Rattle.zoom_pool.proofs.Streams.{begins_longer}

-- ---- the state of the origin after a call that it admitted

open_state : (f : Option Refused) (closed closing begun more later : Bool) (o : Option Answer)
    → is_open (state_from f closed closing begun o) ≡ true → is_open (state_from f closed more (begun || later) o) ≡ true
open_state (Some reason) closed closing begun more later o h = h
open_state None true closing begun more later o h = h
open_state None false closing false more later None h = absurd (true≢false (sym h))
open_state None false closing true more later None h = refl
open_state None false closing begun more later (Some answer) h = by (state_by answer.reply) h
  where
    by : (s : OriginState) → is_open (closing_state closing s) ≡ true → is_open (closing_state more s) ≡ true
    by origins.Fresh e = e
    by origins.Initialising e = e
    by (origins.Ready v3 concurrent named) e =
        elim more as (λ b. is_open (cond b origins.Closing (origins.Ready v3 concurrent named)) ≡ true) [ true ↦ refl | false ↦ refl ]
    by origins.Closing e = e
    by origins.Closed e = e
    by (origins.Failed reason) e = e

open_after : (p : Past) (call : Call) → is_open (state_of p) ≡ true → is_open (state_of (admit p call)) ≡ true
open_after p call h = subst
    (λ b. is_open (state_from p.fault p.closed (list_any is_close_call (p.admitted ++ call ∷ [])) b (opening p)) ≡ true)
    (sym (list_any-append is_init_call p.admitted (call ∷ [])))
    (open_state p.fault p.closed (list_any is_close_call p.admitted) (list_any is_init_call p.admitted)
    (list_any is_close_call (p.admitted ++ call ∷ [])) (is_init_call call || false) (opening p) h)

-- ---- the operation that a reply names after a call that was admitted

abbrev is_still : Past → Asked → Bool
is_still p q = not (is_answered p q.op)

-- the operations that the call adds to those outstanding
abbrev added : Past → Call → List (ℕ × Asked)
added p call = map by_operation (filter (is_still p) (operation_of call))

outstanding_after : (p : Past) (call : Call)
    → map by_operation (outstanding (admit p call)) ≡ map by_operation (outstanding p) ++ added p call
outstanding_after p call = ap (λ l. map by_operation (filter (is_still p) l)) (asked_more p call)
    ∙ ap (map by_operation) (filter-append (is_still p) (asked p) (operation_of call))
    ∙ map-append by_operation (outstanding p) (filter (is_still p) (operation_of call))

lookup_more : (t : ℕ → Bool) (xs ys : List (ℕ × Asked)) (q : Asked) → lookup t xs ≡ Some q → lookup t (xs ++ ys) ≡ Some q
lookup_more t [] ys q e = absurd (cc)
lookup_more t (x ∷ xs) ys q e = elim (t x.0) as
    (λ b. cond b (Some x.1) (lookup t xs) ≡ Some q → cond b (Some x.1) (lookup t (xs ++ ys)) ≡ Some q)
    [ true ↦ λ same. same | false ↦ lookup_more t xs ys q ] e

numbered_more : (o : Option ℕ) (xs ys : List (ℕ × Asked)) (q : Asked) → numbered_as xs o ≡ Some q
    → numbered_as (xs ++ ys) o ≡ Some q
numbered_more None xs ys q e = absurd (cc)
numbered_more (Some op) xs ys q e = lookup_more (nat_eq op) xs ys q e

-- the last row of those that refuse a call
passed : {R : Type 0} (rows : List (Bool × R)) → first_row rows ≡ None → AllByRecursion (λ (row : Bool × R). row.0 ≡ false) rows
passed [] h = tt
passed (row ∷ rows) h =
    let more = passed rows in
    elim row.0 as (λ b. row.0 ≡ b → cond b (Some row.1) (first_row rows) ≡ None → AllByRecursion (λ x. x.0 ≡ false) (row ∷ rows))
    [ true ↦ λ e g. absurd (cc) | false ↦ λ e g. (e, more g) ] refl h

early_none : (b : Bool) (o : Option CallRefused) → or_unsendable b o ≡ None → o ≡ None
early_none b None h = refl
early_none b (Some reason) h = absurd (cc)

not_busy : (s : Standing) (call : Call) → refusal s call ≡ None → busy s call ≡ false
unfolding refusal
not_busy s call h =
    let rows = passed (early_rows s call) (early_none (unsendable s call) (early_refusal s call) h) in
    rows.1.1.1.1.1.1.1.1.0

fresh_not_open : (s : OriginState) → not (is_fresh s) ≡ false → is_open s ≡ true → ⊥
fresh_not_open origins.Fresh h k = true≢false (sym k)
fresh_not_open origins.Initialising h k = true≢false h
fresh_not_open (origins.Ready v3 concurrent named) h k = true≢false h
fresh_not_open origins.Closing h k = true≢false h
fresh_not_open origins.Closed h k = true≢false h
fresh_not_open (origins.Failed reason) h k = true≢false h

one_outstanding : (xs : List (ℕ × Asked)) (q : Asked) → only_of xs ≡ Some q → is_empty xs ≡ false
one_outstanding [] q e = absurd (cc)
one_outstanding (x ∷ xs) q e = refl

only_more : (p : Past) (call : Call) (q : Asked) → refusal (standing p) call ≡ None → is_open (state_of p) ≡ true
    → (standing p).force.concurrent ≡ false → only_of (map by_operation (outstanding p)) ≡ Some q
    → only_of (map by_operation (outstanding p) ++ added p call) ≡ Some q
only_more p Init q admitted takes alone e = absurd (fresh_not_open (state_of p) (free (standing p) Init admitted).state takes)
only_more p (Search op set ask) q admitted takes alone e =
    let row = not_busy (standing p) (Search op set ask) admitted in
    let some = one_outstanding (map by_operation (outstanding p)) q e in
    absurd (refused_row (is_empty (standing p).outstanding) (standing p).force.concurrent
    (not (standing p).force.named && not (is_empty (standing p).searches)) some alone row)
  where
    refused_row : (empty concurrent other : Bool) → empty ≡ false → concurrent ≡ false
        → (not empty && (not concurrent || other)) ≡ false → ⊥
    refused_row false false other a b c = true≢false c
    refused_row true concurrent other a b c = true≢false a
    refused_row false true other a b c = true≢false b
only_more p (Present op set ranges) q admitted takes alone e =
    let row = not_busy (standing p) (Present op set ranges) admitted in
    let some = one_outstanding (map by_operation (outstanding p)) q e in
    absurd (refused_row (is_empty (standing p).outstanding) (standing p).force.concurrent some alone row)
  where
    refused_row : (empty concurrent : Bool) → empty ≡ false → concurrent ≡ false → (not empty && not concurrent) ≡ false → ⊥
    refused_row false false a b c = true≢false c
    refused_row true concurrent a b c = true≢false a
    refused_row false true a b c = true≢false b
only_more p Close q admitted takes alone e = ap only_of (append-nil (map by_operation (outstanding p))) ∙ e

named_more : (p : Past) (call : Call) (id : Option (List ℕ)) (q : Asked) → refusal (standing p) call ≡ None
    → is_open (state_of p) ≡ true → named (standing p) id ≡ Some q → named (standing (admit p call)) id ≡ Some q
named_more p call (Some id) q admitted takes e =
    subst (λ l. numbered_as l (operation_number id) ≡ Some q) (sym (outstanding_after p call))
    (numbered_more (operation_number id) (map by_operation (outstanding p)) (added p call) q e)
named_more p call None q admitted takes e = elim (standing p).force.concurrent as
    (λ b. (standing p).force.concurrent ≡ b → cond b None (only_of (map by_operation (outstanding p))) ≡ Some q
    → cond b None (only_of (map by_operation (outstanding (admit p call)))) ≡ Some q) [
      | true ↦ λ b f. f
      | false ↦ λ b f. subst (λ l. only_of l ≡ Some q) (sym (outstanding_after p call)) (only_more p call q admitted takes b f)
    ] refl e

-- ---- a verdict that accepts a reply

named_in : (o : Option Asked) (reply : Apdu) (t : Taken) → against o reply ≡ Ok t → (q : Asked) × (o ≡ Some q)
named_in None reply t e = absurd (cc)
named_in (Some q) reply t e = (q, refl)

against_more : (p : Past) (call : Call) (id : Option (List ℕ)) (reply : Apdu) (t : Taken) → refusal (standing p) call ≡ None
    → is_open (state_of p) ≡ true → against (named (standing p) id) reply ≡ Ok t
    → against (named (standing (admit p call)) id) reply ≡ Ok t
against_more p call id reply t admitted takes e =
    let q = named_in (named (standing p) id) reply t e in
    ap (λ o. against o reply) (named_more p call id q.0 admitted takes q.1 ∙ sym q.1) ∙ e

open_more : (p : Past) (call : Call) (reply : Apdu) (t : Taken) → refusal (standing p) call ≡ None
    → is_open (state_of p) ≡ true → open_verdict (standing p) reply ≡ Ok t
    → open_verdict (standing (admit p call)) reply ≡ Ok t
open_more p call (apdus.InitRequest v) t admitted takes e = absurd (cc)
open_more p call (apdus.InitResponse v) t admitted takes e =
    against_more p call v.reference_id (apdus.InitResponse v) t admitted takes e
open_more p call (apdus.SearchRequest v) t admitted takes e = absurd (cc)
open_more p call (apdus.SearchResponse v) t admitted takes e =
    against_more p call v.reference_id (apdus.SearchResponse v) t admitted takes e
open_more p call (apdus.PresentRequest v) t admitted takes e = absurd (cc)
open_more p call (apdus.PresentResponse v) t admitted takes e =
    against_more p call v.reference_id (apdus.PresentResponse v) t admitted takes e
open_more p call (apdus.Close v) t admitted takes e = e

-- the origin takes replies, and accepts this one
accepts : (s : Standing) (reply : Apdu) (t : Taken) → verdict s reply ≡ Ok t
    → (is_open s.state ≡ true) × (open_verdict s reply ≡ Ok t)
unfolding verdict
accepts s reply t e = elim (is_open s.state) as (λ b. cond b (open_verdict s reply) (Err refused.WrongState) ≡ Ok t
    → (b ≡ true) × (open_verdict s reply ≡ Ok t)) [ true ↦ λ f. (refl, f) | false ↦ λ f. absurd (cc) ] e

accepts_back : (s : Standing) (reply : Apdu) (t : Taken) → is_open s.state ≡ true → open_verdict s reply ≡ Ok t
    → verdict s reply ≡ Ok t
unfolding verdict
accepts_back s reply t takes e = ap (λ b. cond b (open_verdict s reply) (Err refused.WrongState)) takes ∙ e

-- the origin still accepts the reply after a call
verdict_more : (p : Past) (call : Call) (r : Option CallRefused) (reply : Apdu) (t : Taken) → refusal (standing p) call ≡ r
    → verdict (standing p) reply ≡ Ok t → verdict (standing (admit_unless p call r)) reply ≡ Ok t
verdict_more p call (Some reason) reply t is e = e
verdict_more p call None reply t is e =
    let a = accepts (standing p) reply t e in
    accepts_back (standing (admit p call)) reply t (open_after p call a.0) (open_more p call reply t is a.0 a.1)

open_going : (s : OriginState) → is_open s ≡ true → is_stopped (state_as s) ≡ false
open_going origins.Fresh h = refl
open_going origins.Initialising h = refl
open_going (origins.Ready v3 concurrent named) h = refl
open_going origins.Closing h = refl
open_going origins.Closed h = sym h
open_going (origins.Failed reason) h = sym h

-- ---- events

-- the next input is a message that the origin accepts
abbrev HasAccepted : ℕ → Transcript → Fact → Type 0
HasAccepted c p q = (v : Apdu) × (t : Taken) × NextInput (record p { stop = None }) (Message v)
    × (verdict (standing (past_of p)) v ≡ Ok t) × Contains (facts_of_verdict c (Ok t)) q

accepted_in : (c : ℕ) (p : Transcript) (q : Fact) → IsPendingAt c p q → HasAccepted c p q
accepted_in c p q (AlreadyStopped, next, has) = absurd (none_in_nil q has)
accepted_in c p q (Foreign error, next, has) = absurd (none_in_nil q has)
accepted_in c p q (Fault kind at, next, has) = absurd (none_in_nil q has)
accepted_in c p q (Rest n, next, has) = absurd (none_in_nil q has)
accepted_in c p q (Nothing, next, has) = absurd (none_in_nil q has)
accepted_in c p q (Message v, next, has) = by (verdict (standing (past_of p)) v) refl has
  where
    by : (w : Result Taken Refused) → verdict (standing (past_of p)) v ≡ w → Contains (facts_of_verdict c w) q
        → HasAccepted c p q
    by (Ok t) e k = (v, t, next, e, k)
    by (Err reason) e k = absurd (none_in_nil q k)

pending_by : (c : ℕ) (p : Transcript) (q : Fact) → HasAccepted c p q → IsPendingAt c p q
pending_by c p q (v, t, next, e, k) = (Message v, next, subst (λ w. Contains (facts_of_verdict c w) q) (sym e) k)

pub pending_call : (c : ℕ) (p : Transcript) (call : Call) (q : Fact) → IsPendingAt c p q → IsPendingAt c (after_call p call) q
pending_call c p call q pending = elim (is_some p.stop) as
    (λ b. IsPendingAt c (cond b p (record p { log = Made call ∷ p.log })) q) [ true ↦ pending | false ↦ made (accepted_in c p q pending) ]
  where
    made : HasAccepted c p q → IsPendingAt c (record p { log = Made call ∷ p.log }) q
    made (v, t, next, e, k) =
        let r = refusal (standing (past_of p)) call in
        let f : verdict (standing (admit_unless (past_of p) call r)) v ≡ Ok t = verdict_more (past_of p) call r v t refl e in
        let takes = accepts (standing (admit_unless (past_of p) call r)) v t f in
        pending_by c (record p { log = Made call ∷ p.log }) q
        (v, t, (open_going (state_of (admit_unless (past_of p) call r)) takes.0, next.1, next.2, next.3), f, k)

pub pending_feed : StreamLaws → (c : ℕ) (p : Transcript) (piece : List ℕ) (q : Fact) → IsPendingAt c p q
    → IsPendingAt c (after_feed p piece) q
pending_feed laws c p piece q pending = elim (is_stopped (state_at p) || p.ended) as
    (λ b. IsPendingAt c (cond b p (record p { stream = p.stream ++ piece })) q)
    [ true ↦ pending | false ↦ longer (accepted_in c p q pending) ]
  where
    behind : (rest : List ℕ) → IsBehind p.stream p.taken rest → IsBehind (p.stream ++ piece) p.taken (rest ++ piece)
    behind rest b = record {
      messages = b.messages;
      gave = laws.feed MESSAGE_LIMIT p.stream rest piece b.messages b.gave;
      count = b.count;
    }

    message : (rest : List ℕ) (v : Apdu) → HasMessage rest (Message v) → HasMessage (rest ++ piece) (Message v)
    message rest v m = record {
      element = m.element;
      rest = m.rest ++ piece;
      begins = begins_longer rest m.rest piece m.element m.begins;
      read = m.read;
    }

    longer : HasAccepted c p q → IsPendingAt c (record p { stream = p.stream ++ piece }) q
    longer (v, t, next, e, k) = pending_by c (record p { stream = p.stream ++ piece }) q
        (v, t, (next.0, next.1 ++ piece, behind next.1 next.2, message next.1 v next.3), e, k)

pub pending_end : (c : ℕ) (p : Transcript) (q : Fact) → IsPendingAt c p q → IsPendingAt c (record p { ended = true }) q
pending_end c p q pending = pending_by c (record p { ended = true }) q (accepted_in c p q pending)
