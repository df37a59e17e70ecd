-- What a target replied to each operation of a question.
use Rattle.std.proofs.Common.{◌≡◌, inl, inr, ℕ, zero, suc, ◌≤◌, Bool, true, false, cond, List, [], ◌∷◌, ◌++◌, map, length, Option, None, Some, refl, sym, ap, subst, ◌∙◌, arith, true≢false}
use Rattle.std.specs.Prelude.{not, pos, Contains, nat_eq}
use Rattle.std.specs.List.{list_any, find, flat_map, range_with_len, AllByRecursion, IsDistinct}
use Rattle.std.specs.Map.{lookup}
use Rattle.std.proofs.lemmas.Bool.{or_parts}
use Rattle.std.proofs.lemmas.Bool.Decides.{nat_tests}
use Rattle.std.proofs.lemmas.Map.Keys.{IsDistinct-head, IsDistinct-tail}
use Rattle.zplan.specs.Plan as plan
use Rattle.zplan.specs.Positions.{IsIn}
use Rattle.zapdu.specs.declared.apdu.Apdu.{Apdu}
use Rattle.zapdu.specs.declared.apdu.Apdu.TheVariants as apdus
use Rattle.zapdu.specs.declared.productions.init_response.InitResponse.{InitResponse}
use Rattle.zapdu.specs.declared.productions.search_response.SearchResponse.{SearchResponse}
use Rattle.zapdu.specs.declared.productions.record.Record.{Record}
use Rattle.zapdu.specs.declared.productions.present_request.PresentRequest.{PresentRequest}
use Rattle.zapdu.specs.declared.productions.present_response.PresentResponse.{PresentResponse}
use Rattle.zorigin.specs.declared.settings.Settings.{Settings}
use Rattle.zorigin.specs.declared.settings.Ask.{Ask}
use Rattle.zplan.specs.declared.range.Range.{Range}
use Rattle.zorigin.specs.declared.state.Searched.{Searched}
use Rattle.zorigin.specs.declared.state.Outcome.TheVariants as outcomes
use Rattle.zorigin.specs.declared.answer.What.{What}
use Rattle.zorigin.specs.declared.answer.What.TheVariants as what
use Rattle.zorigin.specs.declared.answer.Asked.{Asked}
use Rattle.zorigin.specs.declared.answer.Answer.{Answer}
use Rattle.zorigin.specs.declared.refusal.CallRefused.{CallRefused}
use Rattle.zorigin.specs.References.{reference_id, operation_number}
use Rattle.zorigin.specs.Changes.{present_asked, unanswered, outcome_in}
use Rattle.zorigin.specs.Standings.{Call, Init, Search, Present, Close, Standing, is_ready, is_found, search_of}
use Rattle.zorigin.specs.Fitting.{IsFitReply, first_row}
use Rattle.zorigin.specs.Ranges.{are_ranges, is_past}
use Rattle.zplan.specs.Ranges.{positions, natural}
use Rattle.zorigin.specs.Sending.{init_value, init_request, search_request, present_value, present_request}
use Rattle.zorigin.specs.Calls.{refusal, or_unsendable, unsendable, early_rows, early_refusal, past_outcome, past_count, is_unready}
use Rattle.zorigin.specs.Replies.{verdict}
use Rattle.zorigin.specs.Log.{Log, Made, Got, past, standing, state_of, is_opening, is_init, asked, is_answer_to, operation_of, search_in, by_set, with_outcome, outcome_by, op_of, admit_unless}
use Rattle.zorigin.specs.Accepts.{id_of, IsReferenceTo, IsAccepted}
use Rattle.zorigin.specs.Laws.{IsOrderly}
use Rattle.zorigin.proofs.Proper.{free, ready_if}
use Rattle.zorigin.proofs.Ids.{spelled_number}
use Rattle.zorigin.proofs.Ranges.{follows, follow_first, natural_low}
use Rattle.ztarget.specs.declared.database.Database.{Database}
use Rattle.ztarget.specs.declared.settings.TargetSettings.{TargetSettings}
use Rattle.ztarget.specs.Faults.{Bib1Fault}
use Rattle.ztarget.specs.Searching.{Found}
use Rattle.ztarget.specs.Standing as target
use Rattle.ztarget.specs.Standing.{Terms, Open, NamedSet}
use Rattle.ztarget.specs.Responding.{search_found, search_failed, presented, present_response}
use Rattle.ztarget.specs.Replies.{replies, association_after, owed_to_search, owed_to_search_unless, owed_to_present}
use Rattle.ztarget.specs.Replies as targets
use Rattle.ztarget.specs.Laws.{KeptSets}
use Rattle.zoom_questions.specs.declared.question.Question.{Question}
use Rattle.zoom_questions.specs.declared.question.MetaSettings.{MetaSettings}
use Rattle.zoom_pool.specs.Driving.{operation_for}
use Rattle.zoom_pool.specs.Steering.{Errand, ask_of, errand_of, IsSteered, IsSteeredCall}
use Rattle.zoom_pool.specs.Drivers.{DriverState, IsDriver}
use Rattle.zorigin.proofs.Members.{among, contained}
use Rattle.zoom_pool.proofs.Due.{past_settings}
use Rattle.zoom_laws.proofs.ScheduleTheory.Complete.{same_admitted}
use Rattle.zoom_laws.specs.Accord.{requests}
use Rattle.zoom_laws.proofs.AccordTheory.Accord.{init_fits}
use Rattle.zoom_laws.proofs.CatalogueTheory.Owing.{IsAnswer, answered, Replies, kind}
use Rattle.zoom_laws.proofs.CatalogueTheory.Sent.{IsOwed, owes, IsRequest, is_request}
use Rattle.zoom_laws.proofs.CatalogueTheory.Standings.{search_by, given, response, is_search_call, find_in, IsReady, ready, IsSubstring, stands, OpenedSo, same_fault}
use Rattle.zoom_laws.proofs.CatalogueTheory.Standings as standings
use Rattle.zoom_laws.proofs.CatalogueTheory.Members.{AreWithin}
use Rattle.zoom_laws.proofs.CatalogueTheory.Presents.{kept_of, presents, all_within}

-- ---- what fits

search_fits : (x : Apdu) → IsFitReply what.Search x → (w : SearchResponse) × (x ≡ apdus.SearchResponse w)
search_fits (apdus.SearchResponse w) f = (w, refl)
search_fits (apdus.InitRequest w) f = absurd f
search_fits (apdus.InitResponse w) f = absurd f
search_fits (apdus.SearchRequest w) f = absurd f
search_fits (apdus.PresentRequest w) f = absurd f
search_fits (apdus.PresentResponse w) f = absurd f
search_fits (apdus.Close w) f = absurd f

present_fits : (ranges : List Range) (x : Apdu) → IsFitReply (what.Present ranges) x
    → (w : PresentResponse) × (x ≡ apdus.PresentResponse w)
present_fits ranges (apdus.PresentResponse w) f = (w, refl)
present_fits ranges (apdus.InitRequest w) f = absurd f
present_fits ranges (apdus.InitResponse w) f = absurd f
present_fits ranges (apdus.SearchRequest w) f = absurd f
present_fits ranges (apdus.SearchResponse w) f = absurd f
present_fits ranges (apdus.PresentRequest w) f = absurd f
present_fits ranges (apdus.Close w) f = absurd f

-- the call that a response replies to
for_init : (s : Standing) (call : Call) (v : Apdu) (w : InitResponse) → IsRequest s call v
    → Replies v (apdus.InitResponse w) → call ≡ Init
for_init s Init v w r m = refl
for_init s (Search op set ask) v w r m = absurd (subst (λ z. Replies z (apdus.InitResponse w)) r m)
for_init s (Present op set ranges) v w r m = absurd (subst (λ z. Replies z (apdus.InitResponse w)) r.5 m)
for_init s Close v w r m = absurd (subst (λ z. Replies z (apdus.InitResponse w)) r m)

for_search : (s : Standing) (call : Call) (v : Apdu) (w : SearchResponse) → IsRequest s call v
    → Replies v (apdus.SearchResponse w)
    → (op : ℕ) × (set : ℕ) × (ask : Ask) × (call ≡ Search op set ask)
for_search s Init v w r m = absurd (subst (λ z. Replies z (apdus.SearchResponse w)) r m)
for_search s (Search op set ask) v w r m = (op, set, ask, refl)
for_search s (Present op set ranges) v w r m = absurd (subst (λ z. Replies z (apdus.SearchResponse w)) r.5 m)
for_search s Close v w r m = absurd (subst (λ z. Replies z (apdus.SearchResponse w)) r m)

for_present : (s : Standing) (call : Call) (v : Apdu) (w : PresentResponse) → IsRequest s call v
    → Replies v (apdus.PresentResponse w)
    → (op : ℕ) × (set : ℕ) × (ranges : List Range) × (call ≡ Present op set ranges)
for_present s Init v w r m = absurd (subst (λ z. Replies z (apdus.PresentResponse w)) r m)
for_present s (Search op set ask) v w r m = absurd (subst (λ z. Replies z (apdus.PresentResponse w)) r m)
for_present s (Present op set ranges) v w r m = (op, set, ranges, refl)
for_present s Close v w r m = absurd (subst (λ z. Replies z (apdus.PresentResponse w)) r m)

pub for_opens : (w : What) → is_init w ≡ true → w ≡ what.Init
for_opens what.Init e = refl
for_opens what.Search e = absurd cc
for_opens (what.Present ranges) e = absurd cc

-- ---- the rows of a call that was admitted

passed : {R : Type 0} (rows : List (Bool × R)) → first_row rows ≡ None
    → AllByRecursion (λ (row : Bool × R). row.0 ≡ false) rows
passed [] h = tt
passed (row ∷ rows) h =
    let more = passed rows in
    elim row.0 as (λ b. row.0 ≡ b → cond b (Some row.1) (first_row rows) ≡ None
    → AllByRecursion (λ x. x.0 ≡ false) (row ∷ rows)) [
      | true ↦ λ e g. absurd (cc)
      | false ↦ λ e g.
          (e, more g)
    ] refl h

none_of : (b : Bool) (o : Option CallRefused) → or_unsendable b o ≡ None → o ≡ None
none_of b None h = refl
none_of b (Some r) h = absurd cc

rows_of : (s : Standing) (c : Call) → refusal s c ≡ None
    → AllByRecursion (λ (row : Bool × CallRefused). row.0 ≡ false) (early_rows s c)
unfolding refusal
rows_of s c h = passed (early_rows s c) (none_of (unsendable s c) (early_refusal s c) h)

-- ---- the one search

-- the searches are the question's
abbrev AllAsk : Ask → List Call → Type 0
AllAsk ask [] = Unit {0}
AllAsk ask (Init ∷ calls) = AllAsk ask calls
AllAsk ask (Search op set a ∷ calls) = ((op ≡ 1) × (set ≡ 1) × (a ≡ ask)) × AllAsk ask calls
AllAsk ask (Present op set ranges ∷ calls) = AllAsk ask calls
AllAsk ask (Close ∷ calls) = AllAsk ask calls

all_last : (ask : Ask) (calls : List Call) (call : Call) → AllAsk ask calls → AllAsk ask (call ∷ [])
    → AllAsk ask (calls ++ call ∷ [])
all_last ask [] call a h = h
all_last ask (Init ∷ calls) call a h = all_last ask calls call a h
all_last ask (Search op set x ∷ calls) call a h = (a.0, all_last ask calls call a.1 h)
all_last ask (Present op set ranges ∷ calls) call a h = all_last ask calls call a h
all_last ask (Close ∷ calls) call a h = all_last ask calls call a h

all_ask : (e : Errand) (settings : Settings) (log : Log) → IsSteered e settings log
    → AllAsk e.ask (past settings log).admitted
all_ask e settings [] s = tt
all_ask e settings (Made call ∷ log) s =
    made (refusal (standing (past settings log)) call) s.0 (all_ask e settings log s.1)
  where
    one : (c : Call) → IsSteeredCall e settings log None c → AllAsk e.ask (c ∷ [])
    one Init h = tt
    one (Search op set a) h = ((h.0.numbered, h.0.of.0, h.0.of.1), tt)
    one (Present op set ranges) h = tt
    one Close h = tt

    made : (r : Option CallRefused) → IsSteeredCall e settings log r call → AllAsk e.ask (past settings log).admitted
        → AllAsk e.ask (admit_unless (past settings log) call r).admitted
    made (Some reason) h old = old
    made None h old = all_last e.ask (past settings log).admitted call old (one call h)
all_ask e settings (Got reply ∷ log) s =
    subst (AllAsk e.ask) (sym (same_admitted (past settings log) (verdict (standing (past settings log)) reply)))
    (all_ask e settings log s)

-- the entries kept of the search with set 1
looked : (ask : Ask) (acc : List Answer) (calls : List Call) (s : Searched) → AllAsk ask calls
    → search_of (map by_set (map (with_outcome acc) (flat_map search_in calls))) 1 ≡ Some s
    → (s ≡ with_outcome acc (unanswered 1 1 ask)) × (list_any is_search_call calls ≡ true)
looked ask acc [] s a h = absurd cc
looked ask acc (Init ∷ calls) s a h = looked ask acc calls s a h
looked ask acc (Search op set x ∷ calls) s a h =
    let test : nat_eq 1 set ≡ true = ap (nat_eq 1) a.0.1 in
    let rest = lookup (nat_eq 1) (map by_set (map (with_outcome acc) (flat_map search_in calls))) in
    let g : Some (with_outcome acc (unanswered op set x)) ≡ Some s =
    sym (ap (λ b. cond b (Some (with_outcome acc (unanswered op set x))) rest) test) ∙ h in
    let f : with_outcome acc (unanswered op set x) ≡ s = cc in
    (sym f ∙ (λ i. with_outcome acc (unanswered (a.0.0 i) (a.0.1 i) (a.0.2 i))), refl)
looked ask acc (Present op set ranges ∷ calls) s a h = looked ask acc calls s a h
looked ask acc (Close ∷ calls) s a h = looked ask acc calls s a h

-- it was found, so it was answered
found_by : (o : Option Answer) → is_found (outcome_by o) ≡ true
    → (y : Answer) × (o ≡ Some y) × (is_found (outcome_in y.reply) ≡ true)
found_by None e = absurd cc
found_by (Some y) e = (y, refl, e)

found_fits : (x : Apdu) → is_found (outcome_in x) ≡ true → (w : SearchResponse) × (x ≡ apdus.SearchResponse w)
found_fits (apdus.SearchResponse w) e = (w, refl)
found_fits (apdus.InitRequest w) e = absurd cc
found_fits (apdus.InitResponse w) e = absurd cc
found_fits (apdus.SearchRequest w) e = absurd cc
found_fits (apdus.PresentRequest w) e = absurd cc
found_fits (apdus.PresentResponse w) e = absurd cc
found_fits (apdus.Close w) e = absurd cc

-- ---- one operation of a number

apart_from : (n : ℕ) (qs : List Asked) (b : Asked) → AllByRecursion (λ j. nat_eq n j ≡ false) (map op_of qs)
    → IsIn b qs → nat_eq n b.op ≡ false
apart_from n [] b h i = absurd i
apart_from n (z ∷ qs) b h (inl e) = subst (λ (y : Asked). nat_eq n y.op ≡ false) (sym e) h.0
apart_from n (z ∷ qs) b h (inr i) = apart_from n qs b h.1 i

one_asked : (qs : List Asked) (a b : Asked) → IsDistinct nat_eq (map op_of qs) → IsIn a qs → IsIn b qs → a.op ≡ b.op
    → a ≡ b
one_asked [] a b d i j e = absurd i
one_asked (z ∷ qs) a b d (inl x) (inl y) e = x ∙ sym y
one_asked (z ∷ qs) a b d (inr i) (inr j) e = one_asked qs a b (IsDistinct-tail nat_eq z.op (map op_of qs) d) i j e
one_asked (z ∷ qs) a b d (inl x) (inr j) e =
    let f = apart_from z.op qs b (IsDistinct-head nat_eq z.op (map op_of qs) d) j in
    let g : z.op ≡ b.op = sym (ap op_of x) ∙ e in
    let t : nat_eq z.op b.op ≡ true = grind (arith, nat_tests, g) in
    absurd (true≢false (sym t ∙ f))
one_asked (z ∷ qs) a b d (inr i) (inl y) e =
    let f = apart_from z.op qs a (IsDistinct-head nat_eq z.op (map op_of qs) d) i in
    let g : z.op ≡ a.op = sym (e ∙ ap op_of y) in
    let t : nat_eq z.op a.op ≡ true = grind (arith, nat_tests, g) in
    absurd (true≢false (sym t ∙ f))

same_id : (m n : ℕ) → reference_id m ≡ reference_id n → m ≡ n
same_id m n e =
    let f : Some m ≡ Some n = sym (spelled_number m) ∙ ap operation_number e ∙ spelled_number n in
    cc

same_ranges_of : (a b : List Range) → what.Present a ≡ what.Present b → a ≡ b
same_ranges_of a b e = cc

some_range : (s n : ℕ) (l : List ℕ) → 1 ≤ n → 1 ≤ length (range_with_len s n ++ l)
some_range s zero l h = absurd (omega arith)
some_range s (suc n) l h = omega arith

some_positions : (r : Range) (rs : List Range) → are_ranges (r ∷ rs) ≡ true → 1 ≤ length (positions (r ∷ rs))
some_positions r rs h =
    let g = (follow_first (pos 0) r rs (follows (r ∷ rs) h)).0 in
    some_range (natural r.start) (natural r.n) (positions rs) (natural_low r.n g.some)

open_is : (a b : Terms) → Open a ≡ Open b → a ≡ b
open_is a b e = cc

-- ---- the replies

-- a target's reply to the question's search
abbrev pub search_reply : TargetSettings → Ask → List Found → Option Bib1Fault → Apdu
search_reply offers ask found None =
    apdus.SearchResponse (search_found (given offers).size (search_by offers.named ask) found)
search_reply offers ask found (Some reason) = apdus.SearchResponse (search_failed (search_by offers.named ask) reason)

search_by_fault : (offers : TargetSettings) (ask : Ask) (sets : List NamedSet) (found : List Found) (o : Option Bib1Fault)
    → (owed_to_search_unless (given offers) sets (search_by offers.named ask) found o).reply
    ≡ search_reply offers ask found o
search_by_fault offers ask sets found None = refl
search_by_fault offers ask sets found (Some reason) = refl

-- a search that found something had no fault
found_count : (offers : TargetSettings) (ask : Ask) (found : List Found) (o : Option Bib1Fault)
    → is_found (outcome_in (search_reply offers ask found o)) ≡ true
    → (o ≡ None) × (outcome_in (search_reply offers ask found o) ≡ Some (outcomes.Found (pos (length found))))
found_count offers ask found None e = (refl, refl)
found_count offers ask found (Some reason) e = absurd cc

module _ (orderly : (s : Settings) (l : Log) → IsOrderly (past s l))
    (accepts : (s : Settings) (l : Log) (x : Answer) → Contains (past s l).accepted x → IsAccepted s l x)
    (sets_kept : KeptSets) (databases : List Database) (offers : TargetSettings)
    (q : Question) (s : MetaSettings) (settings : Settings) (log : Log) (d : DriverState)
    (k : IsDriver (errand_of s q) settings log d)
    (talks : (x : Answer) → IsIn x (past settings log).accepted
    → IsIn x.reply (replies databases offers (requests settings log))) where
  abbrev Owed : Apdu → Type 0
  Owed r = IsOwed databases offers (errand_of s q) settings log r

  owed_to : (x : Answer) → IsIn x (past settings log).accepted → Owed x.reply
  owed_to x i = owes databases offers (errand_of s q) settings log k.steered k.driven x.reply (talks x i)

  -- the state of the target before the request
  abbrev before : (r : Apdu) → Owed r → target.Association
  before r o = association_after databases offers (requests settings o.2.earlier)

  given_to : (r : Apdu) (o : Owed r) → IsAnswer databases offers (before r o).state (before r o).sets o.0 o.1
  given_to r o = answered databases offers (before r o).state (before r o).sets o.0 o.1 o.2.answer

  replies_to : (r : Apdu) (o : Owed r) → Replies o.0 r
  replies_to r o = subst (Replies o.0) (sym o.3)
      (kind databases offers (before r o).state (before r o).sets o.0 o.1 (given_to r o))

  requested : (r : Apdu) (o : Owed r) → IsRequest (standing (past settings o.2.earlier)) o.2.call o.0
  requested r o = is_request (standing (past settings o.2.earlier)) o.2.call o.0 o.2.request

  fit : (x : Answer) → IsIn x (past settings log).accepted → IsFitReply x.asked.what x.reply
  fit x i = (accepts settings log x (contained x (past settings log).accepted i)).fits

  -- ---- to Init

  init_owed : (r : Apdu) (o : Owed r) (w : InitResponse) → r ≡ apdus.InitResponse w
      → r ≡ apdus.InitResponse (response offers settings)
  init_owed r o w is =
      let m = subst (Replies o.0) is (replies_to r o) in
      let call = for_init (standing (past settings o.2.earlier)) o.2.call o.0 w (requested r o) m in
      let sent = subst (λ c. IsRequest (standing (past settings o.2.earlier)) c o.0) call (requested r o) in
      let v_is : o.0 ≡ apdus.InitRequest (init_value settings) =
      sent ∙ ap init_request (past_settings settings o.2.earlier) in
      let g = subst (λ z. IsAnswer databases offers (before r o).state (before r o).sets z o.1) v_is (given_to r o) in
      o.3 ∙ ap (λ (b : targets.OwedReply). b.reply) g.1

  pub opened : (x : Answer) → IsIn x (past settings log).accepted → is_opening x ≡ true
      → x.reply ≡ apdus.InitResponse (response offers settings)
  opened x i is =
      let f = subst (λ w. IsFitReply w x.reply) (for_opens x.asked.what is) (fit x i) in
      let w = init_fits x.reply f in
      init_owed x.reply (owed_to x i) w.0 w.1

  opened_before : (r : Apdu) (o : Owed r) → OpenedSo databases offers settings (ask_of q) o.2.earlier
  opened_before r o x i is = opened x (o.2.within x i) is

  stood : (r : Apdu) (o : Owed r) → IsSubstring databases offers settings (ask_of q) (past settings o.2.earlier)
  stood r o = stands databases offers settings (ask_of q) orderly sets_kept
      (errand_of s q) refl o.2.earlier o.2.steered (opened_before r o)

  was_ready : (r : Apdu) (o : Owed r) → is_ready (state_of (past settings o.2.earlier)) ≡ true
      → IsReady databases offers settings (ask_of q) orderly o.2.earlier
  was_ready r o e = ready databases offers settings (ask_of q) orderly o.2.earlier (opened_before r o) e

  -- ---- to the search

  abbrev pub found_here : List Found
  found_here = standings.found databases offers settings (ask_of q)

  abbrev pub fault_here : Option Bib1Fault
  fault_here = standings.fault databases offers settings (ask_of q)

  search_owed : (r : Apdu) (o : Owed r) (w : SearchResponse) → r ≡ apdus.SearchResponse w
      → r ≡ search_reply offers (ask_of q) found_here fault_here
  search_owed r o w is =
      let p = past settings o.2.earlier in
      let t = before r o in
      let c = for_search (standing p) o.2.call o.0 w (requested r o) (subst (Replies o.0) is (replies_to r o)) in
      let sent = subst (λ z. IsRequest (standing p) z o.0) c.3 (requested r o) in
      let steer = (subst (λ z. IsSteeredCall (errand_of s q) settings o.2.earlier None z) c.3 o.2.steering).0 in
      let admits = subst (λ z. refusal (standing p) z ≡ None) c.3 o.2.admitted in
      let free_call = free (standing p) (Search c.0 c.1 c.2) admits in
      let is_open = was_ready r o (ready_if (is_ready (state_of p)) free_call.state) in
      let v_is : o.0 ≡ apdus.SearchRequest (search_by offers.named (ask_of q)) =
      sent ∙ (λ i. search_request (is_open.force i).named (steer.numbered i) (steer.of.0 i) (steer.of.1 i)) in
      let state : t.state ≡ Open (given offers) = (stood r o).state ∙ is_open.stands in
      let g = subst (λ z. IsAnswer databases offers t.state t.sets z o.1) v_is (given_to r o) in
      let terms = open_is g.0 (given offers) (sym g.1 ∙ state) in
      o.3 ∙ ap (λ (b : targets.OwedReply). b.reply) g.2
      ∙ ap (λ z. (owed_to_search databases z t.sets (search_by offers.named (ask_of q))).reply) terms
      ∙ ap (λ f. (owed_to_search_unless (given offers) t.sets (search_by offers.named (ask_of q)) found_here f).reply)
      (same_fault databases offers settings (ask_of q) t.sets)
      ∙ search_by_fault offers (ask_of q) t.sets found_here fault_here

  pub searched : (x : Answer) → IsIn x (past settings log).accepted → operation_for x.asked.what ≡ plan.Search
      → x.reply ≡ search_reply offers (ask_of q) found_here fault_here
  searched x i e =
      let f = subst (λ w. IsFitReply w x.reply) (for_searches x.asked.what e) (fit x i) in
      let w = search_fits x.reply f in
      search_owed x.reply (owed_to x i) w.0 w.1
    where
      for_searches : (w : What) → operation_for w ≡ plan.Search → w ≡ what.Search
      for_searches what.Init h = absurd cc
      for_searches what.Search h = refl
      for_searches (what.Present ranges) h = absurd cc

  -- ---- to a request for records

  -- a response with the records that it holds of these ranges
  record Presented (r : Apdu) : Type 0 where
    op : ℕ
    ranges : List Range
    value : PresentRequest
    reply : r ≡ apdus.PresentResponse
        (present_response value (length found_here) (kept_of offers q.syntax found_here (positions ranges)))
    id : value.reference_id ≡ Some (reference_id op)
    asks : IsIn (present_asked op 1 ranges) (asked (past settings log))
    none : fault_here ≡ None
    within : AreWithin (length found_here) (positions ranges)
    some : 1 ≤ length (positions ranges)

  present_owed : (r : Apdu) (o : Owed r) (w : PresentResponse) → r ≡ apdus.PresentResponse w → Presented r
  present_owed r o w is =
      let p = past settings o.2.earlier in
      let t = before r o in
      let c = for_present (standing p) o.2.call o.0 w (requested r o) (subst (Replies o.0) is (replies_to r o)) in
      let sent = subst (λ z. IsRequest (standing p) z o.0) c.3 (requested r o) in
      let steer = (subst (λ z. IsSteeredCall (errand_of s q) settings o.2.earlier None z) c.3 o.2.steering).0 in
      let admits = subst (λ z. refusal (standing p) z ≡ None) c.3 o.2.admitted in
      let rows = rows_of (standing p) (Present c.0 c.1 c.2) admits in
      let is_open = was_ready r o (ready_if (is_ready (state_of p)) rows.0) in
      let first = sent.0 in
      let others = sent.1 in
      let kept = sent.2 in
      let at_one = ap (search_of (standing p).searches) (sym steer.of) ∙ sent.4 in
      let look = looked (ask_of q) p.accepted p.admitted kept
      (all_ask (errand_of s q) settings o.2.earlier o.2.steered) at_one in
      let one = with_outcome p.accepted (unanswered 1 1 (ask_of q)) in
      let unready : not (is_found kept.outcome) ≡ false =
      ap (λ z. is_unready z) (sym sent.4) ∙ rows.1.1.1.1.1.0 in
      let was_found : is_found (outcome_by (find (is_answer_to 1) p.accepted)) ≡ true =
      ap (λ (z : Searched). is_found z.outcome) (sym look.0) ∙ ready_if (is_found kept.outcome) unready in
      let y = found_by (find (is_answer_to 1) p.accepted) was_found in
      let y_in = o.2.within y.0 (find_in (is_answer_to 1) p.accepted y.0 y.1).0 in
      let y_w = found_fits y.0.reply y.2 in
      let y_reply = search_owed y.0.reply (owed_to y.0 y_in) y_w.0 y_w.1 in
      let count = found_count offers (ask_of q) found_here fault_here
      (subst (λ z. is_found (outcome_in z) ≡ true) y_reply y.2) in
      let outcome : kept.outcome ≡ Some (outcomes.Found (pos (length found_here))) =
      ap (λ (z : Searched). z.outcome) look.0 ∙ ap outcome_by y.1 ∙ ap outcome_in y_reply ∙ count.1 in
      let range = or_parts (not (are_ranges c.2))
      (past_count (positions c.2) (search_of (standing p).searches c.1)) rows.1.1.1.1.1.1.1.0 in
      let good = ready_if (are_ranges c.2) range.0 in
      let past : is_past (pos (length found_here)) (positions c.2) ≡ false =
      sym (ap (past_outcome (positions c.2)) outcome) ∙ ap (past_count (positions c.2)) (sym sent.4) ∙ range.1 in
      let v_is : o.0 ≡ apdus.PresentRequest (present_value offers.named c.0 first others one) =
      sent.5 ∙ (λ i. present_request (is_open.force i).named c.0 first others (look.0 i)) in
      let state : t.state ≡ Open (given offers) = (stood r o).state ∙ is_open.stands in
      let set = (stood r o).sets count.0 look.1 in
      let g = subst (λ z. IsAnswer databases offers t.state t.sets z o.1) v_is (given_to r o) in
      let terms = open_is g.0 (given offers) (sym g.1 ∙ state) in
      let good_all = subst (λ l. are_ranges l ≡ true) sent.3 good in
      let past_all = subst (λ l. is_past (pos (length found_here)) (positions l) ≡ false) sent.3 past in
      record {
        op = c.0;
        ranges = c.2;
        value = present_value offers.named c.0 first others one;
        reply = o.3 ∙ ap (λ (b : targets.OwedReply). b.reply) g.2
            ∙ ap (λ z. (owed_to_present z t.sets (present_value offers.named c.0 first others one)).reply) terms
            ∙ ap (λ z. apdus.PresentResponse
            (presented (given offers) (present_value offers.named c.0 first others one) z)) set
            ∙ ap apdus.PresentResponse (presents offers offers.named c.0 first others one found_here good_all past_all)
            ∙ ap (λ l. apdus.PresentResponse
            (present_response (present_value offers.named c.0 first others one) (length found_here)
            (kept_of offers q.syntax found_here (positions l)))) (sym sent.3);
        id = refl;
        asks = o.2.asks (present_asked c.0 1 c.2)
            (subst (λ z. IsIn (present_asked c.0 1 c.2) (operation_of z)) (sym c.3)
            (inl (λ i. present_asked c.0 (sym steer.of i) c.2)));
        none = count.0;
        within = all_within (length found_here) c.2 good past;
        some = subst (λ l. 1 ≤ length (positions l)) (sym sent.3) (some_positions first others good_all);
      }

  -- the records that are kept of these positions
  abbrev pub kept_at : List ℕ → List Record
  kept_at l = kept_of offers q.syntax found_here l

  pub record PresentedAt (l : List ℕ) (r : Apdu) : Type 0 where
    pub value : PresentRequest
    pub reply : r ≡ apdus.PresentResponse (present_response value (length found_here) (kept_at l))
    pub none : fault_here ≡ None
    pub within : AreWithin (length found_here) l
    pub some : 1 ≤ length l

  pub presented_at : (x : Answer) → IsIn x (past settings log).accepted → (l : List ℕ)
      → operation_for x.asked.what ≡ plan.Present l
      → PresentedAt l x.reply
  presented_at x i l e = by x.asked.what refl e
    where
      answer : (ranges : List Range) → x.asked.what ≡ what.Present ranges → positions ranges ≡ l → PresentedAt l x.reply
      answer ranges is at =
          let f = subst (λ w. IsFitReply w x.reply) is (fit x i) in
          let w = present_fits ranges x.reply f in
          let r = present_owed x.reply (owed_to x i) w.0 w.1 in
          let a = accepts settings log x (contained x (past settings log).accepted i) in
          let named : id_of x.reply ≡ Some (reference_id r.op) = ap id_of r.reply ∙ r.id in
          let id : reference_id r.op ≡ reference_id x.asked.op =
          subst (λ z. IsReferenceTo (past settings a.earlier) x.asked z) named a.refers in
          let there = among x.asked (asked (past settings log))
          ((orderly settings log).known x (contained x (past settings log).accepted i)) in
          let same = one_asked (asked (past settings log)) (present_asked r.op 1 r.ranges) x.asked
          (orderly settings log).operations
          r.asks there (same_id r.op x.asked.op id) in
          let ranges_are = same_ranges_of r.ranges ranges (ap (λ (z : Asked). z.what) same ∙ is) in
          let list : positions r.ranges ≡ l = ap positions ranges_are ∙ at in
          record {
            value = r.value;
            reply = r.reply ∙ ap (λ z. apdus.PresentResponse
                (present_response r.value (length found_here) (kept_at z))) list;
            none = r.none;
            within = subst (AreWithin (length found_here)) list r.within;
            some = subst (λ z. 1 ≤ length z) list r.some;
          }

      by : (w : What) → x.asked.what ≡ w → operation_for w ≡ plan.Present l → PresentedAt l x.reply
      by what.Init is h = absurd cc
      by what.Search is h = absurd cc
      by (what.Present ranges) is h = answer ranges is (let z : positions ranges ≡ l = cc in z)
