-- The state of the target after the requests of an origin, and what Init puts in force.
use Rattle.std.proofs.Common.{◌≡◌, inl, inr, ℕ, Bool, true, false, cond, if◌then◌else◌, List, [], ◌∷◌, ◌++◌, Option, None, Some, refl, sym, ap, subst, ◌∙◌}
use Rattle.std.specs.Prelude.{not, ◌&&◌, ◌||◌, codes, reverse}
use Rattle.std.specs.List.{list_any, find, flat_map}
use Rattle.std.proofs.lemmas.Slice.Eq.{bytes_eq-Decides}
use Rattle.std.proofs.lemmas.List.Folds.{list_any-append}
use Rattle.zplan.specs.Positions.{IsIn}
use Rattle.zapdu.specs.declared.apdu.Apdu.{Apdu}
use Rattle.zapdu.specs.declared.apdu.Apdu.TheVariants as apdus
use Rattle.zapdu.specs.declared.productions.init_request.InitRequest.{InitRequest}
use Rattle.zapdu.specs.declared.productions.init_response.InitResponse.{InitResponse}
use Rattle.zapdu.specs.declared.productions.search_request.SearchRequest.{SearchRequest}
use Rattle.zapdu.specs.declared.productions.search_query.SearchQuery.TheVariants.{Rpn}
use Rattle.zapdu.specs.declared.productions.close.Close.{Close as CloseApdu}
use Rattle.zorigin.specs.declared.settings.Settings.{Settings}
use Rattle.zorigin.specs.declared.settings.Ask.{Ask}
use Rattle.zorigin.specs.declared.answer.Asked.{Asked}
use Rattle.zorigin.specs.declared.answer.Answer.{Answer}
use Rattle.zorigin.specs.declared.refusal.CallRefused.{CallRefused}
use Rattle.zorigin.specs.declared.refusal.Refused.{Refused}
use Rattle.zorigin.specs.declared.state.State.{State as OriginState}
use Rattle.zorigin.specs.declared.state.State.TheVariants as states
use Rattle.zorigin.specs.declared.state.InForce.{InForce}
use Rattle.zorigin.specs.Changes.{options_in_force}
use Rattle.zorigin.specs.Standings.{Call, Init, Search, Present, Close, is_fresh, is_ready, nothing_in_force}
use Rattle.zorigin.specs.Sending.{init_value, init_request, search_value, search_request, present_value, set_name, close_value}
use Rattle.zorigin.specs.Calls.{refusal}
use Rattle.zorigin.specs.Replies.{verdict}
use Rattle.zorigin.specs.Log.{Log, Made, Got, Past, past, standing, state_of, state_from, state_by, closing_state, opening, is_opening, is_init, force_after, asked, operation_of, is_close_call, is_init_call, admit_unless}
use Rattle.zorigin.specs.Laws.{IsOrderly}
use Rattle.zorigin.proofs.Proper.{IsProper, free, proper, ready_if}
use Rattle.ztarget.specs.declared.database.Database.{Database}
use Rattle.ztarget.specs.declared.settings.TargetSettings.{TargetSettings}
use Rattle.ztarget.specs.Faults.{Bib1Fault, match_fault, first_of_faults}
use Rattle.ztarget.specs.Faults as faults
use Rattle.ztarget.specs.Searching.{Found, result_set}
use Rattle.ztarget.specs.Standing.{Terms, State, Fresh, Open, Ended, NamedSet, Association, set_named, put_set}
use Rattle.ztarget.specs.Initialising.{init_response, terms}
use Rattle.ztarget.specs.Responding.{search_fault, name_fault, kept_fault}
use Rattle.ztarget.specs.Replies.{owed_in_state, owed_in_association, next_association, association_after, owed_to_search_unless, kept_as, after_init}
use Rattle.ztarget.specs.Laws.{KeptSets}
use Rattle.zoom_pool.specs.Steering.{Errand, IsSteered, IsSteeredCall}
use Rattle.zorigin.proofs.Members.{among, contained}
use Rattle.zoom_pool.proofs.Due.{past_settings}
use Rattle.zoom_laws.proofs.ScheduleTheory.Complete.{same_admitted}
use Rattle.zoom_laws.proofs.ScheduleTheory.Replies.{kept_call, kept_reply}
use Rattle.zoom_laws.specs.Catalogue.{size_given}
use Rattle.zoom_laws.proofs.CatalogueTheory.Owing.{search_leaves, present_leaves}
use Rattle.zoom_laws.proofs.AccordTheory.Requests.{same_verdict}
use Rattle.zoom_laws.proofs.CatalogueTheory.Sent.{one_more, is_request, IsRequest}
use Rattle.zorigin.proofs.Orderly.{sent_request}

-- ---- the requests

abbrev pub search_by : Bool → Ask → SearchRequest
search_by named ask = search_value named 1 1 ask

-- what the target puts in force
abbrev pub given : TargetSettings → Terms
given offers = record { named = offers.named; three = true; size = size_given offers }

abbrev pub response : TargetSettings → Settings → InitResponse
response offers settings = init_response offers (init_value settings)

-- ---- lists of calls

abbrev pub is_search_call : Call → Bool
is_search_call (Search op set ask) = true
is_search_call _ = false

or_false : (b : Bool) → b || false ≡ b
or_false true = refl
or_false false = refl

pub any_last : (f : Call → Bool) (calls : List Call) (call : Call)
    → list_any f (calls ++ call ∷ []) ≡ (list_any f calls || f call)
any_last f calls call = list_any-append f calls (call ∷ []) ∙ ap (λ b. list_any f calls || b) (or_false (f call))

-- a call that is none of these
other_last : (f : Call → Bool) (calls : List Call) (call : Call) → f call ≡ false
    → list_any f (calls ++ call ∷ []) ≡ list_any f calls
other_last f calls call e = any_last f calls call ∙ ap (λ b. list_any f calls || b) e ∙ or_false (list_any f calls)

or_true : (b : Bool) → b || true ≡ true
or_true true = refl
or_true false = refl

this_last : (f : Call → Bool) (calls : List Call) (call : Call) → f call ≡ true → list_any f (calls ++ call ∷ []) ≡ true
this_last f calls call e = any_last f calls call ∙ ap (λ b. list_any f calls || b) e ∙ or_true (list_any f calls)

-- an Init that was asked was called
init_called : (calls : List Call) (q : Asked) → IsIn q (flat_map operation_of calls) → is_init q.what ≡ true
    → list_any is_init_call calls ≡ true
init_called [] q i e = absurd i
init_called (Init ∷ calls) q i e = refl
init_called (Search op set ask ∷ calls) q (inl is) e =
    absurd (let x : false ≡ true = sym (ap (λ (z : Asked). is_init z.what) is) ∙ e in cc)
init_called (Search op set ask ∷ calls) q (inr i) e = init_called calls q i e
init_called (Present op set ranges ∷ calls) q (inl is) e =
    absurd (let x : false ≡ true = sym (ap (λ (z : Asked). is_init z.what) is) ∙ e in cc)
init_called (Present op set ranges ∷ calls) q (inr i) e = init_called calls q i e
init_called (Close ∷ calls) q i e = init_called calls q i e

-- the first that passes is one of them
pub find_in : (f : Answer → Bool) (xs : List Answer) (x : Answer) → find f xs ≡ Some x → IsIn x xs × (f x ≡ true)
find_in f [] x e = absurd cc
find_in f (z ∷ xs) x e =
    elim (f z) as (λ b. f z ≡ b → cond b (Some z) (find f xs) ≡ Some x → IsIn x (z ∷ xs) × (f x ≡ true)) [
      | true ↦ λ is g.
          let same : z ≡ x = cc in
          (subst (λ y. IsIn y (z ∷ xs)) same (inl refl), subst (λ y. f y ≡ true) same is)
      | false ↦ λ is g. let r = find_in f xs x g in (inr r.0, r.1)
    ] refl e

-- ---- states of the origin

closing_ready : (closing : Bool) (s : OriginState) → is_ready (closing_state closing s) ≡ true
    → (closing ≡ false) × (is_ready s ≡ true)
closing_ready true (states.Ready a b c) e = absurd cc
closing_ready false (states.Ready a b c) e = (refl, refl)
closing_ready closing states.Fresh e = absurd cc
closing_ready closing states.Initialising e = absurd cc
closing_ready closing states.Closing e = absurd cc
closing_ready closing states.Closed e = absurd cc
closing_ready closing (states.Failed r) e = absurd cc

closing_fresh : (closing : Bool) (s : OriginState) → is_fresh (closing_state closing s) ≡ true → is_fresh s ≡ true
closing_fresh true (states.Ready a b c) e = absurd cc
closing_fresh false (states.Ready a b c) e = absurd cc
closing_fresh closing states.Fresh e = refl
closing_fresh closing states.Initialising e = absurd cc
closing_fresh closing states.Closing e = absurd cc
closing_fresh closing states.Closed e = absurd cc
closing_fresh closing (states.Failed r) e = absurd cc

-- Ready follows from an accepting answer to Init and no Close
ready_from : (fault : Option Refused) (closed closing begun : Bool) (o : Option Answer)
    → is_ready (state_from fault closed closing begun o) ≡ true
    → (closing ≡ false) × (x : Answer) × (o ≡ Some x) × (is_ready (state_by x.reply) ≡ true)
ready_from (Some r) closed closing begun o e = absurd cc
ready_from None true closing begun o e = absurd cc
ready_from None false closing true None e =
    absurd (let k = closing_ready closing states.Initialising e in let x = k.1 in cc)
ready_from None false closing false None e = absurd (let k = closing_ready closing states.Fresh e in let x = k.1 in cc)
ready_from None false closing begun (Some x) e = let k =
    closing_ready closing (state_by x.reply) e in (k.0, x, refl, k.1)

-- Fresh is before Init
unfresh_by : (reply : Apdu) → is_fresh (state_by reply) ≡ true → ⊥
unfresh_by (apdus.InitResponse v) e = by v.result e
  where
    by : (b : Bool) → is_fresh
        (cond b (states.Ready (options_in_force v).v3 (options_in_force v).concurrent (options_in_force v).named) states.Closed) ≡ true → ⊥
    by true f = cc
    by false f = cc
unfresh_by (apdus.InitRequest v) e = cc
unfresh_by (apdus.SearchRequest v) e = cc
unfresh_by (apdus.SearchResponse v) e = cc
unfresh_by (apdus.PresentRequest v) e = cc
unfresh_by (apdus.PresentResponse v) e = cc
unfresh_by (apdus.Close v) e = cc

fresh_from : (fault : Option Refused) (closed closing begun : Bool) (o : Option Answer)
    → is_fresh (state_from fault closed closing begun o) ≡ true → (begun ≡ false) × (o ≡ None)
fresh_from (Some r) closed closing begun o e = absurd cc
fresh_from None true closing begun o e = absurd cc
fresh_from None false closing true None e = absurd (let k = closing_fresh closing states.Initialising e in cc)
fresh_from None false closing false None e = (refl, refl)
fresh_from None false closing begun (Some x) e =
    absurd (unfresh_by x.reply (closing_fresh closing (state_by x.reply) e))

-- ---- the target

-- its state, by whether Init and Close were sent
abbrev pub expected : TargetSettings → Settings → Bool → Bool → State
expected offers settings begun true = Ended
expected offers settings true false = after_init offers (init_value settings)
expected offers settings false false = Fresh

pub accepts : (offers : TargetSettings) (settings : Settings) → offers.refuse ≡ false
    → (response offers settings).result ≡ true
accepts offers settings e = ap (λ b. not b && true) e

pub refuses : (offers : TargetSettings) (settings : Settings) → offers.refuse ≡ true
    → (response offers settings).result ≡ false
refuses offers settings e = ap (λ b. not b && true) e

opened_state_of : (offers : TargetSettings) (settings : Settings) → offers.refuse ≡ false
    → after_init offers (init_value settings) ≡ Open (given offers)
opened_state_of offers settings e =
    ap (λ (b : Bool). if b then Open (terms offers (init_value settings)) else Ended) (accepts offers settings e)

-- what is in force then
abbrev pub force_of : TargetSettings → InForce
force_of offers = record {
  search = true;
  present = true;
  v3 = true;
  concurrent = offers.concurrent;
  named =
      offers.named;
}

module _ (databases : List Database) (offers : TargetSettings) (settings : Settings) (ask : Ask) where
  abbrev pub found : List Found
  found = result_set databases ask.databases ask.query.root

  abbrev pub fault : Option Bib1Fault
  fault = match_fault databases ask.databases ask.query

  name_free : (named : Bool) → name_fault named (set_name named 1) ≡ None
  name_free true = refl
  name_free false =
      ap (λ (b : Bool). if b then None else Some (why)) ((bytes_eq-Decides (codes "default") (codes "default")).1 refl)
    where
      why : Bib1Fault
      why = faults.fault 22 (codes "default")

  kept_free : (name : List ℕ) (o : Option (List Found)) → kept_fault true name o ≡ None
  kept_free name None = refl
  kept_free name (Some _) = refl

  -- the faults of the search are those of its query and databases
  pub same_fault : (sets : List NamedSet)
      → search_fault databases sets (given offers) (search_by offers.named ask) (Rpn ask.query) ≡ fault
  same_fault sets =
      ap (λ o. first_of_faults o (first_of_faults
      (kept_fault true (set_name offers.named 1) (set_named sets (set_name offers.named 1))) fault))
      (name_free offers.named)
      ∙ ap (λ o. first_of_faults o fault) (kept_free (set_name offers.named 1) (set_named sets (set_name offers.named 1)))

  abbrev pub target_at : Past → Association
  target_at p = association_after databases offers (reverse p.sent)

  -- The state of the target after the requests that were sent, and its result set after the search.
  pub record IsSubstring (p : Past) : Type 0 where
    pub state : (target_at p).state
        ≡ expected offers settings (list_any is_init_call p.admitted) (list_any is_close_call p.admitted)
    pub sets : fault ≡ None → list_any is_search_call p.admitted ≡ true
        → set_named (target_at p).sets (set_name offers.named 1) ≡ Some found

  -- what is known of the answer to Init
  abbrev pub OpenedSo : Log → Type 0
  OpenedSo log = (x : Answer) → IsIn x (past settings log).accepted → is_opening x ≡ true
      → x.reply ≡ apdus.InitResponse (response offers settings)

  module _ (orderly : (s : Settings) (l : Log) → IsOrderly (past s l)) where
    -- what holds if calls can be made
    pub record IsReady (log : Log) : Type 0 where
      pub accepts : offers.refuse ≡ false
      pub force : force_after (opening (past settings log)) ≡ force_of offers
      pub stands : expected offers settings (list_any is_init_call (past settings log).admitted)
          (list_any is_close_call (past settings log).admitted)
          ≡ Open (given offers)

    not_refused : (b : Bool) → not b && true ≡ true → b ≡ false
    not_refused true e = absurd cc
    not_refused false e = refl

    result_of : (b : Bool)
        → is_ready (if b then states.Ready true offers.concurrent offers.named else states.Closed) ≡ true → b ≡ true
    result_of true e = refl
    result_of false e = absurd cc

    pub ready : (log : Log) → OpenedSo log → is_ready (state_of (past settings log)) ≡ true → IsReady log
    ready log opened e = by
        (ready_from p.fault p.closed (list_any is_close_call p.admitted) (list_any is_init_call p.admitted)
        (opening p) e)
      where
        p : Past
        p = past settings log

        by : (list_any is_close_call p.admitted ≡ false) × (x : Answer) × (opening p ≡ Some x)
            × (is_ready (state_by x.reply) ≡ true)
            → IsReady log
        by k =
            let x = k.1 in
            let at = find_in is_opening p.accepted x k.2 in
            let reply = opened x at.0 at.1 in
            let result = result_of (response offers settings).result
            (subst (λ r. is_ready (state_by r) ≡ true) reply k.3) in
            let accepted = not_refused offers.refuse result in
            let there = among x.asked (asked p) ((orderly settings log).known x (contained x p.accepted at.0)) in
            let begun = init_called p.admitted x.asked there at.1 in
            record {
              accepts = accepted;
              force = ap force_after k.2 ∙ ap (λ r. force_after (Some (record { asked = x.asked; reply = r }))) reply
                  ∙ ap (λ (b : Bool). if b then force_of offers else nothing_in_force) result;
              stands = (λ i. expected offers settings (begun i) (k.0 i)) ∙ opened_state_of offers settings accepted;
            }

    -- ---- one more call

    none_opens : (xs : List Answer) → find is_opening xs ≡ None → list_any is_opening xs ≡ true → ⊥
    none_opens [] f h = cc
    none_opens (x ∷ xs) f h =
        elim (is_opening x) as (λ b. cond b (Some x) (find is_opening xs) ≡ None → b || list_any is_opening xs ≡ true → ⊥) [
          | true ↦ λ g k. cc
          | false ↦ λ g k. none_opens xs g k
        ] f h

    unclosed : (p : Past) (b : Bool) → list_any is_close_call p.admitted ≡ b → IsProper p → opening p ≡ None → b ≡ false
    unclosed p true is ok none = absurd (none_opens p.accepted none (ok.closing is))
    unclosed p false is ok none = refl

    init_leaves : (s : Association) (r : InitRequest) → s.state ≡ Fresh
        → next_association s (owed_in_association databases offers s (apdus.InitRequest r))
        ≡ record { state = after_init offers r; sets = s.sets }
    init_leaves s r e = ap (λ state. next_association s (owed_in_state databases offers state s.sets (apdus.InitRequest r))) e

    close_ends : (s : Association) (c : CloseApdu)
        → (next_association s (owed_in_association databases offers s (apdus.Close c))).state ≡ Ended
    close_ends s c = by s.state refl
      where
        by : (state : State) → s.state ≡ state
            → (next_association s (owed_in_state databases offers state s.sets (apdus.Close c))).state ≡ Ended
        by Fresh f = refl
        by (Open t) f = refl
        by Ended f = f

    close_keeps : (s : Association) (c : CloseApdu)
        → (next_association s (owed_in_association databases offers s (apdus.Close c))).sets ≡ s.sets
    close_keeps s c = by s.state
      where
        by : (state : State) → (next_association s (owed_in_state databases offers state s.sets (apdus.Close c))).sets ≡ s.sets
        by Fresh = refl
        by (Open t) = refl
        by Ended = refl

    search_sets : (s : Association) → s.state ≡ Open (given offers) → fault ≡ None
        → (next_association s (owed_in_association databases offers s (apdus.SearchRequest (search_by offers.named ask)))).sets
        ≡ put_set s.sets (kept_as (search_by offers.named ask) found)
    search_sets s e none =
        ap (λ state. (next_association s
        (owed_in_state databases offers state s.sets (apdus.SearchRequest (search_by offers.named ask)))).sets) e
        ∙ ap (λ o. (owed_to_search_unless (given offers) s.sets (search_by offers.named ask) found o).association.sets)
        (same_fault s.sets ∙ none)

    module _ (sets_kept : KeptSets) (e : Errand) (is : e.ask ≡ ask) where
      abbrev LeavesSo : Past → Call → Apdu → Type 0
      LeavesSo p call v =
          ((next_association (target_at p) (owed_in_association databases offers (target_at p) v)).state
          ≡ expected offers settings (list_any is_init_call (p.admitted ++ call ∷ []))
          (list_any is_close_call (p.admitted ++ call ∷ [])))
          × (fault ≡ None → list_any is_search_call (p.admitted ++ call ∷ []) ≡ true
          → set_named (next_association (target_at p) (owed_in_association databases offers (target_at p) v)).sets
          (set_name offers.named 1) ≡ Some found)

      made : (log : Log) → OpenedSo log → (call : Call) (v : Apdu) → refusal (standing (past settings log)) call ≡ None
          → IsRequest (standing (past settings log)) call v → IsSteeredCall e settings log None call
          → IsSubstring (past settings log) → LeavesSo (past settings log) call v
      made log opened Init v admits request steering s =
          let p = past settings log in
          let v_is : v ≡ apdus.InitRequest (init_value settings) =
          request ∙ ap init_request (past_settings settings log) in
          let free_call = free (standing p) Init admits in
          let fresh = fresh_from p.fault p.closed (list_any is_close_call p.admitted)
          (list_any is_init_call p.admitted) (opening p)
          (ready_if (is_fresh (state_of p)) free_call.state) in
          let shut = unclosed p (list_any is_close_call p.admitted) refl (proper settings log) fresh.1 in
          let st : (target_at p).state ≡ Fresh = s.state ∙ (λ i. expected offers settings (fresh.0 i) (shut i)) in
          let leaves = init_leaves (target_at p) (init_value settings) st in
          let begun = this_last is_init_call p.admitted Init refl in
          let closing = other_last is_close_call p.admitted Init refl ∙ shut in
          let same = other_last is_search_call p.admitted Init refl in
          subst (LeavesSo p Init) (sym v_is) (
            ap (λ (t : Association). t.state) leaves ∙ sym (λ i. expected offers settings (begun i) (closing i)),
            λ none h. ap (λ (t : Association). set_named t.sets (set_name offers.named 1)) leaves
                ∙ s.sets none (sym same ∙ h),
          )
      made log opened (Search op set a) v admits request steering s =
          let p = past settings log in
          let call = Search op set a in
          let free_call = free (standing p) call admits in
          let k = ready log opened (ready_if (is_ready (state_of p)) free_call.state) in
          let asks = steering.0.of.1 ∙ is in
          let v_is : v ≡ apdus.SearchRequest (search_by offers.named ask) =
          request ∙ (λ i. search_request (k.force i).named (steering.0.numbered i) (steering.0.of.0 i) (asks i)) in
          let st : (target_at p).state ≡ Open (given offers) = s.state ∙ k.stands in
          let begun = other_last is_init_call p.admitted call refl in
          let closing = other_last is_close_call p.admitted call refl in
          subst (LeavesSo p call) (sym v_is) (
            search_leaves databases offers (target_at p) (search_by offers.named ask) ∙ s.state
                ∙ sym (λ i. expected offers settings (begun i) (closing i)),
            λ none h. ap (λ l. set_named l (set_name offers.named 1)) (search_sets (target_at p) st none)
                ∙ (sets_kept (target_at p).sets (kept_as (search_by offers.named ask) found)).kept,
          )
      made log opened (Present op set ranges) v admits request steering s =
          let p = past settings log in
          let call = Present op set ranges in
          let leaves = present_leaves databases offers (target_at p)
          (present_value (standing p).force.named op request.0 request.1 request.2) in
          let begun = other_last is_init_call p.admitted call refl in
          let closing = other_last is_close_call p.admitted call refl in
          let same = other_last is_search_call p.admitted call refl in
          subst (LeavesSo p call) (sym request.5) (
            ap (λ (t : Association). t.state) leaves ∙ s.state ∙ sym (λ i. expected offers settings (begun i) (closing i)),
            λ none h. ap (λ (t : Association). set_named t.sets (set_name offers.named 1)) leaves
                ∙ s.sets none (sym same ∙ h),
          )
      made log opened Close v admits request steering s =
          let p = past settings log in
          let begun = other_last is_init_call p.admitted Close refl in
          let closing = this_last is_close_call p.admitted Close refl in
          let same = other_last is_search_call p.admitted Close refl in
          subst (LeavesSo p Close) (sym request) (
            close_ends (target_at p) close_value ∙ sym (λ i. expected offers settings (begun i) (closing i)),
            λ none h. ap (λ l. set_named l (set_name offers.named 1)) (close_keeps (target_at p) close_value)
                ∙ s.sets none (sym same ∙ h),
          )

      pub stands : (log : Log) → IsSteered e settings log → OpenedSo log → IsSubstring (past settings log)
      stands [] s opened = record { state = refl; sets = λ none h. absurd cc }
      stands (Made call ∷ log) s opened =
          by (refusal (standing p) call) refl s.0
          (stands log s.1 (λ x i o. opened x (kept_call p call (refusal (standing p) call) x i) o))
        where
          p : Past
          p = past settings log

          by : (r : Option CallRefused) → refusal (standing p) call ≡ r → IsSteeredCall e settings log r call
              → IsSubstring p → IsSubstring (admit_unless p call r)
          by (Some reason) admits steering s' = s'
          by None admits steering s' =
              let sends = sent_request (standing p) call admits in
              let v = sends.request in
              let old : OpenedSo log = λ x i o. opened x (kept_call p call (refusal (standing p) call) x i) o in
              let m = made log old call v admits (is_request (standing p) call v sends.made) steering s' in
              let sent = one_more p call v sends.made in
              record {
                state = ap (λ l. (association_after databases offers l).state) sent ∙ m.0;
                sets = λ none h. ap (λ l. set_named (association_after databases offers l).sets
                    (set_name offers.named 1)) sent ∙ m.1 none h;
              }
      stands (Got reply ∷ log) s opened =
          let p = past settings log in
          let v = verdict (standing p) reply in
          let old = stands log s (λ x i o. opened x (kept_reply p v x i) o) in
          let sent = (same_verdict p v).1 in
          let calls = same_admitted p v in
          record {
            state = ap (λ l. (association_after databases offers (reverse l)).state) sent ∙ old.state
                ∙ sym (ap (λ l. expected offers settings (list_any is_init_call l) (list_any is_close_call l)) calls);
            sets = λ none h. ap (λ l. set_named (association_after databases offers (reverse l)).sets
                (set_name offers.named 1)) sent
                ∙ old.sets none (sym (ap (λ l. list_any is_search_call l) calls) ∙ h);
          }
