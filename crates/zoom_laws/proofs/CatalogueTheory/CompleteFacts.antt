-- A complete connection knows the facts that the question brings from its target's catalogue.
use Rattle.std.proofs.Common.{◌≡◌, inl, inr, ℕ, zero, suc, ◌+◌, ◌≤◌, Bool, true, false, if◌then◌else◌, List, [], ◌∷◌, ◌++◌, map, take, length, Option, None, Some, refl, sym, ap, subst, ◌∙◌, arith, append-nil, length-append}
use Rattle.std.specs.Prelude.{not, ◌&&◌, ◌||◌, pos, min, int_lt, nat_le, is_none, Contains}
use Rattle.std.specs.List.{flat_map}
use Rattle.std.proofs.lemmas.List.{length-map}
use Rattle.std.proofs.lemmas.Bool.Decides.{nat_tests}
use Rattle.std.proofs.lemmas.Int.{ints}
use Rattle.zapdu.specs.declared.apdu.Apdu.{Apdu}
use Rattle.zapdu.specs.declared.apdu.Apdu.TheVariants as apdus
use Rattle.zapdu.specs.declared.productions.record.Record.{Record}
use Rattle.zknow.specs.declared.fact.Fact.{Fact}
use Rattle.zknow.specs.declared.fact.Fact.TheVariants.{Count, Failed, Seen}
use Rattle.zplan.specs.Plan as plan
use Rattle.zplan.specs.Plan.{Operation, PlanEvent, Reply, InitReply, SearchReply, PresentReply, Replies, IsPlanned, first, search, replies_in, IsDriven, IsPlanAnswered, HasRecordsForEach, IsShownPosition}
use Rattle.zplan.specs.Positions.{IsIn, up_to}
use Rattle.zplan.specs.Laws.{ShownLaws}
use Rattle.zplan.proofs.Order.{sent_asked, answered_sent}
use Rattle.zorigin.specs.declared.settings.Settings.{Settings}
use Rattle.zplan.specs.declared.range.Range.{Range}
use Rattle.zorigin.specs.declared.answer.What.{What}
use Rattle.zorigin.specs.declared.answer.What.TheVariants as what
use Rattle.zorigin.specs.declared.answer.Answer.{Answer}
use Rattle.zorigin.specs.Standings.{nothing_in_force}
use Rattle.zplan.specs.Positions.{first_of}
use Rattle.zplan.specs.Ranges.{positions, natural}
use Rattle.zorigin_facts.specs.Facts.{facts_of, facts_by, seen_at, seen_from, diagnostic_facts}
use Rattle.zorigin.specs.Fitting.{records_in, diagnostics_in}
use Rattle.zorigin.specs.Sending.{search_request, is_unsendable}
use Rattle.zorigin.specs.Calls.{refusal, or_unsendable}
use Rattle.zorigin.specs.Replies.{verdict}
use Rattle.zorigin.specs.Log.{Log, Got, Past, past, standing, is_opening, force_after, asked}
use Rattle.zorigin.specs.Accepts.{IsAccepted}
use Rattle.zorigin.specs.Laws.{IsOrderly}
use Rattle.ztarget.specs.declared.database.Database.{Database}
use Rattle.ztarget.specs.declared.settings.TargetSettings.{TargetSettings}
use Rattle.ztarget.specs.Faults.{Bib1Fault}
use Rattle.ztarget.specs.Searching.{Found}
use Rattle.ztarget.specs.Positions.{at_positions}
use Rattle.ztarget.specs.Showing.{shown_record, records_held, in_syntax, size_of, surrogate}
use Rattle.ztarget.specs.Faults as faults
use Rattle.ztarget.specs.Responding.{due_count, response_records}
use Rattle.ztarget.specs.Replies.{replies}
use Rattle.ztarget.specs.Laws.{KeptSets, LargestResponses}
use Rattle.zoom_questions.specs.declared.question.Question.{Question}
use Rattle.zoom_questions.specs.declared.question.MetaSettings.{MetaSettings}
use Rattle.zoom_pool.specs.Driving.{operation_for, reply_for, can_search, can_present, counted, events_of}
use Rattle.zoom_pool.specs.Steering.{ask_of, errand_of, complete_in}
use Rattle.zoom_pool.specs.Drivers.{DriverState, IsDriver}
use Rattle.zoom_pool.specs.Transcripts.{Transcript}
use Rattle.zoom_pool.specs.History.{accepted}
use Rattle.zorigin.proofs.Members.{among, contained}
use Rattle.zoom_pool.proofs.Drivings.{replied, driven}
use Rattle.zoom_pool.proofs.Due.{opened_of}
use Rattle.zoom_pool.proofs.MetaLaws.{driver_of}
use Rattle.zoom_pool.proofs.Orders.{from_answer, of_answer}
use Rattle.zoom_laws.specs.Accord.{requests}
use Rattle.zoom_laws.proofs.AccordTheory.Members.{in_flat, flat_in}
use Rattle.zoom_laws.proofs.ScheduleTheory.Answered.{is_replied, complete_whole}
use Rattle.zoom_laws.proofs.ScheduleTheory.Openings.{opened_past, at_opening, init_replied}
use Rattle.zoom_laws.proofs.ScheduleTheory.Replies.{CameFrom, came, kept_reply}
use Rattle.zoom_laws.proofs.ScheduleTheory.Same.{opens_for, find_there}
use Rattle.zoom_laws.proofs.ScheduleTheory.Sets.{set_for, of_set}
use Rattle.zoom_laws.specs.Catalogue.{entries_for, positions_due, shown_at, found_facts, fault_facts, facts_for_question, catalogue, AreOwed, HasFittingRecords, CanAsk, CatalogueLaw, UnaskedLaw}
use Rattle.zoom_laws.proofs.CatalogueTheory.Standings.{given, response, search_by, find_in, accepts, refuses, force_of}
use Rattle.zoom_laws.proofs.CatalogueTheory.Members.{to_map, of_map, length_at, of_seen, to_seen}
use Rattle.zoom_laws.proofs.CatalogueTheory.Presents.{records_back, no_diagnostics, kept_of}
use Rattle.zoom_laws.proofs.CatalogueTheory.OperationReplies.{search_reply, PresentedAt, opened, searched, presented_at, for_opens}

-- ---- operations

for_search : (w : What) → operation_for w ≡ plan.Search → w ≡ what.Search
for_search what.Init f = absurd cc
for_search what.Search f = refl
for_search (what.Present ranges) f = absurd cc

for_present : (w : What) (l : List ℕ) → operation_for w ≡ plan.Present l
    → (ranges : List Range) × (w ≡ what.Present ranges) × (positions ranges ≡ l)
for_present what.Init l f = absurd cc
for_present what.Search l f = absurd cc
for_present (what.Present ranges) l f = (ranges, refl, (let z : positions ranges ≡ l = cc in z))

-- ---- no record comes with the answer to the search

none_due : (named : Bool) (q : Question) (n : ℕ) → due_count (search_by named (ask_of q)) n ≡ 0
none_due named q zero = refl
none_due named q (suc m) =
    let lt : int_lt (pos 0) (pos (suc m)) ≡ true = grind (arith, ints) in
    let ge : int_lt (pos (suc m)) (pos 1) ≡ false = grind (arith, ints) in
    ap (λ (b : Bool). if not b then suc m else
    if not (int_lt (pos (suc m)) (pos 1)) || int_lt (pos 0) (pos 0) then 0 else min (suc m)
    (natural (pos 0))) lt
    ∙ ap (λ (b : Bool). if not b || int_lt (pos 0) (pos 0) then 0 else min (suc m) (natural (pos 0))) ge

-- the facts of the answer to the search
abbrev first_facts : ℕ → List Found → Option Bib1Fault → List Fact
first_facts c found None = Count c 1 (pos (length found)) ∷ []
first_facts c found (Some reason) = fault_facts c reason

search_reply_facts : (c : ℕ) (offers : TargetSettings) (q : Question) (found : List Found) (o : Option Bib1Fault)
    → facts_by c 1 what.Search (search_reply offers (ask_of q) found o) ≡ first_facts c found o
search_reply_facts c offers q found None =
    ap (λ n. (Count c 1 (pos (length found)) ∷ [])
    ++ seen_from c 1 (pos 1)
    (records_in (response_records (records_held (given offers).size (map (shown_record (given offers).size q.syntax) (take n found)))))
    ++ diagnostic_facts c 1 (pos 0)
    (diagnostics_in (response_records
    (records_held (given offers).size (map (shown_record (given offers).size q.syntax) (take n found))))))
    (none_due offers.named q (length found))
search_reply_facts c offers q found (Some reason) = refl

-- its reply in the plan
abbrev count_of : List Found → Option Bib1Fault → Option ℕ
count_of found None = Some (length found)
count_of found (Some reason) = None

search_counts : (q : Question) (p : Past) (offers : TargetSettings) (found : List Found) (o : Option Bib1Fault)
    → can_present p ≡ true
    → reply_for (ask_of q) p (search_reply offers (ask_of q) found o) ≡ SearchReply (count_of found o)
search_counts q p offers found None e = ap (λ b. SearchReply (counted (true && b) (pos (length found)))) e
search_counts q p offers found (Some reason) e = refl

-- ---- a record that fits is shown as it is

shown_so : (size : ℕ) (asked : Option (List ℕ)) (f : Found) → size_of (in_syntax asked f) ≤ size
    → shown_record size asked f ≡ in_syntax asked f
shown_so size asked f h =
    let t : nat_le (size_of (in_syntax asked f)) size ≡ true = grind (arith, nat_tests) in
    ap (λ (b : Bool). if b then in_syntax asked f else surrogate f.database (faults.fault 17 [])) t

-- ---- the search can be sent

abbrev reply_with : TargetSettings → Settings → Bool → Apdu
reply_with offers settings b = apdus.InitResponse (record (response offers settings) { result = b })

can_ask : (q : Question) (offers : TargetSettings) (settings other : Settings) (sent : List Apdu) (b : Bool)
    → is_unsendable (search_request offers.named 1 1 (ask_of q)) ≡ b
    → can_search (ask_of q) (opened_past other sent (reply_with offers settings true)) ≡ not b
unfolding refusal
can_ask q offers settings other sent true e = ap (λ b. is_none (or_unsendable b None)) e
can_ask q offers settings other sent false e = ap (λ b. is_none (or_unsendable b None)) e

module _ (orderly : (s : Settings) (l : Log) → IsOrderly (past s l))
    (accepting : (s : Settings) (l : Log) (x : Answer) → Contains (past s l).accepted x → IsAccepted s l x)
    (sets_kept : KeptSets) (databases : List Database) (offers : TargetSettings)
    (q : Question) (s : MetaSettings) (settings : Settings) (log : Log) (d : DriverState)
    (k : IsDriver (errand_of s q) settings log d)
    (talks : (x : Answer) → IsIn x (past settings log).accepted
    → IsIn x.reply (replies databases offers (requests settings log)))
    (shows_laws : ShownLaws) (fits : LargestResponses) (complete : complete_in (past settings log) ≡ true) (c : ℕ) where
  abbrev ask_here : List PlanEvent
  ask_here = events_of (ask_of q) settings log

  abbrev wanted : List ℕ
  wanted = positions q.wanted

  abbrev answers_in : Replies
  answers_in = replies_in ask_here

  abbrev entries : List Found
  entries = entries_for q databases

  abbrev fault : Option Bib1Fault
  fault = faults.match_fault databases q.databases q.query

  pub plan_driven : IsDriven wanted s.step ask_here
  plan_driven = driven (ask_of q) settings wanted s.step orderly log k.driven

  whole : IsPlanAnswered wanted s.step ask_here
  whole = complete_whole (ask_of q) wanted s.step settings orderly log k.driven complete

  came_at : (a : Operation) (r : Reply) → answers_in a ≡ Some r → CameFrom (ask_of q) wanted s.step settings log a r
  came_at a r e = came (ask_of q) wanted s.step settings orderly log k.driven a r e

  accepted_asked : (x : Answer) → IsIn x (past settings log).accepted
      → IsPlanned wanted s.step answers_in (operation_for x.asked.what)
  accepted_asked x i =
      let r = is_replied (ask_of q) settings log x i in
      sent_asked wanted s.step ask_here plan_driven (operation_for x.asked.what)
      (answered_sent wanted s.step ask_here plan_driven (operation_for x.asked.what) r.0 r.1)

  asked_accepted : (a : Operation) → IsPlanned wanted s.step answers_in a
      → (x : Answer) × IsIn x (past settings log).accepted × (operation_for x.asked.what ≡ a)
  asked_accepted a i = let r = whole a i in replied (ask_of q) settings log a r.0 r.1

  -- ---- the replies

  init_reply : (x : Answer) → IsIn x (past settings log).accepted → operation_for x.asked.what ≡ plan.Init
      → x.reply ≡ apdus.InitResponse (response offers settings)
  init_reply x i e = opened orderly accepting sets_kept databases offers q s settings log d k talks x i (opens_for x e)

  search_replied : (x : Answer) → IsIn x (past settings log).accepted → operation_for x.asked.what ≡ plan.Search
      → x.reply ≡ search_reply offers (ask_of q) entries fault
  search_replied x i e = searched orderly accepting sets_kept databases offers q s settings log d k talks x i e

  present_replied : (x : Answer) → IsIn x (past settings log).accepted → (l : List ℕ)
      → operation_for x.asked.what ≡ plan.Present l
      → PresentedAt orderly accepting sets_kept databases offers q s settings log d k talks l x.reply
  present_replied x i l e = presented_at orderly accepting sets_kept databases offers q s settings log d k talks x i l e

  abbrev kept : List ℕ → List Record
  kept l = kept_of offers q.syntax entries l

  -- ---- Init

  init_opens : (other : Settings) × (sent : List Apdu)
      × (answers_in plan.Init ≡ Some (InitReply ((response offers settings).result
      && can_search (ask_of q)
      (opened_past other sent (reply_with offers settings (response offers settings).result))) true))
  init_opens =
      let r = whole plan.Init first in
      let f = came_at plan.Init r.0 r.1 in
      let p = past settings f.earlier in
      let reply = init_reply f.answer f.there f.for in
      let at = at_opening (ask_of q) wanted s.step settings orderly log r.0 f in (
        p.settings,
        p.sent,
        r.1 ∙ ap Some (f.says
            ∙ ap (λ z. reply_for (ask_of q) z f.answer.reply) at
            ∙ ap (λ z. reply_for (ask_of q) (opened_past p.settings p.sent z) z) reply),
      )

  init_refused : offers.refuse ≡ true → answers_in plan.Init ≡ Some (InitReply false true)
  init_refused e =
      let o = init_opens in
      o.2 ∙ ap (λ b. Some (InitReply
      (b && can_search (ask_of q) (opened_past o.0 o.1 (reply_with offers settings b))) true))
      (refuses offers settings e)

  pub init_accepted : offers.refuse ≡ false → (b : Bool) → is_unsendable (search_request offers.named 1 1 (ask_of q)) ≡ b
      → answers_in plan.Init ≡ Some (InitReply (not b) true)
  init_accepted e b can =
      let o = init_opens in
      o.2 ∙ ap (λ t. Some (InitReply
      (t && can_search (ask_of q) (opened_past o.0 o.1 (reply_with offers settings t))) true))
      (accepts offers settings e)
      ∙ ap (λ t. Some (InitReply (true && t) true)) (can_ask q offers settings o.0 o.1 b can)

  -- ---- the search

  can_show : offers.refuse ≡ false → (a : Operation) (r : Reply)
      → (f : CameFrom (ask_of q) wanted s.step settings log a r) → a ≡ plan.Search
      → can_present (past settings (Got f.reply ∷ f.earlier)) ≡ true
  can_show e a r f is =
      let p = past settings f.earlier in
      let events = events_of (ask_of q) settings f.earlier in
      let before = driven (ask_of q) settings wanted s.step orderly f.earlier f.driven in
      let asks = subst (IsPlanned wanted s.step (replies_in events)) is
      (sent_asked wanted s.step events before a f.sent) in
      let o = opened_of wanted s.step (replies_in events) asks in
      let b = replied (ask_of q) settings f.earlier plan.Init (InitReply true o.0) o.1 in
      let there = kept_reply p (verdict (standing p) f.reply) b.0 b.1 in
      let y = find_there (past settings (Got f.reply ∷ f.earlier)).accepted b.0 there (opens_for b.0 b.2) in
      let at = find_in is_opening (past settings (Got f.reply ∷ f.earlier)).accepted y.0 y.1 in
      let reply = opened orderly accepting sets_kept databases offers q s settings log d k talks y.0
      (f.within y.0 at.0) at.1 in
      ap (λ z. (force_after z).present) y.1
      ∙ ap (λ z. (force_after (Some (record { asked = y.0.asked; reply = z }))).present) reply
      ∙ ap (λ (b : Bool). (if b then force_of offers else nothing_in_force).present) (accepts offers settings e)

  search_counted : offers.refuse ≡ false → IsPlanned wanted s.step answers_in plan.Search
      → answers_in plan.Search ≡ Some (SearchReply (count_of entries fault))
  search_counted e i =
      let r = whole plan.Search i in
      let f = came_at plan.Search r.0 r.1 in
      let p = past settings (Got f.reply ∷ f.earlier) in
      r.1 ∙ ap Some (f.says ∙ ap (reply_for (ask_of q) p) (search_replied f.answer f.there f.for)
      ∙ search_counts q p offers entries fault (can_show e plan.Search r.0 f refl))

  -- ---- the Presents

  present_shows : (l : List ℕ) → IsPlanned wanted s.step answers_in (plan.Present l)
      → answers_in (plan.Present l) ≡ Some (PresentReply (length (kept l)))
  present_shows l i =
      let r = whole (plan.Present l) i in
      let f = came_at (plan.Present l) r.0 r.1 in
      let p = past settings (Got f.reply ∷ f.earlier) in
      r.1 ∙ ap Some (f.says ∙ ap (reply_for (ask_of q) p) (present_replied f.answer f.there l f.for).reply
      ∙ ap (λ z. PresentReply (length z)) (records_back (kept l)))

  served : HasRecordsForEach wanted s.step answers_in
  served l i =
      let x = asked_accepted (plan.Present l) i in
      let r = present_replied x.0 x.1 l x.2 in
      let due = map (shown_record (given offers).size q.syntax) (at_positions entries l) in
      let h = fits (given offers).size due in
      let size : length due ≡ length l =
      length-map (at_positions entries l) (shown_record (given offers).size q.syntax) ∙ length_at entries l r.within in
      let parts : length due ≡ length (kept l) + length h.left = ap length h.whole ∙ length-append (kept l) h.left in
      let some = h.first (omega (arith, size, r.some)) in
      (length (kept l), present_shows l i, omega (arith, some), omega (arith, size, parts))

  -- ---- facts

  set_is : (x : Answer) → IsIn x (past settings log).accepted → x.asked.set ≡ set_for x.asked.what
  set_is x i =
      of_set (errand_of s q) settings log k.steered x.asked
      (among x.asked (asked (past settings log))
      ((orderly settings log).known x (contained x (past settings log).accepted i)))

  init_facts_are : (x : Answer) → IsIn x (past settings log).accepted → operation_for x.asked.what ≡ plan.Init
      → facts_of c x ≡ (if (response offers settings).result then [] else Failed c 0 ∷ [])
  init_facts_are x i e =
      let w = for_opens x.asked.what (opens_for x e) in
      λ j. facts_by c x.asked.set (w j) (init_reply x i e j)

  search_facts_are : (x : Answer) → IsIn x (past settings log).accepted → operation_for x.asked.what ≡ plan.Search
      → facts_of c x ≡ first_facts c entries fault
  search_facts_are x i e =
      let w = for_search x.asked.what e in
      let set : x.asked.set ≡ 1 = set_is x i ∙ ap set_for w in
      (λ j. facts_by c (set j) (w j) (search_replied x i e j)) ∙ search_reply_facts c offers q entries fault

  present_facts_are : (x : Answer) → IsIn x (past settings log).accepted → (l : List ℕ)
      → operation_for x.asked.what ≡ plan.Present l
      → facts_of c x ≡ seen_at c 1 l (kept l)
  present_facts_are x i l e =
      let w = for_present x.asked.what l e in
      let set : x.asked.set ≡ 1 = set_is x i ∙ ap set_for w.1 in
      let r = present_replied x i l e in
      (λ j. facts_by c (set j) (w.1 j) (r.reply j))
      ∙ (λ j. seen_at c 1 (w.2 j) (records_back (kept l) j) ++ diagnostic_facts c 1 (pos (first_of (w.2 j)))
      (no_diagnostics (kept l) j))
      ∙ append-nil (seen_at c 1 l (kept l))

  abbrev IsKnown : Fact → Type 0
  IsKnown f = (x : Answer) × IsIn x (past settings log).accepted × IsIn f (facts_of c x)

  -- ---- a target that refuses

  refused : offers.refuse ≡ true → (f : Fact)
      → (IsKnown f → IsIn f (Failed c 0 ∷ [])) × (IsIn f (Failed c 0 ∷ []) → IsKnown f)
  refused e f = (there, back)
    where
      says : (x : Answer) → IsIn x (past settings log).accepted → operation_for x.asked.what ≡ plan.Init
          → facts_of c x ≡ Failed c 0 ∷ []
      says x i op = init_facts_are x i op
          ∙ ap (λ (b : Bool). if b then [] else Failed c 0 ∷ []) (refuses offers settings e)

      there : IsKnown f → IsIn f (Failed c 0 ∷ [])
      there known =
          elim (init_replied wanted s.step answers_in (operation_for known.0.asked.what)
          (accepted_asked known.0 known.1)) [
            | inl op ↦ subst (IsIn f) (says known.0 known.1 op) known.2
            | inr other ↦ absurd (let z : Some (InitReply false true) ≡ Some (InitReply true other.0) =
                sym (init_refused e) ∙ other.1 in cc)
          ]

      back : IsIn f (Failed c 0 ∷ []) → IsKnown f
      back i =
          let x = asked_accepted plan.Init first in
          (x.0, x.1, subst (IsIn f) (sym (says x.0 x.1 x.2)) i)

  -- ---- one to which the search cannot be sent

  pub unasked : offers.refuse ≡ false → is_unsendable (search_request offers.named 1 1 (ask_of q)) ≡ true → (f : Fact)
      → IsKnown f → ⊥
  unasked e cannot f known =
      elim (init_replied wanted s.step answers_in (operation_for known.0.asked.what)
      (accepted_asked known.0 known.1)) [
        | inl op ↦ subst (IsIn f) (init_facts_are known.0 known.1 op
            ∙ ap (λ (b : Bool). if b then [] else Failed c 0 ∷ []) (accepts offers settings e)) known.2
        | inr other ↦ let z : Some (InitReply false true) ≡ Some (InitReply true other.0) =
            sym (init_accepted e true cannot) ∙ other.1 in cc
      ]

  -- ---- one that does not refuse

  module _ (e : offers.refuse ≡ false) (can : is_unsendable (search_request offers.named 1 1 (ask_of q)) ≡ false)
      (small : HasFittingRecords q databases offers) where
    asks_search : IsPlanned wanted s.step answers_in plan.Search
    asks_search = search true first (init_accepted e false can)

    nothing_of_init : (x : Answer) (f : Fact) → IsIn x (past settings log).accepted
        → operation_for x.asked.what ≡ plan.Init
        → IsIn f (facts_of c x) → ⊥
    nothing_of_init x f i op there =
        subst (IsIn f) (init_facts_are x i op
        ∙ ap (λ (b : Bool). if b then [] else Failed c 0 ∷ []) (accepts offers settings e)) there

    count_is : fault ≡ None → answers_in plan.Search ≡ Some (SearchReply (Some (length entries)))
    count_is none = search_counted e asks_search ∙ ap (λ o. Some (SearchReply (count_of entries o))) none

    from_search : (o : Option Bib1Fault) → fault ≡ o → (x : Answer) (f : Fact) → IsIn x (past settings log).accepted
        → operation_for x.asked.what ≡ plan.Search → IsIn f (facts_of c x) → IsIn f (first_facts c entries o)
    from_search o is x f i op there = subst (IsIn f) (search_facts_are x i op ∙ ap (first_facts c entries) is) there

    owed_to_search : (o : Option Bib1Fault) → fault ≡ o → (f : Fact) → IsIn f (first_facts c entries o) → IsKnown f
    owed_to_search o is f i =
        let x = asked_accepted plan.Search asks_search in
        (x.0, x.1, subst (IsIn f) (sym (search_facts_are x.0 x.1 x.2 ∙ ap (first_facts c entries) is)) i)

    held_whole : (l : List ℕ)
        → (left : List Record) × (map (shown_record (given offers).size q.syntax) (at_positions entries l) ≡ kept l ++ left)
    held_whole l = let h =
        fits (given offers).size (map (shown_record (given offers).size q.syntax) (at_positions entries l)) in
        (h.left, h.whole)

    -- a record at a position that is due
    from_present : fault ≡ None → (x : Answer) (f : Fact) → IsIn x (past settings log).accepted → (l : List ℕ)
        → operation_for x.asked.what ≡ plan.Present l → IsIn f (facts_of c x) → IsIn f (found_facts c q entries)
    from_present none x f i l op there =
        let r = present_replied x i l op in
        let h = held_whole l in
        let seen = of_seen entries (shown_record (given offers).size q.syntax) c l (kept l) h.0 r.within h.1 f
        (subst (IsIn f) (present_facts_are x i l op) there) in
        let asks = subst (IsPlanned wanted s.step answers_in) op (accepted_asked x i) in
        let shows : IsShownPosition wanted s.step answers_in seen.0 = record {
          list = l;
          shows = length (kept l);
          asked = asks;
          answered = present_shows l asks;
          among = seen.2;
        } in
        let within = shows_laws.only wanted s.step answers_in k.steps seen.0 shows in
        let due : IsIn seen.0 (positions_due q entries) =
        subst (λ o. IsIn seen.0 (up_to (plan.count_of_reply o) wanted)) (count_is none) within in
        let as_it_is = shown_so (given offers).size q.syntax seen.1 (small e none seen.0 seen.1 due seen.3) in
        inr (flat_in (shown_at c q entries) (positions_due q entries) seen.0 f due
        (subst (λ z. IsIn z (shown_at c q entries seen.0)) (sym (seen.4 ∙ ap (Seen c 1 (pos seen.0)) as_it_is))
        (to_map (λ y. Seen c 1 (pos seen.0) (in_syntax q.syntax y))
        (at_positions entries (seen.0 ∷ [])) seen.1 seen.3)))

    owed_to_present : fault ≡ None → (f : Fact) → IsIn f (flat_map (shown_at c q entries) (positions_due q entries))
        → IsKnown f
    owed_to_present none f i =
        let at = in_flat (shown_at c q entries) (positions_due q entries) f i in
        let y = of_map (λ z. Seen c 1 (pos at.0) (in_syntax q.syntax z)) (at_positions entries (at.0 ∷ [])) f at.2 in
        let shows = shows_laws.all wanted s.step answers_in k.steps served (length entries) at.0 asks_search
        (count_is none) at.1 in
        let l = shows.list in
        let says : Some (PresentReply (length (kept l))) ≡ Some (PresentReply shows.shows) =
        sym (present_shows l shows.asked) ∙ shows.answered in
        let number : shows.shows ≡ length (kept l) = cc in
        let x = asked_accepted (plan.Present l) shows.asked in
        let r = present_replied x.0 x.1 l x.2 in
        let h = held_whole l in
        let among_kept = subst (λ n. IsIn at.0 (take n l)) number shows.among in
        let seen = to_seen entries (shown_record (given offers).size q.syntax) c l
        (kept l) h.0 r.within h.1 at.0 y.0 among_kept y.1 in
        let as_it_is = shown_so (given offers).size q.syntax y.0 (small e none at.0 y.0 at.1 y.1) in (
          x.0,
          x.1,
          subst (IsIn f) (sym (present_facts_are x.0 x.1 l x.2))
              (subst (λ z. IsIn z (seen_at c 1 l (kept l))) (ap (Seen c 1 (pos at.0)) as_it_is ∙ sym y.2) seen),
        )

    found_so : (o : Option Bib1Fault) → fault ≡ o → (f : Fact)
        → (IsKnown f → IsIn f (facts_for_question c q entries o)) × (IsIn f (facts_for_question c q entries o) → IsKnown f)
    found_so None is f = (λ known. there known.0 known.1 known.2 known.0.asked.what refl, back)
      where
        there : (x : Answer) → IsIn x (past settings log).accepted → IsIn f (facts_of c x) → (w : What)
            → x.asked.what ≡ w
            → IsIn f (found_facts c q entries)
        there x i at what.Init w = absurd (nothing_of_init x f i (ap operation_for w) at)
        there x i at what.Search w = one (from_search None is x f i (ap operation_for w) at)
          where
            one : IsIn f (Count c 1 (pos (length entries)) ∷ []) → IsIn f (found_facts c q entries)
            one (inl z) = inl z
            one (inr z) = absurd z
        there x i at (what.Present ranges) w = from_present is x f i (positions ranges) (ap operation_for w) at

        back : IsIn f (found_facts c q entries) → IsKnown f
        back (inl z) = owed_to_search None is f (inl z)
        back (inr z) = owed_to_present is f z
    found_so (Some reason) is f =
        (λ known. there known.0 known.1 known.2 known.0.asked.what refl, λ i. owed_to_search (Some reason) is f i)
      where
        there : (x : Answer) → IsIn x (past settings log).accepted → IsIn f (facts_of c x) → (w : What)
            → x.asked.what ≡ w
            → IsIn f (fault_facts c reason)
        there x i at what.Init w = absurd (nothing_of_init x f i (ap operation_for w) at)
        there x i at what.Search w = from_search (Some reason) is x f i (ap operation_for w) at
        there x i at (what.Present ranges) w =
            absurd (let r = present_replied x i (positions ranges) (ap operation_for w) in
            let z : None ≡ Some reason = sym r.none ∙ is in cc)

  -- ---- either

  pub brings : CanAsk q offers → HasFittingRecords q databases offers → (f : Fact)
      → (IsKnown f → IsIn f (catalogue c q databases offers)) × (IsIn f (catalogue c q databases offers) → IsKnown f)
  brings can small f = by offers.refuse refl can
    where
      Brings : List Fact → Type 0
      Brings l = (IsKnown f → IsIn f l) × (IsIn f l → IsKnown f)

      by : (b : Bool) → offers.refuse ≡ b → CanAsk q offers → Brings (catalogue c q databases offers)
      by true e able =
          subst Brings (sym (ap (λ (b : Bool). if b then Failed c 0 ∷ [] else facts_for_question c q entries fault) e))
          (refused e f)
      by false e able =
          subst Brings (sym (ap (λ (b : Bool). if b then Failed c 0 ∷ [] else facts_for_question c q entries fault) e))
          (found_so e (can_be e able) small fault refl f)
        where
          can_be : offers.refuse ≡ false → CanAsk q offers
              → is_unsendable (search_request offers.named 1 1 (ask_of q)) ≡ false
          can_be takes (inl does) = absurd (let z : true ≡ false = sym does ∙ takes in cc)
          can_be takes (inr able) = able

-- ---- the laws

module _ (orderly : (s : Settings) (l : Log) → IsOrderly (past s l))
    (accepting : (s : Settings) (l : Log) (x : Answer) → Contains (past s l).accepted x → IsAccepted s l x)
    (sets_kept : KeptSets) (shows_laws : ShownLaws) (fits : LargestResponses) where
  pub talked : (databases : List Database) (offers : TargetSettings) (p : Transcript) → AreOwed databases offers p → (x : Answer)
      → IsIn x (accepted p) → IsIn x.reply (replies databases offers (requests p.settings p.log))
  talked databases offers p owed x i =
      among x.reply (replies databases offers (requests p.settings p.log)) (owed x (contained x (accepted p) i))

  pub catalogue_law : CatalogueLaw
  catalogue_law questions s h meta c q p databases offers after at transcript complete owed can small f =
      let driver = driver_of questions meta.drivers c q after.driven.size at in
      let k = after.driven.each c q driver.0 p at driver.1 transcript in
      let so = brings orderly accepting sets_kept databases offers q s p.settings p.log driver.0 k
      (talked databases offers p owed) shows_laws fits complete c can small f in (
        λ i.
            let x = from_answer c (accepted p) f i in
            contained f (catalogue c q databases offers)
            (so.0 (x.0, among x.0 (accepted p) x.1, among f (facts_of c x.0) x.2)),
        λ i.
            let x = so.1 (among f (catalogue c q databases offers) i) in
            of_answer c (accepted p) x.0 f (contained x.0 (accepted p) x.1) (contained f (facts_of c x.0) x.2),
      )

  pub unasked_law : UnaskedLaw
  unasked_law questions s h meta c q p databases offers after at transcript complete owed accepts_it cannot f i =
      let driver = driver_of questions meta.drivers c q after.driven.size at in
      let k = after.driven.each c q driver.0 p at driver.1 transcript in
      let x = from_answer c (accepted p) f i in
      unasked orderly accepting sets_kept databases offers q s p.settings p.log driver.0 k
      (talked databases offers p owed) shows_laws fits complete c accepts_it cannot f
      (x.0, among x.0 (accepted p) x.1, among f (facts_of c x.0) x.2)
