-- Each reply that a target owes to the requests for a question is short.
use Rattle.std.proofs.Common.{◌≡◌, ℕ, zero, suc, ◌-◌, ◌≤◌, Bool, true, false, cond, if◌then◌else◌, List, [], ◌∷◌, map, take, drop, length, Option, None, Some, Ok, refl, sym, ap, subst, ◌∙◌, arith, append-nil}
use Rattle.std.specs.Prelude.{not, ◌||◌, pos, min, int_lt, nat_le, codes}
use Rattle.std.specs.Str.{bytes_eq}
use Rattle.std.proofs.lemmas.Bool.Decides.{nat_tests}
use Rattle.std.proofs.lemmas.Int.{ints}
use Rattle.zplan.specs.Plan as plan
use Rattle.zplan.specs.Plan.{IsPlanned, replies_in}
use Rattle.zplan.specs.Positions.{IsIn}
use Rattle.zplan.specs.Ranges.{positions, natural}
use Rattle.zplan.specs.declared.range.Range.{Range}
use Rattle.zapdu.specs.declared.apdu.Apdu.{Apdu}
use Rattle.zapdu.specs.declared.apdu.Apdu.TheVariants as apdus
use Rattle.zapdu.specs.declared.productions.present_request.PresentRequest.{PresentRequest}
use Rattle.zapdu.specs.declared.productions.range.Range.{Range as SentRange}
use Rattle.zapdu.specs.declared.productions.record.Record.{Record}
use Rattle.zapdu.specs.declared.productions.record_composition.RecordComposition.{RecordComposition}
use Rattle.zapdu.specs.declared.productions.record_composition.RecordComposition.TheVariants.{Simple, Complex}
use Rattle.zapdu.specs.declared.productions.search_query.SearchQuery.TheVariants.{Rpn}
use Rattle.zorigin.specs.declared.settings.Ask.{Ask}
use Rattle.zorigin.specs.declared.settings.Settings.{Settings}
use Rattle.zorigin.specs.declared.state.Searched.{Searched}
use Rattle.zorigin.specs.Standings as calls
use Rattle.zorigin.specs.Standings.{Call, Standing}
use Rattle.zorigin.specs.Sending.{set_name, init_value, search_value, search_request, present_value, close_value}
use Rattle.zorigin.specs.Log.{Log, past, standing}
use Rattle.zorigin.proofs.Members.{among, in_filter}
use Rattle.zorigin.proofs.SendableSizes.{decimal_few}
use Rattle.ztarget.specs.declared.database.Database.{Database}
use Rattle.ztarget.specs.declared.settings.TargetSettings.{TargetSettings}
use Rattle.ztarget.specs.Faults.{Bib1Fault, first_of_faults, match_fault}
use Rattle.ztarget.specs.Faults as faults
use Rattle.ztarget.specs.Laws.{size_of_all}
use Rattle.ztarget.specs.Positions.{ranges_of, are_in_set, at_positions}
use Rattle.ztarget.specs.Replies.{OwedReply, owed, replies, association_after, owed_to_search_unless}
use Rattle.ztarget.specs.Responding.{due_count, search_records, search_failed, search_fault, name_fault, kept_fault, ranges_fault, composition_fault, range_fault, present_fault, present_records, present_unless, presented}
use Rattle.ztarget.specs.Searching.{Found}
use Rattle.ztarget.specs.Showing.{size_of, shown_record, records_held}
use Rattle.ztarget.specs.Standing.{Terms, Open, NamedSet, Association, set_named}
use Rattle.zoom_questions.specs.declared.question.Question.{Question}
use Rattle.zoom_questions.specs.declared.question.MetaSettings.{MetaSettings}
use Rattle.zoom_pool.specs.Driving.{events_of, IsDueCall}
use Rattle.zoom_pool.specs.Drivers.{DriverState, IsDriver}
use Rattle.zoom_pool.specs.Hosts.{IsShort}
use Rattle.zoom_pool.specs.Steering.{Errand, IsCallOf, IsSteered, ask_of, errand_of}
use Rattle.zoom_pool.proofs.MetaLaws.{driver_of}
use Rattle.zoom_laws.specs.Accord.{requests}
use Rattle.zoom_laws.specs.Catalogue.{size_given, entries_for, positions_due}
use Rattle.zoom_laws.specs.Lengths.{HasShortRecords, fault_reply, HasShortFault, ShortRepliesLaw, ShortTextLaw}
use Rattle.zoom_laws.proofs.AccordTheory.Members.{in_flat}
use Rattle.zoom_laws.proofs.CatalogueTheory.Members.{of_map}
use Rattle.zoom_laws.proofs.CatalogueTheory.Owing.{IsAnswer, answered}
use Rattle.zoom_laws.proofs.CatalogueTheory.Presents.{same_ranges}
use Rattle.zoom_laws.proofs.CatalogueTheory.Sent.{owes, IsRequest, is_request}
use Rattle.zoom_laws.proofs.LengthTheory.Associations.{IsAssociated, IsFoundSet, IsOnTerms, associated, of_named}
use Rattle.zoom_laws.proofs.LengthTheory.Errands.{planned_wanted, all_for, searched_syntax}
use Rattle.zoom_laws.proofs.LengthTheory.Records.{held_short, shown_short, in_set}
use Rattle.zoom_laws.proofs.LengthTheory.Replies.{found_short, failed_short, presented_short, unpresented_short, init_short, close_short}

-- ---- texts of faults

name_few : (named : Bool) (set : ℕ) → length (set_name named set) ≤ 64
name_few true set = decimal_few set
name_few false set = omega arith

-- the fault, if there is one, has a text of at most this many octets
abbrev IsWithinText : ℕ → Option Bib1Fault → Type 0
IsWithinText m None = Unit {0}
IsWithinText m (Some reason) = length reason.info ≤ m

within_either : (m : ℕ) (a b : Option Bib1Fault) → IsWithinText m a → IsWithinText m b
    → IsWithinText m (first_of_faults a b)
within_either m None b h l = l
within_either m (Some reason) b h l = h

within_if : (m : ℕ) (b : Bool) (reason : Bib1Fault) → length reason.info ≤ m
    → IsWithinText m (cond b None (Some reason))
within_if m true reason h = tt
within_if m false reason h = h

kept_within : (m : ℕ) (name : List ℕ) (o : Option (List Found)) → IsWithinText m (kept_fault true name o)
kept_within m name None = tt
kept_within m name (Some found) = tt

ranges_within : (three : Bool) (o : Option (List SentRange)) → IsWithinText 2000000 (ranges_fault three o)
ranges_within three None = tt
ranges_within three (Some ranges) = within_if 2000000 three (faults.fault 100 (codes "ranges")) (omega arith)

composition_within : (o : Option RecordComposition) → IsWithinText 2000000 (composition_fault o)
composition_within None = tt
composition_within (Some (Simple names)) = tt
composition_within (Some (Complex e)) = omega arith

range_within : (count : ℕ) (ranges : List Range) → IsWithinText 2000000 (range_fault count ranges)
range_within count ranges = within_if 2000000 (are_in_set count ranges) (faults.fault 13 []) (omega arith)

present_within : (three : Bool) (r : PresentRequest) (count : ℕ) → IsWithinText 2000000 (present_fault three r count)
present_within three r count =
    let composed = composition_fault r.record_composition in
    let ranged = range_fault count (ranges_of r) in
    within_either 2000000 (ranges_fault three r.additional_ranges) (first_of_faults composed ranged)
    (ranges_within three r.additional_ranges)
    (within_either 2000000 composed ranged (composition_within r.record_composition) (range_within count (ranges_of r)))

-- the response that has this fault, if there is one, is no longer than a message may be
abbrev IsBrief : Question → Option Bib1Fault → Type 0
IsBrief q None = Unit {0}
IsBrief q (Some reason) = IsShort (fault_reply q reason)

brief_either : (q : Question) (a b : Option Bib1Fault) → IsBrief q a → IsBrief q b → IsBrief q (first_of_faults a b)
brief_either q None b h l = l
brief_either q (Some reason) b h l = h

text_brief : (q : Question) (o : Option Bib1Fault) → IsWithinText 2000000 o → IsBrief q o
text_brief q None h = tt
text_brief q (Some reason) h = failed_short (search_value true 1 1 (ask_of q)) (omega arith) reason h

search_brief : (databases : List Database) (q : Question) (named : Bool) (op set : ℕ) (terms : Terms)
    (sets : List NamedSet) → IsBrief q (match_fault databases q.databases q.query)
    → IsBrief q (search_fault databases sets terms (search_value named op set (ask_of q)) (Rpn q.query))
search_brief databases q named op set terms sets h =
    let name = set_name named set in
    let few : length name ≤ 2000000 = omega (arith, name_few named set) in
    let kept = kept_fault true name (set_named sets name) in
    let matched = match_fault databases q.databases q.query in
    brief_either q (name_fault terms.named name) (first_of_faults kept matched)
    (text_brief q (name_fault terms.named name)
    (within_if 2000000 (terms.named || bytes_eq name (codes "default")) (faults.fault 22 name) few))
    (brief_either q kept matched (text_brief q kept (kept_within 2000000 name (set_named sets name))) h)

-- a response with a short text is short
pub text_law : ShortTextLaw
text_law q databases settings small reason takes is =
    failed_short (search_value true 1 1 (ask_of q)) (omega arith) reason (small reason takes is)

-- ---- the replies

-- no record is due with the response to the search
none_due : (named : Bool) (op set : ℕ) (q : Question) (n : ℕ) → due_count (search_value named op set (ask_of q)) n ≡ 0
none_due named op set q zero = refl
none_due named op set q (suc m) =
    let lt : int_lt (pos 0) (pos (suc m)) ≡ true = grind (arith, ints) in
    let ge : int_lt (pos (suc m)) (pos 1) ≡ false = grind (arith, ints) in
    ap (λ (b : Bool). if not b then suc m else
    if not (int_lt (pos (suc m)) (pos 1)) || int_lt (pos 0) (pos 0) then 0 else min (suc m)
    (natural (pos 0))) lt
    ∙ ap (λ (b : Bool). if not b || int_lt (pos 0) (pos 0) then 0 else min (suc m) (natural (pos 0))) ge

module _ (databases : List Database) (offers : TargetSettings) (q : Question)
    (small : HasShortRecords q databases offers) (brief : HasShortFault q databases offers) where
  abbrev entries : List Found
  entries = entries_for q databases

  abbrev fault : Option Bib1Fault
  fault = match_fault databases q.databases q.query

  -- the response that has the search's fault is short
  fault_brief : offers.refuse ≡ false → (o : Option Bib1Fault) → fault ≡ o → IsBrief q o
  fault_brief takes None e = tt
  fault_brief takes (Some reason) e = brief reason takes e

  search_short : (named : Bool) (op set : ℕ) (terms : Terms) (sets : List NamedSet) (found : List Found)
      (o : Option Bib1Fault) → op ≡ 1 → IsBrief q o
      → IsShort (owed_to_search_unless terms sets (search_value named op set (ask_of q)) found o).reply
  search_short named op set terms sets found None is h =
      let r = search_value named op set (ask_of q) in
      let none = none_due named op set q (length found) in
      let nothing : size_of_all (search_records terms.size r found) ≡ 0 =
      ap (λ n. size_of_all (records_held terms.size (map (shown_record terms.size q.syntax) (take n found)))) none in
      found_short r (omega arith) (length found) (due_count r (length found)) (search_records terms.size r found)
      (omega (arith, nothing))
  search_short named op set terms sets found (Some reason) is h =
      subst (λ n. IsShort (apdus.SearchResponse (search_failed (search_value named n set (ask_of q)) reason))) (sym is) h

  module _ (op : ℕ) (named : Bool) (first : Range) (others : List Range) (s : Searched)
      (syntax : s.syntax ≡ q.syntax)
      (wanted : (x : ℕ) → IsIn x (positions (first ∷ others)) → IsIn x (positions q.wanted)) where
    abbrev request : PresentRequest
    request = present_value named op first others s

    -- each record that is asked for is short
    asked_short : offers.refuse ≡ false → fault ≡ None → (r : Record)
        → IsIn r (map (shown_record (size_given offers) q.syntax) (at_positions entries (positions (first ∷ others))))
        → size_of r ≤ 2000158
    asked_short takes none r i =
        let l = positions (first ∷ others) in
        let m = of_map (shown_record (size_given offers) q.syntax) (at_positions entries l) r i in
        let at = in_flat (λ p. take 1 (drop (p - 1) entries)) l m.0 m.1 in
        let there = in_set entries (at.0 - 1) m.0 at.2 in
        let low : at.0 ≤ length entries = omega (arith, there) in
        let passes : nat_le at.0 (length entries) ≡ true = grind (arith, nat_tests) in
        let due : IsIn at.0 (positions_due q entries) =
        in_filter (λ p. nat_le p (length entries)) (positions q.wanted) at.0 (wanted at.0 at.1) passes in
        let fits = small takes none at.0 m.0 due (subst (IsIn m.0) (sym (append-nil _)) at.2) in
        subst (λ z. size_of z ≤ 2000158) (sym m.2) (shown_short offers q.syntax m.0 fits)

    -- the records of the response
    records_within : (terms : Terms) → IsOnTerms databases offers (ask_of q) (Open terms) → fault ≡ None
        → size_of_all (present_records terms.size request entries) ≤ 2000158
    records_within terms on none =
        let l = map (shown_record (size_given offers) q.syntax) (at_positions entries (positions (first ∷ others))) in
        let few = held_short offers l (asked_short on.0 none) in
        let same : present_records terms.size request entries ≡ records_held (size_given offers) l =
        (λ i. records_held (on.1 i) (map (shown_record (on.1 i) (syntax i))
        (at_positions entries (positions (same_ranges named op first others s i))))) in
        let equal = ap size_of_all same in
        omega (arith, few, equal)

    present_short_unless : (terms : Terms) → IsOnTerms databases offers (ask_of q) (Open terms) → fault ≡ None
        → (o : Option Bib1Fault) → IsWithinText 2000000 o
        → IsShort (apdus.PresentResponse (present_unless terms.size request entries o))
    present_short_unless terms on none None h =
        presented_short request (omega arith) (length entries) (present_records terms.size request entries)
        (records_within terms on none)
    present_short_unless terms on none (Some reason) h = unpresented_short request (omega arith) reason h

    present_short : (terms : Terms) (o : Option (List Found))
        → IsOnTerms databases offers (ask_of q) (Open terms)
        → ((found : List Found) → o ≡ Some found → (found ≡ entries) × (fault ≡ None))
        → IsShort (apdus.PresentResponse (presented terms request o))
    present_short terms None on h =
        let few : length request.result_set_id ≤ 2000000 = omega (arith, name_few named s.set) in
        unpresented_short request (omega arith) (faults.fault 30 request.result_set_id) few
    present_short terms (Some found) on h =
        let is = h found refl in
        subst (λ z. IsShort (apdus.PresentResponse (presented terms request (Some z)))) (sym is.0)
        (present_short_unless terms on is.1 (present_fault terms.three request (length entries))
        (present_within terms.three request (length entries)))

  module _ (s : MetaSettings) (settings : Settings) where
    abbrev errand : Errand
    errand = errand_of s q

    -- the reply to a request that was sent after this log
    module _ (log : Log) (v : Apdu) (a : OwedReply) (steered : IsSteered errand settings log)
        (answer : owed databases offers (requests settings log) v ≡ Ok a) where
      abbrev before : Association
      before = association_after databases offers (requests settings log)

      abbrev asking : Standing
      asking = standing (past settings log)

      on : IsAssociated databases offers (ask_of q) before
      on = associated databases offers (ask_of q) (requests settings log) (all_for errand settings log steered)

      given : (w : Apdu) → v ≡ w → IsAnswer databases offers before.state before.sets w a
      given w is =
          subst (λ z. IsAnswer databases offers before.state before.sets z a) is
          (answered databases offers before.state before.sets v a answer)

      terms_at : (terms : Terms) → before.state ≡ Open terms → IsOnTerms databases offers (ask_of q) (Open terms)
      terms_at terms e = subst (IsOnTerms databases offers (ask_of q)) e on.state

      to_search : (op set : ℕ) (ask : Ask) → op ≡ 1 → ask ≡ ask_of q
          → v ≡ search_request asking.force.named op set ask → IsShort a.reply
      to_search op set ask first of is =
          let named = asking.force.named in
          let r = search_value named op set (ask_of q) in
          let g = given (apdus.SearchRequest r) (is ∙ ap (search_request named op set) of) in
          let takes = (terms_at g.0 g.1).0 in
          subst (λ (b : OwedReply). IsShort b.reply) (sym g.2)
          (search_short named op set g.0 before.sets entries
          (search_fault databases before.sets g.0 r (Rpn q.query)) first
          (search_brief databases q named op set g.0 before.sets (fault_brief takes fault refl)))

      to_present : (op set : ℕ) (ranges : List Range) → IsRequest asking (calls.Present op set ranges) v
          → IsPlanned (positions q.wanted) s.step (replies_in (events_of (ask_of q) settings log))
          (plan.Present (positions ranges))
          → IsShort a.reply
      to_present op set ranges is planned =
          let named = asking.force.named in
          let r = present_value named op is.0 is.1 is.2 in
          let g = given (apdus.PresentRequest r) is.5 in
          let syntax = searched_syntax errand settings log set is.2 steered is.4 in
          let list = ap positions is.3 in
          subst (λ (b : OwedReply). IsShort b.reply) (sym g.2)
          (present_short op named is.0 is.1 is.2 syntax
          (λ x i. planned_wanted (positions q.wanted) s.step (replies_in (events_of (ask_of q) settings log))
          (positions ranges) x planned (subst (IsIn x) (sym list) i))
          g.0 (set_named before.sets r.result_set_id) (terms_at g.0 g.1)
          (λ found e.
          let n = of_named (IsFoundSet databases offers (ask_of q)) before.sets r.result_set_id found on.sets e in
          (sym n.2 ∙ n.1.0, n.1.1)))

      to_call : (call : Call) → IsRequest asking call v → IsCallOf errand call
          → IsDueCall (ask_of q) (positions q.wanted) s.step (events_of (ask_of q) settings log) None call
          → IsShort a.reply
      to_call calls.Init is of due =
          let g = given (apdus.InitRequest (init_value asking.settings)) is in
          subst (λ (b : OwedReply). IsShort b.reply) (sym g.1)
          (init_short offers (init_value asking.settings) (omega arith))
      to_call (calls.Search op set ask) is of due = to_search op set ask due.0 of.1 is
      to_call (calls.Present op set ranges) is of due = to_present op set ranges is due.1.0
      to_call calls.Close is of due =
          let g = given (apdus.Close close_value) is in
          subst (λ (b : OwedReply). IsShort b.reply) (sym g) (close_short close_value tt)

    pub short : (log : Log) (d : DriverState) → IsDriver errand settings log d → (reply : Apdu)
        → IsIn reply (replies databases offers (requests settings log)) → IsShort reply
    short log d k reply i =
        let o = owes databases offers errand settings log k.steered k.driven reply i in
        let at = o.2 in
        subst IsShort (sym o.3)
        (to_call at.earlier o.0 o.1 at.steered at.answer at.call
        (is_request (standing (past settings at.earlier)) at.call o.0 at.request) at.steering.0.of at.due)

pub short_law : ShortRepliesLaw
short_law questions s h meta c q p databases offers after at transcript small brief reply there =
    let driver = driver_of questions meta.drivers c q after.driven.size at in
    let k = after.driven.each c q driver.0 p at driver.1 transcript in
    short databases offers q small brief s p.settings p.log driver.0 k reply
    (among reply (replies databases offers (requests p.settings p.log)) there)
