-- What a target owes to a search or to a request for records fits it.
use Rattle.std.proofs.Common.{◌≡◌, inl, inr, ℕ, ◌-◌, ◌≤◌, pos, Bool, true, false, cond, ◌||◌, nat_le, List, [], ◌∷◌, ◌++◌, length, map, take, drop, Option, None, Some, refl, sym, ap, ◌∙◌, true≢false, arith, length-append}
use Rattle.std.proofs.lemmas.Int.{ints}
use Rattle.std.proofs.lemmas.List.{length-map, length-take}
use Rattle.std.proofs.lemmas.List.Folds.{list_any-append}
use Rattle.std.proofs.lemmas.Grind.{flat_map-append}
use Rattle.std.specs.List.{list_any}
use Rattle.std.specs.Str.{bytes_eq}
use Rattle.zber.proofs.Tests.{both_true}
use Rattle.zber.specs.Dotted.{dotted}
use Rattle.zapdu.specs.declared.productions.record.Record.{Record}
use Rattle.zapdu.specs.declared.productions.search_request.SearchRequest.{SearchRequest}
use Rattle.zapdu.specs.declared.productions.present_request.PresentRequest.{PresentRequest}
use Rattle.zplan.specs.declared.range.Range.{Range}
use Rattle.zorigin.specs.Fitting.{records_in, is_fragment, IsFitSearchReply, IsFitPresentReply}
use Rattle.ztarget.specs.Faults.{Bib1Fault, fault, first_of_faults}
use Rattle.zplan.specs.Ranges.{natural, positions_of, positions}
use Rattle.ztarget.specs.Searching.{Found}
use Rattle.ztarget.specs.Showing.{retrieval, surrogate, in_syntax, size_of, record_within_size, shown_record, records_held}
use Rattle.ztarget.specs.Standing.{Terms}
use Rattle.ztarget.specs.Positions.{received_additional, ranges_of, is_in_set, are_in_set, at_positions}
use Rattle.ztarget.specs.Responding.{response_records, due_count, search_records, search_found, search_failed, ranges_fault, composition_fault, present_fault, asked_positions, present_records, present_response, present_failed, present_unless, presented}
use Rattle.ztarget.proofs.LargestResponses.{what_fits}
use Rattle.ztarget.proofs.AskedPositions.{some_at}

-- ---- the records of a response

abbrev is_part : Record → Bool
is_part r = is_fragment r.body

neither : (a b : Bool) → (a || b) ≡ false → a ≡ false
neither false b h = refl
neither true b h = absurd (true≢false h)

shown_entire : (size : ℕ) (asked : Option (List ℕ)) (f : Found) → is_part (shown_record size asked f) ≡ false
shown_entire size asked f = within (in_syntax asked f) (plain asked)
  where
    plain : (o : Option (List ℕ)) → is_part (in_syntax o f) ≡ false
    plain None = refl
    plain (Some s) =
        elim (bytes_eq s f.syntax) as (λ b. is_part (cond b (retrieval f) (surrogate f.database (fault 238 (dotted s))))
        ≡ false)
        [ true ↦ refl | false ↦ refl ]

    within : (r : Record) → is_part r ≡ false → is_part (record_within_size size f.database r) ≡ false
    within r h =
        elim (nat_le (size_of r) size) as (λ b. is_part (cond b r (surrogate f.database (fault 17 []))) ≡ false)
        [ true ↦ h | false ↦ refl ]

all_entire : (size : ℕ) (asked : Option (List ℕ)) (fs : List Found)
    → list_any is_part (map (shown_record size asked) fs) ≡ false
all_entire size asked [] = refl
all_entire size asked (f ∷ fs) = λ i. shown_entire size asked f i || all_entire size asked fs i

held_entire : (size : ℕ) (due : List Record) → list_any is_part due ≡ false → list_any is_part (records_held size due) ≡ false
held_entire size due h =
    let k = what_fits size due in
    neither (list_any is_part (records_held size due)) (list_any is_part k.left)
    (sym (list_any-append is_part (records_held size due) k.left) ∙ ap (list_any is_part) (sym k.whole) ∙ h)

held_few : (size : ℕ) (due : List Record) → length (records_held size due) ≤ length due
held_few size due =
    let k = what_fits size due in
    omega (arith, ap length k.whole, length-append (records_held size due) k.left)

records_back : (rs : List Record) → records_in (response_records rs) ≡ rs
records_back [] = refl
records_back (r ∷ rs) = refl

-- ---- searches

taken_few : {X : Type 0} (k : ℕ) (xs : List X) → length (take k xs) ≤ length xs
taken_few k xs = omega (arith, length-take k xs)

pub found_fits : (size : ℕ) (r : SearchRequest) (found : List Found) → IsFitSearchReply (search_found size r found)
found_fits size r found =
    let due = take (due_count r (length found)) found in
    let records = map (shown_record size r.preferred_record_syntax) due in
    let rs = search_records size r found in
    let back = records_back rs in
    let few : length (records_in (response_records rs)) ≤ length found =
    omega (
      arith,
      ap length back,
      held_few size records,
      length-map due (shown_record size r.preferred_record_syntax),
      taken_few (due_count r (length found)) found,
    ) in
    record {
      counted = inr (ap (λ n. pos n) (sym (ap length back)));
      positive = omega (arith, ints);
      within = omega (arith, ints, few);
      entire = ap (list_any is_part) back ∙ held_entire size records (all_entire size r.preferred_record_syntax due);
    }

pub failed_fits : (r : SearchRequest) (reason : Bib1Fault) → IsFitSearchReply (search_failed r reason)
failed_fits r reason = record {
  counted = inl (λ e. absurd (cc));
  positive = omega (arith, ints);
  within = omega (arith, ints);
  entire = refl;
}

-- ---- requests for records

at_few : (found : List Found) (ps : List ℕ) → length (at_positions found ps) ≤ length ps
at_few found [] = omega arith
at_few found (p ∷ ps) =
    omega (
      arith,
      length-append (take 1 (drop (p - 1) found)) (at_positions found ps),
      length-take 1 (drop (p - 1) found),
      at_few found ps,
    )

at_some : (found : List Found) (r : Range) (rs : List Range) → are_in_set (length found) (r ∷ rs) ≡ true
    → 1 ≤ length (at_positions found (positions (r ∷ rs)))
at_some found r rs h =
    let one =
    both_true (is_in_set (natural r.start) (natural r.n) (length found))
    (are_in_set (length found) rs) h in
    let first = at_positions found (positions_of r) in
    let others = at_positions found (positions rs) in
    let parts : at_positions found (positions (r ∷ rs)) ≡ first ++ others =
    flat_map-append (λ p. take 1 (drop (p - 1) found)) (positions_of r) (positions rs) in
    omega (
      arith,
      ap length parts,
      length-append first others,
      some_at found (natural r.start) (natural r.n) one.0,
    )

abbrev first_range : PresentRequest → Range
first_range r = record { start = r.result_set_start_point; n = r.number_of_records_requested }

-- no fault, so the positions are in the set
in_set : (a b : Option Bib1Fault) (inside : Bool) → first_of_faults a (first_of_faults b (cond inside None (Some (fault 13 [])))) ≡ None
    → inside ≡ true
in_set (Some f) b inside h = absurd (cc)
in_set None (Some f) inside h = absurd (cc)
in_set None None true h = refl
in_set None None false h = absurd (cc)

shown_fits : (size : ℕ) (r : PresentRequest) (found : List Found) → are_in_set (length found) (ranges_of r) ≡ true
    → IsFitPresentReply (asked_positions r) (present_response r (length found) (present_records size r found))
shown_fits size r found inside =
    let due = at_positions found (asked_positions r) in
    let records = map (shown_record size r.preferred_record_syntax) due in
    let rs = present_records size r found in
    let back = records_back rs in
    let many = length-map due (shown_record size r.preferred_record_syntax) in
    let have : 1 ≤ length records =
    omega (arith, many, at_some found (first_range r) (received_additional r.additional_ranges) inside) in
    let some : 1 ≤ length (records_in (response_records rs)) =
    omega (arith, ap length back, (what_fits size records).first have) in
    record {
      counted = inr (ap (λ n. pos n) (sym (ap length back)));
      within = omega (arith, ap length back, held_few size records, many, at_few found (asked_positions r));
      entire = ap (list_any is_part) back ∙ held_entire size records (all_entire size r.preferred_record_syntax due);
      some = inl (λ e. absurd (omega (arith, some, ap length e)));
    }

diagnosed_fits : (r : PresentRequest) (reason : Bib1Fault) → IsFitPresentReply (asked_positions r) (present_failed r reason)
diagnosed_fits r reason = record {
  counted = inl (λ e. absurd (cc));
  within = omega arith;
  entire = refl;
  some = inr (λ e. absurd (cc));
}

pub presented_fits : (terms : Terms) (r : PresentRequest) (o : Option (List Found))
    → IsFitPresentReply (asked_positions r) (presented terms r o)
presented_fits terms r None = diagnosed_fits r (fault 30 r.result_set_id)
presented_fits terms r (Some found) = by (present_fault terms.three r (length found)) refl
  where
    by : (o : Option Bib1Fault) → present_fault terms.three r (length found) ≡ o
        → IsFitPresentReply (asked_positions r) (present_unless terms.size r found o)
    by (Some reason) e = diagnosed_fits r reason
    by None e =
        shown_fits terms.size r found
        (in_set (ranges_fault terms.three r.additional_ranges) (composition_fault r.record_composition)
        (are_in_set (length found) (ranges_of r)) e)

-- the reference id is the request's
pub presented_id : (terms : Terms) (r : PresentRequest) (o : Option (List Found))
    → (presented terms r o).reference_id ≡ r.reference_id
presented_id terms r None = refl
presented_id terms r (Some found) = by (present_fault terms.three r (length found))
  where
    by : (o : Option Bib1Fault) → (present_unless terms.size r found o).reference_id ≡ r.reference_id
    by (Some reason) = refl
    by None = refl
