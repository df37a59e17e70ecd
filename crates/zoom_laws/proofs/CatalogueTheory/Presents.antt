-- The records that a target presents of the ranges that an origin asks for.
use Rattle.std.proofs.Common.{◌≡◌, ℕ, zero, suc, ◌+◌, ◌≤◌, Bool, true, false, if◌then◌else◌, List, [], ◌∷◌, map, length, Option, None, Some, refl, sym, ap, ◌∙◌, arith}
use Rattle.std.specs.Prelude.{ℤ, pos, ◌&&◌, int_lt}
use Rattle.std.specs.List.{range_with_len, AllByRecursion}
use Rattle.std.proofs.lemmas.Bool.{or_parts}
use Rattle.std.proofs.lemmas.Bool.Decides.{nat_tests}
use Rattle.std.proofs.lemmas.Int.{ints}
use Rattle.std.proofs.lemmas.List.Folds.{list_any-append}
use Rattle.zapdu.specs.declared.productions.record.Record.{Record}
use Rattle.zplan.specs.declared.range.Range.{Range}
use Rattle.zorigin.specs.declared.state.Searched.{Searched}
use Rattle.zorigin.specs.Ranges.{is_past, are_ranges, are_ranges_after, last_of}
use Rattle.zplan.specs.Ranges.{positions, positions_of, natural}
use Rattle.zorigin.specs.Sending.{additional, composition, present_value}
use Rattle.zorigin.specs.Fitting.{records_in, diagnostics_in}
use Rattle.zorigin.proofs.Ranges.{follows, follow_first, natural_low, low_positions}
use Rattle.ztarget.specs.declared.settings.TargetSettings.{TargetSettings}
use Rattle.ztarget.specs.Faults.{Bib1Fault, first_of_faults}
use Rattle.ztarget.specs.Faults as faults
use Rattle.ztarget.specs.Searching.{Found}
use Rattle.ztarget.specs.Positions.{ranges_of, are_in_set, is_in_set, at_positions}
use Rattle.ztarget.specs.Showing.{shown_record, records_held}
use Rattle.ztarget.specs.Responding.{presented, present_unless, present_response, present_fault, composition_fault, range_fault, ranges_fault, response_records}
use Rattle.zoom_laws.proofs.AccordTheory.Calls.{sent_received}
use Rattle.zoom_laws.proofs.CatalogueTheory.Members.{AreWithin}
use Rattle.zoom_laws.proofs.CatalogueTheory.Standings.{given}

-- ---- ranges

pub same_ranges : (named : Bool) (op : ℕ) (r : Range) (rs : List Range) (s : Searched)
    → ranges_of (present_value named op r rs s) ≡ r ∷ rs
same_ranges named op r [] s = refl
same_ranges named op r (x ∷ xs) s = ap (λ l. r ∷ l) (sent_received (x ∷ xs))

-- positions from 1 on that are not past the count are in the set
pub within_by : (n : ℕ) (ps : List ℕ) → AllByRecursion (λ p. 1 ≤ p) ps → is_past (pos n) ps ≡ false → AreWithin n ps
within_by n [] low h = tt
within_by n (p ∷ ps) low h =
    let both = or_parts (int_lt (pos n) (pos p)) (is_past (pos n) ps) h in
    let here = both.0 in
    let le : p ≤ n = grind (arith, ints) in
    (low.0, le, within_by n ps low.1 both.1)

-- the end of a run that is not past it
run_end : (n s k : ℕ) → 1 ≤ k → is_past (pos n) (range_with_len s k) ≡ false → s + k ≤ n + 1
run_end n s zero lo h = absurd (omega arith)
run_end n s (suc zero) lo h =
    let here = (or_parts (int_lt (pos n) (pos s)) false h).0 in
    let le : s ≤ n = grind (arith, ints) in
    omega arith
run_end n s (suc (suc k)) lo h =
    let rest = (or_parts (int_lt (pos n) (pos s)) (is_past (pos n) (range_with_len (s + 1) (suc k))) h).1 in
    let le = run_end n (s + 1) (suc k) (omega arith) rest in
    omega (arith, le)

in_set_of : (s k n : ℕ) → 1 ≤ s → 1 ≤ k → s + k ≤ n + 1 → is_in_set s k n ≡ true
in_set_of s k n a b c = grind (arith, nat_tests)

pub all_in_set : (n : ℕ) (last : ℤ) (ranges : List Range) → are_ranges_after last ranges ≡ true
    → is_past (pos n) (positions ranges) ≡ false
    → are_in_set n ranges ≡ true
all_in_set n last [] f h = refl
all_in_set n last (r ∷ rs) f h =
    let parts = or_parts (is_past (pos n) (positions_of r)) (is_past (pos n) (positions rs))
    (sym (list_any-append (λ p. int_lt (pos n) (pos p)) (positions_of r) (positions rs)) ∙ h) in
    let first = follow_first last r rs f in
    let s = natural_low r.start first.0.low in
    let k = natural_low r.n first.0.some in
    let end = run_end n (natural r.start) (natural r.n) k parts.0 in
    let here = in_set_of (natural r.start) (natural r.n) n s k end in
    ap (λ b. is_in_set (natural r.start) (natural r.n) n && b) (all_in_set n (last_of r) rs first.2 parts.1)
    ∙ ap (λ b. b && true) here

-- ---- the response

-- the records that a response holds
abbrev pub kept_of : TargetSettings → Option (List ℕ) → List Found → List ℕ → List Record
kept_of offers syntax found l = records_held (given offers).size (map (shown_record (given offers).size syntax) (at_positions found l))

module _ (offers : TargetSettings) (named : Bool) (op : ℕ) (r : Range) (rs : List Range) (s : Searched) where
  ranges_free : (o : List Range) → ranges_fault true (additional o) ≡ None
  ranges_free [] = refl
  ranges_free (x ∷ xs) = refl

  composition_free : (o : Option (List ℕ)) → composition_fault (composition o) ≡ None
  composition_free None = refl
  composition_free (Some name) = refl

  no_fault : (n : ℕ) → are_ranges (r ∷ rs) ≡ true → is_past (pos n) (positions (r ∷ rs)) ≡ false
      → present_fault true (present_value named op r rs s) n ≡ None
  no_fault n ranges past =
      let set = ap (are_in_set n) (same_ranges named op r rs s)
      ∙ all_in_set n (pos 0) (r ∷ rs) (follows (r ∷ rs) ranges) past in
      ap (λ o. first_of_faults o (first_of_faults (composition_fault (composition s.elements))
      (range_fault n (ranges_of (present_value named op r rs s))))) (ranges_free rs)
      ∙ ap (λ o. first_of_faults o (range_fault n (ranges_of (present_value named op r rs s)))) (composition_free s.elements)
      ∙ ap (λ (b : Bool). if b then None else Some (why)) set
    where
      why : Bib1Fault
      why = faults.fault 13 []

  pub presents : (found : List Found) → are_ranges (r ∷ rs) ≡ true
      → is_past (pos (length found)) (positions (r ∷ rs)) ≡ false
      → presented (given offers) (present_value named op r rs s) (Some found)
      ≡ present_response (present_value named op r rs s) (length found)
      (kept_of offers s.syntax found (positions (r ∷ rs)))
  presents found ranges past =
      ap (present_unless (given offers).size (present_value named op r rs s) found)
      (no_fault (length found) ranges past)
      ∙ ap (λ l. present_response (present_value named op r rs s) (length found) (kept_of offers s.syntax found l))
      (ap positions (same_ranges named op r rs s))

pub all_within : (n : ℕ) (ranges : List Range) → are_ranges ranges ≡ true → is_past (pos n) (positions ranges) ≡ false
    → AreWithin n (positions ranges)
all_within n ranges a h = within_by n (positions ranges) (low_positions (pos 0) ranges (follows ranges a)) h

-- the records that are kept are those of the response
pub records_back : (kept : List Record) → records_in (response_records kept) ≡ kept
records_back [] = refl
records_back (x ∷ xs) = refl

pub no_diagnostics : (kept : List Record) → diagnostics_in (response_records kept) ≡ []
no_diagnostics [] = refl
no_diagnostics (x ∷ xs) = refl
