-- Of a set of hits is answered what stands at them.
use Rattle.std.proofs.Common.{◌≡◌, sym, ◌∙◌, ap, ℕ, List, length, map, take, None, Some}
use Rattle.std.proofs.lemmas.List.{length-map, take-map}
use Rattle.zapdu.specs.declared.productions.present_request.PresentRequest.{PresentRequest}
use Rattle.zplan.specs.declared.range.Range.{Range}
use Rattle.zapdu.specs.declared.productions.record.Record.{Record}
use Rattle.zapdu.specs.declared.productions.search_request.SearchRequest.{SearchRequest}
use Rattle.ztarget.specs.declared.database.Database.{Database}
use Rattle.ztarget.specs.declared.found.Hit.{Hit}
use Rattle.ztarget.specs.Keeping.{found_at, all_found_at, records_at_hits}
use Rattle.ztarget.specs.Positions.{ranges_of, at_positions}
use Rattle.zplan.specs.Ranges.{positions}
use Rattle.ztarget.specs.Responding.{due_count, search_response, search_found, asked_positions, present_fault, present_response, present_unless, presented}
use Rattle.ztarget.specs.Showing.{shown_record, records_held}
use Rattle.ztarget.specs.Standing.{Terms}
use Rattle.ztarget.proofs.AskedPositions.{at_positions_map}

module _ (databases : List Database) (size : ℕ) where
  found_at_due : (r : SearchRequest) (hits : List Hit) → search_response r (length hits) (due_count r (length hits)) (records_held size (map (shown_record size r.preferred_record_syntax) (all_found_at databases (take (due_count r (length hits)) hits))))
      ≡ search_found size r (all_found_at databases hits)
  found_at_due r hits =
      ap (λ l. search_response r (length hits) (due_count r (length hits)) (records_held size (map (shown_record size r.preferred_record_syntax) l))) (sym (take-map (found_at databases) (due_count r (length hits)) hits))
      ∙ ap (λ n. search_response r n (due_count r n) (records_held size (map (shown_record size r.preferred_record_syntax) (take (due_count r n) (all_found_at databases hits))))) (sym (length-map hits (found_at databases)))

  pub found_all : (r : SearchRequest) (hits : List Hit) (due : ℕ) (records : List Record) → due ≡ due_count r (length hits)
      → records ≡ records_held size (map (shown_record size r.preferred_record_syntax) (all_found_at databases (take due hits))) → search_response r (length hits) due records ≡ search_found size r (all_found_at databases hits)
  found_all r hits due records is held_are =
      ap (search_response r (length hits) due) held_are
      ∙ ap (λ n. search_response r (length hits) n (records_held size (map (shown_record size r.preferred_record_syntax) (all_found_at databases (take n hits))))) is
      ∙ found_at_due r hits

  pub presented_all : (terms : Terms) (r : PresentRequest) (hits : List Hit) (ranges : List Range) (records : List Record) → terms.size ≡ size → ranges ≡ ranges_of r
      → None ≡ present_fault terms.three r (length hits) → records ≡ records_held size (records_at_hits size r.preferred_record_syntax databases (at_positions hits (positions ranges)))
      → present_response r (length hits) records ≡ presented terms r (Some (all_found_at databases hits))
  presented_all terms r hits ranges records sized are none held_are =
      let asked = r.preferred_record_syntax in
      let founds = all_found_at databases hits in
      ap (present_response r (length hits)) held_are
      ∙ ap (λ rs. present_response r (length hits) (records_held size (records_at_hits size asked databases (at_positions hits (positions rs))))) are
      ∙ ap (λ l. present_response r (length hits) (records_held size (map (shown_record size asked) l))) (sym (at_positions_map (found_at databases) hits (asked_positions r)))
      ∙ ap (λ n. present_response r n (records_held size (map (shown_record size asked) (at_positions founds (asked_positions r))))) (sym (length-map hits (found_at databases)))
      ∙ ap (λ z. present_unless z r founds None) (sym sized)
      ∙ ap (present_unless terms.size r founds) none
      ∙ ap (λ n. present_unless terms.size r founds (present_fault terms.three r n)) (sym (length-map hits (found_at databases)))
