-- PresentRequest [24] (Z39.50-2003, 4.1 and 3.2.3).
use Rattle.std.specs.Prelude.{◌≡◌, true, refl}
use Rattle.zber.specs.AsnTags.{context}
use Rattle.zasn.specs.Table.{ComponentTable, required, optional, also, ◌⨾◌, Elements, clear}
use Rattle.zasn.specs.Places.{of_table, octets, integer, list}
use Rattle.zapdu.specs.declared.productions.present_request.PresentRequest.{PresentRequest}
use Rattle.zapdu.specs.Productions.Ranges.{whole_range}
use Rattle.zapdu.specs.Productions.RecordCompositions.{record_composition}
use Rattle.zapdu.specs.Productions.Deliveries.{delivery, delivery_parts}

-- referenceId [2], resultSetId [31], resultSetStartPoint [30], numberOfRecordsRequested [29], additionalRanges [212]
-- SEQUENCE OF Range, recordComposition, then how the target is to deliver the records
abbrev pub present_request_table : ComponentTable PresentRequest
present_request_table =
    optional (octets (context 2)) (λ v. v.reference_id)
    ⨾ required (octets (context 31)) (λ v. v.result_set_id)
    ⨾ required (integer (context 30)) (λ v. v.result_set_start_point)
    ⨾ required (integer (context 29)) (λ v. v.number_of_records_requested)
    ⨾ optional (list (context 212) whole_range) (λ v. v.additional_ranges)
    ⨾ optional record_composition (λ v. v.record_composition)
    ⨾ also delivery_parts
    (λ v. delivery v.preferred_record_syntax v.max_segment_count v.max_record_size v.max_segment_size v.other_info)

-- no optional place has a tag that comes again after it
pub present_request_clear : clear present_request_table ≡ true
unfolding delivery_parts
present_request_clear = refl

-- PresentRequest (Z39.50-2003, 4.1): how its elements are read and built
unfoldable pub present_request_parts : Elements PresentRequest
present_request_parts =
    of_table present_request_table
    (λ a b c d e f g. record {
      reference_id = a;
      result_set_id = b;
      result_set_start_point = c;
      number_of_records_requested = d;
      additional_ranges = e;
      record_composition = f;
      preferred_record_syntax = g.preferred_record_syntax;
      max_segment_count = g.max_segment_count;
      max_record_size = g.max_record_size;
      max_segment_size = g.max_segment_size;
      other_info = g.other_info;
    })
    (λ v. refl) (λ x. refl) present_request_clear
