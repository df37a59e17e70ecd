-- PresentResponse [25] (Z39.50-2003, 4.1 and 3.2.3).
use Rattle.std.specs.Prelude.{refl}
use Rattle.zber.specs.AsnTags.{context}
use Rattle.zasn.specs.Table.{ComponentTable, required, optional, ended, ◌⨾◌, Elements}
use Rattle.zasn.specs.Places.{of_table, octets, integer, opaque}
use Rattle.zapdu.specs.declared.productions.present_response.PresentResponse.{PresentResponse}
use Rattle.zapdu.specs.Productions.Records.{records}

-- referenceId [2], numberOfRecordsReturned [24], nextResultSetPosition [25], presentStatus [27], records,
-- otherInfo [201]
abbrev pub present_response_table : ComponentTable PresentResponse
present_response_table =
    optional (octets (context 2)) (λ v. v.reference_id)
    ⨾ required (integer (context 24)) (λ v. v.number_of_records_returned)
    ⨾ required (integer (context 25)) (λ v. v.next_result_set_position)
    ⨾ required (integer (context 27)) (λ v. v.present_status)
    ⨾ optional records (λ v. v.records)
    ⨾ optional (opaque (context 201)) (λ v. v.other_info)
    ⨾ ended

-- PresentResponse (Z39.50-2003, 4.1): how its elements are read and built
unfoldable pub present_response_parts : Elements PresentResponse
present_response_parts =
    of_table present_response_table
    (λ a b c d e f. record {
      reference_id = a;
      number_of_records_returned = b;
      next_result_set_position = c;
      present_status = d;
      records = e;
      other_info = f;
    })
    (λ v. refl) (λ x. refl) refl
