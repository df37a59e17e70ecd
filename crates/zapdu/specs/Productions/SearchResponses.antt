-- SearchResponse [23] (Z39.50-2003, 4.1 and 3.2.2).
use Rattle.std.specs.Prelude.{refl}
use Rattle.zber.specs.AsnTags.{context}
use Rattle.zasn.specs.Table.{ComponentTable, required, optional, ended, ◌⨾◌, Elements}
use Rattle.zasn.specs.Places.{of_table, octets, integer, boolean, opaque}
use Rattle.zapdu.specs.declared.productions.search_response.SearchResponse.{SearchResponse}
use Rattle.zapdu.specs.Productions.Records.{records}

-- referenceId [2], resultCount [23], numberOfRecordsReturned [24], nextResultSetPosition [25], searchStatus [22],
-- resultSetStatus [26], presentStatus [27], records, additionalSearchInfo [203], otherInfo [201]
abbrev pub search_response_table : ComponentTable SearchResponse
search_response_table =
    optional (octets (context 2)) (λ v. v.reference_id)
    ⨾ required (integer (context 23)) (λ v. v.result_count)
    ⨾ required (integer (context 24)) (λ v. v.number_of_records_returned)
    ⨾ required (integer (context 25)) (λ v. v.next_result_set_position)
    ⨾ required (boolean (context 22)) (λ v. v.search_status)
    ⨾ optional (integer (context 26)) (λ v. v.result_set_status)
    ⨾ optional (integer (context 27)) (λ v. v.present_status)
    ⨾ optional records (λ v. v.records)
    ⨾ optional (opaque (context 203)) (λ v. v.additional_search_info)
    ⨾ optional (opaque (context 201)) (λ v. v.other_info)
    ⨾ ended

-- SearchResponse (Z39.50-2003, 4.1): how its elements are read and built
unfoldable pub search_response_parts : Elements SearchResponse
search_response_parts =
    of_table search_response_table
    (λ a b c d e f g h i j. record {
      reference_id = a;
      result_count = b;
      number_of_records_returned = c;
      next_result_set_position = d;
      search_status = e;
      result_set_status = f;
      present_status = g;
      records = h;
      additional_search_info = i;
      other_info = j;
    })
    (λ v. refl) (λ x. refl) refl
