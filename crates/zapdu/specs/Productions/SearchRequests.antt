-- SearchRequest [22] (Z39.50-2003, 4.1 and 3.2.2).
use Rattle.std.specs.Prelude.{◌≡◌, true, refl}
use Rattle.zber.specs.AsnTags.{context}
use Rattle.zasn.specs.Table.{ComponentTable, required, optional, also, ◌⨾◌, Elements, clear}
use Rattle.zasn.specs.Places.{of_table, octets, integer, boolean, strings}
use Rattle.zapdu.specs.declared.productions.search_request.SearchRequest.{SearchRequest}
use Rattle.zapdu.specs.Productions.SearchQueries.{search_query}
use Rattle.zapdu.specs.Productions.SearchDetails.{details_of, search_details_parts}

-- referenceId [2], smallSetUpperBound [13], largeSetLowerBound [14], mediumSetPresentNumber [15],
-- replaceIndicator [16], resultSetName [17], databaseNames [18] SEQUENCE OF DatabaseName [105], then the details
abbrev pub search_request_table : ComponentTable SearchRequest
search_request_table =
    optional (octets (context 2)) (λ v. v.reference_id)
    ⨾ required (integer (context 13)) (λ v. v.small_set_upper_bound)
    ⨾ required (integer (context 14)) (λ v. v.large_set_lower_bound)
    ⨾ required (integer (context 15)) (λ v. v.medium_set_present_number)
    ⨾ required (boolean (context 16)) (λ v. v.replace_indicator)
    ⨾ required (octets (context 17)) (λ v. v.result_set_name)
    ⨾ required (strings (context 18) (context 105)) (λ v. v.database_names)
    ⨾ also search_details_parts details_of

-- no optional place has a tag that comes again after it
pub search_request_clear : clear search_request_table ≡ true
unfolding search_details_parts search_query
search_request_clear = refl

-- SearchRequest (Z39.50-2003, 4.1): how its elements are read and built
unfoldable pub search_request_parts : Elements SearchRequest
search_request_parts =
    of_table search_request_table
    (λ a b c d e f g h. record {
      reference_id = a;
      small_set_upper_bound = b;
      large_set_lower_bound = c;
      medium_set_present_number = d;
      replace_indicator = e;
      result_set_name = f;
      database_names = g;
      small_set_element_set_names = h.small_set_element_set_names;
      medium_set_element_set_names = h.medium_set_element_set_names;
      preferred_record_syntax = h.preferred_record_syntax;
      query = h.query;
      additional_search_info = h.additional_search_info;
      other_info = h.other_info;
    })
    (λ v. refl) (λ x. refl) search_request_clear
