-- The last places of a SearchRequest (Z39.50-2003, 4.1 and 3.2.2).
use Rattle.std.specs.Prelude.{◌≡◌, true, refl}
use Rattle.zber.specs.AsnTags.{context}
use Rattle.zasn.specs.Table.{ComponentTable, required, optional, ended, ◌⨾◌, Elements, clear}
use Rattle.zasn.specs.Places.{of_table, oid, opaque, explicit}
use Rattle.zapdu.specs.declared.productions.search_details.SearchDetails.{SearchDetails}
use Rattle.zapdu.specs.declared.productions.search_request.SearchRequest.{SearchRequest}
use Rattle.zapdu.specs.Productions.ElementSets.{element_set_names}
use Rattle.zapdu.specs.Productions.SearchQueries.{search_query}

-- smallSetElementSetNames [100], mediumSetElementSetNames [101], preferredRecordSyntax [104], query [21],
-- additionalSearchInfo [203], otherInfo [201]; the tags [100], [101] and [21] are explicit
abbrev pub search_details_table : ComponentTable SearchDetails
search_details_table =
    optional (explicit (context 100) element_set_names) (λ v. v.small_set_element_set_names)
    ⨾ optional (explicit (context 101) element_set_names) (λ v. v.medium_set_element_set_names)
    ⨾ optional (oid (context 104)) (λ v. v.preferred_record_syntax)
    ⨾ required search_query (λ v. v.query)
    ⨾ optional (opaque (context 203)) (λ v. v.additional_search_info)
    ⨾ optional (opaque (context 201)) (λ v. v.other_info)
    ⨾ ended

-- no optional place has a tag that comes again after it
pub search_details_clear : clear search_details_table ≡ true
unfolding search_query
search_details_clear = refl

-- SearchRequest from smallSetElementSetNames on (Z39.50-2003, 4.1): how its elements are read and built
unfoldable pub search_details_parts : Elements SearchDetails
search_details_parts =
    of_table search_details_table
    (λ a b c d e f. record {
      small_set_element_set_names = a;
      medium_set_element_set_names = b;
      preferred_record_syntax = c;
      query = d;
      additional_search_info = e;
      other_info = f;
    })
    (λ v. refl) (λ x. refl) search_details_clear

-- the details of a request
abbrev pub details_of : SearchRequest → SearchDetails
details_of v =
    record {
      small_set_element_set_names = v.small_set_element_set_names;
      medium_set_element_set_names = v.medium_set_element_set_names;
      preferred_record_syntax = v.preferred_record_syntax;
      query = v.query;
      additional_search_info = v.additional_search_info;
      other_info = v.other_info;
    }
