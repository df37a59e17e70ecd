-- The lines of a SearchRequest, as the command `show` prints them.
use Rattle.std.specs.Prelude.{ℕ, List, [], ◌∷◌, ◌++◌, Option, Some, None, if◌then◌else◌, codes}
use Rattle.std.specs.List.{flat_map}
use Rattle.zber.specs.Dotted.{dotted}
use Rattle.zquery.specs.Trees.{RpnQuery}
use Rattle.zquery.specs.Notation.Printing.{printable, query_text}
use Rattle.zquery.specs.Element.Type1Reading.{query_spelling}
use Rattle.zapdu.specs.Text.{quoted, ber_text}
use Rattle.zapdu.specs.declared.apdu.Kind.TheVariants as kinds
use Rattle.zapdu.specs.declared.productions.search_query.SearchQuery.{SearchQuery}
use Rattle.zapdu.specs.declared.productions.search_query.SearchQuery.TheVariants as queries
use Rattle.zapdu.specs.declared.productions.search_request.SearchRequest.{SearchRequest}
use Rattle.zapdu_lines.specs.Fields.{start_text, numbers_text, truth_text, name_field}

-- the line of one of databaseNames, with the name in quotes
abbrev pub searched_database_line : List ℕ → List ℕ
searched_database_line name = codes "  db " ++ quoted name ++ codes "\n"

-- the lines of databaseNames, one for each database, in their order
abbrev pub searched_database_lines : List (List ℕ) → List ℕ
searched_database_lines names = flat_map searched_database_line names

-- the line of preferredRecordSyntax, its arcs with dots between them, or nothing if the request has no such field
abbrev pub optional_syntax : Option (List ℕ) → List ℕ
optional_syntax None = []
optional_syntax (Some arcs) = codes "  syntax " ++ dotted arcs ++ codes "\n"

-- a query in the prefix notation, or its element if the notation has no text for it
abbrev pub type_1_text : RpnQuery → List ℕ
type_1_text q = if printable q then query_text q else ber_text (query_spelling q)

-- a query of type 1 in the prefix notation or as `ber`; a query of another type always as `ber`
abbrev pub search_query_text : SearchQuery → List ℕ
search_query_text (queries.Rpn q) = type_1_text q
search_query_text (queries.Other n) = ber_text (Some n)

-- the line of the query, the last one of a SearchRequest
abbrev pub query_line : SearchQuery → List ℕ
query_line q = codes "  query " ++ search_query_text q ++ codes "\n"

-- the first line of a SearchRequest
unfoldable pub search_line : SearchRequest → List ℕ
search_line v =
    start_text kinds.SearchRequest v.reference_id
    ++ numbers_text (v.small_set_upper_bound ∷ v.large_set_lower_bound ∷ v.medium_set_present_number ∷ [])
    ++ truth_text v.replace_indicator ++ name_field (Some v.result_set_name) ++ codes "\n"

-- the first line, then the lines of the databases, of the preferred record syntax and of the query
abbrev pub search_request_text : SearchRequest → List ℕ
search_request_text v =
    search_line v ++ searched_database_lines v.database_names ++ optional_syntax v.preferred_record_syntax
    ++ query_line v.query
