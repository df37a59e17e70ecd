-- The lines of an APDU, as the command `show` prints them.
use Rattle.std.specs.Prelude.{ℕ, List, [], ◌∷◌, ◌++◌, Option, Some, None, false, codes}
use Rattle.std.specs.List.{flat_map}
use Rattle.zapdu.specs.Text.{quoted, record_text, default_diag_text, diag_text}
use Rattle.zapdu.specs.declared.apdu.Apdu.{Apdu}
use Rattle.zapdu.specs.declared.apdu.Apdu.TheVariants as apdus
use Rattle.zapdu.specs.declared.apdu.Kind.TheVariants as kinds
use Rattle.zapdu.specs.declared.productions.close.Close.{Close}
use Rattle.zapdu.specs.declared.productions.diagnostic.DefaultDiag.{DefaultDiag}
use Rattle.zapdu.specs.declared.productions.diagnostic.DiagRec.{DiagRec}
use Rattle.zapdu.specs.declared.productions.init_request.InitRequest.{InitRequest}
use Rattle.zapdu.specs.declared.productions.init_response.InitResponse.{InitResponse}
use Rattle.zapdu.specs.declared.productions.present_request.PresentRequest.{PresentRequest}
use Rattle.zapdu.specs.declared.productions.range.Range.{Range}
use Rattle.zapdu.specs.declared.productions.search_response.SearchResponse.{SearchResponse}
use Rattle.zapdu.specs.declared.productions.present_response.PresentResponse.{PresentResponse}
use Rattle.zapdu.specs.declared.productions.record.Record.{Record}
use Rattle.zapdu.specs.declared.productions.record.Records.{Records}
use Rattle.zapdu.specs.declared.productions.record.Records.TheVariants as records
use Rattle.zapdu_lines.specs.Fields.{numbers_text, bits_text, truth_text, name_field, start_text, head_line}
use Rattle.zapdu_lines.specs.Searches.{search_request_text}

-- the line of a record, indented by two spaces; octets that follow `rec` are in quotes
abbrev pub apdu_record_line : Record → List ℕ
apdu_record_line r = codes "  " ++ record_text false r ++ codes "\n"

-- the lines of responseRecords, one for each record, in their order
abbrev pub apdu_record_lines : List Record → List ℕ
apdu_record_lines rs = flat_map apdu_record_line rs

-- the beginning of the line of a nonsurrogate diagnostic
unfoldable pub nonsurrogate : List ℕ
nonsurrogate = codes "  nonsurrogate "

-- the line of nonSurrogateDiagnostic, which is in the default format
abbrev pub default_diag_line : DefaultDiag → List ℕ
default_diag_line d = nonsurrogate ++ default_diag_text d ++ codes "\n"

-- the line of one of multipleNonSurDiagnostics, in the default format or as `ber`
abbrev pub diag_line : DiagRec → List ℕ
diag_line d = nonsurrogate ++ diag_text d ++ codes "\n"

-- the lines of multipleNonSurDiagnostics, one for each diagnostic, in their order
abbrev pub diag_lines : List DiagRec → List ℕ
diag_lines ds = flat_map diag_line ds

-- the lines of what a response holds: its records, one nonsurrogate diagnostic, or several of these
abbrev pub records_text : Records → List ℕ
records_text (records.List rs) = apdu_record_lines rs
records_text (records.OneDiag d) = default_diag_line d
records_text (records.ManyDiags ds) = diag_lines ds

-- the lines of the records of a response, or nothing if it has no such field
abbrev pub optional_records : Option Records → List ℕ
optional_records None = []
optional_records (Some rs) = records_text rs

-- a line with numberOfRecordsReturned, nextResultSetPosition and presentStatus, then the records
abbrev pub present_response_text : PresentResponse → List ℕ
present_response_text v =
    head_line kinds.PresentResponse v.reference_id
    (v.number_of_records_returned ∷ v.next_result_set_position ∷ v.present_status ∷ [])
    ++ optional_records v.records

-- a line with protocolVersion and options as bits, preferredMessageSize, exceptionalRecordSize, implementationName
abbrev pub init_request_text : InitRequest → List ℕ
init_request_text v =
    start_text kinds.InitRequest v.reference_id ++ bits_text v.protocol_version ++ bits_text v.options
    ++ numbers_text (v.preferred_message_size ∷ v.exceptional_record_size ∷ []) ++ name_field v.implementation_name
    ++ codes "\n"

-- a line with protocolVersion and options as bits, preferredMessageSize, exceptionalRecordSize, result,
-- implementationName
abbrev pub init_response_text : InitResponse → List ℕ
init_response_text v =
    start_text kinds.InitResponse v.reference_id ++ bits_text v.protocol_version ++ bits_text v.options
    ++ numbers_text (v.preferred_message_size ∷ v.exceptional_record_size ∷ []) ++ truth_text v.result
    ++ name_field v.implementation_name ++ codes "\n"

-- the first line of a SearchResponse
abbrev pub search_response_line : SearchResponse → List ℕ
search_response_line v =
    start_text kinds.SearchResponse v.reference_id
    ++ numbers_text (v.result_count ∷ v.number_of_records_returned ∷ v.next_result_set_position ∷ [])
    ++ truth_text v.search_status ++ codes "\n"

-- a line with resultCount, numberOfRecordsReturned, nextResultSetPosition and searchStatus, then the records
abbrev pub search_response_text : SearchResponse → List ℕ
search_response_text v = search_response_line v ++ optional_records v.records

-- the line of one range: startingPosition, then numberOfRecords
abbrev pub range_line : Range → List ℕ
range_line r = codes "  range" ++ numbers_text (r.starting_position ∷ r.number_of_records ∷ []) ++ codes "\n"

-- the lines of additionalRanges, one for each range, in their order
abbrev pub range_lines : List Range → List ℕ
range_lines rs = flat_map range_line rs

-- the lines of additionalRanges, or nothing if the request has no such field
abbrev pub optional_ranges : Option (List Range) → List ℕ
optional_ranges None = []
optional_ranges (Some rs) = range_lines rs

-- a line with resultSetId, resultSetStartPoint and numberOfRecordsRequested, then the lines of additionalRanges
abbrev pub present_request_text : PresentRequest → List ℕ
present_request_text v =
    start_text kinds.PresentRequest v.reference_id ++ name_field (Some v.result_set_id)
    ++ numbers_text (v.result_set_start_point ∷ v.number_of_records_requested ∷ []) ++ codes "\n"
    ++ optional_ranges v.additional_ranges

-- the line of diagnosticInformation, with its octets in quotes
abbrev pub info_text : List ℕ → List ℕ
info_text octets = codes "  info " ++ quoted octets ++ codes "\n"

-- the line of diagnosticInformation, or nothing if the Close has no such field
abbrev pub optional_info : Option (List ℕ) → List ℕ
optional_info None = []
optional_info (Some octets) = info_text octets

-- a line with closeReason as a number, then the line of diagnosticInformation if there is one
abbrev pub close_text : Close → List ℕ
close_text v = head_line kinds.Close v.reference_id (v.close_reason ∷ []) ++ optional_info v.diagnostic_information

-- the lines of an APDU
abbrev pub apdu_text : Apdu → List ℕ
apdu_text (apdus.InitRequest v) = init_request_text v
apdu_text (apdus.InitResponse v) = init_response_text v
apdu_text (apdus.SearchRequest v) = search_request_text v
apdu_text (apdus.SearchResponse v) = search_response_text v
apdu_text (apdus.PresentRequest v) = present_request_text v
apdu_text (apdus.PresentResponse v) = present_response_text v
apdu_text (apdus.Close v) = close_text v
