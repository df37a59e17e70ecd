-- The request that is sent for a call, and which requests can be sent (Z39.50-2003, 3.2.1.1, 3.2.2.1, 3.2.3.1 and
-- 3.2.11.1).
use Rattle.std.specs.Prelude.{◌≡◌, ℕ, pos, nat_lt, Bool, true, false, ◌||◌, if◌then◌else◌, List, [], ◌∷◌, ◌++◌, length, map, Option, Some, None, Result, Ok, Err, codes}
use Rattle.std.specs.Option.{option_map}
use Rattle.std.specs.Fmt.{decimal}
use Rattle.zber.specs.declared.framer.TheConstants.{MESSAGE_LIMIT}
use Rattle.zber.specs.Elements.{Element, height}
use Rattle.zber.specs.Canonical.{canonical}
use Rattle.zber.specs.Spelling.{HasFirstMessage}
use Rattle.zapdu.specs.declared.apdu.Apdu.{Apdu}
use Rattle.zapdu.specs.declared.apdu.Apdu.TheVariants as apdus
use Rattle.zapdu.specs.declared.productions.close.Close.{Close as CloseApdu}
use Rattle.zapdu.specs.declared.productions.element_set_names.ElementSetNames.{ElementSetNames}
use Rattle.zapdu.specs.declared.productions.element_set_names.ElementSetNames.TheVariants.{Generic}
use Rattle.zapdu.specs.declared.productions.init_request.InitRequest.{InitRequest}
use Rattle.zapdu.specs.declared.productions.present_request.PresentRequest.{PresentRequest}
use Rattle.zapdu.specs.declared.productions.range.Range.{Range as SentRange}
use Rattle.zapdu.specs.declared.productions.record_composition.RecordComposition.{RecordComposition}
use Rattle.zapdu.specs.declared.productions.record_composition.RecordComposition.TheVariants.{Simple}
use Rattle.zapdu.specs.declared.productions.search_query.SearchQuery.TheVariants.{Rpn}
use Rattle.zapdu.specs.declared.productions.search_request.SearchRequest.{SearchRequest}
use Rattle.zapdu.specs.Writes.{Writes, apdu_spelling}
use Rattle.zorigin.specs.declared.settings.Settings.{Settings}
use Rattle.zplan.specs.declared.range.Range.{Range}
use Rattle.zorigin.specs.declared.settings.Ask.{Ask}
use Rattle.zorigin.specs.declared.state.Searched.{Searched}
use Rattle.zorigin.specs.declared.answer.Sent.{Sent}
use Rattle.zorigin.specs.declared.refusal.CallRefused.{CallRefused}
use Rattle.zorigin.specs.declared.refusal.CallRefused.TheVariants as refused
use Rattle.zorigin.specs.References.{reference_id}
use Rattle.zorigin.specs.Standings.{Call, Init, Search, Present, Close, Standing, search_of}

-- versions 1 to 3: bits 0, 1 and 2 of ProtocolVersion (4.1)
abbrev pub versions : List Bool
versions = true ∷ true ∷ true ∷ []

-- search 0, present 1, concurrentOperations 13, namedResultSets 14: bits of Options (4.1)
abbrev pub options : List Bool
options =
    true ∷ true ∷ false ∷ false ∷ false ∷ false ∷ false ∷ false ∷ false ∷ false ∷ false ∷ false ∷ false
    ∷ true ∷ true ∷ []

-- the fields of an InitRequest (3.2.1.1): 1,048,576 octets are offered for records, and for one record
abbrev pub init_value : Settings → InitRequest
init_value settings = record {
  reference_id = Some (reference_id 0);
  protocol_version = versions;
  options = options;
  preferred_message_size = pos 1048576;
  exceptional_record_size = pos 1048576;
  id_authentication = None;
  implementation_id = None;
  implementation_name = Some settings.name;
  implementation_version = None;
  user_information_field = None;
  other_info = None;
}

-- the request of Init, with the implementationName of the settings
abbrev pub init_request : Settings → Apdu
init_request settings = apdus.InitRequest (init_value settings)

-- the name of a set: its number in decimal if named result sets are in force, else `default`
abbrev pub set_name : Bool → ℕ → List ℕ
set_name named set = if named then decimal set else codes "default"

-- one element set for all databases
abbrev pub element_set : Option (List ℕ) → Option ElementSetNames
element_set None = None
element_set (Some name) = Some (Generic name)

-- the element set of a Present, one for all databases; none if its search named none
abbrev pub composition : Option (List ℕ) → Option RecordComposition
composition None = None
composition (Some name) = Some (Simple (Generic name))

-- the fields of a SearchRequest (3.2.2.1): a set of the same name is replaced, and small and medium sets have the
-- same element set
abbrev pub search_value : Bool → ℕ → ℕ → Ask → SearchRequest
search_value named op set ask = record {
  reference_id = Some (reference_id op);
  small_set_upper_bound = ask.small;
  large_set_lower_bound = ask.large;
  medium_set_present_number = ask.medium;
  replace_indicator = true;
  result_set_name = set_name named set;
  database_names = ask.databases;
  small_set_element_set_names = element_set ask.elements;
  medium_set_element_set_names = element_set ask.elements;
  preferred_record_syntax = ask.syntax;
  query = Rpn ask.query;
  additional_search_info = None;
  other_info = None;
}

-- the request of a search: its reference id has the operation's number, and `named` decides how its set is named
abbrev pub search_request : Bool → ℕ → ℕ → Ask → Apdu
search_request named op set ask = apdus.SearchRequest (search_value named op set ask)

-- a range as additionalRanges of a PresentRequest has it
abbrev pub sent_range : Range → SentRange
sent_range r = record { starting_position = r.start; number_of_records = r.n }

-- the ranges after the first, if there are some
abbrev pub additional : List Range → Option (List SentRange)
additional [] = None
additional (r ∷ rs) = Some (map sent_range (r ∷ rs))

-- the syntax and the element set are those of the set's search
abbrev pub present_value : Bool → ℕ → Range → List Range → Searched → PresentRequest
present_value named op first others searched = record {
  reference_id = Some (reference_id op);
  result_set_id = set_name named searched.set;
  result_set_start_point = first.start;
  number_of_records_requested = first.n;
  additional_ranges = additional others;
  record_composition = composition searched.elements;
  preferred_record_syntax = searched.syntax;
  max_segment_count = None;
  max_record_size = None;
  max_segment_size = None;
  other_info = None;
}

-- the request of a Present, for the first range and the others, of the set that the search made
abbrev pub present_request : Bool → ℕ → Range → List Range → Searched → Apdu
present_request named op first others searched = apdus.PresentRequest (present_value named op first others searched)

-- reason 0, finished
abbrev pub close_value : CloseApdu
close_value = record {
  reference_id = None;
  close_reason = pos 0;
  diagnostic_information = None;
  resource_report_format = None;
  resource_report = None;
  other_info = None;
}

-- the request of Close, without a reference id
abbrev pub close_request : Apdu
close_request = apdus.Close close_value

-- the request of a call; none for a Present of a set that no search made, or of no range
abbrev pub request_of : Standing → Call → Option Apdu
request_of s Init = Some (init_request s.settings)
request_of s (Search op set ask) = Some (search_request s.force.named op set ask)
request_of s (Present op set []) = None
request_of s (Present op set (r ∷ rs)) = option_map (present_request s.force.named op r rs) (search_of s.searches set)
request_of s Close = Some close_request

-- ---- which requests can be sent

-- there is no element, or it is too deep or too long to be sent
abbrev pub too_large : Option Element → Bool
too_large None = true
too_large (Some n) = nat_lt 64 (height n) || nat_lt MESSAGE_LIMIT (length (canonical n))

-- the APDU has no element, more than 64 levels of constructed elements, or more than 2,097,152 octets
unfoldable pub is_unsendable : Apdu → Bool
is_unsendable apdu = too_large (apdu_spelling apdu)

-- the canonical encoding of an element, empty if there is none
abbrev pub element_octets : Option Element → List ℕ
element_octets None = []
element_octets (Some n) = canonical n

-- the canonical encoding of an APDU, empty if it has no element
unfoldable pub encoding_of : Apdu → List ℕ
encoding_of apdu = element_octets (apdu_spelling apdu)

-- the APDU with its canonical encoding
abbrev pub sent_of : Apdu → Sent
sent_of apdu = record { apdu = apdu; octets = encoding_of apdu }

-- the value, if it can be sent, or `Unsendable` exactly if the test says that it can't; of `Memory` nothing is said,
-- and there is no other refusal
abbrev pub IsSentUnless : {X : Type 0} → Bool → X → Result X CallRefused → Type 0
IsSentUnless unsendable value (Ok sent) = (unsendable ≡ false) × (sent ≡ value)
IsSentUnless unsendable value (Err refused.Unsendable) = unsendable ≡ true
IsSentUnless unsendable value (Err refused.Memory) = Unit {0}
IsSentUnless unsendable value (Err _) = ⊥

-- the canonical encoding of an element, or `Unsendable` exactly if it is too deep or too long to be sent; of `Memory`
-- nothing is said
abbrev pub IsEncodeResult : Element → Result (List ℕ) CallRefused → Type 0
IsEncodeResult n result = IsSentUnless (too_large (Some n)) (canonical n) result

-- the APDU with its octets, or `Unsendable` exactly if it has none that can be sent; of `Memory` nothing is said
abbrev pub IsEncodedApdu : Apdu → Result Sent CallRefused → Type 0
IsEncodedApdu apdu result = IsSentUnless (is_unsendable apdu) (sent_of apdu) result

-- ---- the receiver reads what was sent

-- whatever octets come after them, the octets begin with the element, within the limit of a message
abbrev pub IsFramed : Element → List ℕ → Type 0
IsFramed n octets = (more : List ℕ) → HasFirstMessage MESSAGE_LIMIT (octets ++ more) n more

-- whatever octets come after them, the octets begin with the element of the APDU, and the element has this APDU as its
-- value
pub record IsReadBack (sent : Sent) : Type 0 where
  pub element : Element
  pub made : apdu_spelling sent.apdu ≡ Some element
  pub stands : Writes sent.apdu element
  pub framed : IsFramed element sent.octets
