-- The names of the kinds of APDU, and of the errors of decoding.
use Rattle.std.specs.Prelude.{ℕ, List, codes}
use Rattle.zapdu.specs.declared.apdu.Kind.{Kind}
use Rattle.zapdu.specs.declared.apdu.Kind.TheVariants as kinds
use Rattle.zapdu.specs.declared.apdu.ApduError.{ApduError}
use Rattle.zapdu.specs.declared.apdu.ApduError.TheVariants as errors

-- the kind's name in the standard's PDU choice
abbrev pub apdu_kind_name : Kind → List ℕ
apdu_kind_name kinds.InitRequest = codes "initRequest"
apdu_kind_name kinds.InitResponse = codes "initResponse"
apdu_kind_name kinds.SearchRequest = codes "searchRequest"
apdu_kind_name kinds.SearchResponse = codes "searchResponse"
apdu_kind_name kinds.PresentRequest = codes "presentRequest"
apdu_kind_name kinds.PresentResponse = codes "presentResponse"
apdu_kind_name kinds.Close = codes "close"

-- the variant's name
abbrev pub apdu_error_name : ApduError → List ℕ
apdu_error_name errors.NotApdu = codes "NotApdu"
apdu_error_name (errors.Malformed kind at) = codes "Malformed"
apdu_error_name errors.Memory = codes "Memory"
