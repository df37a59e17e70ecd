-- Which element stands for an APDU (Z39.50-2003, 4.1), and the first wrong place of an element that stands for none.
use Rattle.std.specs.Prelude.{◌≡◌, ℕ, ◌<◌, ◌≤◌, List, [], ◌∷◌, ◌++◌, length, take}
use Rattle.std.specs.Prelude.{Option, Some, None, Result, Ok, Err, if◌then◌else◌}
use Rattle.zber.specs.AsnTags.{AsnTag, context}
use Rattle.zber.specs.Elements.{Element, Primitive, Constructed, elements}
use Rattle.zber.specs.Tags.{same_tag}
use Rattle.zasn.specs.Standing.{sequence}
use Rattle.zasn.specs.Reading.{◌>>=◌}
use Rattle.zasn.specs.Within.{around}
use Rattle.zapdu.specs.declared.apdu.Apdu.{Apdu}
use Rattle.zapdu.specs.declared.apdu.Apdu.TheVariants as apdus
use Rattle.zapdu.specs.declared.apdu.Kind.{Kind}
use Rattle.zapdu.specs.declared.apdu.Kind.TheVariants as kinds
use Rattle.zapdu.specs.declared.apdu.ApduError.{ApduError}
use Rattle.zapdu.specs.declared.apdu.ApduError.TheVariants as errors
use Rattle.zapdu.specs.Productions.InitRequests.{init_request_parts}
use Rattle.zapdu.specs.Productions.InitResponses.{init_response_parts}
use Rattle.zapdu.specs.Productions.SearchRequests.{search_request_parts}
use Rattle.zapdu.specs.Productions.SearchResponses.{search_response_parts}
use Rattle.zapdu.specs.Productions.PresentRequests.{present_request_parts}
use Rattle.zapdu.specs.Productions.PresentResponses.{present_response_parts}
use Rattle.zapdu.specs.Productions.Closes.{close_parts}

-- which of the seven kinds the APDU is, without its fields
abbrev pub kind_of : Apdu → Kind
kind_of (apdus.InitRequest v) = kinds.InitRequest
kind_of (apdus.InitResponse v) = kinds.InitResponse
kind_of (apdus.SearchRequest v) = kinds.SearchRequest
kind_of (apdus.SearchResponse v) = kinds.SearchResponse
kind_of (apdus.PresentRequest v) = kinds.PresentRequest
kind_of (apdus.PresentResponse v) = kinds.PresentResponse
kind_of (apdus.Close v) = kinds.Close

-- the tag of the APDUs of a kind
abbrev pub tag_of_kind : Kind → AsnTag
tag_of_kind kinds.InitRequest = context 20
tag_of_kind kinds.InitResponse = context 21
tag_of_kind kinds.SearchRequest = context 22
tag_of_kind kinds.SearchResponse = context 23
tag_of_kind kinds.PresentRequest = context 24
tag_of_kind kinds.PresentResponse = context 25
tag_of_kind kinds.Close = context 48

-- these are the elements of the APDU
abbrev pub AreApduParts : Apdu → List Element → Type 0
AreApduParts (apdus.InitRequest v) = init_request_parts.writes v
AreApduParts (apdus.InitResponse v) = init_response_parts.writes v
AreApduParts (apdus.SearchRequest v) = search_request_parts.writes v
AreApduParts (apdus.SearchResponse v) = search_response_parts.writes v
AreApduParts (apdus.PresentRequest v) = present_request_parts.writes v
AreApduParts (apdus.PresentResponse v) = present_response_parts.writes v
AreApduParts (apdus.Close v) = close_parts.writes v

-- the element stands for the APDU: an IMPLICIT SEQUENCE with its kind's tag
abbrev pub Writes : Apdu → Element → Type 0
Writes v n = sequence (tag_of_kind (kind_of v)) (AreApduParts v) n

-- the kinds, in the order of their tags
abbrev pub kinds_in_order : List Kind
kinds_in_order =
    kinds.InitRequest ∷ kinds.InitResponse ∷ kinds.SearchRequest ∷ kinds.SearchResponse ∷ kinds.PresentRequest
    ∷ kinds.PresentResponse ∷ kinds.Close ∷ []

-- the first of these kinds that has this tag
abbrev pub kind_among : AsnTag → List Kind → Option Kind
kind_among t [] = None
kind_among t (k ∷ ks) = if same_tag t (tag_of_kind k) then Some k else kind_among t ks

-- the kind of APDU that has this tag
abbrev pub kind_at : AsnTag → Option Kind
kind_at t = kind_among t kinds_in_order

-- the elements of some APDU of the kind begin with these
abbrev pub IsApduFront : Kind → List Element → Type 0
IsApduFront kind ns = (v : Apdu) × (kind_of v ≡ kind) × (more : List Element) × AreApduParts v (ns ++ more)

-- `at` is the largest number of first elements of `ns` with which some APDU of the kind begins
pub record IsLargestFront (kind : Kind) (ns : List Element) (at : ℕ) : Type 0 where
  pub within : at ≤ length ns
  pub begins : IsApduFront kind (take at ns)
  pub largest : (k : ℕ) → at < k → k ≤ length ns → IsApduFront kind (take k ns) → ⊥

-- the element has the kind's tag, and `at` is the largest number of its first elements with which some APDU of the kind
-- begins
abbrev pub HasLargestFront : Kind → ℕ → Element → Type 0
HasLargestFront kind at (Primitive t xs) = ⊥
HasLargestFront kind at (Constructed t f) = (t ≡ tag_of_kind kind) × IsLargestFront kind (elements f) at

-- the element is primitive, or has the tag of no APDU
abbrev pub IsNoApdu : Element → Type 0
IsNoApdu (Primitive t xs) = Unit {0}
IsNoApdu (Constructed t f) = (kind : Kind) → t ≡ tag_of_kind kind → ⊥

-- the result of decoding an element
abbrev pub IsDecodeResult : Element → Result Apdu ApduError → Type 0
IsDecodeResult n (Ok v) = Writes v n
IsDecodeResult n (Err errors.NotApdu) = IsNoApdu n
IsDecodeResult n (Err (errors.Malformed kind at)) = ((v : Apdu) → Writes v n → ⊥) × HasLargestFront kind at n
IsDecodeResult n (Err errors.Memory) = Unit {0}

-- the APDU of this kind that has these elements, or the elements left at the first wrong place
abbrev pub apdu_at : Kind → List Element → Result Apdu (List Element)
apdu_at kinds.InitRequest ns = init_request_parts.at ns >>= λ v. Ok (apdus.InitRequest v)
apdu_at kinds.InitResponse ns = init_response_parts.at ns >>= λ v. Ok (apdus.InitResponse v)
apdu_at kinds.SearchRequest ns = search_request_parts.at ns >>= λ v. Ok (apdus.SearchRequest v)
apdu_at kinds.SearchResponse ns = search_response_parts.at ns >>= λ v. Ok (apdus.SearchResponse v)
apdu_at kinds.PresentRequest ns = present_request_parts.at ns >>= λ v. Ok (apdus.PresentRequest v)
apdu_at kinds.PresentResponse ns = present_response_parts.at ns >>= λ v. Ok (apdus.PresentResponse v)
apdu_at kinds.Close ns = close_parts.at ns >>= λ v. Ok (apdus.Close v)

-- the elements of an APDU
abbrev pub apdu_parts : Apdu → Option (List Element)
apdu_parts (apdus.InitRequest v) = init_request_parts.spelling v []
apdu_parts (apdus.InitResponse v) = init_response_parts.spelling v []
apdu_parts (apdus.SearchRequest v) = search_request_parts.spelling v []
apdu_parts (apdus.SearchResponse v) = search_response_parts.spelling v []
apdu_parts (apdus.PresentRequest v) = present_request_parts.spelling v []
apdu_parts (apdus.PresentResponse v) = present_response_parts.spelling v []
apdu_parts (apdus.Close v) = close_parts.spelling v []

-- the element that is built for an APDU
abbrev pub apdu_spelling : Apdu → Option Element
apdu_spelling v = around (tag_of_kind (kind_of v)) (apdu_parts v)

-- An element that stands for an APDU is not `NotApdu`. No element is both `NotApdu` and `Malformed`, and a malformed
-- one has one kind and one place.
pub record OneRefusal : Type 0 where
  pub written : (v : Apdu) (n : Element) → Writes v n → IsNoApdu n → ⊥
  pub known : (kind : Kind) (at : ℕ) (n : Element) → IsNoApdu n → HasLargestFront kind at n → ⊥
  pub one_place : (j k : Kind) (a b : ℕ) (n : Element) → HasLargestFront j a n → HasLargestFront k b n
      → (j ≡ k) × (a ≡ b)
