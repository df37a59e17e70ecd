-- Which replies fit an operation, and the fault of a reply that does not (Z39.50-2003, 3.2.2.1 and 3.2.3.1).
use Rattle.std.specs.Prelude.{◌≡◌, ◌≢◌, ◌⊎◌, ℕ, ℤ, pos, negsuc, ◌≤◌, ◌≤ℤ◌, int_lt, nat_lt, ◌==◌, Bool, true, false, not, ◌||◌, ◌&&◌, if◌then◌else◌, List, [], ◌∷◌, length, Option, Some, None}
use Rattle.std.specs.List.{list_any}
use Rattle.zapdu.specs.declared.apdu.Apdu.{Apdu}
use Rattle.zapdu.specs.declared.apdu.Apdu.TheVariants as apdus
use Rattle.zapdu.specs.declared.productions.record.Record.{Record}
use Rattle.zapdu.specs.declared.productions.record.RecordBody.{RecordBody}
use Rattle.zapdu.specs.declared.productions.record.RecordBody.TheVariants as bodies
use Rattle.zapdu.specs.declared.productions.record.Records.{Records}
use Rattle.zapdu.specs.declared.productions.record.Records.TheVariants as kinds
use Rattle.zapdu.specs.declared.productions.diagnostic.DiagRec.{DiagRec}
use Rattle.zapdu.specs.declared.productions.diagnostic.DiagRec.TheVariants.{Default}
use Rattle.zapdu.specs.declared.productions.search_response.SearchResponse.{SearchResponse}
use Rattle.zapdu.specs.declared.productions.present_response.PresentResponse.{PresentResponse}
use Rattle.zorigin.specs.declared.answer.What.{What}
use Rattle.zorigin.specs.declared.answer.What.TheVariants as what
use Rattle.zorigin.specs.declared.refusal.Refused.{Refused}
use Rattle.zorigin.specs.declared.refusal.Refused.TheVariants as refused
use Rattle.zplan.specs.Ranges.{positions}

-- the records of a response, in order
abbrev pub records_in : Option Records → List Record
records_in (Some (kinds.List records)) = records
records_in _ = []

-- the nonsurrogate diagnostics of a response
abbrev pub diagnostics_in : Option Records → List DiagRec
diagnostics_in (Some (kinds.OneDiag diag)) = Default diag ∷ []
diagnostics_in (Some (kinds.ManyDiags diags)) = diags
diagnostics_in _ = []

-- the list has nothing in it, as a test for the rows of a table
abbrev pub is_empty : {X : Type 0} → List X → Bool
is_empty [] = true
is_empty (x ∷ xs) = false

-- the record is a fragment, one of those that segmentation makes of a record
abbrev pub is_fragment : RecordBody → Bool
is_fragment (bodies.Fragment node) = true
is_fragment _ = false

-- a fragment is among the records; only segmentation would give it a meaning
abbrev pub has_fragment : Option Records → Bool
has_fragment records = list_any (λ (r : Record). is_fragment r.body) (records_in records)

-- ---- what fits

-- diagnostics came, or this is the number of the records
abbrev pub IsRecordCount : Option Records → ℤ → Type 0
IsRecordCount records n = (diagnostics_in records ≢ []) ⊎ (n ≡ pos (length (records_in records)))

-- the response fits a search
pub record IsFitSearchReply (v : SearchResponse) : Type 0 where
  pub counted : IsRecordCount v.records v.number_of_records_returned
  pub positive : pos 0 ≤ℤ v.result_count
  pub within : pos (length (records_in v.records)) ≤ℤ v.result_count
  pub entire : has_fragment v.records ≡ false

-- the response fits a Present of these positions
pub record IsFitPresentReply (asked : List ℕ) (v : PresentResponse) : Type 0 where
  pub counted : IsRecordCount v.records v.number_of_records_returned
  pub within : length (records_in v.records) ≤ length asked
  pub entire : has_fragment v.records ≡ false
  pub some : (records_in v.records ≢ []) ⊎ (diagnostics_in v.records ≢ [])

-- the reply fits such an operation, its reference id aside
abbrev pub IsFitReply : What → Apdu → Type 0
IsFitReply what.Init (apdus.InitResponse v) = Unit {0}
IsFitReply what.Search (apdus.SearchResponse v) = IsFitSearchReply v
IsFitReply (what.Present ranges) (apdus.PresentResponse v) = IsFitPresentReply (positions ranges) v
IsFitReply _ _ = ⊥

-- ---- what does not, row by row

-- the first row that is true
abbrev pub first_row : {R : Type 0} → List (Bool × R) → Option R
first_row [] = None
first_row (row ∷ rows) = if row.0 then Some row.1 else first_row rows

-- the number is this one
abbrev pub is_number : ℤ → ℕ → Bool
is_number (pos n) k = n == k
is_number (negsuc n) k = false

-- the first number is above the second
abbrev pub is_more_than : ℕ → ℤ → Bool
is_more_than k (pos n) = nat_lt n k
is_more_than k (negsuc n) = true

-- no diagnostics came, and numberOfRecordsReturned is not the number of the records
abbrev pub count_mismatch : Option Records → ℤ → Bool
count_mismatch records n = is_empty (diagnostics_in records) && not (is_number n (length (records_in records)))

-- resultCount is negative
abbrev pub has_negative_count : SearchResponse → Bool
has_negative_count v = int_lt v.result_count (pos 0)

-- there are more records than resultCount, or a fragment is among them
abbrev pub bad_search : SearchResponse → Bool
bad_search v = is_more_than (length (records_in v.records)) v.result_count || has_fragment v.records

-- there are more records than positions asked for, or a fragment, or neither a record nor a diagnostic
abbrev pub bad_present : List ℕ → PresentResponse → Bool
bad_present asked v =
    nat_lt (length asked) (length (records_in v.records)) || has_fragment v.records
    || (is_empty (records_in v.records) && is_empty (diagnostics_in v.records))

-- why the response does not fit a search: the first row that is true; none if it fits
abbrev pub search_fault : SearchResponse → Option Refused
search_fault v = first_row (
    (count_mismatch v.records v.number_of_records_returned, refused.CountMismatch)
    ∷ (has_negative_count v, refused.BadNumber)
    ∷ (bad_search v, refused.BadShape)
    ∷ [])

-- why the response does not fit a Present of these positions: the first row that is true; none if it fits
abbrev pub present_fault : List ℕ → PresentResponse → Option Refused
present_fault asked v = first_row (
    (count_mismatch v.records v.number_of_records_returned, refused.CountMismatch)
    ∷ (bad_present asked v, refused.BadShape)
    ∷ [])

-- why the reply does not fit such an operation
abbrev pub fault_of : What → Apdu → Option Refused
fault_of what.Init (apdus.InitResponse v) = None
fault_of what.Search (apdus.SearchResponse v) = search_fault v
fault_of (what.Present ranges) (apdus.PresentResponse v) = present_fault (positions ranges) v
fault_of _ _ = Some refused.WrongKind
