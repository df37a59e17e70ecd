-- The facts of an answer, about the target's result sets (Z39.50-2003, 3.2.1.1, 3.2.2.1 and 3.2.3.1).
use Rattle.std.specs.Prelude.{ℕ, ℤ, pos, ◌+ℤ◌, Bool, if◌then◌else◌, List, [], ◌∷◌, ◌++◌, map, zip}
use Rattle.std.specs.List.{enumerate_from}
use Rattle.zapdu.specs.declared.apdu.Apdu.{Apdu}
use Rattle.zapdu.specs.declared.apdu.Apdu.TheVariants as apdus
use Rattle.zapdu.specs.declared.productions.record.Record.{Record}
use Rattle.zapdu.specs.declared.productions.init_response.InitResponse.{InitResponse}
use Rattle.zapdu.specs.declared.productions.search_response.SearchResponse.{SearchResponse}
use Rattle.zapdu.specs.declared.productions.present_response.PresentResponse.{PresentResponse}
use Rattle.zapdu.specs.declared.productions.diagnostic.DiagRec.{DiagRec}
use Rattle.zknow.specs.declared.fact.Fact.{Fact}
use Rattle.zknow.specs.declared.fact.Fact.TheVariants.{Count, Failed, Seen, Diag}
use Rattle.zorigin.specs.declared.answer.What.{What}
use Rattle.zorigin.specs.declared.answer.What.TheVariants as what
use Rattle.zorigin.specs.declared.answer.Answer.{Answer}
use Rattle.zplan.specs.Positions.{first_of}
use Rattle.zplan.specs.Ranges.{positions}
use Rattle.zorigin.specs.Fitting.{records_in, diagnostics_in}

-- the facts of records at consecutive positions, the first of them at this position
abbrev pub seen_from : ℕ → ℕ → ℤ → List Record → List Fact
seen_from target set first records =
    map (λ (e : ℕ × Record). Seen target set (first +ℤ pos e.0) e.1) (enumerate_from 0 records)

-- the facts of records, record j at the j-th of the positions
abbrev pub seen_at : ℕ → ℕ → List ℕ → List Record → List Fact
seen_at target set asked records = map (λ (e : ℕ × Record). Seen target set (pos e.0) e.1) (zip asked records)

-- the facts of diagnostics; the place is 0 for a search, and the first position asked for a Present
abbrev pub diagnostic_facts : ℕ → ℕ → ℤ → List DiagRec → List Fact
diagnostic_facts target set place diags = map (λ diag. Diag target set place diag) diags

-- the fact of a search: its count, or that it failed
abbrev pub count_or_failed : ℕ → ℕ → Bool → ℤ → Fact
count_or_failed target set status count = if status then Count target set count else Failed target set

-- a rejected association is a failure of set 0
abbrev pub init_facts : ℕ → InitResponse → List Fact
init_facts target v = if v.result then [] else Failed target 0 ∷ []

-- the facts of the response to a search of this set
abbrev pub search_facts : ℕ → ℕ → SearchResponse → List Fact
search_facts target set v =
    (count_or_failed target set v.search_status v.result_count ∷ [])
    ++ seen_from target set (pos 1) (records_in v.records)
    ++ diagnostic_facts target set (pos 0) (diagnostics_in v.records)

-- the facts of the response to a Present of these positions
abbrev pub present_facts : ℕ → ℕ → List ℕ → PresentResponse → List Fact
present_facts target set asked v =
    seen_at target set asked (records_in v.records)
    ++ diagnostic_facts target set (pos (first_of asked)) (diagnostics_in v.records)

-- the facts of the target's reply to an operation on this set; none if the reply is of another kind
abbrev pub facts_by : ℕ → ℕ → What → Apdu → List Fact
facts_by target set what.Init (apdus.InitResponse v) = init_facts target v
facts_by target set what.Search (apdus.SearchResponse v) = search_facts target set v
facts_by target set (what.Present ranges) (apdus.PresentResponse v) = present_facts target set (positions ranges) v
facts_by _ _ _ _ = []

-- the facts of an answer of the target with this number
abbrev pub facts_of : ℕ → Answer → List Fact
facts_of target answer = facts_by target answer.asked.set answer.asked.what answer.reply

-- the records of a response to a search or a Present
abbrev pub records_of : Apdu → List Record
records_of (apdus.SearchResponse v) = records_in v.records
records_of (apdus.PresentResponse v) = records_in v.records
records_of _ = []
