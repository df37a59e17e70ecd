-- The facts of a reply can be added to what is known.
use Rattle.std.proofs.Common.{◌≡◌, ℕ, ℤ, pos, ◌+◌, ◌+ℤ◌, ◌≤ℤ◌, Bool, true, false, List, [], ◌∷◌, ◌++◌, map, if◌then◌else◌, arith}
use Rattle.std.proofs.lemmas.Int.{ints}
use Rattle.std.specs.List.{AllByRecursion, enumerate_from}
use Rattle.zapdu.specs.declared.apdu.Apdu.{Apdu}
use Rattle.zapdu.specs.declared.apdu.Apdu.TheVariants as apdus
use Rattle.zapdu.specs.declared.productions.record.Record.{Record}
use Rattle.zapdu.specs.declared.productions.diagnostic.DiagRec.{DiagRec}
use Rattle.zapdu.specs.Productions.Records.{whole_record}
use Rattle.zknow.specs.declared.fact.Fact.{Fact}
use Rattle.zknow.specs.declared.fact.Fact.TheVariants.{Seen, Failed}
use Rattle.zasn.specs.Place.{IsSpellable}
use Rattle.zknow.specs.Facts.{IsFact}
use Rattle.zorigin.specs.declared.answer.What.{What}
use Rattle.zorigin.specs.declared.answer.What.TheVariants as what
use Rattle.zorigin.specs.declared.answer.Answer.{Answer}
use Rattle.zorigin.specs.Fitting.{IsFitReply, records_in, diagnostics_in}
use Rattle.zplan.specs.Positions.{first_of}
use Rattle.zplan.specs.Ranges.{positions}
use Rattle.zorigin.specs.Answers.{has_valid_ranges, IsFitAnswer}
use Rattle.zorigin_facts.specs.Facts.{seen_from, seen_at, diagnostic_facts, count_or_failed, facts_by, facts_of, records_of}
use Rattle.zorigin.proofs.Ranges.{IsLow, follows, low_positions}

abbrev AreFacts : List Fact → Type 0
AreFacts facts = AllByRecursion IsFact facts

both : (xs ys : List Fact) → AreFacts xs → AreFacts ys → AreFacts (xs ++ ys)
both [] ys h k = k
both (x ∷ xs) ys h k = (h.0, both xs ys h.1 k)

seen : (target set : ℕ) (first : ℤ) (i : ℕ) (records : List Record) → pos 1 ≤ℤ first → AllByRecursion (λ r. IsSpellable whole_record r) records
    → AreFacts (map (λ (e : ℕ × Record). Seen target set (first +ℤ pos e.0) e.1) (enumerate_from i records))
seen target set first i [] low h = tt
seen target set first i (r ∷ rs) low h =
    let at : pos 1 ≤ℤ (first +ℤ pos i) = omega (arith, ints) in
    ((at, h.0), seen target set first (i + 1) rs low h.1)

diagnostics_known : (target set : ℕ) (place : ℤ) (diags : List DiagRec) → pos 0 ≤ℤ place → AreFacts (diagnostic_facts target set place diags)
diagnostics_known target set place [] low = tt
diagnostics_known target set place (d ∷ ds) low = (low, diagnostics_known target set place ds low)

counted : (target set : ℕ) (status : Bool) (count : ℤ) → pos 0 ≤ℤ count → IsFact (count_or_failed target set status count)
counted target set true count low = low
counted target set false count low = tt

there : (target set : ℕ) (asked : List ℕ) (records : List Record) → AllByRecursion IsLow asked → AllByRecursion (λ r. IsSpellable whole_record r) records
    → AreFacts (seen_at target set asked records)
there target set [] records low h = tt
there target set (p ∷ ps) [] low h = tt
there target set (p ∷ ps) (r ∷ rs) low h =
    let at : pos 1 ≤ℤ pos p = omega (arith, ints, low.0) in
    ((at, h.0), there target set ps rs low.1 h.1)

facts : (target set : ℕ) (w : What) (reply : Apdu) → IsFitReply w reply → has_valid_ranges w ≡ true → AllByRecursion (λ r. IsSpellable whole_record r) (records_of reply) → AreFacts (facts_by target set w reply)
facts target set what.Init (apdus.InitResponse v) f p h = elim v.result as (λ b. AreFacts (if b then [] else Failed target 0 ∷ [])) [ true ↦ tt | false ↦ (tt, tt) ]
facts target set what.Search (apdus.SearchResponse v) f p h =
    let count : AreFacts (count_or_failed target set v.search_status v.result_count ∷ []) = (counted target set v.search_status v.result_count f.positive, tt) in
    let first = count_or_failed target set v.search_status v.result_count ∷ [] in
    let rows = seen_from target set (pos 1) (records_in v.records) in
    both (first ++ rows) (diagnostic_facts target set (pos 0) (diagnostics_in v.records)) (both first rows count (seen target set (pos 1) 0 (records_in v.records) (omega (arith, ints)) h))
    (diagnostics_known target set (pos 0) (diagnostics_in v.records) (omega (arith, ints)))
facts target set (what.Present ranges) (apdus.PresentResponse v) f p h =
    let asked = positions ranges in
    let place = pos (first_of asked) in
    both (seen_at target set asked (records_in v.records)) (diagnostic_facts target set place (diagnostics_in v.records))
    (there target set asked (records_in v.records) (low_positions (pos 0) ranges (follows ranges p)) h) (diagnostics_known target set place (diagnostics_in v.records) (omega (arith, ints)))
facts target set what.Init (apdus.InitRequest v) f p h = absurd f
facts target set what.Init (apdus.SearchRequest v) f p h = absurd f
facts target set what.Init (apdus.SearchResponse v) f p h = absurd f
facts target set what.Init (apdus.PresentRequest v) f p h = absurd f
facts target set what.Init (apdus.PresentResponse v) f p h = absurd f
facts target set what.Init (apdus.Close v) f p h = absurd f
facts target set what.Search (apdus.InitRequest v) f p h = absurd f
facts target set what.Search (apdus.InitResponse v) f p h = absurd f
facts target set what.Search (apdus.SearchRequest v) f p h = absurd f
facts target set what.Search (apdus.PresentRequest v) f p h = absurd f
facts target set what.Search (apdus.PresentResponse v) f p h = absurd f
facts target set what.Search (apdus.Close v) f p h = absurd f
facts target set (what.Present ranges) (apdus.InitRequest v) f p h = absurd f
facts target set (what.Present ranges) (apdus.InitResponse v) f p h = absurd f
facts target set (what.Present ranges) (apdus.SearchRequest v) f p h = absurd f
facts target set (what.Present ranges) (apdus.SearchResponse v) f p h = absurd f
facts target set (what.Present ranges) (apdus.PresentRequest v) f p h = absurd f
facts target set (what.Present ranges) (apdus.Close v) f p h = absurd f

pub known_facts : (target : ℕ) (answer : Answer) → IsFitAnswer answer → AllByRecursion (λ r. IsSpellable whole_record r) (records_of answer.reply) → AllByRecursion IsFact (facts_of target answer)
known_facts target answer s h = facts target answer.asked.set answer.asked.what answer.reply s.fits s.positions h
