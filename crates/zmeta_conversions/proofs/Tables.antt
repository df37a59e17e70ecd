-- Why a question has no table, by what was tested; and tables, one after the other.
use Rattle.std.proofs.Common.{◌≡◌, ◌∙◌, refl, sym, ap, subst, ℕ, ◌<◌, List, ◌++◌, length, take, get_or, Bool, true, false, if◌then◌else◌, Option, Some, None, Result, Ok, Err}
use Rattle.std.specs.List.{flat_map}
use Rattle.std.specs.Option.{option_map, option_or}
use Rattle.zquery.specs.Notation.Printing.{query_text}
use Rattle.zmeta_world.specs.declared.world.NamedHost.{NamedHost}
use Rattle.zmeta_world.specs.declared.world.AskedQuestion.{AskedQuestion}
use Rattle.zmeta_world.specs.NetworkRuns.{address_for}
use Rattle.zmeta_catalogues.specs.declared.fault.Key.TheVariants as keys
use Rattle.zmeta_conversions.specs.declared.catalogues.NoTable.{NoTable}
use Rattle.zmeta_conversions.specs.declared.catalogues.NoTable.TheVariants as reasons
use Rattle.zmeta_conversions.specs.declared.catalogues.CatalogueFileError.{CatalogueFileError}
use Rattle.zmeta_conversions.specs.declared.catalogues.CatalogueFileError.TheVariants as errors
use Rattle.zmeta_conversions.specs.Worlds.{wanted_text, first_unsaid}
use Rattle.zmeta_conversions.specs.Catalogues.{text_line, syntax_line, database_line, head_line, address_line, table_text, is_query, place_reason, query_reason, reason_at, Untabled, untabled, IsUntabled, TableResult}
use Rattle.zmeta_conversions.proofs.Lines.{ArePut, first_is}

-- ---- one question

reason : (q : AskedQuestion) (hosts : List NamedHost) (o : Option (List ℕ)) (r : Option NoTable)
    → address_for hosts q ≡ o → reason_at q o ≡ r
    → untabled hosts q ≡ option_map (λ (x : NoTable). (q.line, q.name, x)) r
reason q hosts o r is e =
    ap (λ (z : Option (List ℕ)). option_map (λ (x : NoTable). (q.line, q.name, x)) (reason_at q z)) is
    ∙ ap (option_map (λ (x : NoTable). (q.line, q.name, x))) e

refused : (q : AskedQuestion) (hosts : List NamedHost) (text old new : List ℕ) (e : CatalogueFileError) (r : NoTable)
    → untabled hosts q ≡ Some (q.line, q.name, r)
    → IsUntabled (Some (q.line, q.name, r)) e → TableResult (untabled hosts q) text old new (Err e)
refused q hosts text old new e r is u = subst (λ (z : Option Untabled). IsUntabled z e) (sym is) u

pub no_address : (q : AskedQuestion) (hosts : List NamedHost) (text old new : List ℕ) (e : CatalogueFileError)
    → address_for hosts q ≡ None
    → IsUntabled (Some (q.line, q.name, reasons.Target)) e → TableResult (untabled hosts q) text old new (Err e)
no_address q hosts text old new e is u =
    refused q hosts text old new e reasons.Target (reason q hosts None (Some reasons.Target) is refl) u

pub no_place : (q : AskedQuestion) (hosts : List NamedHost) (address text old new : List ℕ) (e : CatalogueFileError)
    (r : NoTable) → address_for hosts q ≡ Some address → place_reason q address ≡ Some r
    → IsUntabled (Some (q.line, q.name, r)) e → TableResult (untabled hosts q) text old new (Err e)
no_place q hosts address text old new e r is p u =
    refused q hosts text old new e r
    (reason q hosts (Some address) (Some r) is
    (ap (λ (z : Option NoTable). option_or z (query_reason q.question.query)) p)) u

asked_if : Bool → Option NoTable
asked_if b = if b then None else Some reasons.Query

no_query : (q : AskedQuestion) (b : Bool) → is_query q.question.query ≡ b → query_reason q.question.query ≡ asked_if b
unfolding asked_if
no_query q b e = ap asked_if e

pub no_text : (q : AskedQuestion) (hosts : List NamedHost) (address text old new : List ℕ) (e : CatalogueFileError)
    → address_for hosts q ≡ Some address → place_reason q address ≡ None
    → is_query q.question.query ≡ false → IsUntabled (Some (q.line, q.name, reasons.Query)) e
    → TableResult (untabled hosts q) text old new (Err e)
unfolding asked_if
no_text q hosts address text old new e is p query u =
    refused q hosts text old new e reasons.Query
    (reason q hosts (Some address) (Some reasons.Query) is
    (ap (λ (z : Option NoTable). option_or z (query_reason q.question.query)) p ∙ no_query q false query)) u

-- the table with this address, and this text of the query
table_with : AskedQuestion → Option (List ℕ) → List ℕ → List ℕ
table_with q address query =
    head_line q.name ++ address_line address ++ flat_map database_line q.question.databases
    ++ syntax_line q.question.syntax ++ text_line keys.Records (wanted_text q.question.wanted)
    ++ text_line keys.Query query

-- the table was appended
pub table_put : (q : AskedQuestion) (hosts : List NamedHost) (address query old new : List ℕ)
    → address_for hosts q ≡ Some address → place_reason q address ≡ None → is_query q.question.query ≡ true
    → query ≡ query_text q.question.query
    → new ≡ old ++ (head_line q.name ++ address_line (Some address) ++ flat_map database_line q.question.databases
    ++ syntax_line q.question.syntax ++ text_line keys.Records (wanted_text q.question.wanted)
    ++ text_line keys.Query query)
    → TableResult (untabled hosts q) (table_text hosts q) old new (Ok tt)
unfolding asked_if table_with
table_put q hosts address query old new is p said text put = (
  reason q hosts (Some address) None is
      (ap (λ (z : Option NoTable). option_or z (query_reason q.question.query)) p ∙ no_query q true said),
  put ∙ ap (λ (z : List ℕ). old ++ table_with q (Some address) z) text
      ∙ ap (λ (z : Option (List ℕ)). old ++ table_with q z (query_text q.question.query)) (sym is),
)

-- ---- tables, one after the other

pub first_untabled_is : (hosts : List NamedHost) (line : AskedQuestion → List ℕ) (qs : List AskedQuestion) (i : ℕ)
    (q : AskedQuestion) (old was : List ℕ) (e : CatalogueFileError) → i < length qs → q ≡ get_or qs i q
    → ArePut (untabled hosts) line (take i qs) old was → IsUntabled (untabled hosts q) e
    → IsUntabled (first_unsaid (untabled hosts) qs) e
first_untabled_is hosts line qs i q old was (errors.NoTable at name why) lt is h p =
    first_is (untabled hosts) line qs i q old was (at, name, why) lt is h p
first_untabled_is hosts line qs i q old was errors.Memory lt is h p = tt

pub table_refused : (due : Option Untabled) (text old new : List ℕ) (e f : CatalogueFileError)
    (r : Result Unit CatalogueFileError) → r ≡ Err f → f ≡ e → IsUntabled due e → TableResult due text old new r
table_refused due text old new e f r is of h = rw (is, of) h

-- the text of a table, or why there is none
pub ruleset table_results = (no_address, no_place, no_text, table_put)
