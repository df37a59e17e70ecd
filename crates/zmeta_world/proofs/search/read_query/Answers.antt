use Rattle.std.proofs.Common.{sym, subst, Some, Err, List, ℕ}
use Rattle.std.specs.Borrow.{Bor}
use Rattle.std.specs.Option.{option_map}
use Rattle.zmeta_world.specs.Search.{ReadQueryResult}
use Rattle.zmeta_world.proofs.Searching.{query_fault}
use Rattle.zmeta_world.proofs.search.read_query.Goals as goal

pub returns-in-Err : goal.returns-in-Err
returns-in-Err c =
    let text = c.in-Some.text.now in
    let fault = query_fault text c.in-Err.error.kind c.in-Err.error.at c.in-Err.ensures.err in
    subst (λ o. ReadQueryResult (option_map (λ (t : Bor (List ℕ)). t.now) o) (Err c.error_of.result)) (sym c.in-Some.is)
    (subst (λ f. ReadQueryResult (Some text) (Err f)) (sym c.error_of.ensures) fault)
