use Rattle.std.proofs.Common.{◌≡◌, ◌∙◌, sym, rules}
use Rattle.std.proofs.lemmas.Result.{IfOk-weaker}
use Rattle.ztarget.specs.Evaluating.{has_sought, IsListOf}
use Rattle.ztarget.specs.Searching.{places_from}
use Rattle.ztarget.proofs.Evaluations.{list_more}
use Rattle.ztarget.proofs.evaluation.Evaluation.list.Goals as goal

pub returns-in-Some-clause-places : goal.returns-in-Some-clause-places
returns-in-Some-clause-places c = rw (← c.self.view_is) (IfOk-weaker c.again.result _ _
    (λ list same. same ∙ c.self.invariant.1 c.args.sought c.in-Some.list.now (sym c.in-Some.ensures.value)) c.again.ensures)

pub invariant_of-self-2 : goal.invariant_of-self-2
invariant_of-self-2 c =
    let entries = c.self.inside.entries.now in
    let found : c.in_ok-found.found.items ≡ places_from (has_sought c.args.sought) 0 entries = search rules in
    let is : IsListOf entries c.args.sought c.in_ok-copy.copy = c.in_ok-copy.ensures ∙ c.in_ok-list.ensures ∙ found in
    (c.self.invariant.0, list_more entries c.self.inside.lists c.insert.new.self c.args.sought c.in_ok-copy.copy c.in_ok-insert.ensures.updates is c.self.invariant.1)
