use Rattle.std.proofs.Common.{subst}
use Rattle.std.specs.List.{AllByRecursion}
use Rattle.zknow_runs.specs.OpenRuns.{IsKeyOf}
use Rattle.zknow_runs.proofs.OpenTheory.{least_taken}
use Rattle.zknow_runs.proofs.open_runs.OpenRuns.take.Goals as goal

pub returns-clause-least : goal.returns-clause-least
returns-clause-least c =
    let keyed = subst (AllByRecursion (IsKeyOf c.self.inside.count)) c.in_ok-run.ensures.removal c.self.invariant in
    least_taken c.self.inside.count c.in_ok-run.field-0-0 c.in_ok-run.run' c.pop_first.new.self.entries keyed.0 keyed.1
    c.in_ok-run.ensures.all_above
