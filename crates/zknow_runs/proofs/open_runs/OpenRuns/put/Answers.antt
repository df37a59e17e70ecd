use Rattle.std.proofs.Common.{List, rules, sym, subst}
use Rattle.std.specs.List.{AllByRecursion}
use Rattle.zknow_runs.specs.declared.open_runs.OpenRun.{OpenRun}
use Rattle.zknow_runs.specs.declared.open_runs.RunKey.{RunKey}
use Rattle.zknow_runs.specs.declared.run.Run.{Run}
use Rattle.zknow_runs.specs.OpenRuns.{in_order, IsKeyOf, IsPutAmong}
use Rattle.zknow_runs.proofs.OpenTheory.{runs_of, put_among, put_keyed}
use Rattle.zknow_runs.proofs.open_runs.OpenRuns.put.Goals as goal

pub invariant_of-self-2 : goal.invariant_of-self-2
invariant_of-self-2 c =
    subst (AllByRecursion (IsKeyOf c.in-Some.count)) (sym c.in_ok-insert.ensures.entries)
    (put_keyed _ c.args.run c.in-Some.count c.self.inside.runs.entries (search rules) (search rules) c.self.invariant)

pub returns-clause-ok : goal.returns-clause-ok
returns-clause-ok c =
    subst (λ (l : List Run). IsPutAmong l (in_order c.insert.new.self) c.args.run.run) c.self.view_is
    (subst (λ (es : List (RunKey × OpenRun)). IsPutAmong (runs_of c.self.inside.runs.entries)
    (runs_of es) c.args.run.run)
    (sym c.in_ok-insert.ensures.entries) (put_among _ c.args.run c.self.inside.runs.entries c.self.invariant))
