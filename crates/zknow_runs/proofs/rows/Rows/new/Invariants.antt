use Rattle.std.specs.Prelude.{take}
use Rattle.zknow_runs.specs.RowSteps.{AreSameRuns}
use Rattle.zknow_runs.proofs.rows.Rows.new.Given as goal

abbrev pub invariant-loop-number : goal.invariant-loop-number
invariant-loop-number l = AreSameRuns (take l.number l.runs) l.waiting
