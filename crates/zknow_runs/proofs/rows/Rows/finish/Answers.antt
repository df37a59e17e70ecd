use Rattle.std.proofs.Common.{◌≡◌}
use Rattle.std.specs.Prelude.{true, Contains}
use Rattle.zknow_runs.proofs.StepTheory.{ended}
use Rattle.zknow_runs.proofs.rows.Rows.finish.Goals as goal

pub returns : goal.returns
returns c = λ s t text h none.
    ended s.files (Contains s.known)
    (s.unknown ≡ true) t text h.0 c.args.self h.1 c.append.new.self c.in_ok-append.ensures
    none
