use Rattle.std.proofs.Common.{refl}
use Rattle.zknow_runs.proofs.rows.Rows.wanted.Goals as goal

pub returns-in-Some-clause-some : goal.returns-in-Some-clause-some
returns-in-Some-clause-some c =
    (c.in-Some.next, c.in-Some.is, record { file = refl; begin = refl; end = refl })
