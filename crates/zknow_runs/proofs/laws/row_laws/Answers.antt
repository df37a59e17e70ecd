use Rattle.std.specs.Prelude.{◌≡◌, true, Contains}
use Rattle.zknow_runs.proofs.GivenTheory.{rows_front}
use Rattle.zknow_runs.proofs.laws.row_laws.Goals as goal

pub returns : goal.returns
returns c = λ s t text rows holds taken.
    rows_front s.files (Contains s.known) (s.unknown ≡ true) t text rows holds taken
