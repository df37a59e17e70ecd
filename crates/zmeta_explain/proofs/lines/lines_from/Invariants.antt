use Rattle.std.proofs.Common.{◌≡◌, ℕ}
use Rattle.zmeta_explain.specs.Lines.{lines_from}
use Rattle.zmeta_explain.proofs.lines.lines_from.Given as goal

abbrev pub invariant-loop-rest : goal.invariant-loop-rest
invariant-loop-rest l = lines_from l.left l.rest ≡ lines_from l.count l.world

abbrev pub decreases-loop-rest : goal.decreases-loop-rest
decreases-loop-rest l = l.left
