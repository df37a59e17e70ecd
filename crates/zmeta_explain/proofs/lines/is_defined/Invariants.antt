use Rattle.std.proofs.Common.{◌≡◌, ℕ}
use Rattle.zmeta_explain.specs.Lines.{defined_in}
use Rattle.zmeta_explain.proofs.lines.is_defined.Given as goal

abbrev pub invariant-loop-rest : goal.invariant-loop-rest
invariant-loop-rest l = defined_in l.left l.rest l.name ≡ defined_in l.count l.world l.name

abbrev pub decreases-loop-rest : goal.decreases-loop-rest
decreases-loop-rest l = l.left
