use Rattle.std.proofs.Common.{◌≡◌, ◌++◌, take, map}
use Rattle.zknow.specs.Known.{referenced_pairs}
use Rattle.zknow.proofs.found_diags.take_diags.Given as goal

abbrev pub invariant-loop-diag : goal.invariant-loop-diag
invariant-loop-diag l = referenced_pairs l.found.items ≡ referenced_pairs l.fn.found.items ++ map (λ d. (l.place, d)) (take l.diag-index l.diags)
