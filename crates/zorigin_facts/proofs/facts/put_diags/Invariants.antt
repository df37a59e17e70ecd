use Rattle.std.proofs.Common.{◌≡◌, ◌++◌, take}
use Rattle.zorigin_facts.specs.Facts.{diagnostic_facts}
use Rattle.zorigin_facts.proofs.facts.put_diags.Given as goal

abbrev pub invariant-loop-diag : goal.invariant-loop-diag
invariant-loop-diag l = l.out.items ≡ l.fn.out.items ++ diagnostic_facts l.target l.set l.place (take l.diag-index l.diags)
