use Rattle.std.proofs.Common.{◌≡◌, ◌++◌}
use Rattle.zknow.specs.Known.{referenced_pairs}
use Rattle.zknow.specs.Tables.Sections.{number_pairs}
use Rattle.zknow.proofs.found_diags.take_all_diags.Given as goal

abbrev pub invariant-loop-place : goal.invariant-loop-place
invariant-loop-place l = referenced_pairs l.found.items ++ number_pairs l.place-iterator
    ≡ referenced_pairs l.fn.found.items ++ number_pairs l.diags
