use Rattle.std.proofs.Common.{◌≡◌, ◌++◌, not, false, length, drop}
use Rattle.std.specs.Prelude.{◌==◌}
use Rattle.zknow_titles.specs.Sutrs.{squeezed}
use Rattle.zknow_titles.proofs.sutrs.squeeze.Given as goal

abbrev pub invariant-loop-c : goal.invariant-loop-c
invariant-loop-c l = l.found.items ++ squeezed (not (length l.found.items == 0)) l.gap (drop l.c-index l.read) ≡
    squeezed false false l.read
