use Rattle.std.proofs.Common.{◌≡◌, ◌++◌}
use Rattle.zknow_titles.specs.Columns.{spaces}
use Rattle.zknow_titles.proofs.columns.put_spaces.Given as goal

abbrev pub invariant-loop : goal.invariant-loop
invariant-loop l = l.out.items ≡ l.fn.out.items ++ spaces l.counter
