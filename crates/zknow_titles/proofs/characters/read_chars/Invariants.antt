use Rattle.std.proofs.Common.{◌≡◌}
use Rattle.zknow_titles.proofs.characters.read_chars.Given as goal

abbrev pub invariant-loop-c : goal.invariant-loop-c
invariant-loop-c l = l.read.items ≡ l.yielded
