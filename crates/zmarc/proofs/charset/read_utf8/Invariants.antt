use Rattle.std.proofs.Common.{◌≡◌}
use Rattle.zmarc.proofs.charset.read_utf8.Given as goal

abbrev pub invariant-loop-c : goal.invariant-loop-c
invariant-loop-c l = l.read.items ≡ l.yielded
