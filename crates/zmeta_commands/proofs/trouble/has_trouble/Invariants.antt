use Rattle.std.proofs.Common.{ℕ, ◌<◌, false}
use Rattle.zmeta_commands.specs.Finished.{IsTroubledAt}
use Rattle.zmeta_commands.proofs.trouble.has_trouble.Given as goal

abbrev pub invariant-loop-c : goal.invariant-loop-c
invariant-loop-c l = (k : ℕ) → k < l.c → IsTroubledAt l.addresses k l.meta false
