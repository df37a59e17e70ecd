-- only white space was skipped
use Rattle.std.proofs.Common.{◌≡◌, ◌≤◌, length}
use Rattle.zmeta_offline.specs.Digits.{digits}
use Rattle.zmeta_offline.proofs.digits.skip_space.Given as goal

abbrev pub invariant-loop-rest : goal.invariant-loop-rest
invariant-loop-rest l = record {
  same : digits l.rest ≡ digits l.text;
  within : length l.rest ≤ length l.text;
}

abbrev pub decreases-loop-rest : goal.decreases-loop-rest
decreases-loop-rest l = length l.rest
