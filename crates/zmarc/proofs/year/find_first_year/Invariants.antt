use Rattle.std.proofs.Common.{◌≡◌, drop}
use Rattle.zmarc.specs.Years.{first_year}
use Rattle.zmarc.proofs.year.find_first_year.Given as goal

abbrev pub invariant-loop-at : goal.invariant-loop-at
invariant-loop-at l = first_year (drop l.at l.octets) ≡ first_year l.octets
