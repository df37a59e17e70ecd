use Rattle.std.proofs.Common.{◌≡◌, drop}
use Rattle.zknow_html.specs.Differences.{differences, united}
use Rattle.zknow_html.proofs.differences.compare.Given as goal

abbrev pub invariant-loop-other : goal.invariant-loop-other
invariant-loop-other l =
    united l.found (differences l.first (drop l.other-index l.others)) ≡ differences l.first l.others
