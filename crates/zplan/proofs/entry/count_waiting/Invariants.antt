use Rattle.std.proofs.Common.{◌≡◌, ◌≤◌, ◌+◌, drop, length}
use Rattle.zplan.specs.Schedules.{waiting_of}
use Rattle.zplan.proofs.entry.count_waiting.Given as goal

abbrev pub invariant-loop-at : goal.invariant-loop-at
invariant-loop-at l = (l.count ≤ l.at) × (l.count + length (waiting_of (drop l.at l.entries)) ≡ length (waiting_of l.entries))
