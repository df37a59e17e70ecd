use Rattle.std.proofs.Common.{◌≡◌, ◌≤◌, take, length}
use Rattle.zmarc.specs.Fields.{without_marks}
use Rattle.zmarc.proofs.fields.cut_end_marks.Given as goal

abbrev pub invariant-loop-len : goal.invariant-loop-len
invariant-loop-len l = record {
  same : without_marks (take l.len l.octets) ≡ without_marks l.octets;
  within : l.len ≤ length l.octets;
}

abbrev pub decreases-loop-len : goal.decreases-loop-len
decreases-loop-len l = l.len
