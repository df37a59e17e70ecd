use Rattle.std.proofs.Common.{◌≡◌, ◌+◌, ◌-◌, ◌*◌, ◌≤◌, length}
use Rattle.zmarc.specs.Records.{entries, told_total}
use Rattle.zmarc.proofs.FieldTheory.{told_in}
use Rattle.zmarc.proofs.records.tell_at_most.Given as goal

abbrev pub invariant-loop : goal.invariant-loop
invariant-loop l = record {
  same : told_total l.octets + l.room ≡ l.most + told_in l.octets (entries l.len (l.end - l.counter) l.rest);
  place : (l.end - l.counter) * l.len ≤ length l.rest;
}
