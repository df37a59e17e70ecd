use Rattle.std.proofs.Common.{◌≡◌, ◌-◌, ◌*◌, ◌≤◌, ◌++◌, length}
use Rattle.zmarc.specs.Records.{entries, tagged_fields}
use Rattle.zmarc.specs.References.{behind_each}
use Rattle.zmarc.proofs.FieldTheory.{gathered_in}
use Rattle.zmarc.proofs.records.gather_tagged_fields.Given as goal

abbrev pub invariant-loop : goal.invariant-loop
invariant-loop l = record {
  same : behind_each l.found.items ++ gathered_in l.tag l.octets (entries l.len (l.end - l.counter) l.rest)
      ≡ tagged_fields l.tag l.octets;
  room : (l.end - l.counter) * l.len ≤ length l.rest;
}
