use Rattle.std.proofs.Common.{◌≡◌, ◌-◌, ◌*◌, ◌≤◌, ◌++◌, map, length}
use Rattle.zmarc.specs.Records.{entries, fields}
use Rattle.zmarc.specs.References.{field_behind}
use Rattle.zmarc.proofs.FieldTheory.{fields_in}
use Rattle.zmarc.proofs.records.gather_fields.Given as goal

abbrev pub invariant-loop : goal.invariant-loop
invariant-loop l = record {
  same : map field_behind l.found.items ++ fields_in l.octets (entries l.len (l.end - l.counter) l.rest)
      ≡ fields l.octets;
  room : (l.end - l.counter) * l.len ≤ length l.rest;
}
