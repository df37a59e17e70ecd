-- What stands behind references.
use Rattle.std.specs.Prelude.{ℕ, List, map}
use Rattle.std.specs.Borrow.{Bor}
use Rattle.zmarc.specs.declared.records.TaggedOctets.{TaggedOctets}
use Rattle.zmarc.specs.Records.{Field}

-- what stands behind each of these
abbrev pub behind_each : List (Bor (List ℕ)) → List (List ℕ)
behind_each found = map (λ r. r.now) found

-- a field, from what stands behind its tag and its octets
abbrev pub field_behind : TaggedOctets → Field
field_behind r = record { tag = r.tag.now; octets = r.octets.now }
