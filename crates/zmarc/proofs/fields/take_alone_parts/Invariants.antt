use Rattle.std.proofs.Common.{◌≡◌, ◌++◌, length}
use Rattle.std.specs.List.{flat_map}
use Rattle.zmarc.specs.References.{behind_each}
use Rattle.zmarc.specs.Subfields.{subfields}
use Rattle.zmarc.specs.Fields.{title_alone_part}
use Rattle.zmarc.proofs.fields.take_alone_parts.Given as goal

abbrev pub invariant-loop-part : goal.invariant-loop-part
invariant-loop-part l =
    behind_each l.found.items ++ flat_map (title_alone_part l.format) (subfields l.rest)
    ≡ behind_each l.fn.found.items ++ flat_map (title_alone_part l.format) (subfields l.field)

abbrev pub decreases-loop-part : goal.decreases-loop-part
decreases-loop-part l = length l.rest
