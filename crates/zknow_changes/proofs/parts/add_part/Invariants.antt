use Rattle.std.proofs.Common.{take}
use Rattle.std.specs.Prelude.{Contains}
use Rattle.zknow.specs.Tables.Join.{IsUnion}
use Rattle.zknow_changes.specs.Parts.{part_facts}
use Rattle.zknow_changes.proofs.parts.add_part.Given as goal

abbrev pub invariant-loop-change : goal.invariant-loop-change
invariant-loop-change l =
    IsUnion (Contains l.fn.known) (Contains (part_facts l.kind (take l.change-index l.changes))) (Contains l.known)
