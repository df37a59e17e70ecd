use Rattle.std.specs.Prelude.{Contains}
use Rattle.zknow_changes.specs.Parts.{part_facts}
use Rattle.zknow_changes.proofs.HeldTheory.{from_nothing}
use Rattle.zknow_changes.proofs.parts.part_of.Goals as goal

pub returns : goal.returns
returns c = record {
  lawful = c.lawful.ensures;
  members = from_nothing c.new-known.result (Contains (part_facts c.args.kind c.args.changes.now))
      (Contains c.add_part.new.known) c.new-known.ensures c.in_ok-add_part.ensures;
}
