use Rattle.std.specs.Prelude.{Contains}
use Rattle.zknow_changes.specs.declared.between.ChangeKind.TheVariants.{New, Changed}
use Rattle.zknow_changes.specs.Parts.{part_facts}
use Rattle.zknow_changes.proofs.HeldTheory.{both_from_nothing}
use Rattle.zknow_changes.proofs.parts.news_of.Goals as goal

pub returns : goal.returns
returns c = record {
  lawful = c.lawful.ensures;
  members = both_from_nothing c.new-known.result (Contains (part_facts New c.args.changes.now))
      (Contains (part_facts Changed c.args.changes.now)) (Contains c.add_part.new.known)
      (Contains c.add_part-2.new.known) c.new-known.ensures c.in_ok-add_part.ensures c.in_ok-add_part-2.ensures;
}
