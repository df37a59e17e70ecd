use Rattle.std.proofs.Common.{subst}
use Rattle.zknow_changes.specs.declared.between.Side.TheVariants.{Later}
use Rattle.zknow_changes.specs.Indexes.{AreSideChanges}
use Rattle.zknow_changes.proofs.SideTheory.{changes_are, changes_addable}
use Rattle.zknow_changes.proofs.between.changes.Goals as goal

pub returns-clause-changes : goal.returns-clause-changes
returns-clause-changes c =
    let first = subst (λ z. AreSideChanges Later c.args.later_names.now c.args.later.now c.args.earlier_names.now
    c.args.earlier.now z c.put_side.new.found.items) c.new-found.ensures.items c.in_ok-put_side.ensures in
    changes_are c.args.earlier_names.now c.args.earlier.now c.args.later_names.now c.args.later.now
    c.put_side.new.found.items c.put_side-2.new.found.items first c.in_ok-put_side-2.ensures
    c.lawful.ensures c.lawful-2.ensures

pub returns-clause-facts : goal.returns-clause-facts
returns-clause-facts c =
    let first = subst (λ z. AreSideChanges Later c.args.later_names.now c.args.later.now c.args.earlier_names.now
    c.args.earlier.now z c.put_side.new.found.items) c.new-found.ensures.items c.in_ok-put_side.ensures in
    changes_addable c.args.earlier_names.now c.args.earlier.now c.args.later_names.now c.args.later.now
    c.put_side.new.found.items c.put_side-2.new.found.items first c.in_ok-put_side-2.ensures
    c.lawful.ensures c.lawful-2.ensures
