use Rattle.std.proofs.Common.{◌≡◌, Bool, true, false, refl, sym, ap, ◌∙◌, length}
use Rattle.std.specs.Prelude.{not, ◌==◌}
use Rattle.zknow.specs.declared.tables.keys.Mark.{Mark}
use Rattle.zknow.specs.Tables.Sections.{marked}
use Rattle.zknow.proofs.TableTheory.AtKeys.{items_of}
use Rattle.zknow.proofs.ListTheory.KnownAt.{failures_in_table}
use Rattle.zknow.proofs.knowledge.Knowledge.is_failed.Goals as goal

mark_by : (m : Mark) (b : Bool) → m.is_set ≡ b → b ≡ not (length (marked m) == 0)
mark_by m true is = rw is refl
mark_by m false is = rw is refl

pub returns-in-None : goal.returns-in-None
returns-in-None c =
    let there = rw c.key_of.ensures at c.in-None.ensures in
    rw (← c.self.view_is) (sym (ap (λ l. not (length l == 0)) (failures_in_table c.args.target c.args.set c.self.inside.tables c.self.invariant.lawful ∙ ap (items_of marked) (sym there))))

pub returns-in-Some : goal.returns-in-Some
returns-in-Some c =
    let there = rw c.key_of.ensures at c.in-Some.ensures in
    rw (← c.self.view_is) (mark_by c.in-Some.mark.now c.in-Some.mark.now.is_set refl ∙ sym (ap (λ l. not (length l == 0)) (failures_in_table c.args.target c.args.set c.self.inside.tables c.self.invariant.lawful ∙ ap (items_of marked) (sym there))))
