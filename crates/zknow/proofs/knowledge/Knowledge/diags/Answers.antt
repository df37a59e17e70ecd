use Rattle.std.proofs.Common.{sym, ap, ◌∙◌}
use Rattle.zknow.specs.Known.{referenced_pairs}
use Rattle.zknow.specs.Tables.Sections.{number_pairs}
use Rattle.zknow.proofs.TableTheory.AtKeys.{items_of}
use Rattle.zknow.proofs.ListTheory.KnownAt.{diags_in_table}
use Rattle.zknow.proofs.knowledge.Knowledge.diags.Goals as goal
use Rattle.zknow.proofs.knowledge.Knowledge.diags.Goals.{in-Some+in_ok-take_all_diags, in_default}

pub returns : goal.returns
returns c =
    let all = diags_in_table c.args.target c.args.set c.self.inside.tables c.self.invariant.lawful in
    elim c.match-get.branch [
      | in-Some+in_ok-take_all_diags w ↦
          let there = rw c.key_of.ensures at w.in-Some.ensures in
          let put = rw c.new-found.ensures.items at w.in_ok-take_all_diags.ensures in
          rw (← c.self.view_is) (ap (λ v. referenced_pairs v.items) w.found-is ∙ put ∙ ap (items_of number_pairs) there ∙ sym all)
      | in_default w ↦
          let there = rw c.key_of.ensures at w.in_default.ensures in
          rw (← c.self.view_is) (ap (λ v. referenced_pairs v.items) w.found-is ∙ ap referenced_pairs c.new-found.ensures.items ∙ ap (items_of number_pairs) there ∙ sym all)
    ]
