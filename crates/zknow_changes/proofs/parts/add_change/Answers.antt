use Rattle.std.proofs.Common.{◌≡◌, ◌∙◌, ap, sym, cond}
use Rattle.std.specs.Prelude.{Contains, Option, Some, None}
use Rattle.zknow.specs.declared.fact.Fact.{Fact}
use Rattle.zknow_changes.specs.Changes.{change_fact}
use Rattle.zknow_changes.specs.Parts.{part_fact}
use Rattle.zknow_changes.proofs.HeldTheory.{on_ok, union_some}
use Rattle.zknow_changes.proofs.parts.add_change.Goals as goal

pub returns : goal.returns
returns c =
    let change = c.args.change.now in
    let one : Option Fact = Some (change_fact change) in
    let told : part_fact c.args.kind change ≡ Some c.in_ok-fact.fact =
    ap (λ b. cond b one None) (sym c.is_of.ensures ∙ c.if-not-is_of.false)
    ∙ ap (λ f. Some f) (sym c.in_ok-fact.ensures) in
    on_ok c.add.result
    (union_some (part_fact c.args.kind change) c.in_ok-fact.fact (Contains c.args.known.now) (Contains c.add.new.self)
    told)
    c.add.ensures.ok
