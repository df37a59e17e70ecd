use Rattle.std.proofs.Common.{◌≡◌, ◌∙◌, ap, sym, subst, take, length, arith}
use Rattle.std.specs.Prelude.{Contains}
use Rattle.std.proofs.lemmas.List.{take_all}
use Rattle.std.proofs.lemmas.List.Elements.{Contains-get_or}
use Rattle.zknow.specs.Tables.Join.{IsUnion}
use Rattle.zknow_changes.specs.Parts.{part_fact, part_facts}
use Rattle.zknow_changes.proofs.HeldTheory.{one_more_added}
use Rattle.zknow_changes.proofs.parts.add_part.Goals as goal

pub add_change-requires : goal.add_change-requires
add_change-requires c =
    let changes = c.args.changes.now in
    let x = c.change-item.result in
    c.requires x
    (subst (Contains changes) (sym c.change-item.is)
    (Contains-get_or changes c.loop-change.change-index x c.loop-change-test.true))

pub loop-change-preserved : goal.loop-change-preserved
loop-change-preserved c =
    one_more_added (part_fact c.args.kind) c.args.changes.now c.loop-change.change-index c.change-item.result
    c.loop-change-test.true c.change-item.is (Contains c.args.known.now) (Contains c.loop-change.known)
    (Contains c.add_change.new.known) c.loop-change.invariant c.in_ok-add_change.ensures

pub returns : goal.returns
returns c =
    let changes = c.args.changes.now in
    let end : c.loop-change.change-index ≡ length changes =
    omega (arith, c.loop-change-test.false, c.loop-change.auto.change-index-end) in
    let all : take c.loop-change.change-index changes ≡ changes =
    ap (λ n. take n changes) end ∙ take_all (length changes) changes (omega arith) in
    subst
    (λ z. IsUnion (Contains c.args.known.now) (Contains (part_facts c.args.kind z)) (Contains c.loop-change.known))
    all c.loop-change.invariant
