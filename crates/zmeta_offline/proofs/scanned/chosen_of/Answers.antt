use Rattle.std.proofs.Common.{ap, ◌∙◌, ℕ, List}
use Rattle.zmeta_args.specs.Texts.{texts_of}
use Rattle.zmeta_offline.specs.Names.{is_picked}
use Rattle.zmeta_offline.proofs.Noting.{taken_more, taken_all}
use Rattle.zmeta_offline.proofs.scanned.chosen_of.Goals as goal

pub loop-name-preserved : goal.loop-name-preserved
loop-name-preserved c =
    taken_more (texts_of c.args.only.now) c.args.names.now c.loop-name.name-index c.name-item.result
    c.loop-name.targets.items _ c.is_picked.result c.loop-name-test.true c.name-item.is c.loop-name.invariant
    c.in_ok-push.ensures.items
    (c.is_picked.ensures ∙ ap (λ (name : List ℕ). is_picked (texts_of c.args.only.now) name) c.as_slice.ensures)

pub returns : goal.returns
returns c =
    taken_all c.args.only.now c.args.names.now c.loop-name.name-index c.loop-name.targets.items c.is_empty.result
    c.loop-name-test.false c.loop-name.invariant c.is_empty.ensures
