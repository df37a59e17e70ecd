use Rattle.std.proofs.Common.{◌∙◌}
use Rattle.std.proofs.lemmas.Result.{err_from_is_err_and}
use Rattle.zber.specs.declared.framer.TheConstants.{MESSAGE_LIMIT}
use Rattle.zmeta_offline.proofs.Showing.{rest_shorter, is_shown, shown_more, refused_end, unfinished_end, whole_end}
use Rattle.zmeta_offline.proofs.show.show_octets.Goals as goal

pub loop-framer-preserved : goal.loop-framer-preserved
loop-framer-preserved c =
    let before = c.loop-framer in
    let step = is_shown before.framer.stream c.show_next.new.framer.stream before.text.items c.show_next.new.text.items c.in_ok-show_next.field-0 c.in_ok-show_next.ensures c.if-branch.true in record {
      limited = step.limited ∙ before.invariant.limited;
      no_fault = step.no_fault ∙ before.invariant.no_fault;
      so_far = shown_more c.args.octets.now before.framer.stream.octets c.show_next.new.framer.stream.octets c.args.text.now.items before.text.items c.show_next.new.text.items step.element step.value before.invariant.so_far step.begins step.writes step.text;
    }

pub loop-framer-smaller : goal.loop-framer-smaller
loop-framer-smaller c =
    let before = c.loop-framer in
    let step = is_shown before.framer.stream c.show_next.new.framer.stream before.text.items c.show_next.new.text.items c.in_ok-show_next.field-0 c.in_ok-show_next.ensures c.if-branch.true in
    rest_shorter MESSAGE_LIMIT before.framer.stream.octets c.show_next.new.framer.stream.octets step.element step.begins

pub returns-in_err-show_next : goal.returns-in_err-show_next
returns-in_err-show_next c =
    let before = c.loop-framer in
    let p = err_from_is_err_and c.from_residual-in_err-show_next.result c.from_residual-in_err-show_next.ensures.1 in
    refused_end c.args.octets.now c.args.text.now.items before.text.items c.show_next.new.text.items before.framer.stream c.show_next.new.framer.stream
    c.in_err-show_next.field-0.0 p.0 c.from_residual-in_err-show_next.result p.1 p.2 before.invariant.so_far c.in_err-show_next.ensures

pub returns-in_err-finish : goal.returns-in_err-finish
returns-in_err-finish c =
    let before = c.loop-framer in
    unfinished_end c.args.octets.now c.args.text.now.items before.text.items c.show_next.new.text.items before.framer.stream c.show_next.new.framer.stream c.in_ok-show_next.field-0 c.in_err-finish.field-0.0 c.from_residual-in_err-finish.result
    before.invariant.no_fault before.invariant.so_far c.in_ok-show_next.ensures c.if-branch.false c.in_err-finish.ensures c.from_residual-in_err-finish.ensures.1

pub returns : goal.returns
returns c =
    let before = c.loop-framer in
    whole_end c.args.octets.now c.args.text.now.items before.text.items c.show_next.new.text.items before.framer.stream c.show_next.new.framer.stream c.in_ok-show_next.field-0 c.in_ok-finish.field-0
    before.invariant.no_fault before.invariant.so_far c.in_ok-show_next.ensures c.if-branch.false c.in_ok-finish.ensures
