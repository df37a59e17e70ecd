use Rattle.std.proofs.Common.{◌∙◌, ap, subst, sym, Err}
use Rattle.std.proofs.lemmas.Result.{err_from_is_err_and}
use Rattle.zoom_io.specs.TalkTraces.{Due, Listening, same}
use Rattle.zoom_io.specs.TalkSteps.{AfterSendAndTake}
use Rattle.zoom_io.proofs.Sending.{sent_and_taken}
use Rattle.zoom_io.proofs.Starving.{halts_after}
use Rattle.zoom_io.proofs.Others.{others_more}
use Rattle.zoom_io.proofs.Blameless.{if_push}
use Rattle.zoom_io.proofs.talk_steps.send_and_take.Goals as goal

pub returns-in_err-take_message-clause-receipt : goal.returns-in_err-take_message-clause-receipt
returns-in_err-take_message-clause-receipt g c =
    let p = err_from_is_err_and c.from_residual-in_err-take_message.result c.from_residual-in_err-take_message.ensures.1 in
    let sink = g.W.Sink.state c.args.sink.now in
    let held = g.W.Sink.state c.send_due.new.sink in
    subst (λ z. AfterSendAndTake c.args.c z c.args.meta.now c.take_message.new.meta sink held) (sym (p.1 ∙ ap Err p.2))
    (halts_after c.args.c Due Listening same c.args.meta.now c.send_due.new.meta c.take_message.new.meta sink held held
    (λ left. (c.in_ok-send_due.ensures.after left).step) (λ left. c.in_err-take_message.ensures.err left held))

pub returns-clause-receipt : goal.returns-clause-receipt
returns-clause-receipt g c =
    sent_and_taken c.args.c c.in_ok-take_message.field-0 c.args.meta.now c.send_due.new.meta c.take_message.new.meta (g.W.Sink.state c.args.sink.now)
    (g.W.Sink.state c.send_due.new.sink) c.in_ok-send_due.ensures.after c.in_ok-take_message.ensures.after

pub returns-in_err-take_message-clause-others : goal.returns-in_err-take_message-clause-others
returns-in_err-take_message-clause-others g c =
    others_more c.args.c c.args.meta.now.pool c.send_due.new.meta.pool c.take_message.new.meta.pool
    c.send_due.ensures.others c.take_message.ensures.others

pub returns-clause-others : goal.returns-clause-others
returns-clause-others g c =
    others_more c.args.c c.args.meta.now.pool c.send_due.new.meta.pool c.take_message.new.meta.pool
    c.send_due.ensures.others c.take_message.ensures.others

pub returns-in_err-take_message-clause-no_failure : goal.returns-in_err-take_message-clause-no_failure
returns-in_err-take_message-clause-no_failure g c =
    if_push c.from_residual-in_err-take_message.result
    (c.in_ok-send_due.ensures.after (g.W.Sink.state c.args.sink.now)).step.writer
