use Rattle.std.proofs.Common.{◌≡◌, ◌∙◌, ◌<◌, ◌-◌, ◌^◌, ap, subst, sym, Bool, Ok, Err, rules}
use Rattle.std.proofs.lemmas.Result.{err_from_is_err_and}
use Rattle.zoom_io.specs.TalkTraces.{Waiting, Over}
use Rattle.zoom_io.specs.Talking.{AfterSettle}
use Rattle.zoom_io.specs.TalkSteps.{AfterSendAndTake}
use Rattle.zoom_io.proofs.Sending.{settles_none, settles_more, settles, settles_many, unsettled}
use Rattle.zoom_io.proofs.Others.{others_none, others_more}
use Rattle.zoom_io.specs.declared.talk_steps.Receipt.{Receipt}
use Rattle.zoom_devices.specs.Devices.{HasNoFailure}
use Rattle.zoom_io.specs.Blameless.{IfPushMemory}
use Rattle.zoom_io.proofs.Blameless.{push_memory}
use Rattle.zoom_io.proofs.conversation.settle.Goals as goal

pub loop-init : goal.loop-init
loop-init g c = (
  λ left. settles_none c.args.c c.args.meta.now left (g.W.Sink.state c.args.sink.now),
  others_none c.args.c c.args.meta.now.pool,
)

pub send_and_take-requires : goal.send_and_take-requires
send_and_take-requires g c = subst (λ n. c.args.c < n) (sym c.loop.invariant.1.size) c.requires

pub returns-in_err-send_and_take-clause-settles : goal.returns-in_err-send_and_take-clause-settles
returns-in_err-send_and_take-clause-settles g c =
    let p = err_from_is_err_and c.from_residual.result c.from_residual.ensures.1 in
    subst (λ z. AfterSettle c.args.c z c.args.meta.now c.send_and_take.new.meta (g.W.Sink.state c.args.sink.now)
    (g.W.Sink.state c.send_and_take.new.sink)) (sym (p.1 ∙ ap Err p.2))
    (unsettled c.args.c c.loop.counter c.in_err-send_and_take.field-0.0 c.args.meta.now c.loop.meta
    c.send_and_take.new.meta (g.W.Sink.state c.args.sink.now) (g.W.Sink.state c.loop.sink)
    (g.W.Sink.state c.send_and_take.new.sink) c.loop.invariant.0 c.in_err-send_and_take.ensures.receipt)

pub returns-in-Nothing-clause-settles : goal.returns-in-Nothing-clause-settles
returns-in-Nothing-clause-settles g c left =
    settles c.args.c c.loop.counter c.args.meta.now c.loop.meta c.send_and_take.new.meta left
    (g.W.Sink.state c.args.sink.now) (g.W.Sink.state c.loop.sink) (g.W.Sink.state c.send_and_take.new.sink)
    (c.loop.invariant.0 left) Waiting
    (subst (λ z. AfterSendAndTake c.args.c (Ok z) c.loop.meta c.send_and_take.new.meta (g.W.Sink.state c.loop.sink)
    (g.W.Sink.state c.send_and_take.new.sink)) c.in-Nothing.is c.in_ok-send_and_take.ensures.receipt left)

pub returns-in-Over-clause-settles : goal.returns-in-Over-clause-settles
returns-in-Over-clause-settles g c left =
    settles c.args.c c.loop.counter c.args.meta.now c.loop.meta c.send_and_take.new.meta left
    (g.W.Sink.state c.args.sink.now) (g.W.Sink.state c.loop.sink) (g.W.Sink.state c.send_and_take.new.sink)
    (c.loop.invariant.0 left) Over
    (subst (λ z. AfterSendAndTake c.args.c (Ok z) c.loop.meta c.send_and_take.new.meta (g.W.Sink.state c.loop.sink)
    (g.W.Sink.state c.send_and_take.new.sink)) c.in-Over.is c.in_ok-send_and_take.ensures.receipt left)

pub loop-preserved : goal.loop-preserved
loop-preserved g c = (
  λ left.
      settles_more c.args.c c.loop.counter c.args.meta.now c.loop.meta c.send_and_take.new.meta left
      (g.W.Sink.state c.args.sink.now) (g.W.Sink.state c.loop.sink) (g.W.Sink.state c.send_and_take.new.sink)
      (c.loop.invariant.0 left)
      (subst (λ z. AfterSendAndTake c.args.c (Ok z) c.loop.meta c.send_and_take.new.meta (g.W.Sink.state c.loop.sink)
      (g.W.Sink.state c.send_and_take.new.sink)) c.in-Message.is c.in_ok-send_and_take.ensures.receipt left),
  others_more c.args.c c.args.meta.now.pool c.loop.meta.pool c.send_and_take.new.meta.pool c.loop.invariant.1
      c.send_and_take.ensures.others,
)

pub returns-clause-settles : goal.returns-clause-settles
returns-clause-settles g c =
    let most : c.loop.counter ≡ 2 ^ 64 - 1 = search rules in
    settles_many c.args.c c.loop.counter c.args.meta.now c.loop.meta (g.W.Sink.state c.args.sink.now)
    (g.W.Sink.state c.loop.sink) most c.loop.invariant.0

pub returns-in_err-send_and_take-clause-others : goal.returns-in_err-send_and_take-clause-others
returns-in_err-send_and_take-clause-others g c =
    others_more c.args.c c.args.meta.now.pool c.loop.meta.pool c.send_and_take.new.meta.pool c.loop.invariant.1
    c.send_and_take.ensures.others

pub returns-in-Nothing-clause-others : goal.returns-in-Nothing-clause-others
returns-in-Nothing-clause-others g c =
    others_more c.args.c c.args.meta.now.pool c.loop.meta.pool c.send_and_take.new.meta.pool c.loop.invariant.1
    c.send_and_take.ensures.others

pub returns-in-Over-clause-others : goal.returns-in-Over-clause-others
returns-in-Over-clause-others g c =
    others_more c.args.c c.args.meta.now.pool c.loop.meta.pool c.send_and_take.new.meta.pool c.loop.invariant.1
    c.send_and_take.ensures.others

pub returns-in_err-send_and_take-clause-no_failure : goal.returns-in_err-send_and_take-clause-no_failure
returns-in_err-send_and_take-clause-no_failure g c =
    let p = err_from_is_err_and c.from_residual.result c.from_residual.ensures.1 in
    let sink = g.W.Sink.state c.args.sink.now in
    subst (λ z. IfPushMemory z (HasNoFailure sink (g.W.Sink.state c.send_and_take.new.sink))) (sym (p.1 ∙ ap Err p.2))
    (push_memory Receipt Bool c.in_err-send_and_take.field-0.0 (λ f. f ∙ (c.loop.invariant.0 sink).step.writer)
    c.in_err-send_and_take.ensures.no_failure)

pub returns-clause-no_failure : goal.returns-clause-no_failure
returns-clause-no_failure g c = (c.loop.invariant.0 (g.W.Sink.state c.args.sink.now)).step.writer
