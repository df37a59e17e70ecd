use Rattle.std.proofs.Common.{◌∙◌, ap, subst, sym, refl, ◌<◌, Err}
use Rattle.std.proofs.lemmas.Result.{err_from_is_err_and}
use Rattle.std.specs.declared.alloc.AllocError.{AllocError}
use Rattle.zoom_io.specs.TalkSteps.{AfterSendDue}
use Rattle.zoom_io.proofs.Sending.{sent_by}
use Rattle.zoom_io.proofs.Starving.{halts_driven}
use Rattle.zoom_pool.proofs.Pools.{else_more}
use Rattle.zoom_io.proofs.Others.{else_others}
use Rattle.zoom_io.proofs.Blameless.{if_push, pushed_soundly}
use Rattle.zoom_io.proofs.talk_steps.send_due.Goals as goal

pub returns-in_err-drive-clause-after : goal.returns-in_err-drive-clause-after
returns-in_err-drive-clause-after g c =
    let p = err_from_is_err_and c.from_residual.result c.from_residual.ensures.1 in
    let sink = g.W.Sink.state c.args.sink.now in
    subst (λ z. AfterSendDue c.args.c z c.args.meta.now c.drive.new.self sink sink) (sym (p.1 ∙ ap Err p.2))
    (λ left. halts_driven AllocError c.in_err-drive.field-0.0 c.args.c c.args.meta.now c.drive.new.self
    c.in_err-drive.ensures.after left sink)

pub returns-clause-after : goal.returns-clause-after
returns-clause-after g c =
    sent_by c.one_transcript.ensures AllocError c.args.c c.in_ok-drive.field-0 c.args.meta.now c.drive.new.self
    c.push.new.meta _ _ c.push.result (subst (λ n. c.args.c < n) (sym c.drive.ensures.rest.size) c.requires)
    c.in_ok-drive.ensures.after c.push.ensures.pushes

pub returns-in_err-drive-clause-others : goal.returns-in_err-drive-clause-others
returns-in_err-drive-clause-others g c =
    else_others c.args.c c.args.meta.now.pool c.drive.new.self.pool c.drive.ensures.rest

pub returns-clause-others : goal.returns-clause-others
returns-clause-others g c =
    else_others c.args.c c.args.meta.now.pool c.push.new.meta.pool
    (else_more c.args.c c.args.meta.now.pool c.drive.new.self.pool c.push.new.meta.pool c.drive.ensures.rest
    c.push.ensures.rest)

pub returns-in_err-drive-clause-no_failure : goal.returns-in_err-drive-clause-no_failure
returns-in_err-drive-clause-no_failure g c = if_push c.from_residual.result refl

pub returns-clause-no_failure : goal.returns-clause-no_failure
returns-clause-no_failure g c =
    pushed_soundly c.args.c c.push.result c.drive.new.self c.push.new.meta (g.W.Sink.state c.args.sink.now)
    (g.W.Sink.state c.push.new.sink) c.push.ensures.pushes
