use Rattle.std.proofs.Common.{◌∙◌, ap, subst, sym, refl, Err}
use Rattle.std.proofs.lemmas.Result.{err_from_is_err_and}
use Rattle.zoom_io.specs.Answering.{AfterReplyAll}
use Rattle.zoom_io.proofs.Answering.{replies_result}
use Rattle.zoom_io.proofs.replies.reply_all.Goals as goal

pub returns-in_err-release_all : goal.returns-in_err-release_all
returns-in_err-release_all g c =
    let p = err_from_is_err_and c.from_residual.result c.from_residual.ensures.1 in
    let sink = g.W.Sink.state c.args.sink.now in
    subst (λ z. AfterReplyAll z c.args.host.now c.release_all.new.host sink sink) (sym (p.1 ∙ ap Err p.2))
    (λ left. c.in_err-release_all.ensures left sink, refl)

pub returns : goal.returns
returns g c =
    replies_result c.args.host.now c.release_all.new.host c.write_replies.new.host c.in_ok-release_all.ensures
    (g.W.Sink.state c.args.sink.now) (g.W.Sink.state c.write_replies.new.sink) c.write_replies.result
    c.write_replies.ensures
