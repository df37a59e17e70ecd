use Rattle.std.proofs.Common.{◌≡◌, ◌∙◌, ◌<◌, ap, subst, sym, Err, arith, rules}
use Rattle.std.proofs.lemmas.Result.{err_from_is_err_and}
use Rattle.zoom_io.specs.Answering.{AfterAnswer}
use Rattle.zoom_io.proofs.AnswerEnds.{begun, begun_replied, piece_on, piece_failed, answers_end, answers_done, answers_turns, replies_end}
use Rattle.zoom_io.proofs.replies.answer.Goals as goal

pub loop-init : goal.loop-init
loop-init g c = begun c.args.host.now (g.R.Source.state c.args.source.now) (g.W.Sink.state c.args.sink.now)

pub returns-in_err-reply_all : goal.returns-in_err-reply_all
returns-in_err-reply_all g c =
    let few : c.loop.counter < c.args.reads = search rules in
    let p = err_from_is_err_and c.from_residual.result c.from_residual.ensures.1 in
    let source = g.R.Source.state c.args.source.now in
    let left = g.R.Source.state c.loop.source in
    let sink = g.W.Sink.state c.args.sink.now in
    let held = g.W.Sink.state c.reply_all.new.sink in
    subst (λ z. AfterAnswer c.args.reads z c.args.host.now c.reply_all.new.host source left sink held)
    (sym (p.1 ∙ ap Err p.2))
    (replies_end c.loop.counter c.args.reads c.args.host.now c.loop.host c.reply_all.new.host source left sink
    (g.W.Sink.state c.loop.sink) held c.loop.invariant (omega (arith, few)) c.in_err-reply_all.field-0.0
    c.in_err-reply_all.ensures)

pub returns-then-is_done : goal.returns-then-is_done
returns-then-is_done g c =
    let few : c.loop.counter < c.args.reads = search rules in
    let source = g.R.Source.state c.args.source.now in
    let left = g.R.Source.state c.loop.source in
    let sink = g.W.Sink.state c.args.sink.now in
    let held = g.W.Sink.state c.reply_all.new.sink in
    answers_done c.loop.counter c.args.reads c.args.host.now c.reply_all.new.host source left sink held
    (begun_replied c.loop.counter c.args.host.now c.loop.host c.reply_all.new.host source left sink
    (g.W.Sink.state c.loop.sink) held c.loop.invariant c.in_ok-reply_all.ensures) (omega (arith, few))
    (sym c.is_done.ensures ∙ c.if-is_done.true)

pub loop-preserved : goal.loop-preserved
loop-preserved g c =
    let source = g.R.Source.state c.args.source.now in
    let left = g.R.Source.state c.loop.source in
    let sink = g.W.Sink.state c.args.sink.now in
    let held = g.W.Sink.state c.reply_all.new.sink in
    piece_on c.loop.counter c.args.reads c.args.host.now c.reply_all.new.host source left sink held
    (begun_replied c.loop.counter c.args.host.now c.loop.host c.reply_all.new.host source left sink
    (g.W.Sink.state c.loop.sink) held c.loop.invariant c.in_ok-reply_all.ensures)
    (sym c.is_done.ensures ∙ c.if-is_done.false) c.read_piece.new.host (g.R.Source.state c.read_piece.new.source)
    c.in_ok-read_piece.field-0 c.in_ok-read_piece.ensures c.if-not-branch.false

pub returns-then-not-branch : goal.returns-then-not-branch
returns-then-not-branch g c =
    let few : c.loop.counter < c.args.reads = search rules in
    let source = g.R.Source.state c.args.source.now in
    let left = g.R.Source.state c.loop.source in
    let sink = g.W.Sink.state c.args.sink.now in
    let held = g.W.Sink.state c.reply_all.new.sink in
    answers_end c.loop.counter c.args.reads c.args.host.now c.reply_all.new.host source left sink held
    (begun_replied c.loop.counter c.args.host.now c.loop.host c.reply_all.new.host source left sink
    (g.W.Sink.state c.loop.sink) held c.loop.invariant c.in_ok-reply_all.ensures)
    (sym c.is_done.ensures ∙ c.if-is_done.false) c.read_piece.new.host (g.R.Source.state c.read_piece.new.source) few
    c.in_ok-read_piece.field-0 c.in_ok-read_piece.ensures c.if-not-branch.true

pub returns-in_err-read_piece : goal.returns-in_err-read_piece
returns-in_err-read_piece g c =
    let few : c.loop.counter < c.args.reads = search rules in
    let p = err_from_is_err_and c.from_residual-in_err-read_piece.result c.from_residual-in_err-read_piece.ensures.1 in
    let source = g.R.Source.state c.args.source.now in
    let left = g.R.Source.state c.loop.source in
    let sink = g.W.Sink.state c.args.sink.now in
    let held = g.W.Sink.state c.reply_all.new.sink in
    subst (λ z. AfterAnswer c.args.reads z c.args.host.now c.read_piece.new.host source
    (g.R.Source.state c.read_piece.new.source) sink held) (sym (p.1 ∙ ap Err p.2))
    (piece_failed c.loop.counter c.args.reads c.args.host.now c.reply_all.new.host source left sink held
    (begun_replied c.loop.counter c.args.host.now c.loop.host c.reply_all.new.host source left sink
    (g.W.Sink.state c.loop.sink) held c.loop.invariant c.in_ok-reply_all.ensures)
    (sym c.is_done.ensures ∙ c.if-is_done.false) c.read_piece.new.host (g.R.Source.state c.read_piece.new.source) few
    c.in_err-read_piece.field-0.0 c.in_err-read_piece.ensures)

pub returns-in_err-reply_all-2 : goal.returns-in_err-reply_all-2
returns-in_err-reply_all-2 g c =
    let all : c.loop.counter ≡ c.args.reads = search rules in
    let p = err_from_is_err_and c.from_residual-in_err-reply_all-2.result c.from_residual-in_err-reply_all-2.ensures.1 in
    let source = g.R.Source.state c.args.source.now in
    let left = g.R.Source.state c.loop.source in
    let sink = g.W.Sink.state c.args.sink.now in
    let held = g.W.Sink.state c.reply_all-2.new.sink in
    subst (λ z. AfterAnswer c.args.reads z c.args.host.now c.reply_all-2.new.host source left sink held)
    (sym (p.1 ∙ ap Err p.2))
    (replies_end c.loop.counter c.args.reads c.args.host.now c.loop.host c.reply_all-2.new.host source left sink
    (g.W.Sink.state c.loop.sink) held c.loop.invariant (omega (arith, all)) c.in_err-reply_all-2.field-0.0
    c.in_err-reply_all-2.ensures)

pub returns-then-is_done-2 : goal.returns-then-is_done-2
returns-then-is_done-2 g c =
    let all : c.loop.counter ≡ c.args.reads = search rules in
    let source = g.R.Source.state c.args.source.now in
    let left = g.R.Source.state c.loop.source in
    let sink = g.W.Sink.state c.args.sink.now in
    let held = g.W.Sink.state c.reply_all-2.new.sink in
    answers_done c.loop.counter c.args.reads c.args.host.now c.reply_all-2.new.host source left sink held
    (begun_replied c.loop.counter c.args.host.now c.loop.host c.reply_all-2.new.host source left sink
    (g.W.Sink.state c.loop.sink) held c.loop.invariant c.in_ok-reply_all-2.ensures) (omega (arith, all))
    (sym c.is_done-2.ensures ∙ c.if-is_done-2.true)

pub returns : goal.returns
returns g c =
    let all : c.loop.counter ≡ c.args.reads = search rules in
    let source = g.R.Source.state c.args.source.now in
    let left = g.R.Source.state c.loop.source in
    let sink = g.W.Sink.state c.args.sink.now in
    let held = g.W.Sink.state c.reply_all-2.new.sink in
    answers_turns c.loop.counter c.args.reads c.args.host.now c.reply_all-2.new.host source left sink held
    (begun_replied c.loop.counter c.args.host.now c.loop.host c.reply_all-2.new.host source left sink
    (g.W.Sink.state c.loop.sink) held c.loop.invariant c.in_ok-reply_all-2.ensures) all
    (sym c.is_done-2.ensures ∙ c.if-is_done-2.false)
