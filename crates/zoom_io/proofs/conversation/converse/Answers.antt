use Rattle.std.proofs.Common.{◌≡◌, ◌∙◌, ◌<◌, ap, subst, sym, Bool, Err, arith, rules}
use Rattle.std.proofs.lemmas.Result.{err_from_is_err_and}
use Rattle.zoom_io.specs.TalkTraces.{Due}
use Rattle.zoom_io.specs.Talking.{AfterConverse}
use Rattle.zoom_io.proofs.Sending.{Begun, begun, BegunPartial, begun_partial}
use Rattle.zoom_devices.specs.Devices.{HasNoFailure}
use Rattle.zoom_io.specs.Blameless.{IfTalkMemory}
use Rattle.zoom_io.proofs.Blameless.{if_talk, push_to_talk, talk_memory, settled_soundly, ended_soundly}
use Rattle.zoom_io.proofs.Ending.{ends_over, waits_on, waits_whole, ends_unsettled, ends_at_limit, ends_unread, listened_on, listened_partial, ends_finished}
use Rattle.zoom_io.proofs.Others.{others_none, others_more, else_others}
use Rattle.zoom_io.proofs.conversation.converse.Goals as goal

pub loop-init : goal.loop-init
loop-init g c =
    let source = g.R.Source.state c.args.source.now in
    let sink = g.W.Sink.state c.args.sink.now in (
      begun c.args.c c.args.meta.now source sink,
      begun_partial c.args.c c.args.meta.now source sink,
      others_none c.args.c c.args.meta.now.pool,
    )

pub settle-requires : goal.settle-requires
settle-requires g c = subst (λ n. c.args.c < n) (sym c.loop.invariant.2.size) c.requires

pub returns-then-branch : goal.returns-then-branch
returns-then-branch g c =
    let few : c.loop.counter < c.args.turns = search rules in
    record {
      talks = ends_over c.args.c c.loop.counter c.args.turns c.args.meta.now c.loop.meta c.settle.new.meta
          (g.R.Source.state c.args.source.now) (g.R.Source.state c.loop.source) (g.W.Sink.state c.args.sink.now)
          (g.W.Sink.state c.loop.sink) (g.W.Sink.state c.settle.new.sink) (omega (arith, few)) c.loop.invariant.0
          c.loop.invariant.1 c.in_ok-settle.field-0 c.in_ok-settle.ensures.settles c.if-branch.true;
      no_failure = tt;
      others = others_more c.args.c c.args.meta.now.pool c.loop.meta.pool c.settle.new.meta.pool c.loop.invariant.2
          c.settle.ensures.others;
    }

pub returns-in_err-settle-clause-talks : goal.returns-in_err-settle-clause-talks
returns-in_err-settle-clause-talks g c =
    let few : c.loop.counter < c.args.turns = search rules in
    let p = err_from_is_err_and c.from_residual.result c.from_residual.ensures.1 in
    subst (λ z. AfterConverse c.args.c c.args.turns z c.args.meta.now c.settle.new.meta (g.R.Source.state c.args.source.now)
    (g.R.Source.state c.loop.source) (g.W.Sink.state c.args.sink.now) (g.W.Sink.state c.settle.new.sink))
    (sym (p.1 ∙ ap Err p.2))
    (ends_unsettled c.args.c c.loop.counter c.args.turns c.args.meta.now c.loop.meta c.settle.new.meta
    (g.R.Source.state c.args.source.now) (g.R.Source.state c.loop.source) (g.W.Sink.state c.args.sink.now)
    (g.W.Sink.state c.loop.sink) (g.W.Sink.state c.settle.new.sink) (omega (arith, few)) c.loop.invariant.0
    c.loop.invariant.1 c.in_err-settle.field-0.0 c.in_err-settle.ensures.settles c.in_err-settle.ensures.stopped)

pub returns-in_err-listen-clause-talks : goal.returns-in_err-listen-clause-talks
returns-in_err-listen-clause-talks g c =
    let few : c.loop.counter < c.args.turns = search rules in
    let p = err_from_is_err_and c.from_residual-in_err-listen.result c.from_residual-in_err-listen.ensures.1 in
    subst (λ z. AfterConverse c.args.c c.args.turns z c.args.meta.now c.listen.new.meta (g.R.Source.state c.args.source.now)
    (g.R.Source.state c.listen.new.source) (g.W.Sink.state c.args.sink.now) (g.W.Sink.state c.settle.new.sink))
    (sym (p.1 ∙ ap Err p.2))
    (ends_unread c.args.c c.loop.counter c.args.turns c.args.meta.now c.settle.new.meta c.listen.new.meta
    (g.R.Source.state c.args.source.now) (g.R.Source.state c.loop.source) (g.R.Source.state c.listen.new.source)
    (g.W.Sink.state c.args.sink.now) (g.W.Sink.state c.settle.new.sink) few
    (waits_on c.args.c c.loop.counter c.args.meta.now c.loop.meta c.settle.new.meta (g.R.Source.state c.args.source.now)
    (g.R.Source.state c.loop.source) (g.W.Sink.state c.args.sink.now) (g.W.Sink.state c.loop.sink)
    (g.W.Sink.state c.settle.new.sink) c.loop.invariant.0 c.in_ok-settle.field-0 c.in_ok-settle.ensures.settles
    c.if-branch.false)
    (waits_whole c.args.c c.loop.counter c.args.meta.now c.loop.meta c.settle.new.meta (g.R.Source.state c.args.source.now)
    (g.R.Source.state c.loop.source) (g.W.Sink.state c.args.sink.now) (g.W.Sink.state c.loop.sink)
    (g.W.Sink.state c.settle.new.sink) c.loop.invariant.1 c.in_ok-settle.field-0 c.in_ok-settle.ensures.settles
    c.if-branch.false) c.in_err-listen.field-0.0 c.in_err-listen.ensures.listens)

pub returns-then-not-branch-clause-talks : goal.returns-then-not-branch-clause-talks
returns-then-not-branch-clause-talks g c =
    let few : c.loop.counter < c.args.turns = search rules in
    ends_finished c.args.c c.loop.counter c.args.turns c.args.meta.now c.settle.new.meta c.listen.new.meta c.finish.new.meta
    (g.R.Source.state c.args.source.now) (g.R.Source.state c.loop.source) (g.R.Source.state c.listen.new.source)
    (g.W.Sink.state c.args.sink.now) (g.W.Sink.state c.settle.new.sink) few
    (waits_on c.args.c c.loop.counter c.args.meta.now c.loop.meta c.settle.new.meta (g.R.Source.state c.args.source.now)
    (g.R.Source.state c.loop.source) (g.W.Sink.state c.args.sink.now) (g.W.Sink.state c.loop.sink)
    (g.W.Sink.state c.settle.new.sink) c.loop.invariant.0 c.in_ok-settle.field-0 c.in_ok-settle.ensures.settles
    c.if-branch.false)
    (waits_whole c.args.c c.loop.counter c.args.meta.now c.loop.meta c.settle.new.meta (g.R.Source.state c.args.source.now)
    (g.R.Source.state c.loop.source) (g.W.Sink.state c.args.sink.now) (g.W.Sink.state c.loop.sink)
    (g.W.Sink.state c.settle.new.sink) c.loop.invariant.1 c.in_ok-settle.field-0 c.in_ok-settle.ensures.settles
    c.if-branch.false) c.in_ok-listen.field-0 c.in_ok-listen.ensures.listens c.if-not-branch.true c.finish.result
    c.finish.ensures.finishes

pub loop-preserved : goal.loop-preserved
loop-preserved g c = (
  listened_on c.args.c c.loop.counter c.args.meta.now c.settle.new.meta c.listen.new.meta
      (g.R.Source.state c.args.source.now) (g.R.Source.state c.loop.source) (g.R.Source.state c.listen.new.source)
      (g.W.Sink.state c.args.sink.now) (g.W.Sink.state c.settle.new.sink)
      (waits_on c.args.c c.loop.counter c.args.meta.now c.loop.meta c.settle.new.meta
      (g.R.Source.state c.args.source.now) (g.R.Source.state c.loop.source) (g.W.Sink.state c.args.sink.now)
      (g.W.Sink.state c.loop.sink) (g.W.Sink.state c.settle.new.sink) c.loop.invariant.0 c.in_ok-settle.field-0
      c.in_ok-settle.ensures.settles c.if-branch.false) c.in_ok-listen.field-0 c.in_ok-listen.ensures.listens
      c.if-not-branch.false,
  listened_partial c.args.c c.loop.counter c.args.meta.now c.settle.new.meta c.listen.new.meta
      (g.R.Source.state c.args.source.now) (g.R.Source.state c.loop.source) (g.R.Source.state c.listen.new.source)
      (g.W.Sink.state c.args.sink.now) (g.W.Sink.state c.settle.new.sink)
      (waits_whole c.args.c c.loop.counter c.args.meta.now c.loop.meta c.settle.new.meta
      (g.R.Source.state c.args.source.now) (g.R.Source.state c.loop.source) (g.W.Sink.state c.args.sink.now)
      (g.W.Sink.state c.loop.sink) (g.W.Sink.state c.settle.new.sink) c.loop.invariant.1 c.in_ok-settle.field-0
      c.in_ok-settle.ensures.settles c.if-branch.false) c.in_ok-listen.field-0 c.in_ok-listen.ensures.listens
      c.if-not-branch.false,
  others_more c.args.c c.args.meta.now.pool c.settle.new.meta.pool c.listen.new.meta.pool
      (others_more c.args.c c.args.meta.now.pool c.loop.meta.pool c.settle.new.meta.pool c.loop.invariant.2
      c.settle.ensures.others) c.listen.ensures.others,
)

pub returns-in_err-settle-2-clause-talks : goal.returns-in_err-settle-2-clause-talks
returns-in_err-settle-2-clause-talks g c =
    let all : c.loop.counter ≡ c.args.turns = search rules in
    let p = err_from_is_err_and c.from_residual-in_err-settle-2.result c.from_residual-in_err-settle-2.ensures.1 in
    subst (λ z. AfterConverse c.args.c c.args.turns z c.args.meta.now c.settle-2.new.meta (g.R.Source.state c.args.source.now)
    (g.R.Source.state c.loop.source) (g.W.Sink.state c.args.sink.now) (g.W.Sink.state c.settle-2.new.sink))
    (sym (p.1 ∙ ap Err p.2))
    (ends_unsettled c.args.c c.loop.counter c.args.turns c.args.meta.now c.loop.meta c.settle-2.new.meta
    (g.R.Source.state c.args.source.now) (g.R.Source.state c.loop.source) (g.W.Sink.state c.args.sink.now)
    (g.W.Sink.state c.loop.sink) (g.W.Sink.state c.settle-2.new.sink) (omega (arith, all)) c.loop.invariant.0
    c.loop.invariant.1 c.in_err-settle-2.field-0.0 c.in_err-settle-2.ensures.settles c.in_err-settle-2.ensures.stopped)

pub returns-then-branch-2-clause-talks : goal.returns-then-branch-2-clause-talks
returns-then-branch-2-clause-talks g c =
    let all : c.loop.counter ≡ c.args.turns = search rules in
    ends_over c.args.c c.loop.counter c.args.turns c.args.meta.now c.loop.meta c.settle-2.new.meta
    (g.R.Source.state c.args.source.now) (g.R.Source.state c.loop.source) (g.W.Sink.state c.args.sink.now)
    (g.W.Sink.state c.loop.sink) (g.W.Sink.state c.settle-2.new.sink) (omega (arith, all)) c.loop.invariant.0
    c.loop.invariant.1 c.in_ok-settle-2.field-0 c.in_ok-settle-2.ensures.settles c.if-branch-2.true

pub returns-clause-talks : goal.returns-clause-talks
returns-clause-talks g c =
    let all : c.loop.counter ≡ c.args.turns = search rules in
    ends_at_limit c.args.c c.args.turns c.args.meta.now c.settle-2.new.meta c.stop.new.self
    (g.R.Source.state c.args.source.now) (g.R.Source.state c.loop.source) (g.W.Sink.state c.args.sink.now)
    (g.W.Sink.state c.settle-2.new.sink)
    (waits_on c.args.c c.args.turns c.args.meta.now c.loop.meta c.settle-2.new.meta (g.R.Source.state c.args.source.now)
    (g.R.Source.state c.loop.source) (g.W.Sink.state c.args.sink.now) (g.W.Sink.state c.loop.sink)
    (g.W.Sink.state c.settle-2.new.sink)
    (subst (λ n. Begun c.args.c n Due c.args.meta.now c.loop.meta (g.R.Source.state c.args.source.now)
    (g.R.Source.state c.loop.source) (g.W.Sink.state c.args.sink.now) (g.W.Sink.state c.loop.sink)) all
    c.loop.invariant.0) c.in_ok-settle-2.field-0
    c.in_ok-settle-2.ensures.settles c.if-branch-2.false)
    (waits_whole c.args.c c.args.turns c.args.meta.now c.loop.meta c.settle-2.new.meta (g.R.Source.state c.args.source.now)
    (g.R.Source.state c.loop.source) (g.W.Sink.state c.args.sink.now) (g.W.Sink.state c.loop.sink)
    (g.W.Sink.state c.settle-2.new.sink)
    (subst (λ n. BegunPartial c.args.c n c.args.meta.now c.loop.meta (g.R.Source.state c.args.source.now)
    (g.R.Source.state c.loop.source) (g.W.Sink.state c.args.sink.now) (g.W.Sink.state c.loop.sink)) all
    c.loop.invariant.1) c.in_ok-settle-2.field-0
    c.in_ok-settle-2.ensures.settles c.if-branch-2.false) c.stop.ensures.after c.stop.ensures.stopped

pub returns-in_err-settle-clause-others : goal.returns-in_err-settle-clause-others
returns-in_err-settle-clause-others g c =
    others_more c.args.c c.args.meta.now.pool c.loop.meta.pool c.settle.new.meta.pool c.loop.invariant.2
    c.settle.ensures.others

pub returns-in_err-listen-clause-others : goal.returns-in_err-listen-clause-others
returns-in_err-listen-clause-others g c =
    others_more c.args.c c.args.meta.now.pool c.settle.new.meta.pool c.listen.new.meta.pool
    (others_more c.args.c c.args.meta.now.pool c.loop.meta.pool c.settle.new.meta.pool c.loop.invariant.2
    c.settle.ensures.others) c.listen.ensures.others

pub returns-then-not-branch-clause-others : goal.returns-then-not-branch-clause-others
returns-then-not-branch-clause-others g c =
    others_more c.args.c c.args.meta.now.pool c.listen.new.meta.pool c.finish.new.meta.pool
    (others_more c.args.c c.args.meta.now.pool c.settle.new.meta.pool c.listen.new.meta.pool
    (others_more c.args.c c.args.meta.now.pool c.loop.meta.pool c.settle.new.meta.pool c.loop.invariant.2
    c.settle.ensures.others) c.listen.ensures.others) c.finish.ensures.others

pub returns-in_err-settle-2-clause-others : goal.returns-in_err-settle-2-clause-others
returns-in_err-settle-2-clause-others g c =
    others_more c.args.c c.args.meta.now.pool c.loop.meta.pool c.settle-2.new.meta.pool c.loop.invariant.2
    c.settle-2.ensures.others

pub returns-then-branch-2-clause-others : goal.returns-then-branch-2-clause-others
returns-then-branch-2-clause-others g c =
    others_more c.args.c c.args.meta.now.pool c.loop.meta.pool c.settle-2.new.meta.pool c.loop.invariant.2
    c.settle-2.ensures.others

pub returns-clause-others : goal.returns-clause-others
returns-clause-others g c =
    others_more c.args.c c.args.meta.now.pool c.settle-2.new.meta.pool c.stop.new.self.pool
    (others_more c.args.c c.args.meta.now.pool c.loop.meta.pool c.settle-2.new.meta.pool c.loop.invariant.2
    c.settle-2.ensures.others)
    (else_others c.args.c c.settle-2.new.meta.pool c.stop.new.self.pool c.stop.ensures.rest)

pub returns-in_err-settle-clause-no_failure : goal.returns-in_err-settle-clause-no_failure
returns-in_err-settle-clause-no_failure g c =
    let p = err_from_is_err_and c.from_residual.result c.from_residual.ensures.1 in
    let b = c.loop.invariant.0 in
    subst (λ z. IfTalkMemory z (HasNoFailure (g.R.Source.state c.args.source.now) (g.R.Source.state c.loop.source)
    × HasNoFailure (g.W.Sink.state c.args.sink.now) (g.W.Sink.state c.settle.new.sink))) (sym (p.1 ∙ ap Err p.2))
    (push_to_talk Bool (Unit {0}) c.in_err-settle.field-0.0 (λ f. (b.reader, f ∙ b.writer)) c.in_err-settle.ensures.no_failure)

pub returns-in_err-listen-clause-no_failure : goal.returns-in_err-listen-clause-no_failure
returns-in_err-listen-clause-no_failure g c =
    let p = err_from_is_err_and c.from_residual-in_err-listen.result c.from_residual-in_err-listen.ensures.1 in
    let b = c.loop.invariant.0 in
    let sink = g.W.Sink.state c.loop.sink in
    let held = g.W.Sink.state c.settle.new.sink in
    let written = settled_soundly c.args.c c.in_ok-settle.field-0 c.loop.meta c.settle.new.meta sink held
    c.in_ok-settle.ensures.settles in
    subst (λ z. IfTalkMemory z (HasNoFailure (g.R.Source.state c.args.source.now) (g.R.Source.state c.listen.new.source)
    × HasNoFailure (g.W.Sink.state c.args.sink.now) held)) (sym (p.1 ∙ ap Err p.2))
    (talk_memory Bool (Unit {0}) c.in_err-listen.field-0.0 (λ f. (f ∙ b.reader, written ∙ b.writer)) c.in_err-listen.ensures.no_failure)

pub returns-then-not-branch-clause-no_failure : goal.returns-then-not-branch-clause-no_failure
returns-then-not-branch-clause-no_failure g c =
    let b = c.loop.invariant.0 in
    let sink = g.W.Sink.state c.loop.sink in
    let held = g.W.Sink.state c.settle.new.sink in
    let written = settled_soundly c.args.c c.in_ok-settle.field-0 c.loop.meta c.settle.new.meta sink held
    c.in_ok-settle.ensures.settles in
    let read = ended_soundly c.args.c c.in_ok-listen.field-0 c.settle.new.meta c.listen.new.meta
    (g.R.Source.state c.loop.source) (g.R.Source.state c.listen.new.source) c.in_ok-listen.ensures.listens
    c.if-not-branch.true in
    if_talk c.finish.result (read ∙ b.reader, written ∙ b.writer)

pub returns-in_err-settle-2-clause-no_failure : goal.returns-in_err-settle-2-clause-no_failure
returns-in_err-settle-2-clause-no_failure g c =
    let p = err_from_is_err_and c.from_residual-in_err-settle-2.result c.from_residual-in_err-settle-2.ensures.1 in
    let b = c.loop.invariant.0 in
    subst (λ z. IfTalkMemory z (HasNoFailure (g.R.Source.state c.args.source.now) (g.R.Source.state c.loop.source)
    × HasNoFailure (g.W.Sink.state c.args.sink.now) (g.W.Sink.state c.settle-2.new.sink))) (sym (p.1 ∙ ap Err p.2))
    (push_to_talk Bool (Unit {0}) c.in_err-settle-2.field-0.0 (λ f. (b.reader, f ∙ b.writer)) c.in_err-settle-2.ensures.no_failure)
