use Rattle.std.proofs.Common.{ap, sym, subst, ◌∙◌, ◌<◌, true, false, Err}
use Rattle.std.proofs.lemmas.Result.{err_from_is_err_and}
use Rattle.zoom_io.specs.Talking.{AfterFinish}
use Rattle.zoom_io.proofs.Starving.{halts_unended}
use Rattle.zoom_io.proofs.Ending.{goes_ended, well_tells}
use Rattle.zoom_io.proofs.Others.{others_more, else_others}
use Rattle.zoom_io.proofs.conversation.finish.Goals as goal

pub returns-then-ended_well-clause-finishes : goal.returns-then-ended_well-clause-finishes
returns-then-ended_well-clause-finishes c = (
  goes_ended c.one_input.ensures c.args.c c.args.meta.now c.end.new.self c.take_last.new.meta
      c.end.ensures.after c.in_ok-take_last.ensures.took,
  well_tells c.one_transcript.ensures c.args.c c.take_last.new.meta c.state.result true
      (subst (λ n. c.args.c < n) (sym (c.take_last.ensures.others.size ∙ c.end.ensures.rest.size)) c.requires)
      c.state.ensures.state (sym c.ended_well.ensures ∙ c.if-ended_well.true),
)

pub returns-clause-finishes : goal.returns-clause-finishes
returns-clause-finishes c = (
  (
    c.take_last.new.meta,
    goes_ended c.one_input.ensures c.args.c c.args.meta.now c.end.new.self c.take_last.new.meta
        c.end.ensures.after c.in_ok-take_last.ensures.took,
    well_tells c.one_transcript.ensures c.args.c c.take_last.new.meta c.state.result false
        (subst (λ n. c.args.c < n) (sym (c.take_last.ensures.others.size ∙ c.end.ensures.rest.size)) c.requires)
        c.state.ensures.state (sym c.ended_well.ensures ∙ c.if-ended_well.false),
    c.stop.ensures.after,
  ),
  c.stop.ensures.stopped,
)

pub returns-in_err-take_last-clause-finishes : goal.returns-in_err-take_last-clause-finishes
returns-in_err-take_last-clause-finishes c =
    let p = err_from_is_err_and c.from_residual.result c.from_residual.ensures.1 in
    subst (λ z. AfterFinish c.args.c z c.args.meta.now c.take_last.new.meta) (sym (p.1 ∙ ap Err p.2))
    (halts_unended c.args.c c.args.meta.now c.end.new.self c.take_last.new.meta
    c.end.ensures.after c.in_err-take_last.ensures.keeps)

pub returns-then-ended_well-clause-others : goal.returns-then-ended_well-clause-others
returns-then-ended_well-clause-others c =
    others_more c.args.c c.args.meta.now.pool c.end.new.self.pool c.take_last.new.meta.pool
    (else_others c.args.c c.args.meta.now.pool c.end.new.self.pool c.end.ensures.rest) c.take_last.ensures.others

pub returns-in_err-take_last-clause-others : goal.returns-in_err-take_last-clause-others
returns-in_err-take_last-clause-others c =
    others_more c.args.c c.args.meta.now.pool c.end.new.self.pool c.take_last.new.meta.pool
    (else_others c.args.c c.args.meta.now.pool c.end.new.self.pool c.end.ensures.rest) c.take_last.ensures.others

pub returns-clause-others : goal.returns-clause-others
returns-clause-others c =
    others_more c.args.c c.args.meta.now.pool c.take_last.new.meta.pool c.stop.new.self.pool
    (others_more c.args.c c.args.meta.now.pool c.end.new.self.pool c.take_last.new.meta.pool
    (else_others c.args.c c.args.meta.now.pool c.end.new.self.pool c.end.ensures.rest) c.take_last.ensures.others)
    (else_others c.args.c c.take_last.new.meta.pool c.stop.new.self.pool c.stop.ensures.rest)
