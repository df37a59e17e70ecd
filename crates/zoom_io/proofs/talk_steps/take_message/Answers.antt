use Rattle.std.proofs.Common.{ap, sym, subst, Err}
use Rattle.zoom_io.specs.TalkSteps.{AfterTakeMessage}
use Rattle.zoom_io.proofs.Taking.{taken_step, taken_refusal}
use Rattle.zoom_io.proofs.Starving.{halts_untaken}
use Rattle.zoom_io.proofs.talk_steps.take_message.Goals as goal

pub returns-in-Ok-clause-after : goal.returns-in-Ok-clause-after
returns-in-Ok-clause-after c =
    subst (λ z. AfterTakeMessage c.args.c z c.args.meta.now c.take.new.self) (sym c.receipt_of.ensures)
    (taken_step c.one_transcript.ensures c.one_input.ensures c.args.c c.args.meta.now c.take.new.self
    c.requires c.in-Ok.step c.in-Ok.ensures.returned (c.in-Ok.ensures.after tt))

pub returns-in_default : goal.returns-in_default
returns-in_default c = record {
  after = taken_refusal c.one_transcript.ensures c.one_input.ensures c.args.c c.args.meta.now
      c.take.new.self c.requires c.in-Err.error c.in_default.not-Memory c.in-Err.ensures.returned
      (c.in-Err.ensures.after c.in_default.not-Memory);
  err = tt;
  others = c.take.ensures.others;
}

pub returns-in-Memory-clause-err : goal.returns-in-Memory-clause-err
returns-in-Memory-clause-err c =
    halts_untaken c.args.c c.args.meta.now c.take.new.self
    (c.in-Err.ensures.memory (ap Err c.in-Memory.is))
