use Rattle.std.proofs.Common.{List, ℕ, subst, sym}
use Rattle.zoom_asking.specs.Steps.{IsExtended, IsReceived}
use Rattle.zoom_asking.proofs.Taking.{taken_step, taken_refusal}
use Rattle.zoom_asking.proofs.talk.take.Goals as goal

pub returns-in-Ok-clause-received : goal.returns-in-Ok-clause-received
returns-in-Ok-clause-received c =
    subst (λ r. (waits : List ℕ) → IsExtended c.args.c (IsReceived r) c.args.meta.now c.take.new.self waits waits)
    (sym c.receipt_of.ensures)
    (taken_step c.one_transcript.ensures c.args.c c.args.meta.now c.take.new.self c.in-Ok.step c.requires
    c.in-Ok.ensures.returned (c.in-Ok.ensures.after tt))

pub returns-in_default : goal.returns-in_default
returns-in_default c = record {
  received = taken_refusal c.one_transcript.ensures c.args.c c.args.meta.now c.take.new.self c.in-Err.error c.requires
      c.in_default.not-Memory c.in-Err.ensures.returned (c.in-Err.ensures.after c.in_default.not-Memory);
  size = c.take.ensures.others.size;
}
