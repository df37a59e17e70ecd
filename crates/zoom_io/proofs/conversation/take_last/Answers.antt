use Rattle.std.proofs.Common.{ap, Err}
use Rattle.zoom_io.proofs.conversation.take_last.Goals as goal

pub returns-in-Ok-clause-took : goal.returns-in-Ok-clause-took
returns-in-Ok-clause-took c = c.in-Ok.ensures.after tt

pub returns-in-Memory-clause-keeps : goal.returns-in-Memory-clause-keeps
returns-in-Memory-clause-keeps c = c.in-Err.ensures.memory (ap Err c.in-Memory.is)

pub returns-in_default : goal.returns-in_default
returns-in_default c = record {
  took = c.in-Err.ensures.after c.in_default.not-Memory;
  keeps = tt;
  others = c.take.ensures.others;
}
