use Rattle.std.proofs.Common.{false, Ok, Err, refl, sym}
use Rattle.zoom_sim.proofs.RunSilentSteps.{took_goes}
use Rattle.zoom_sim.proofs.RunTakes.{takes_at}
use Rattle.zoom_sim.proofs.RunMoves.{took_driven}
use Rattle.zoom_sim.proofs.drives.take_one.Goals as goal

pub returns-in-Ok-clause-silent : goal.returns-in-Ok-clause-silent
returns-in-Ok-clause-silent c =
    took_goes c.args.c c.args.meta.now c.take.new.self (c.in-Ok.ensures.after tt)

pub returns-in-Ok-clause-at : goal.returns-in-Ok-clause-at
returns-in-Ok-clause-at c =
    takes_at c.one_transcript.ensures c.args.c c.args.meta.now c.take.new.self (Ok c.in-Ok.step)
    c.is_message.result c.requires c.in-Ok.ensures.returned tt (c.in-Ok.ensures.after tt) (sym c.is_message.ensures)

pub returns-in_default : goal.returns-in_default
returns-in_default c = record {
  silent = took_goes c.args.c c.args.meta.now c.take.new.self
      (c.in-Err.ensures.after c.in_default.not-Memory);
  at = takes_at c.one_transcript.ensures c.args.c c.args.meta.now c.take.new.self (Err c.in-Err.error)
      false c.requires c.in-Err.ensures.returned c.in_default.not-Memory
      (c.in-Err.ensures.after c.in_default.not-Memory) refl;
  own = took_driven c.args.c c.args.meta.now c.take.new.self
      (c.in-Err.ensures.after c.in_default.not-Memory);
  size = c.take.ensures.others.size;
}

pub returns-in-Ok-clause-own : goal.returns-in-Ok-clause-own
returns-in-Ok-clause-own c =
    took_driven c.args.c c.args.meta.now c.take.new.self (c.in-Ok.ensures.after tt)
