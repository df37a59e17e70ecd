use Rattle.zoom_clock.specs.declared.signal.Ending.TheVariants as endings
use Rattle.zoom_clock.specs.declared.stage.Stage.TheVariants.{Talking, Over}
use Rattle.zoom_clock.proofs.Endings.{told_at}
use Rattle.zoom_clock.proofs.laws.early_laws.Goals as goal

pub returns : goal.returns
returns c = record {
  connect = λ limits start wanted es h. told_at limits start wanted es (Over endings.Connect) h;
  read = λ limits start wanted es top h. told_at limits start wanted es (Over endings.Read) h top;
  write = λ limits start wanted es h. told_at limits start wanted es (Over endings.Write) h;
  turns = λ limits start wanted es h. told_at limits start wanted es (Over endings.Turns) h;
  input = λ limits start wanted es h. told_at limits start wanted es (Over endings.InputEnded) h;
  finished = λ limits start wanted es h. told_at limits start wanted es (Over endings.Finished) h;
  silent = λ limits start wanted es t h. (told_at limits start wanted es (Talking t) h).silent;
}
