use Rattle.std.proofs.Common.{◌<◌, true, sym, subst}
use Rattle.zoom_clock.specs.declared.course.Course.{Course}
use Rattle.zoom_clock.specs.declared.stage.Stage.TheVariants.{Resolving, Connecting, Talking}
use Rattle.zoom_clock.specs.Stages.{talk_end}
use Rattle.zoom_clock.proofs.Histories.{ahead_at}
use Rattle.zoom_clock.proofs.Endings.{told_at}
use Rattle.zoom_clock.proofs.Lasts.{live_at}
use Rattle.zoom_clock.proofs.laws.late_laws.Goals as goal

pub returns : goal.returns
returns c = record {
  connecting = λ limits start now wanted es a h. (ahead_at limits true start wanted now es (Connecting a) h).0;
  resolving = λ limits start now wanted es h. ahead_at limits true start wanted now es Resolving h;
  began = λ limits start wanted es a h. (told_at limits start wanted es (Connecting a) h).resolved;
  next = λ limits start now wanted es a top h. (ahead_at limits true start wanted now es (Connecting a) h).1 top;
  talking = λ limits start now wanted es t p same h.
      subst (λ (q : Course). now < talk_end limits start q.wanted t) (sym same)
      (ahead_at limits true start wanted now es (Talking t) h);
  last = λ limits start wanted es a h next. live_at limits start wanted es a h next;
}
