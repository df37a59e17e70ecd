use Rattle.zoom_clock.proofs.TriedInOrder.{in_order}
use Rattle.zoom_clock.proofs.Outcomes.{begun_once, all_tried}
use Rattle.zoom_clock.proofs.Tries.{only_connecting}
use Rattle.zoom_clock.proofs.laws.attempt_laws.Goals as goal

pub returns : goal.returns
returns c = record {
  order = λ limits start wanted es had. in_order limits start wanted es had;
  once = λ limits start k wanted es. begun_once limits start wanted es k;
  all = λ limits start wanted es is. all_tried limits start wanted es is;
  only = λ p e k h. only_connecting p e k h;
}
