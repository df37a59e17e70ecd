use Rattle.std.proofs.Common.{◌<◌, List, length, subst, arith}
use Rattle.zoom_clock.specs.declared.course.Course.{Course}
use Rattle.zoom_clock.specs.Turns.{IsFirstOpen}
use Rattle.zoom_clock.proofs.Choices.{comes_not}
use Rattle.zoom_clock.proofs.Turning.{open_found}
use Rattle.zoom_clock.proofs.clock.Clock.is_over.Goals as goal

pub returns-clause-some : goal.returns-clause-some
returns-clause-some c is =
    let k = c.args.self.now in
    let less : c.first_open.result < c.len.result = comes_not c.len.result c.first_open.result is in
    let lt : c.first_open.result < length k.courses.items =
    let l = c.len.ensures in let n = k.courses.ok.0 in let t = less in omega arith in
    open_found k.courses.items k.turn c.first_open.result
    (subst (λ (l : List Course). IsFirstOpen l k.turn c.first_open.result) c.deref.ensures.value c.first_open.ensures) lt
