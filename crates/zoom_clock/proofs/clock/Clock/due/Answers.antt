use Rattle.std.proofs.Common.{◌<◌, ◌^◌, arith}
use Rattle.zoom_clock.proofs.Keeping.{none_due, if_none}
use Rattle.zoom_clock.proofs.clock.Clock.due.Goals as goal

pub returns-clause-none : goal.returns-clause-none
returns-clause-none c =
    let k = c.args.self.now in
    let fits : k.passed < 2 ^ 64 = omega arith in
    if_none c.first_due.result (λ none. none_due k fits none) c.first_due.ensures.none
