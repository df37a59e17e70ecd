use Rattle.std.proofs.Common.{subst, sym}
use Rattle.zorigin.specs.Answers.{HaveValidRanges}
use Rattle.zorigin.proofs.Askable.{asks_removed}
use Rattle.zorigin.proofs.origin.Origin.remove_operation.Goals as goal

pub invariant_of-self : goal.invariant_of-self
invariant_of-self c = subst HaveValidRanges (sym c.shift_remove.ensures.entries) (asks_removed c.args.op c.self.inside.outstanding.entries c.self.invariant)
