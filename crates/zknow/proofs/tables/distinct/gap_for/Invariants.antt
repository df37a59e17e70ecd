use Rattle.std.proofs.Common.{◌-◌}
use Rattle.zknow.proofs.TableTheory.Searches.{IsBetween}
use Rattle.zknow.proofs.tables.distinct.gap_for.Given as goal

abbrev pub invariant-loop-low : goal.invariant-loop-low
invariant-loop-low g l = IsBetween (λ x. g.T.Ranked.order x l.item) l.items l.low l.high

abbrev pub decreases-loop-low : goal.decreases-loop-low
decreases-loop-low g l = l.high - l.low
