use Rattle.zknow_merge.specs.Sources.{AreSame}
use Rattle.zknow_merge.proofs.choice.first_other.Given as goal

abbrev pub invariant-loop-k : goal.invariant-loop-k
invariant-loop-k l = AreSame l.sources l.k
