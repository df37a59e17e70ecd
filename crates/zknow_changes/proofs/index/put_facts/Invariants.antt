use Rattle.std.proofs.Common.{take}
use Rattle.zknow_changes.specs.Indexes.{AreIndexed}
use Rattle.zknow_changes.proofs.index.put_facts.Given as goal

abbrev pub invariant-loop-fact : goal.invariant-loop-fact
invariant-loop-fact l = AreIndexed l.names (take l.fact-index l.facts) l.index
