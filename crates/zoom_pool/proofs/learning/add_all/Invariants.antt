use Rattle.std.proofs.Common.{take}
use Rattle.std.specs.Prelude.{Contains}
use Rattle.zknow.specs.Tables.Join.{IsUnion}
use Rattle.zoom_pool.proofs.learning.add_all.Given as goal

abbrev pub invariant-loop-fact : goal.invariant-loop-fact
invariant-loop-fact l = IsUnion (Contains l.fn.knowledge) (Contains (take l.fact-index l.facts)) (Contains l.knowledge)
