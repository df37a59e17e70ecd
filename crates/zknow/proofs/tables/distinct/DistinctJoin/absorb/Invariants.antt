use Rattle.std.proofs.Common.{drop}
use Rattle.zknow.proofs.TableTheory.Distincts.{JoinsList}
use Rattle.zknow.proofs.tables.distinct.DistinctJoin.absorb.Given as goal

abbrev pub invariant-loop-item : goal.invariant-loop-item
invariant-loop-item g l = JoinsList g.T.Ranked.is_valid l.fn.self l.other l.self (drop l.item-index l.item-items)
