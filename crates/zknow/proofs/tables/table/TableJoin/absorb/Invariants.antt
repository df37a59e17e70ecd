use Rattle.zknow.proofs.TableTheory.TableMerges.{JoinsTable}
use Rattle.zknow.proofs.tables.table.TableJoin.absorb.Given as goal

abbrev pub invariant-loop-key : goal.invariant-loop-key
invariant-loop-key g l = JoinsTable g.K.Ord.cmp g.J.Join.holds g.J.Join.is_lawful l.fn.self l.other l.self l.key-iterator
