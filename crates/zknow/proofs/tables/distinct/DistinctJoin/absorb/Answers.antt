use Rattle.std.proofs.lemmas.List.{drop_more, drop_all}
use Rattle.zknow.proofs.TableTheory.Distincts.{joins_part, joins_more, joins_all}
use Rattle.zknow.proofs.tables.distinct.DistinctJoin.absorb.Goals as goal

pub loop-item-preserved : goal.loop-item-preserved
loop-item-preserved g c = joins_more g.T.Ranked.is_valid c.args.self.now c.args.other.now c.loop-item.self _ c.loop-item.invariant c.item-item.result _
    (rw (← c.item-item.is) at (drop_more c.deref-item-items.result.now c.loop-item.item-index c.item-item.result c.loop-item-test.true)) c.add.new.self c.in_ok-add.ensures.ok

pub returns-in_err-add-clause-part : goal.returns-in_err-add-clause-part
returns-in_err-add-clause-part g c = joins_part g.T.Ranked.is_valid c.args.self.now c.args.other.now c.loop-item.self _ c.loop-item.invariant c.item-item.result _
    (rw (← c.item-item.is) at (drop_more c.deref-item-items.result.now c.loop-item.item-index c.item-item.result c.loop-item-test.true)) c.add.new.self c.add.ensures.part

pub returns-clause-ok : goal.returns-clause-ok
returns-clause-ok g c = joins_all g.T.Ranked.is_valid c.args.self.now c.args.other.now c.loop-item.self _ c.loop-item.invariant (drop_all c.loop-item.item-index c.deref-item-items.result.now c.loop-item-test.false)
