use Rattle.zknow.proofs.TableTheory.TableMerges.{joins_none, joins_more, next_some}
use Rattle.zknow.proofs.tables.table.TableJoin.absorb.Goals as goal

pub loop-key-init : goal.loop-key-init
loop-key-init g c = rw (c.into_iter-key-iterator.ensures.into_iter_gives, c.iter-key-items.ensures.entries) (joins_none g.K.Ord.cmp g.J.Join.holds g.J.Join.is_lawful g.met.K.Ord.total g.met.K.Key.exact c.args.self.now c.args.other.now (rw c.iter-key-items.ensures.entries at c.iter-key-items.ensures.lawful))

pub absorb_at-requires : goal.absorb_at-requires
absorb_at-requires g c = next_some g.K.Ord.cmp g.J.Join.holds g.J.Join.is_lawful g.met.K.Ord.total g.met.K.Key.exact c.args.self.now c.args.other.now c.loop-key.self (c.in-Some.key.now, c.in-Some.value.now) _ _ c.in-Some.ensures.steps c.loop-key.invariant

pub loop-key-preserved : goal.loop-key-preserved
loop-key-preserved g c = joins_more g.K.Ord.cmp g.J.Join.holds g.J.Join.is_lawful g.met.K.Ord.total g.met.K.Key.exact c.args.self.now c.args.other.now c.loop-key.self (c.in-Some.key.now, c.in-Some.value.now) _ _ c.in-Some.ensures.steps c.loop-key.invariant c.absorb_at.new.self c.in_ok-absorb_at.ensures.ok
