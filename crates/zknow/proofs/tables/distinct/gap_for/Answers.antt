use Rattle.std.proofs.Common.{sym, ◌∙◌}
use Rattle.zknow.proofs.TableTheory.Searches.{rises_sorted, up_from, down_to}
use Rattle.zknow.proofs.tables.distinct.gap_for.Goals as goal

pub loop-low-preserved-in-Less : goal.loop-low-preserved-in-Less
loop-low-preserved-in-Less g c = up_from _ c.args.items.now (rises_sorted g.T.Ranked.order g.met.T.Ranked.total c.args.items.now c.args.item.now c.requires.distinct.ordered)
    c.loop-low.low c.loop-low.high _ c.index-items-middle.result c.next_place-middle.ensures.from c.next_place-middle.ensures.to c.index-items-middle.is c.loop-low.invariant (sym c.in_ok-compare.ensures.order ∙ c.in-Less.is)

pub loop-low-preserved : goal.loop-low-preserved
loop-low-preserved g c = down_to _ c.args.items.now (rises_sorted g.T.Ranked.order g.met.T.Ranked.total c.args.items.now c.args.item.now c.requires.distinct.ordered)
    c.loop-low.low c.loop-low.high _ c.index-items-middle.result c.next_place-middle.ensures.from c.next_place-middle.ensures.to c.index-items-middle.is c.loop-low.invariant (sym c.in_ok-compare.ensures.order ∙ c.in-Greater.is)
