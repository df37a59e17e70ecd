use Rattle.std.proofs.Common.{ap, ◌∙◌}
use Rattle.std.specs.List.{insert}
use Rattle.zknow.proofs.TableTheory.Distincts.{distinct_insert, insert_union}
use Rattle.zknow.proofs.TableTheory.Unions.{part_from_union}
use Rattle.zknow.proofs.tables.distinct.DistinctJoin.add.Goals as goal

-- the copy stands in its gap
pub invariant_of-self : goal.invariant_of-self
invariant_of-self g c =
    let items = c.in_ok-put_at.ensures.ok ∙ ap (λ y. insert c.self.inside.items.items c.in-Some.gap y) c.in_ok-copy.ensures in
    let gap = rw (c.in-Some.is, c.deref.ensures.value) at c.in_ok-gap.ensures in
    rw items (distinct_insert g.T.Ranked.order g.met.T.Ranked.total g.T.Ranked.is_valid _ _ _ c.self.invariant c.requires gap)

pub returns-in_ok-put_at-clause-ok : goal.returns-in_ok-put_at-clause-ok
returns-in_ok-put_at-clause-ok g c =
    let items = c.in_ok-put_at.ensures.ok ∙ ap (λ y. insert c.self.inside.items.items c.in-Some.gap y) c.in_ok-copy.ensures in
    rw (items, ← c.self.view_is) (insert_union c.self.inside.items.items c.in-Some.gap c.args.item.now)

pub returns-in_ok-put_at-clause-part : goal.returns-in_ok-put_at-clause-part
returns-in_ok-put_at-clause-part g c =
    let items = c.in_ok-put_at.ensures.ok ∙ ap (λ y. insert c.self.inside.items.items c.in-Some.gap y) c.in_ok-copy.ensures in
    rw (items, ← c.self.view_is) (part_from_union _ _ _ (insert_union c.self.inside.items.items c.in-Some.gap c.args.item.now))
