use Rattle.std.proofs.Common.{inr}
use Rattle.zknow.proofs.TableTheory.Unions.{OnOk_map}
use Rattle.zknow.proofs.TableTheory.Changes.{lent_change, put_change, kept_item, part_at, union_at, lawful_at}
use Rattle.zknow.proofs.tables.table.Table.absorb_at.Goals as goal

pub invariant_of-self : goal.invariant_of-self
invariant_of-self g c =
    let change = lent_change g.K.Ord.cmp g.J.Join.holds c.self.inside.map (c.get_mut.follows.lender c.absorb-absorbed.new.self) c.args.key c.absorb-absorbed.new.self (g.J.Join.holds c.args.other.now) c.in-Some.value.now c.in-Some.ensures.value (c.get_mut.follows.holds c.absorb-absorbed.new.self) c.absorb-absorbed.ensures.part in
    lawful_at g.K.Ord.cmp g.J.Join.holds g.met.K.Ord.total g.met.K.Key.exact _ _ c.args.key c.absorb-absorbed.new.self (g.J.Join.holds c.args.other.now) change g.J.Join.is_lawful c.self.invariant c.lawful.ensures
    (kept_item g.K.Ord.cmp g.J.Join.holds g.J.Join.is_lawful c.self.inside.map c.args.key c.in-Some.value.now c.absorb-absorbed.new.self (g.J.Join.holds c.args.other.now) c.self.invariant c.in-Some.ensures.value c.absorb-absorbed.ensures.part)

pub returns-in-Some-clause-ok : goal.returns-in-Some-clause-ok
returns-in-Some-clause-ok g c =
    let change = lent_change g.K.Ord.cmp g.J.Join.holds c.self.inside.map (c.get_mut.follows.lender c.absorb-absorbed.new.self) c.args.key c.absorb-absorbed.new.self (g.J.Join.holds c.args.other.now) c.in-Some.value.now c.in-Some.ensures.value (c.get_mut.follows.holds c.absorb-absorbed.new.self) c.absorb-absorbed.ensures.part in
    rw (← c.self.view_is) (OnOk_map c.absorb-absorbed.result _ _
    (λ union. union_at g.K.Ord.cmp g.J.Join.holds g.met.K.Ord.total g.met.K.Key.exact _ _ c.args.key c.absorb-absorbed.new.self (g.J.Join.holds c.args.other.now) change (λ i m. (union i).1 (inr m)))
    c.absorb-absorbed.ensures.ok)

pub returns-in-Some-clause-part : goal.returns-in-Some-clause-part
returns-in-Some-clause-part g c =
    let change = lent_change g.K.Ord.cmp g.J.Join.holds c.self.inside.map (c.get_mut.follows.lender c.absorb-absorbed.new.self) c.args.key c.absorb-absorbed.new.self (g.J.Join.holds c.args.other.now) c.in-Some.value.now c.in-Some.ensures.value (c.get_mut.follows.holds c.absorb-absorbed.new.self) c.absorb-absorbed.ensures.part in
    rw (← c.self.view_is) (part_at g.K.Ord.cmp g.J.Join.holds g.met.K.Ord.total g.met.K.Key.exact _ _ c.args.key c.absorb-absorbed.new.self (g.J.Join.holds c.args.other.now) change)

pub invariant_of-self-2 : goal.invariant_of-self-2
invariant_of-self-2 g c =
    let change = put_change g.K.Ord.cmp g.J.Join.holds c.self.inside.map c.insert.new.self c.args.key c.absorb.new.self (g.J.Join.holds c.args.other.now) c.empty-fresh.result c.in_default.ensures.value (rw c.get_mut.follows.holds-at-none at c.in_ok-insert.ensures.updates) c.in_ok-insert.ensures.ordered c.empty-fresh.ensures c.absorb.ensures.part in
    lawful_at g.K.Ord.cmp g.J.Join.holds g.met.K.Ord.total g.met.K.Key.exact _ _ c.args.key c.absorb.new.self (g.J.Join.holds c.args.other.now) change g.J.Join.is_lawful c.self.invariant c.lawful-2.ensures
    (c.requires.0, (c.in_ok-absorb.ensures.ok c.requires.0).1 (inr c.requires.1))

pub returns-clause-ok : goal.returns-clause-ok
returns-clause-ok g c =
    let change = put_change g.K.Ord.cmp g.J.Join.holds c.self.inside.map c.insert.new.self c.args.key c.absorb.new.self (g.J.Join.holds c.args.other.now) c.empty-fresh.result c.in_default.ensures.value (rw c.get_mut.follows.holds-at-none at c.in_ok-insert.ensures.updates) c.in_ok-insert.ensures.ordered c.empty-fresh.ensures c.absorb.ensures.part in
    rw (← c.self.view_is)
    (union_at g.K.Ord.cmp g.J.Join.holds g.met.K.Ord.total g.met.K.Key.exact _ _ c.args.key c.absorb.new.self (g.J.Join.holds c.args.other.now) change (λ i m. (c.in_ok-absorb.ensures.ok i).1 (inr m)))

pub returns-clause-part : goal.returns-clause-part
returns-clause-part g c =
    let change = put_change g.K.Ord.cmp g.J.Join.holds c.self.inside.map c.insert.new.self c.args.key c.absorb.new.self (g.J.Join.holds c.args.other.now) c.empty-fresh.result c.in_default.ensures.value (rw c.get_mut.follows.holds-at-none at c.in_ok-insert.ensures.updates) c.in_ok-insert.ensures.ordered c.empty-fresh.ensures c.absorb.ensures.part in
    rw (← c.self.view_is) (part_at g.K.Ord.cmp g.J.Join.holds g.met.K.Ord.total g.met.K.Key.exact _ _ c.args.key c.absorb.new.self (g.J.Join.holds c.args.other.now) change)
