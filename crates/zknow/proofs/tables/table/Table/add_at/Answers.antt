use Rattle.std.proofs.Common.{◌≡◌, refl, inr}
use Rattle.zknow.proofs.TableTheory.Unions.{OnOk_map}
use Rattle.zknow.proofs.TableTheory.Changes.{lent_change, put_change, kept_item, part_at, union_at, lawful_at}
use Rattle.zknow.proofs.tables.table.Table.add_at.Goals as goal

pub invariant_of-self : goal.invariant_of-self
invariant_of-self g c =
    let change = lent_change g.K.Ord.cmp g.J.Join.holds c.self.inside.map (c.get_mut.follows.lender c.add-added.new.self) c.args.key c.add-added.new.self (λ x. x ≡ c.args.item.now) c.in-Some.value.now c.in-Some.ensures.value (c.get_mut.follows.holds c.add-added.new.self) c.add-added.ensures.part in
    lawful_at g.K.Ord.cmp g.J.Join.holds g.met.K.Ord.total g.met.K.Key.exact _ _ c.args.key c.add-added.new.self (λ x. x ≡ c.args.item.now) change g.J.Join.is_lawful c.self.invariant c.lawful.ensures
    (kept_item g.K.Ord.cmp g.J.Join.holds g.J.Join.is_lawful c.self.inside.map c.args.key c.in-Some.value.now c.add-added.new.self (λ x. x ≡ c.args.item.now) c.self.invariant c.in-Some.ensures.value c.add-added.ensures.part)

pub returns-in-Some-clause-ok : goal.returns-in-Some-clause-ok
returns-in-Some-clause-ok g c =
    let change = lent_change g.K.Ord.cmp g.J.Join.holds c.self.inside.map (c.get_mut.follows.lender c.add-added.new.self) c.args.key c.add-added.new.self (λ x. x ≡ c.args.item.now) c.in-Some.value.now c.in-Some.ensures.value (c.get_mut.follows.holds c.add-added.new.self) c.add-added.ensures.part in
    rw (← c.self.view_is) (OnOk_map c.add-added.result _ _
    (λ union. union_at g.K.Ord.cmp g.J.Join.holds g.met.K.Ord.total g.met.K.Key.exact _ _ c.args.key c.add-added.new.self (λ x. x ≡ c.args.item.now) change (λ i m. (union i).1 (inr m)))
    c.add-added.ensures.ok)

pub returns-in-Some-clause-part : goal.returns-in-Some-clause-part
returns-in-Some-clause-part g c =
    let change = lent_change g.K.Ord.cmp g.J.Join.holds c.self.inside.map (c.get_mut.follows.lender c.add-added.new.self) c.args.key c.add-added.new.self (λ x. x ≡ c.args.item.now) c.in-Some.value.now c.in-Some.ensures.value (c.get_mut.follows.holds c.add-added.new.self) c.add-added.ensures.part in
    rw (← c.self.view_is) (part_at g.K.Ord.cmp g.J.Join.holds g.met.K.Ord.total g.met.K.Key.exact _ _ c.args.key c.add-added.new.self (λ x. x ≡ c.args.item.now) change)

pub invariant_of-self-2 : goal.invariant_of-self-2
invariant_of-self-2 g c =
    let change = put_change g.K.Ord.cmp g.J.Join.holds c.self.inside.map c.insert.new.self c.args.key c.add.new.self (λ x. x ≡ c.args.item.now) c.empty-fresh.result c.in_default.ensures.value (rw c.get_mut.follows.holds-at-none at c.in_ok-insert.ensures.updates) c.in_ok-insert.ensures.ordered c.empty-fresh.ensures c.add.ensures.part in
    lawful_at g.K.Ord.cmp g.J.Join.holds g.met.K.Ord.total g.met.K.Key.exact _ _ c.args.key c.add.new.self (λ x. x ≡ c.args.item.now) change g.J.Join.is_lawful c.self.invariant c.lawful-2.ensures
    (c.args.item.now, (c.in_ok-add.ensures.ok c.args.item.now).1 (inr refl))

pub returns-clause-ok : goal.returns-clause-ok
returns-clause-ok g c =
    let change = put_change g.K.Ord.cmp g.J.Join.holds c.self.inside.map c.insert.new.self c.args.key c.add.new.self (λ x. x ≡ c.args.item.now) c.empty-fresh.result c.in_default.ensures.value (rw c.get_mut.follows.holds-at-none at c.in_ok-insert.ensures.updates) c.in_ok-insert.ensures.ordered c.empty-fresh.ensures c.add.ensures.part in
    rw (← c.self.view_is)
    (union_at g.K.Ord.cmp g.J.Join.holds g.met.K.Ord.total g.met.K.Key.exact _ _ c.args.key c.add.new.self (λ x. x ≡ c.args.item.now) change (λ i m. (c.in_ok-add.ensures.ok i).1 (inr m)))

pub returns-clause-part : goal.returns-clause-part
returns-clause-part g c =
    let change = put_change g.K.Ord.cmp g.J.Join.holds c.self.inside.map c.insert.new.self c.args.key c.add.new.self (λ x. x ≡ c.args.item.now) c.empty-fresh.result c.in_default.ensures.value (rw c.get_mut.follows.holds-at-none at c.in_ok-insert.ensures.updates) c.in_ok-insert.ensures.ordered c.empty-fresh.ensures c.add.ensures.part in
    rw (← c.self.view_is) (part_at g.K.Ord.cmp g.J.Join.holds g.met.K.Ord.total g.met.K.Key.exact _ _ c.args.key c.add.new.self (λ x. x ≡ c.args.item.now) change)
