use Rattle.std.proofs.Common.{◌≡◌, refl, inr}
use Rattle.zknow.specs.Tables.Table.{HasItem, IsAtKey, IsLawfulTable}
use Rattle.zknow.proofs.TableTheory.Unions.{OnOk_map}
use Rattle.zknow.proofs.TableTheory.Changes.{lent_change, put_change, kept_item, part_at, union_at, lawful_at}
use Rattle.zknow.proofs.tables.table.Table+K+Table+L+J.add_within.Goals as goal

pub invariant_of-self : goal.invariant_of-self
invariant_of-self g c =
    let change = lent_change g.K.Ord.cmp (HasItem g.L.Ord.cmp g.J.Join.holds) c.self.inside.map (c.get_mut.follows.lender c.add_at-added.new.self) c.args.outer c.add_at-added.new.self (IsAtKey c.args.inner.now (λ x. x ≡ c.args.item.now)) c.in-Some.table.now c.in-Some.ensures.value (c.get_mut.follows.holds c.add_at-added.new.self) c.add_at-added.ensures.part in
    lawful_at g.K.Ord.cmp (HasItem g.L.Ord.cmp g.J.Join.holds) g.met.K.Ord.total g.met.K.Key.exact _ _ c.args.outer c.add_at-added.new.self (IsAtKey c.args.inner.now (λ x. x ≡ c.args.item.now)) change (IsLawfulTable g.L.Ord.cmp g.J.Join.holds g.J.Join.is_lawful) c.self.invariant c.lawful.ensures
    (kept_item g.K.Ord.cmp (HasItem g.L.Ord.cmp g.J.Join.holds) (IsLawfulTable g.L.Ord.cmp g.J.Join.holds g.J.Join.is_lawful) c.self.inside.map c.args.outer c.in-Some.table.now c.add_at-added.new.self (IsAtKey c.args.inner.now (λ x. x ≡ c.args.item.now)) c.self.invariant c.in-Some.ensures.value c.add_at-added.ensures.part)

pub returns-in-Some-clause-ok : goal.returns-in-Some-clause-ok
returns-in-Some-clause-ok g c =
    let change = lent_change g.K.Ord.cmp (HasItem g.L.Ord.cmp g.J.Join.holds) c.self.inside.map (c.get_mut.follows.lender c.add_at-added.new.self) c.args.outer c.add_at-added.new.self (IsAtKey c.args.inner.now (λ x. x ≡ c.args.item.now)) c.in-Some.table.now c.in-Some.ensures.value (c.get_mut.follows.holds c.add_at-added.new.self) c.add_at-added.ensures.part in
    rw (← c.self.view_is) (OnOk_map c.add_at-added.result _ _
    (λ union. union_at g.K.Ord.cmp (HasItem g.L.Ord.cmp g.J.Join.holds) g.met.K.Ord.total g.met.K.Key.exact _ _ c.args.outer c.add_at-added.new.self (IsAtKey c.args.inner.now (λ x. x ≡ c.args.item.now)) change (λ i m. (union i).1 (inr m)))
    c.add_at-added.ensures.ok)

pub returns-in-Some-clause-part : goal.returns-in-Some-clause-part
returns-in-Some-clause-part g c =
    let change = lent_change g.K.Ord.cmp (HasItem g.L.Ord.cmp g.J.Join.holds) c.self.inside.map (c.get_mut.follows.lender c.add_at-added.new.self) c.args.outer c.add_at-added.new.self (IsAtKey c.args.inner.now (λ x. x ≡ c.args.item.now)) c.in-Some.table.now c.in-Some.ensures.value (c.get_mut.follows.holds c.add_at-added.new.self) c.add_at-added.ensures.part in
    rw (← c.self.view_is) (part_at g.K.Ord.cmp (HasItem g.L.Ord.cmp g.J.Join.holds) g.met.K.Ord.total g.met.K.Key.exact _ _ c.args.outer c.add_at-added.new.self (IsAtKey c.args.inner.now (λ x. x ≡ c.args.item.now)) change)

pub invariant_of-self-2 : goal.invariant_of-self-2
invariant_of-self-2 g c =
    let change = put_change g.K.Ord.cmp (HasItem g.L.Ord.cmp g.J.Join.holds) c.self.inside.map c.insert.new.self c.args.outer c.add_at.new.self (IsAtKey c.args.inner.now (λ x. x ≡ c.args.item.now)) c.new-fresh.result c.in_default.ensures.value (rw c.get_mut.follows.holds-at-none at c.in_ok-insert.ensures.updates) c.in_ok-insert.ensures.ordered c.new-fresh.ensures c.add_at.ensures.part in
    lawful_at g.K.Ord.cmp (HasItem g.L.Ord.cmp g.J.Join.holds) g.met.K.Ord.total g.met.K.Key.exact _ _ c.args.outer c.add_at.new.self (IsAtKey c.args.inner.now (λ x. x ≡ c.args.item.now)) change (IsLawfulTable g.L.Ord.cmp g.J.Join.holds g.J.Join.is_lawful) c.self.invariant c.lawful-2.ensures
    ((c.args.inner.now, c.args.item.now), (c.in_ok-add_at.ensures.ok (c.args.inner.now, c.args.item.now)).1 (inr (refl, refl)))

pub returns-clause-ok : goal.returns-clause-ok
returns-clause-ok g c =
    let change = put_change g.K.Ord.cmp (HasItem g.L.Ord.cmp g.J.Join.holds) c.self.inside.map c.insert.new.self c.args.outer c.add_at.new.self (IsAtKey c.args.inner.now (λ x. x ≡ c.args.item.now)) c.new-fresh.result c.in_default.ensures.value (rw c.get_mut.follows.holds-at-none at c.in_ok-insert.ensures.updates) c.in_ok-insert.ensures.ordered c.new-fresh.ensures c.add_at.ensures.part in
    rw (← c.self.view_is)
    (union_at g.K.Ord.cmp (HasItem g.L.Ord.cmp g.J.Join.holds) g.met.K.Ord.total g.met.K.Key.exact _ _ c.args.outer c.add_at.new.self (IsAtKey c.args.inner.now (λ x. x ≡ c.args.item.now)) change (λ i m. (c.in_ok-add_at.ensures.ok i).1 (inr m)))

pub returns-clause-part : goal.returns-clause-part
returns-clause-part g c =
    let change = put_change g.K.Ord.cmp (HasItem g.L.Ord.cmp g.J.Join.holds) c.self.inside.map c.insert.new.self c.args.outer c.add_at.new.self (IsAtKey c.args.inner.now (λ x. x ≡ c.args.item.now)) c.new-fresh.result c.in_default.ensures.value (rw c.get_mut.follows.holds-at-none at c.in_ok-insert.ensures.updates) c.in_ok-insert.ensures.ordered c.new-fresh.ensures c.add_at.ensures.part in
    rw (← c.self.view_is) (part_at g.K.Ord.cmp (HasItem g.L.Ord.cmp g.J.Join.holds) g.met.K.Ord.total g.met.K.Key.exact _ _ c.args.outer c.add_at.new.self (IsAtKey c.args.inner.now (λ x. x ≡ c.args.item.now)) change)
