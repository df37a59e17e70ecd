-- What a change of one table, or of each, does to the facts.
use Rattle.std.proofs.Common.{◌≡◌, ℕ, ℤ, ◌⊎◌, sym, ap, subst, ◌∙◌}
use Rattle.std.specs.Prelude.{Contains, Result, Ok, Err, OnOk}
use Rattle.zapdu.specs.declared.productions.record.Record.{Record}
use Rattle.zapdu.specs.declared.productions.diagnostic.DiagRec.{DiagRec}
use Rattle.zknow.specs.declared.tables.Tables.{Tables}
use Rattle.zknow.specs.declared.tables.keys.SetKey.{SetKey}
use Rattle.zknow.specs.declared.fact.Fact.{Fact}
use Rattle.zknow.specs.declared.fact.Fact.TheVariants.{Count, Failed, Seen, Diag}
use Rattle.zknow.specs.Tables.Join.{IsUnion, IsPartOfUnion}
use Rattle.zknow.specs.Tables.Table.{IsAtKey, HasItem}
use Rattle.zknow.specs.Tables.Keys.{set_cmp, IsMarked}
use Rattle.zknow.specs.Tables.Tables.{HasFact, HasNumberedValue, key}
use Rattle.zknow.proofs.TableTheory.Unions.{union_from_part, part_from_same, part_weaker}

-- table by table
pub record PartByTable (a n : Tables) (more : Fact → Type 0) : Type 0 where
  pub counts : IsPartOfUnion (HasItem set_cmp Contains a.counts) (λ (x : SetKey × ℤ). more (Count x.0.target x.0.set x.1)) (HasItem set_cmp Contains n.counts)
  pub failed : IsPartOfUnion (HasItem set_cmp IsMarked a.failed) (λ (x : SetKey × Unit {0}). more (Failed x.0.target x.0.set)) (HasItem set_cmp IsMarked n.failed)
  pub seen : IsPartOfUnion (HasNumberedValue a.seen) (λ (x : SetKey × (ℤ × Record)). more (Seen x.0.target x.0.set x.1.0 x.1.1)) (HasNumberedValue n.seen)
  pub diags : IsPartOfUnion (HasNumberedValue a.diags) (λ (x : SetKey × (ℤ × DiagRec)). more (Diag x.0.target x.0.set x.1.0 x.1.1)) (HasNumberedValue n.diags)

pub part_by_table : (a n : Tables) (more : Fact → Type 0) → PartByTable a n more → IsPartOfUnion (HasFact a) more (HasFact n)
part_by_table a n more part = record { keeps = keeps; within = within }
  where
    keeps : (f : Fact) → HasFact a f → HasFact n f
    keeps (Count t s c) h = part.counts.keeps _ h
    keeps (Failed t s) h = part.failed.keeps _ h
    keeps (Seen t s p r) h = part.seen.keeps _ h
    keeps (Diag t s p d) h = part.diags.keeps _ h

    within : (f : Fact) → HasFact n f → HasFact a f ⊎ more f
    within (Count t s c) h = part.counts.within (key t s, c) h
    within (Failed t s) h = part.failed.within (key t s, tt) h
    within (Seen t s p r) h = part.seen.within (key t s, (p, r)) h
    within (Diag t s p d) h = part.diags.within (key t s, (p, d)) h

-- all of the tables b are in n
pub record AllByTable (b n : Tables) : Type 0 where
  pub counts : (x : SetKey × ℤ) → HasItem set_cmp Contains b.counts x → HasItem set_cmp Contains n.counts x
  pub failed : (x : SetKey × Unit {0}) → HasItem set_cmp IsMarked b.failed x → HasItem set_cmp IsMarked n.failed x
  pub seen : (x : SetKey × (ℤ × Record)) → HasNumberedValue b.seen x → HasNumberedValue n.seen x
  pub diags : (x : SetKey × (ℤ × DiagRec)) → HasNumberedValue b.diags x → HasNumberedValue n.diags x

pub union_by_table : (a b n : Tables) → PartByTable a n (HasFact b) → AllByTable b n → IsUnion (HasFact a) (HasFact b) (HasFact n)
union_by_table a b n part all = union_from_part (HasFact a) (HasFact b) (HasFact n) (part_by_table a n (HasFact b) part) each
  where
    each : (f : Fact) → HasFact b f → HasFact n f
    each (Count t s c) h = all.counts _ h
    each (Failed t s) h = all.failed _ h
    each (Seen t s p r) h = all.seen _ h
    each (Diag t s p d) h = all.diags _ h

pub no_facts : (k : Tables) → ((x : SetKey × ℤ) → HasItem set_cmp Contains k.counts x → ⊥) → ((x : SetKey × Unit {0}) → HasItem set_cmp IsMarked k.failed x → ⊥)
    → ((x : SetKey × (ℤ × Record)) → HasNumberedValue k.seen x → ⊥) → ((x : SetKey × (ℤ × DiagRec)) → HasNumberedValue k.diags x → ⊥) → (f : Fact) → HasFact k f → ⊥
no_facts k counts failed seen diags (Count t s n) h = counts _ h
no_facts k counts failed seen diags (Failed t s) h = failed _ h
no_facts k counts failed seen diags (Seen t s p r) h = seen _ h
no_facts k counts failed seen diags (Diag t s p d) h = diags _ h

-- a fact of one kind
pub count_part : (a n : Tables) (t s : ℕ) (c : ℤ) → IsPartOfUnion (HasItem set_cmp Contains a.counts) (IsAtKey (key t s) (λ x. x ≡ c)) (HasItem set_cmp Contains n.counts)
    → n.failed ≡ a.failed → n.seen ≡ a.seen → n.diags ≡ a.diags → IsPartOfUnion (HasFact a) (λ f. f ≡ Count t s c) (HasFact n)
count_part a n t s c part ef es ed = part_by_table a n (λ f. f ≡ Count t s c) (record {
  counts = part_weaker _ _ _ _ (λ x at. ap (λ (k : SetKey). Count k.target k.set x.1) at.0 ∙ ap (λ y. Count t s y) at.1) part;
  failed = rw ef (part_from_same _ _);
  seen = rw es (part_from_same _ _);
  diags = rw ed (part_from_same _ _);
})

pub failed_part : (a n : Tables) (t s : ℕ) → IsPartOfUnion (HasItem set_cmp IsMarked a.failed) (IsAtKey (key t s) (λ x. x ≡ tt)) (HasItem set_cmp IsMarked n.failed)
    → n.counts ≡ a.counts → n.seen ≡ a.seen → n.diags ≡ a.diags → IsPartOfUnion (HasFact a) (λ f. f ≡ Failed t s) (HasFact n)
failed_part a n t s part ec es ed = part_by_table a n (λ f. f ≡ Failed t s) (record {
  counts = rw ec (part_from_same _ _);
  failed = part_weaker _ _ _ _ (λ x at. ap (λ (k : SetKey). Failed k.target k.set) at.0) part;
  seen = rw es (part_from_same _ _);
  diags = rw ed (part_from_same _ _);
})

pub seen_part : (a n : Tables) (t s : ℕ) (p : ℤ) (r : Record) → IsPartOfUnion (HasNumberedValue a.seen) (IsAtKey (key t s) (IsAtKey p (λ x. x ≡ r))) (HasNumberedValue n.seen)
    → n.counts ≡ a.counts → n.failed ≡ a.failed → n.diags ≡ a.diags → IsPartOfUnion (HasFact a) (λ f. f ≡ Seen t s p r) (HasFact n)
seen_part a n t s p r part ec ef ed = part_by_table a n (λ f. f ≡ Seen t s p r) (record {
  counts = rw ec (part_from_same _ _);
  failed = rw ef (part_from_same _ _);
  seen = part_weaker _ _ _ _ (λ x at. ap (λ (k : SetKey). Seen k.target k.set x.1.0 x.1.1) at.0 ∙ ap (λ q. Seen t s q x.1.1) at.1.0 ∙ ap (λ y. Seen t s p y) at.1.1) part;
  diags = rw ed (part_from_same _ _);
})

pub diag_part : (a n : Tables) (t s : ℕ) (p : ℤ) (d : DiagRec) → IsPartOfUnion (HasNumberedValue a.diags) (IsAtKey (key t s) (IsAtKey p (λ x. x ≡ d))) (HasNumberedValue n.diags)
    → n.counts ≡ a.counts → n.failed ≡ a.failed → n.seen ≡ a.seen → IsPartOfUnion (HasFact a) (λ f. f ≡ Diag t s p d) (HasFact n)
diag_part a n t s p d part ec ef es = part_by_table a n (λ f. f ≡ Diag t s p d) (record {
  counts = rw ec (part_from_same _ _);
  failed = rw ef (part_from_same _ _);
  seen = rw es (part_from_same _ _);
  diags = part_weaker _ _ _ _ (λ x at. ap (λ (k : SetKey). Diag k.target k.set x.1.0 x.1.1) at.0 ∙ ap (λ q. Diag t s q x.1.1) at.1.0 ∙ ap (λ y. Diag t s p y) at.1.1) part;
})

-- a part with the new fact is the union with it
pub union_of_one : (a n : Tables) (f : Fact) → IsPartOfUnion (HasFact a) (λ g. g ≡ f) (HasFact n) → HasFact n f → IsUnion (HasFact a) (λ g. g ≡ f) (HasFact n)
union_of_one a n f part here = union_from_part (HasFact a) (λ g. g ≡ f) (HasFact n) part (λ g same. subst (HasFact n) (sym same) here)

-- the same of an answer: what holds where it is `Ok` shows the new fact
pub ok_of_one : {T E : Type 0} (o : Result T E) (a n : Tables) (f : Fact) (P : Type 0) → OnOk o P → (P → HasFact n f) → IsPartOfUnion (HasFact a) (λ g. g ≡ f) (HasFact n) → OnOk o (IsUnion (HasFact a) (λ g. g ≡ f) (HasFact n))
ok_of_one (Ok x) a n f P h here part = union_of_one a n f part (here h)
ok_of_one (Err e) a n f P h here part = h
