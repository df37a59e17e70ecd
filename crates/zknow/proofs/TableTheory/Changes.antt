-- What a change at one key does to a table.
use Rattle.std.proofs.Common.{◌≡◌, List, Bool, true, false, cond, Some, None, IsSome, IsSomeAnd, ◌⊎◌, refl, sym, ap, subst, ◌∙◌, inl, inr, ⊎_elim}
use Rattle.std.specs.declared.cmp.Ordering.{Ordering}
use Rattle.std.specs.declared.cmp.Ordering.TheVariants.{Equal}
use Rattle.std.specs.Cmp.{IsTotalOrder, Equal-is}
use Rattle.std.specs.Ordering.{is_eq}
use Rattle.std.specs.BTreeMap.{BTreeMap, is_at, get, IsOrdered, Updates, WritesThrough}
use Rattle.std.proofs.lemmas.Cmp.{tied_itself}
use Rattle.zknow.specs.Tables.Join.{IsUnion, IsPartOfUnion}
use Rattle.zknow.specs.Tables.Table.{value_at_key, IsAtKey, HasItem, IsLawfulTable}
use Rattle.zknow.proofs.TableTheory.Unions.{union_from_part}
use Rattle.zknow.proofs.TableTheory.Entries.{SetsAt}

module _ {K J I : Type 0} (cmp : K → K → Ordering) (holds : J → I → Type 0) where
  -- n is m with w at the key, which has the items that m had there, and of M
  pub record IsChange (m n : List (K × J)) (key : K) (w : J) (M : I → Type 0) : Type 0 where
    pub sets : SetsAt cmp m n key w
    pub part : IsPartOfUnion (λ i. HasItem cmp holds m (key, i)) M (holds w)

  pub change_found : (m n : List (K × J)) (key : K) (v w : J) (M : I → Type 0) → SetsAt cmp m n key w → value_at_key cmp m key ≡ Some v → IsPartOfUnion (holds v) M (holds w) → IsChange m n key w M
  change_found m n key v w M sets is part = record { sets = sets; part = subst (λ o. IsPartOfUnion (λ i. IsSomeAnd o (λ j. holds j i)) M (holds w)) (sym is) part }

  pub change_fresh : (m n : List (K × J)) (key : K) (fresh w : J) (M : I → Type 0) → SetsAt cmp m n key w → value_at_key cmp m key ≡ None → ((i : I) → holds fresh i → ⊥) → IsPartOfUnion (holds fresh) M (holds w) → IsChange m n key w M
  change_fresh m n key fresh w M sets is never part = record {
    sets = sets;
    part = subst (λ o. IsPartOfUnion (λ i. IsSomeAnd o (λ j. holds j i)) M (holds w)) (sym is)
        (record { keeps = λ i h. absurd h; within = λ i h. ⊎_elim (λ there. absurd (never i there)) inr (part.within i h) });
  }

  module _ (total : IsTotalOrder cmp) (exact : (a b : K) → cmp a b ≡ Equal → a ≡ b) (m n : List (K × J)) (key : K) (w : J) (M : I → Type 0) (change : IsChange m n key w M) where
    here : (q : K) → is_at (cmp key) q ≡ true → q ≡ key
    here q e = sym (exact key q ((Equal-is (cmp key q)).0 e))

    value_here : (q : K) → is_at (cmp key) q ≡ true → value_at_key cmp n q ≡ Some w
    value_here q e = change.sets.at q ∙ ap (λ b. cond b (Some w) (value_at_key cmp m q)) e

    value_apart : (q : K) → is_at (cmp key) q ≡ false → value_at_key cmp n q ≡ value_at_key cmp m q
    value_apart q e = change.sets.at q ∙ ap (λ b. cond b (Some w) (value_at_key cmp m q)) e

    has_from_value : (x : K × I) → is_at (cmp key) x.0 ≡ true → holds w x.1 → HasItem cmp holds n x
    has_from_value x e h = subst (λ o. IsSomeAnd o (λ j. holds j x.1)) (sym (value_here x.0 e)) h

    keeps_by : (x : K × I) (b : Bool) → is_at (cmp key) x.0 ≡ b → HasItem cmp holds m x → HasItem cmp holds n x
    keeps_by x true e had = has_from_value x e (change.part.keeps x.1 (subst (λ q. HasItem cmp holds m (q, x.1)) (here x.0 e) had))
    keeps_by x false e had = subst (λ o. IsSomeAnd o (λ j. holds j x.1)) (sym (value_apart x.0 e)) had

    within_by : (x : K × I) (b : Bool) → is_at (cmp key) x.0 ≡ b → HasItem cmp holds n x → HasItem cmp holds m x ⊎ IsAtKey key M x
    within_by x true e has = ⊎_elim
        (λ old. inl (subst (λ q. HasItem cmp holds m (q, x.1)) (sym (here x.0 e)) old))
        (λ new. inr (here x.0 e, new))
        (change.part.within x.1 (subst (λ o. IsSomeAnd o (λ j. holds j x.1)) (value_here x.0 e) has))
    within_by x false e has = inl (subst (λ o. IsSomeAnd o (λ j. holds j x.1)) (value_apart x.0 e) has)

    pub part_at : IsPartOfUnion (HasItem cmp holds m) (IsAtKey key M) (HasItem cmp holds n)
    part_at = record { keeps = λ x had. keeps_by x _ refl had; within = λ x has. within_by x _ refl has }

    pub union_at : ((i : I) → M i → holds w i) → IsUnion (HasItem cmp holds m) (IsAtKey key M) (HasItem cmp holds n)
    union_at all = union_from_part _ _ _ part_at (λ x at. has_from_value x (ap (is_at (cmp key)) at.0 ∙ ap is_eq (tied_itself total key)) (all x.1 at.1))

    module _ (lawful : J → Type 0) (was : IsLawfulTable cmp holds lawful m) (good : lawful w) (some : (i : I) × holds w i) where
      values_by : (k : K) (j : J) (b : Bool) → is_at (cmp key) k ≡ b → value_at_key cmp n k ≡ Some j → lawful j × ((i : I) × holds j i)
      values_by k j true e is = let same : w ≡ j = (cc (value_here k e)) in subst (λ v. lawful v × ((i : I) × holds v i)) same (good, some)
      values_by k j false e is = let old = sym (value_apart k e) ∙ is in (was.values k j old, was.some k j old)

      pub lawful_at : IsLawfulTable cmp holds lawful n
      lawful_at = record { ordered = change.sets.ordered; values = λ k j is. (values_by k j _ refl is).0; some = λ k j is. (values_by k j _ refl is).1 }

-- a change of an ordered map: through what it lends, and by a key that is new
module _ {K J I : Type 0} (cmp : K → K → Ordering) (holds : J → I → Type 0) (m n : BTreeMap K J) (key : K) (w : J) (M : I → Type 0) where
  pub lent_change : (v : J) → Some v ≡ get cmp m key → WritesThrough cmp (cmp key) m w n → IsPartOfUnion (holds v) M (holds w) → IsChange cmp holds m.entries n.entries key w M
  lent_change v is through part =
      change_found cmp holds m.entries n.entries key v w M (record { at = (through.3 (subst IsSome is refl)).0; ordered = through.4 }) (sym is) part

  pub put_change : (fresh : J) → None ≡ get cmp m key → Updates cmp m n key (Some w) → IsOrdered cmp n → ((i : I) → holds fresh i → ⊥) → IsPartOfUnion (holds fresh) M (holds w) → IsChange cmp holds m.entries n.entries key w M
  put_change fresh is puts ordered never part = change_fresh cmp holds m.entries n.entries key fresh w M (record { at = puts.0; ordered = ordered }) (sym is) never part

-- the value that was at the key had an item, and so has what it became
pub kept_item : {K J I : Type 0} (cmp : K → K → Ordering) (holds : J → I → Type 0) (lawful : J → Type 0) (m : BTreeMap K J) (key : K) (v w : J) (M : I → Type 0) → IsLawfulTable cmp holds lawful m.entries → Some v ≡ get cmp m key → IsPartOfUnion (holds v) M (holds w) → (x : I) × holds w x
kept_item cmp holds lawful m key v w M good is part = let had = good.some key v (sym is) in (had.0, part.keeps had.0 had.1)
