-- A table that is joined into another, entry by entry.
use Rattle.std.proofs.Common.{◌≡◌, List, ◌∷◌, Bool, true, false, cond, Option, Some, None, IsSomeAnd, ◌⊎◌, ◌↔◌, refl, sym, ap, subst, ◌∙◌, inl, inr, ⊎_elim}
use Rattle.std.specs.declared.cmp.Ordering.{Ordering}
use Rattle.std.specs.declared.cmp.Ordering.TheVariants.{Equal}
use Rattle.std.specs.Cmp.{IsTotalOrder, Equal-is}
use Rattle.std.specs.Ordering.{is_eq}
use Rattle.std.specs.Map.{keys_of}
use Rattle.std.specs.BTreeMap.{is_at}
use Rattle.std.proofs.lemmas.Cmp.{tied_itself}
use Rattle.std.proofs.lemmas.Map.Keys.{sorted_head, sorted_tail}
use Rattle.zknow.specs.Tables.Join.{IsUnion}
use Rattle.zknow.specs.Tables.Table.{value_at_key, IsAtKey, HasItem, IsLawfulTable}
use Rattle.zknow.specs.Tables.TableLaws.{none_below}
use Rattle.zknow.proofs.TableTheory.Unions.{IsJoining, joining_none, joining_more}

-- what a loop over a table's entries keeps: those that are left are a lawful table
pub record JoinsTable {K J I : Type 0} (cmp : K → K → Ordering) (holds : J → I → Type 0) (lawful : J → Type 0) (old other now rest : List (K × J)) : Type 0 where
  pub rest_lawful : IsLawfulTable cmp holds lawful rest
  pub joining : IsJoining (HasItem cmp holds old) (HasItem cmp holds other) (HasItem cmp holds now) (HasItem cmp holds rest)

module _ {K J I : Type 0} (cmp : K → K → Ordering) (holds : J → I → Type 0) (lawful : J → Type 0) (total : IsTotalOrder cmp) (exact : (a b : K) → cmp a b ≡ Equal → a ≡ b) where
  module _ (e : K × J) (rest : List (K × J)) where
    pub split_by : (x : K × I) (b : Bool) → is_at (cmp x.0) e.0 ≡ b → HasItem cmp holds (e ∷ rest) x → IsAtKey e.0 (holds e.1) x ⊎ HasItem cmp holds rest x
    split_by x true is has = inl (exact x.0 e.0 ((Equal-is (cmp x.0 e.0)).0 is), subst (λ b. IsSomeAnd (cond b (Some e.1) (value_at_key cmp rest x.0)) (λ j. holds j x.1)) is has)
    split_by x false is has = inr (subst (λ b. IsSomeAnd (cond b (Some e.1) (value_at_key cmp rest x.0)) (λ j. holds j x.1)) is has)

    pub at_head : (x : K × I) → IsAtKey e.0 (holds e.1) x → HasItem cmp holds (e ∷ rest) x
    at_head x at = subst (λ b. IsSomeAnd (cond b (Some e.1) (value_at_key cmp rest x.0)) (λ j. holds j x.1)) (sym (ap (λ k. is_at (cmp k) e.0) at.0 ∙ ap is_eq (tied_itself total e.0))) at.1

    module _ (good : IsLawfulTable cmp holds lawful (e ∷ rest)) where
      -- what the rest has at a key, the whole has
      value_kept_by : (k : K) (j : J) (b : Bool) → is_at (cmp k) e.0 ≡ b → value_at_key cmp rest k ≡ Some j → value_at_key cmp (e ∷ rest) k ≡ Some j
      value_kept_by k j false is found = ap (λ b. cond b (Some e.1) (value_at_key cmp rest k)) is ∙ found
      value_kept_by k j true is found =
          let here = exact k e.0 ((Equal-is (cmp k e.0)).0 is) in
          let missing = none_below cmp e.0 rest (sorted_head cmp e.0 (keys_of rest) good.ordered) in
          let found_there = subst (λ q. value_at_key cmp rest q ≡ Some j) here found in
          (cc)

      value_kept : (k : K) (j : J) → value_at_key cmp rest k ≡ Some j → value_at_key cmp (e ∷ rest) k ≡ Some j
      value_kept k j = value_kept_by k j _ refl

      in_tail_by : (x : K × I) (o : Option J) → value_at_key cmp rest x.0 ≡ o → IsSomeAnd o (λ j. holds j x.1) → HasItem cmp holds (e ∷ rest) x
      in_tail_by x (Some j) is h = subst (λ o. IsSomeAnd o (λ j. holds j x.1)) (sym (value_kept x.0 j is)) h
      in_tail_by x None is h = absurd h

      pub item_in_tail : (x : K × I) → HasItem cmp holds rest x → HasItem cmp holds (e ∷ rest) x
      item_in_tail x has = in_tail_by x _ refl has

      pub tail_lawful : IsLawfulTable cmp holds lawful rest
      tail_lawful = record { ordered = sorted_tail cmp e.0 (keys_of rest) good.ordered; values = λ k j is. good.values k j (value_kept k j is); some = λ k j is. good.some k j (value_kept k j is) }

      pub head_found : value_at_key cmp (e ∷ rest) e.0 ≡ Some e.1
      head_found = ap (λ o. cond (is_eq o) (Some e.1) (value_at_key cmp rest e.0)) (tied_itself total e.0)

      pub head_some : (i : I) × holds e.1 i
      head_some = good.some e.0 e.1 head_found

      pub first_others : (x : K × I) → HasItem cmp holds (e ∷ rest) x ↔ (IsAtKey e.0 (holds e.1) x ⊎ HasItem cmp holds rest x)
      first_others x = (split_by x _ refl, ⊎_elim (at_head x) (item_in_tail x))

  module _ (old other now : List (K × J)) where
    module _ (e : K × J) (rest after : List (K × J)) (front : rest ≡ e ∷ after) (m : JoinsTable cmp holds lawful old other now rest) where
      good : IsLawfulTable cmp holds lawful (e ∷ after)
      good = subst (IsLawfulTable cmp holds lawful) front m.rest_lawful

      split : (x : K × I) → HasItem cmp holds rest x ↔ (IsAtKey e.0 (holds e.1) x ⊎ HasItem cmp holds after x)
      split x = subst (λ t. HasItem cmp holds t x ↔ (IsAtKey e.0 (holds e.1) x ⊎ HasItem cmp holds after x)) (sym front) (first_others e after good x)

      pub next_some : (i : I) × holds e.1 i
      next_some = head_some e after good

      pub joins_more : (next : List (K × J)) → IsUnion (HasItem cmp holds now) (IsAtKey e.0 (holds e.1)) (HasItem cmp holds next) → JoinsTable cmp holds lawful old other next after
      joins_more next union = record {
        rest_lawful = tail_lawful e after good;
        joining = joining_more (HasItem cmp holds old) (HasItem cmp holds other) (HasItem cmp holds now) (IsAtKey e.0 (holds e.1)) (HasItem cmp holds next) (HasItem cmp holds rest) (HasItem cmp holds after) split union m.joining;
      }

  pub joins_none : (old other : List (K × J)) → IsLawfulTable cmp holds lawful other → JoinsTable cmp holds lawful old other old other
  joins_none old other lawful_other = record { rest_lawful = lawful_other; joining = joining_none (HasItem cmp holds old) (HasItem cmp holds other) }
