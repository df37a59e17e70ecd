-- A table is determined by its items: the law that `Table` proves as a `Join`.
use Rattle.std.proofs.Common.{◌≡◌, List, [], ◌∷◌, cond, Option, Some, None, IsSomeAnd, ◌↔◌, refl, sym, ap, subst, ◌∙◌}
use Rattle.std.specs.declared.cmp.Ordering.{Ordering}
use Rattle.std.specs.declared.cmp.Ordering.TheVariants.{Less, Equal, Greater}
use Rattle.std.specs.Cmp.{IsTotalOrder}
use Rattle.std.specs.Ordering.{is_eq, ordering_reverse}
use Rattle.std.specs.List.{AllByRecursion}
use Rattle.std.specs.List.Sorted.{IsStrictlySortedBy}
use Rattle.std.specs.Map.{keys_of}
use Rattle.std.proofs.lemmas.Cmp.{tied_itself}
use Rattle.std.proofs.lemmas.Map.Keys.{sorted_head, sorted_tail}
use Rattle.zknow.specs.Tables.Table.{value_at_key, HasItem, IsLawfulTable}

-- a key below all others has no value
pub none_below : {K J : Type 0} (cmp : K → K → Ordering) (k : K) (es : List (K × J))
    → AllByRecursion (λ y. cmp k y ≡ Less) (keys_of es) → value_at_key cmp es k ≡ None
none_below cmp k [] below = refl
none_below cmp k (e ∷ es) below =
    ap (λ o. cond (is_eq o) (Some e.1) (value_at_key cmp es k)) below.0 ∙ none_below cmp k es below.1

-- tables in order with the same value at each key are equal
module _ {K J : Type 0} (cmp : K → K → Ordering) (total : IsTotalOrder cmp)
    (exact : (a b : K) → cmp a b ≡ Equal → a ≡ b) where
  found_first : (e : K × J) (es : List (K × J)) → value_at_key cmp (e ∷ es) e.0 ≡ Some e.1
  found_first e es = ap (λ o. cond (is_eq o) (Some e.1) (value_at_key cmp es e.0)) (tied_itself total e.0)

  below_all : (k : K) (e : K × J) (es : List (K × J)) → IsStrictlySortedBy cmp (keys_of (e ∷ es)) → cmp k e.0 ≡ Less
      → AllByRecursion (λ y. cmp k y ≡ Less) (keys_of (e ∷ es))
  below_all k e es sorted less = (less, below_rest es (sorted_head cmp e.0 (keys_of es) sorted))
    where
      below_rest : (fs : List (K × J)) → AllByRecursion (λ y. cmp e.0 y ≡ Less) (keys_of fs)
          → AllByRecursion (λ y. cmp k y ≡ Less) (keys_of fs)
      below_rest [] all = tt
      below_rest (f ∷ fs) all = (total.trans k e.0 f.0 less all.0, below_rest fs all.1)

  not_lower : (e f : K × J) (es fs : List (K × J)) → IsStrictlySortedBy cmp (keys_of (f ∷ fs))
      → ((q : K) → value_at_key cmp (e ∷ es) q ≡ value_at_key cmp (f ∷ fs) q) → cmp e.0 f.0 ≡ Less → ⊥
  not_lower e f es fs sorted same less =
      let found = found_first e es in
      let missing = none_below cmp e.0 (f ∷ fs) (below_all e.0 f fs sorted less) in
      let agree = same e.0 in
      (cc)

  rest_same : (e f : K × J) (es fs : List (K × J)) → IsStrictlySortedBy cmp (keys_of (e ∷ es))
      → IsStrictlySortedBy cmp (keys_of (f ∷ fs)) → e.0 ≡ f.0
      → ((q : K) → value_at_key cmp (e ∷ es) q ≡ value_at_key cmp (f ∷ fs) q) → (q : K) (b : Ordering) → cmp q e.0 ≡ b
      → value_at_key cmp es q ≡ value_at_key cmp fs q
  rest_same e f es fs es_sorted fs_sorted keys same q Less is =
      let at_e : cmp q f.0 ≡ Less = subst (λ k. cmp q k ≡ Less) keys is in
      ap (λ o. cond (is_eq o) (Some e.1) (value_at_key cmp es q)) (sym is) ∙ same q
      ∙ ap (λ o. cond (is_eq o) (Some f.1) (value_at_key cmp fs q)) at_e
  rest_same e f es fs es_sorted fs_sorted keys same q Greater is =
      let at_e : cmp q f.0 ≡ Greater = subst (λ k. cmp q k ≡ Greater) keys is in
      ap (λ o. cond (is_eq o) (Some e.1) (value_at_key cmp es q)) (sym is) ∙ same q
      ∙ ap (λ o. cond (is_eq o) (Some f.1) (value_at_key cmp fs q)) at_e
  rest_same e f es fs es_sorted fs_sorted keys same q Equal is =
      let here : e.0 ≡ q = sym (exact q e.0 is) in
      let left : value_at_key cmp es q ≡ None =
      subst (λ k. value_at_key cmp es k ≡ None) here
      (none_below cmp e.0 es (sorted_head cmp e.0 (keys_of es) es_sorted)) in
      let right : value_at_key cmp fs q ≡ None =
      subst (λ k. value_at_key cmp fs k ≡ None) (sym keys ∙ here)
      (none_below cmp f.0 fs (sorted_head cmp f.0 (keys_of fs) fs_sorted)) in
      left ∙ sym right

  by_order : (e f : K × J) (es fs : List (K × J)) → IsStrictlySortedBy cmp (keys_of (e ∷ es))
      → IsStrictlySortedBy cmp (keys_of (f ∷ fs))
      → ((q : K) → value_at_key cmp (e ∷ es) q ≡ value_at_key cmp (f ∷ fs) q)
      → (((q : K) → value_at_key cmp es q ≡ value_at_key cmp fs q) → es ≡ fs) → (o : Ordering) → cmp e.0 f.0 ≡ o
      → e ∷ es ≡ f ∷ fs
  by_order e f es fs es_sorted fs_sorted same tails Less is = absurd (not_lower e f es fs fs_sorted same is)
  by_order e f es fs es_sorted fs_sorted same tails Greater is =
      absurd (not_lower f e fs es es_sorted (λ q. sym (same q)) (total.antisymm f.0 e.0 ∙ ap ordering_reverse is))
  by_order e f es fs es_sorted fs_sorted same tails Equal is =
      let keys : e.0 ≡ f.0 = exact e.0 f.0 is in
      let found_e = found_first e es in
      let found_f = subst (λ k. value_at_key cmp (f ∷ fs) k ≡ Some f.1) (sym keys) (found_first f fs) in
      let agree = same e.0 in
      let values : e.1 ≡ f.1 = (cc) in
      let rest : es ≡ fs = tails (λ q. rest_same e f es fs es_sorted fs_sorted keys same q (cmp q e.0) refl) in
      let heads : e ≡ f = ap (λ k. (k, e.1)) keys ∙ ap (λ v. (f.0, v)) values in
      ap (λ x. x ∷ es) heads ∙ ap (λ xs. f ∷ xs) rest

  pub same_entries : (es fs : List (K × J)) → IsStrictlySortedBy cmp (keys_of es) → IsStrictlySortedBy cmp (keys_of fs)
      → ((q : K) → value_at_key cmp es q ≡ value_at_key cmp fs q) → es ≡ fs
  same_entries [] [] es_sorted fs_sorted same = refl
  same_entries [] (f ∷ fs) es_sorted fs_sorted same = let found = found_first f fs in let agree = same f.0 in (cc)
  same_entries (e ∷ es) [] es_sorted fs_sorted same = let found = found_first e es in let agree = same e.0 in (cc)
  same_entries (e ∷ es) (f ∷ fs) es_sorted fs_sorted same =
      by_order e f es fs es_sorted fs_sorted same
      (same_entries es fs (sorted_tail cmp e.0 (keys_of es) es_sorted)
      (sorted_tail cmp f.0 (keys_of fs) fs_sorted)) (cmp e.0 f.0) refl

  module _ {I : Type 0} (holds : J → I → Type 0) (lawful : J → Type 0)
      (each : (a b : J) → lawful a → lawful b → ((i : I) → holds a i ↔ holds b i) → a ≡ b) (s t : List (K × J))
      (ls : IsLawfulTable cmp holds lawful s) (lt : IsLawfulTable cmp holds lawful t)
      (same : (x : K × I) → HasItem cmp holds s x ↔ HasItem cmp holds t x) where
    same_values : (q : K) (a b : Option J) → value_at_key cmp s q ≡ a → value_at_key cmp t q ≡ b → a ≡ b
    same_values q None None is_a is_b = refl
    same_values q None (Some b) is_a is_b =
        let item = lt.some q b is_b in
        absurd (subst (λ o. IsSomeAnd o (λ j. holds j item.0)) is_a
        ((same (q, item.0)).1 (subst (λ o. IsSomeAnd o (λ j. holds j item.0)) (sym is_b) item.1)))
    same_values q (Some a) None is_a is_b =
        let item = ls.some q a is_a in
        absurd (subst (λ o. IsSomeAnd o (λ j. holds j item.0)) is_b
        ((same (q, item.0)).0 (subst (λ o. IsSomeAnd o (λ j. holds j item.0)) (sym is_a) item.1)))
    same_values q (Some a) (Some b) is_a is_b = ap Some (each a b (ls.values q a is_a) (lt.values q b is_b) (λ i. (
      λ h. subst (λ o. IsSomeAnd o (λ j. holds j i)) is_b
          ((same (q, i)).0 (subst (λ o. IsSomeAnd o (λ j. holds j i)) (sym is_a) h)),
      λ h. subst (λ o. IsSomeAnd o (λ j. holds j i)) is_a
          ((same (q, i)).1 (subst (λ o. IsSomeAnd o (λ j. holds j i)) (sym is_b) h)),
    )))

    -- lawful tables with the same items are equal
    pub same_table : s ≡ t
    same_table =
        same_entries s t ls.ordered lt.ordered
        (λ q. same_values q (value_at_key cmp s q) (value_at_key cmp t q) refl refl)
