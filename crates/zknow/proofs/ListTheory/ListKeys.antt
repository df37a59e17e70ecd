-- The keys of the tables, sorted and each once, are those of the facts.
use Rattle.std.proofs.Common.{◌≡◌, List, [], ◌∷◌, ◌++◌, map, ◌↔◌, sym, subst, ⊎_elim}
use Rattle.std.specs.Prelude.{Contains}
use Rattle.std.specs.declared.cmp.Ordering.{Ordering}
use Rattle.std.specs.declared.cmp.Ordering.TheVariants.{Equal}
use Rattle.std.specs.Cmp.{IsTotalOrder}
use Rattle.std.specs.List.{flat_map}
use Rattle.std.proofs.lemmas.List.Elements.{Contains-append_cases, Contains-append_left, Contains-append_right}
use Rattle.zknow.specs.Tables.Table.{IsLawfulTable}
use Rattle.zknow.specs.Tables.DistinctLaws.{in_cons, in_head, none_in_nil}
use Rattle.zknow.specs.Tables.Sections.{section}
use Rattle.zknow.proofs.TableTheory.AtKeys.{flat_entry}
use Rattle.zknow.proofs.TableTheory.TableMerges.{tail_lawful, head_some, head_found}

-- lists with the same members
abbrev pub Same : {T : Type 0} → List T → List T → Type 0
Same xs ys = (q : _) → Contains xs q ↔ Contains ys q

module _ {T : Type 0} where
  pub same_append : (us vs xs ys : List T) → Same us xs → Same vs ys → Same (us ++ vs) (xs ++ ys)
  same_append us vs xs ys first second q = (
    λ h. ⊎_elim (λ f. Contains-append_left xs ys q ((first q).0 f)) (λ s. Contains-append_right xs ys q ((second q).0 s)) (Contains-append_cases us vs q h),
    λ h. ⊎_elim (λ f. Contains-append_left us vs q ((first q).1 f)) (λ s. Contains-append_right us vs q ((second q).1 s)) (Contains-append_cases xs ys q h),
  )

  pub same_refl : (xs : List T) → Same xs xs
  same_refl xs q = (λ h. h, λ h. h)

  pub same_trans : (xs ys zs : List T) → Same xs ys → Same ys zs → Same xs zs
  same_trans xs ys zs f s q = (λ h. (s q).0 ((f q).0 h), λ h. (f q).1 ((s q).1 h))

  pub same_sym : (xs ys : List T) → Same xs ys → Same ys xs
  same_sym xs ys s q = ((s q).1, (s q).0)

  pub same_by : (xs ys : List T) → xs ≡ ys → Same xs ys
  same_by xs ys e q = (subst (λ l. Contains l q) e, subst (λ l. Contains l q) (sym e))

  -- one thing, over and over, is that one thing
  module _ {I : Type 0} (f : I → List T) (x : T) (says : (i : I) → f i ≡ x ∷ []) where
    none_but : (is : List I) (q : T) → Contains (flat_map f is) q → x ≡ q
    none_but [] q h = absurd (none_in_nil q h)
    none_but (i ∷ is) q h = ⊎_elim
        (λ first. ⊎_elim (λ same. same) (λ never. absurd (none_in_nil q never)) (in_cons x [] q (subst (λ l. Contains l q) (says i) first)))
        (none_but is q) (Contains-append_cases (f i) (flat_map f is) q h)

    one_there : (is : List I) → ((i : I) × Contains is i) → Contains (flat_map f is) x
    one_there [] some = absurd (none_in_nil some.0 some.1)
    one_there (i ∷ is) some = Contains-append_left (f i) (flat_map f is) x (subst (λ l. Contains l x) (sym (says i)) (in_head x []))

    pub all_one : (is : List I) → ((i : I) × Contains is i) → Same (flat_map f is) (x ∷ [])
    all_one is some q = (
      λ h. subst (Contains (x ∷ [])) (none_but is q h) (in_head x []),
      λ h. ⊎_elim (λ same. subst (Contains (flat_map f is)) same (one_there is some)) (λ never. absurd (none_in_nil q never)) (in_cons x [] q h),
    )

-- the keys of a table, where f says of each item its key
module _ {K J I : Type 0} (cmp : K → K → Ordering) (total : IsTotalOrder cmp) (exact : (a b : K) → cmp a b ≡ Equal → a ≡ b) (holds : J → I → Type 0) (lawful : J → Type 0) (items : J → List I)
    (members : (j : J) → lawful j → (i : I) → Contains (items j) i ↔ holds j i) where
  pub head_member : (e : K × J) (t : List (K × J)) → IsLawfulTable cmp holds lawful (e ∷ t) → (i : I) × Contains (items e.1) i
  head_member e t good =
      let some = head_some cmp holds lawful total exact e t good in
      (some.0, (members e.1 (good.values e.0 e.1 (head_found cmp holds lawful total exact e t good)) some.0).1 some.1)

  module _ {F G : Type 0} (make : K → I → F) (f : F → List G) (key : K → G) (says : (k : K) (i : I) → f (make k i) ≡ key k ∷ []) where
    pub keys_said : (t : List (K × J)) → IsLawfulTable cmp holds lawful t → Same (flat_map f (section items make t)) (map (λ e. key e.0) t)
    keys_said [] good = same_refl []
    keys_said (e ∷ t) good =
        let one = flat_map (λ i. f (make e.0 i)) (items e.1) in
        let rest = flat_map f (section items make t) in
        same_trans (flat_map f (section items make (e ∷ t))) (one ++ rest) (key e.0 ∷ map (λ x. key x.0) t) (same_by _ _ (flat_entry items make f e t))
        (same_append one rest (key e.0 ∷ []) (map (λ x. key x.0) t)
        (all_one (λ i. f (make e.0 i)) (key e.0) (says e.0) (items e.1) (head_member e t good)) (keys_said t (tail_lawful cmp holds lawful total exact e t good)))
