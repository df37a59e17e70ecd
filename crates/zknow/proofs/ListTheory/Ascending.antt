-- Keys in order that are the members of a list are that list's `ascending`.
use Rattle.std.proofs.Common.{◌≡◌, List, [], ◌∷◌, ◌⊎◌, ◌↔◌, refl, sym, ap, subst, ◌∙◌, inl, inr, ⊎_elim}
use Rattle.std.specs.Prelude.{Contains}
use Rattle.std.specs.declared.cmp.Ordering.{Ordering}
use Rattle.std.specs.declared.cmp.Ordering.TheVariants.{Less, Equal, Greater}
use Rattle.std.specs.Cmp.{IsTotalOrder}
use Rattle.std.specs.Ordering.{ordering_reverse, match_ordering}
use Rattle.std.specs.List.{AllByRecursion}
use Rattle.std.specs.List.Sorted.{IsStrictlySortedBy}
use Rattle.std.specs.BTreeSet.{insert_key}
use Rattle.zknow.specs.List.Listing.{ascending}
use Rattle.zknow.specs.Tables.DistinctLaws.{same_sorted, in_cons, in_head, in_tail}

module _ {K : Type 0} (cmp : K → K → Ordering) (total : IsTotalOrder cmp) (exact : (a b : K) → cmp a b ≡ Equal → a ≡ b) where
  -- what is in the list with k put in
  put_members_by : (x : K) (xs : List K) (k q : K) (o : Ordering) → cmp k x ≡ o → (Contains (insert_key cmp xs k) q ↔ (Contains xs q ⊎ (q ≡ k))) → Contains (match_ordering o (k ∷ x ∷ xs) (x ∷ xs) (x ∷ insert_key cmp xs k)) q ↔ (Contains (x ∷ xs) q ⊎ (q ≡ k))
  put_members_by x xs k q Less is tail = (
    λ h. ⊎_elim (λ same. inr (sym same)) inl (in_cons k (x ∷ xs) q h),
    ⊎_elim (λ h. in_tail k (x ∷ xs) q h) (λ same. subst (Contains (k ∷ x ∷ xs)) (sym same) (in_head k (x ∷ xs))),
  )
  put_members_by x xs k q Equal is tail = (inl, ⊎_elim (λ h. h) (λ same. subst (Contains (x ∷ xs)) (sym (same ∙ exact k x is)) (in_head x xs)))
  put_members_by x xs k q Greater is tail = (
    λ h. ⊎_elim (λ same. inl (subst (Contains (x ∷ xs)) same (in_head x xs))) (λ later. ⊎_elim (λ old. inl (in_tail x xs q old)) inr (tail.0 later)) (in_cons x (insert_key cmp xs k) q h),
    ⊎_elim (λ h. ⊎_elim (λ same. subst (Contains (x ∷ insert_key cmp xs k)) same (in_head x (insert_key cmp xs k))) (λ later. in_tail x (insert_key cmp xs k) q (tail.1 (inl later))) (in_cons x xs q h))
        (λ same. in_tail x (insert_key cmp xs k) q (tail.1 (inr same))),
  )

  put_members : (xs : List K) (k q : K) → Contains (insert_key cmp xs k) q ↔ (Contains xs q ⊎ (q ≡ k))
  put_members [] k q = (λ h. ⊎_elim (λ same. inr (sym same)) inl (in_cons k [] q h), ⊎_elim (λ h. in_tail k [] q h) (λ same. subst (Contains (k ∷ [])) (sym same) (in_head k [])))
  put_members (x ∷ xs) k q = put_members_by x xs k q (cmp k x) refl (put_members xs k q)

  -- what is below all of a list and below k is below all with k put in
  put_below_by : (P : K → Type 0) (x : K) (xs : List K) (k : K) (o : Ordering) → P k → AllByRecursion P (x ∷ xs) → AllByRecursion P (insert_key cmp xs k) → AllByRecursion P (match_ordering o (k ∷ x ∷ xs) (x ∷ xs) (x ∷ insert_key cmp xs k))
  put_below_by P x xs k Less one all tail = (one, all)
  put_below_by P x xs k Equal one all tail = all
  put_below_by P x xs k Greater one all tail = (all.0, tail)

  put_below : (P : K → Type 0) (xs : List K) (k : K) → P k → AllByRecursion P xs → AllByRecursion P (insert_key cmp xs k)
  put_below P [] k one all = (one, tt)
  put_below P (x ∷ xs) k one all = put_below_by P x xs k (cmp k x) one all (put_below P xs k one all.1)

  above : (k x : K) (xs : List K) → cmp k x ≡ Less → AllByRecursion (λ y. cmp x y ≡ Less) xs → AllByRecursion (λ y. cmp k y ≡ Less) xs
  above k x [] less all = tt
  above k x (y ∷ ys) less all = (total.trans k x y less all.0, above k x ys less all.1)

  put_sorted_by : (x : K) (xs : List K) (k : K) (o : Ordering) → cmp k x ≡ o → IsStrictlySortedBy cmp (x ∷ xs) → IsStrictlySortedBy cmp (insert_key cmp xs k) → IsStrictlySortedBy cmp (match_ordering o (k ∷ x ∷ xs) (x ∷ xs) (x ∷ insert_key cmp xs k))
  unfolding IsStrictlySortedBy
  put_sorted_by x xs k Less is sorted tail = ((is, above k x xs is sorted.0), sorted)
  put_sorted_by x xs k Equal is sorted tail = sorted
  put_sorted_by x xs k Greater is sorted tail = (put_below (λ y. cmp x y ≡ Less) xs k (total.antisymm x k ∙ ap ordering_reverse is) sorted.0, tail)

  put_sorted : (xs : List K) (k : K) → IsStrictlySortedBy cmp xs → IsStrictlySortedBy cmp (insert_key cmp xs k)
  unfolding IsStrictlySortedBy
  put_sorted [] k sorted = (tt, tt)
  put_sorted (x ∷ xs) k sorted = put_sorted_by x xs k (cmp k x) refl sorted (put_sorted xs k sorted.1)

  pub ascending_sorted : (xs : List K) → IsStrictlySortedBy cmp (ascending cmp xs)
  unfolding IsStrictlySortedBy
  ascending_sorted [] = tt
  ascending_sorted (x ∷ xs) = put_sorted (ascending cmp xs) x (ascending_sorted xs)

  pub ascending_members : (xs : List K) (q : K) → Contains (ascending cmp xs) q ↔ Contains xs q
  ascending_members [] q = (λ h. h, λ h. h)
  ascending_members (x ∷ xs) q = (
    λ h. ⊎_elim (λ old. in_tail x xs q ((ascending_members xs q).0 old)) (λ same. subst (Contains (x ∷ xs)) (sym same) (in_head x xs)) ((put_members (ascending cmp xs) x q).0 h),
    λ h. ⊎_elim (λ same. (put_members (ascending cmp xs) x q).1 (inr (sym same))) (λ later. (put_members (ascending cmp xs) x q).1 (inl ((ascending_members xs q).1 later))) (in_cons x xs q h),
  )

  -- keys in order with the members of xs
  pub is_ascending : (ks xs : List K) → IsStrictlySortedBy cmp ks → ((q : K) → Contains ks q ↔ Contains xs q) → ks ≡ ascending cmp xs
  is_ascending ks xs sorted same = same_sorted cmp total ks (ascending cmp xs) sorted (ascending_sorted xs)
      (λ q. (λ h. (ascending_members xs q).1 ((same q).0 h), λ h. (same q).1 ((ascending_members xs q).0 h)))

  -- lists with the same members have one `ascending`: the list is a function of the facts alone
  pub ascending_same : (xs ys : List K) → ((q : K) → Contains xs q ↔ Contains ys q) → ascending cmp xs ≡ ascending cmp ys
  ascending_same xs ys same = is_ascending (ascending cmp xs) ys (ascending_sorted xs) (λ q. (λ h. (same q).0 ((ascending_members xs q).0 h), λ h. (ascending_members xs q).1 ((same q).1 h)))
