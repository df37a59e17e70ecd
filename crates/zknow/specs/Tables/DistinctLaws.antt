-- A list in order is determined by its members.
use Rattle.std.specs.Prelude.{◌≡◌, ◌↔◌, ◌⊎◌, List, [], ◌∷◌, Contains}
use Rattle.std.proofs.Common.{refl, sym, ap, subst, ◌∙◌, inl, inr, ⊎_elim, arith}
use Rattle.std.specs.declared.cmp.Ordering.{Ordering}
use Rattle.std.specs.declared.cmp.Ordering.TheVariants.{Less, Equal, Greater}
use Rattle.std.specs.Cmp.{IsTotalOrder}
use Rattle.std.specs.Ordering.{ordering_reverse}
use Rattle.std.specs.List.{AllByRecursion}
use Rattle.std.specs.List.Sorted.{IsStrictlySortedBy}
use Rattle.std.proofs.lemmas.Cmp.{tied_itself}
use Rattle.std.proofs.lemmas.Map.Keys.{sorted_head, sorted_tail}
use Rattle.std.proofs.lemmas.List.Elements.{Contains-append_cases, Contains-push_cases, Contains-append_left, Contains-append_right, Contains-push}
use Rattle.zknow.specs.Tables.Distinct.{AreDistinct}

module _ {T : Type 0} where
  pub none_in_nil : (x : T) → Contains [] x → ⊥
  none_in_nil x h = omega (arith, h.1)

  pub in_cons : (y : T) (ys : List T) (x : T) → Contains (y ∷ ys) x → (y ≡ x) ⊎ Contains ys x
  in_cons y ys x h =
      ⊎_elim (λ one. ⊎_elim (λ no. absurd (none_in_nil x no)) inl (Contains-push_cases [] y x one)) inr
      (Contains-append_cases (y ∷ []) ys x h)

  pub in_head : (y : T) (ys : List T) → Contains (y ∷ ys) y
  in_head y ys = Contains-append_left (y ∷ []) ys y (Contains-push [] y)

  pub in_tail : (y : T) (ys : List T) (x : T) → Contains ys x → Contains (y ∷ ys) x
  in_tail y ys x h = Contains-append_right (y ∷ []) ys x h

  pub each_in : (P : T → Type 0) (xs : List T) → AllByRecursion P xs → (x : T) → Contains xs x → P x
  each_in P [] all x h = absurd (none_in_nil x h)
  each_in P (y ∷ ys) all x h =
      ⊎_elim (λ same. subst P same all.0) (λ later. each_in P ys all.1 x later) (in_cons y ys x h)

  module _ (order : T → T → Ordering) (total : IsTotalOrder order) where
    pub less_itself : (x : T) → order x x ≡ Less → ⊥
    less_itself x less = let tied = tied_itself total x in (cc)

    less_back : (x y : T) → order x y ≡ Less → order y x ≡ Less → ⊥
    less_back x y less back = less_itself x (total.trans x y x less back)

    -- what is below the first is not in the list
    not_below : (x y : T) (ys : List T) → IsStrictlySortedBy order (y ∷ ys) → order x y ≡ Less → Contains (y ∷ ys) x → ⊥
    not_below x y ys sorted less h = ⊎_elim
        (λ same. less_itself x (subst (λ z. order x z ≡ Less) same less))
        (λ later. less_back x y less (each_in (λ z. order y z ≡ Less) ys (sorted_head order y ys sorted) x later))
        (in_cons y ys x h)

    -- the first of two equal lists aside, a member of one rest is one of the other
    rest_of : (x y : T) (xs ys : List T) → IsStrictlySortedBy order (x ∷ xs) → x ≡ y
        → ((z : T) → Contains (x ∷ xs) z → Contains (y ∷ ys) z) → (z : T) → Contains xs z → Contains ys z
    rest_of x y xs ys sorted same sub z h = ⊎_elim
        (λ first. absurd (less_itself z
        (subst (λ q. order q z ≡ Less) (same ∙ first)
        (each_in (λ q. order x q ≡ Less) xs (sorted_head order x xs sorted) z h))))
        (λ later. later)
        (in_cons y ys z (sub z (in_tail x xs z h)))

    -- what ties with the first is the first
    tied_first : (x y : T) (ys : List T) → IsStrictlySortedBy order (y ∷ ys) → order x y ≡ Equal
        → Contains (y ∷ ys) x → x ≡ y
    tied_first x y ys sorted tied h = ⊎_elim
        sym
        (λ later. let less = each_in (λ z. order y z ≡ Less) ys (sorted_head order y ys sorted) x later
        in let back = total.antisymm x y ∙ ap ordering_reverse less in absurd (cc))
        (in_cons y ys x h)

    by_order : (x y : T) (xs ys : List T) → IsStrictlySortedBy order (x ∷ xs) → IsStrictlySortedBy order (y ∷ ys)
        → ((z : T) → Contains (x ∷ xs) z ↔ Contains (y ∷ ys) z)
        → (((z : T) → Contains xs z ↔ Contains ys z) → xs ≡ ys) → (o : Ordering) → order x y ≡ o → x ∷ xs ≡ y ∷ ys
    by_order x y xs ys xs_sorted ys_sorted same tails Less is =
        absurd (not_below x y ys ys_sorted is ((same x).0 (in_head x xs)))
    by_order x y xs ys xs_sorted ys_sorted same tails Greater is =
        absurd (not_below y x xs xs_sorted (total.antisymm y x ∙ ap ordering_reverse is) ((same y).1 (in_head y ys)))
    by_order x y xs ys xs_sorted ys_sorted same tails Equal is =
        let heads = tied_first x y ys ys_sorted is ((same x).0 (in_head x xs)) in
        let rest =
        tails (λ z. (
          rest_of x y xs ys xs_sorted heads (λ q. (same q).0) z,
          rest_of y x ys xs ys_sorted (sym heads)
              (λ q. (same q).1) z,
        )) in
        ap (λ q. q ∷ xs) heads ∙ ap (λ qs. y ∷ qs) rest

    -- lists in order with the same members are equal
    pub same_sorted : (xs ys : List T) → IsStrictlySortedBy order xs → IsStrictlySortedBy order ys
        → ((z : T) → Contains xs z ↔ Contains ys z) → xs ≡ ys
    same_sorted [] [] xs_sorted ys_sorted same = refl
    same_sorted [] (y ∷ ys) xs_sorted ys_sorted same = absurd (none_in_nil y ((same y).1 (in_head y ys)))
    same_sorted (x ∷ xs) [] xs_sorted ys_sorted same = absurd (none_in_nil x ((same x).0 (in_head x xs)))
    same_sorted (x ∷ xs) (y ∷ ys) xs_sorted ys_sorted same =
        by_order x y xs ys xs_sorted ys_sorted same
        (same_sorted xs ys (sorted_tail order x xs xs_sorted) (sorted_tail order y ys ys_sorted)) (order x y) refl

    pub same_distinct : (valid : T → Type 0) (xs ys : List T) → AreDistinct order valid xs → AreDistinct order valid ys
        → ((z : T) → Contains xs z ↔ Contains ys z) → xs ≡ ys
    same_distinct valid xs ys dx dy = same_sorted xs ys dx.ordered dy.ordered
