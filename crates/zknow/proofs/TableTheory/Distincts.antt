-- Values in order: one more in its gap, and a list of them joined into another.
use Rattle.std.proofs.Common.{◌≡◌, ℕ, zero, suc, ◌≤◌, List, [], ◌∷◌, ◌++◌, length, take, drop, ◌⊎◌, ◌↔◌, sym, ap, subst, ◌∙◌, inl, inr, ⊎_elim, arith, take-append-drop}
use Rattle.std.specs.Prelude.{Contains}
use Rattle.std.specs.declared.cmp.Ordering.{Ordering}
use Rattle.std.specs.declared.cmp.Ordering.TheVariants.{Less}
use Rattle.std.specs.Cmp.{IsTotalOrder}
use Rattle.std.specs.Ordering.{ordering_reverse}
use Rattle.std.specs.List.{AllByRecursion, insert}
use Rattle.std.specs.List.Sorted.{IsStrictlySortedBy}
use Rattle.std.proofs.lemmas.List.Elements.{Contains-append_cases, Contains-append_left, Contains-append_right}
use Rattle.zknow.specs.Tables.Join.{IsUnion, IsPartOfUnion}
use Rattle.zknow.specs.Tables.Search.{IsGap}
use Rattle.zknow.specs.Tables.Distinct.{AreDistinct}
use Rattle.zknow.specs.Tables.DistinctLaws.{in_cons, in_head, in_tail, none_in_nil}
use Rattle.zknow.proofs.TableTheory.Unions.{IsJoining, joining_part, joining_more, joining_all}

module _ {T : Type 0} where
  -- what holds of all and of y holds of all after an insert
  pub all_insert : (P : T → Type 0) (i : ℕ) (xs : List T) (y : T) → i ≤ length xs → AllByRecursion P xs → P y → AllByRecursion P (insert xs i y)
  all_insert P zero xs y le all one = (one, all)
  all_insert P (suc i) [] y le all one = absurd (omega arith)
  all_insert P (suc i) (x ∷ xs) y le all one = (all.0, all_insert P i xs y (omega arith) all.1 one)

  -- the members after an insert
  pub insert_union : (xs : List T) (i : ℕ) (y : T) → IsUnion (Contains xs) (λ x. x ≡ y) (Contains (insert xs i y))
  insert_union xs i y x = (from, ⊎_elim old new)
    where
      parts : take i xs ++ drop i xs ≡ xs
      parts = take-append-drop i xs

      from : Contains (insert xs i y) x → Contains xs x ⊎ (x ≡ y)
      from h = ⊎_elim
          (λ front. inl (subst (λ l. Contains l x) parts (Contains-append_left (take i xs) (drop i xs) x front)))
          (λ back. ⊎_elim (λ here. inr (sym here)) (λ later. inl (subst (λ l. Contains l x) parts (Contains-append_right (take i xs) (drop i xs) x later))) (in_cons y (drop i xs) x back))
          (Contains-append_cases (take i xs) (y ∷ drop i xs) x h)

      old : Contains xs x → Contains (insert xs i y) x
      old h = ⊎_elim
          (λ front. Contains-append_left (take i xs) (y ∷ drop i xs) x front)
          (λ back. Contains-append_right (take i xs) (y ∷ drop i xs) x (in_tail y (drop i xs) x back))
          (Contains-append_cases (take i xs) (drop i xs) x (subst (λ l. Contains l x) (sym parts) h))

      new : x ≡ y → Contains (insert xs i y) x
      new same = subst (Contains (insert xs i y)) (sym same) (Contains-append_right (take i xs) (y ∷ drop i xs) y (in_head y (drop i xs)))

  -- the first of a list and the others
  pub first_others : (x : T) (xs whole : List T) → whole ≡ x ∷ xs → (y : T) → Contains whole y ↔ ((y ≡ x) ⊎ Contains xs y)
  first_others x xs whole is y = (
    λ h. ⊎_elim (λ same. inl (sym same)) inr (in_cons x xs y (subst (λ l. Contains l y) is h)),
    ⊎_elim (λ same. subst (λ l. Contains l y) (sym is) (subst (Contains (x ∷ xs)) (sym same) (in_head x xs))) (λ later. subst (λ l. Contains l y) (sym is) (in_tail x xs y later)),
  )

  -- what a loop over a list of values keeps: those that are left are valid
  pub record JoinsList (valid : T → Type 0) (old other now rest : List T) : Type 0 where
    pub rest_valid : AllByRecursion valid rest
    pub joining : IsJoining (Contains old) (Contains other) (Contains now) (Contains rest)

  module _ (valid : T → Type 0) (old other now rest : List T) (m : JoinsList valid old other now rest) where
    pub joins_all : rest ≡ [] → IsUnion (Contains old) (Contains other) (Contains now)
    joins_all none = joining_all (Contains old) (Contains other) (Contains now) (Contains rest) (λ x h. none_in_nil x (subst (λ l. Contains l x) none h)) m.joining

    module _ (x : T) (after : List T) (front : rest ≡ x ∷ after) where
      pub joins_part : (next : List T) → IsPartOfUnion (Contains now) (λ y. y ≡ x) (Contains next) → IsPartOfUnion (Contains old) (Contains other) (Contains next)
      joins_part next step = joining_part (Contains old) (Contains other) (Contains now) (λ y. y ≡ x) (Contains next) (Contains rest) (Contains after) (first_others x after rest front) step m.joining

      pub joins_more : (next : List T) → IsUnion (Contains now) (λ y. y ≡ x) (Contains next) → JoinsList valid old other next after
      joins_more next union = record {
        rest_valid = (subst (λ l. AllByRecursion valid l) front m.rest_valid).1;
        joining = joining_more (Contains old) (Contains other) (Contains now) (λ y. y ≡ x) (Contains next) (Contains rest) (Contains after) (first_others x after rest front) union m.joining;
      }

  module _ (order : T → T → Ordering) (total : IsTotalOrder order) where
    above_all : (x y : T) (ys : List T) → order x y ≡ Less → AllByRecursion (λ z. order y z ≡ Less) ys → AllByRecursion (λ z. order x z ≡ Less) ys
    above_all x y [] less all = tt
    above_all x y (z ∷ zs) less all = (total.trans x y z less all.0, above_all x y zs less all.1)

    pub sorted_insert : (i : ℕ) (xs : List T) (y : T) → IsStrictlySortedBy order xs → IsGap (λ x. order x y) xs i → IsStrictlySortedBy order (insert xs i y)
    unfolding IsStrictlySortedBy
    sorted_insert zero [] y sorted gap = (tt, tt)
    sorted_insert zero (x ∷ xs) y sorted gap =
        let less : order y x ≡ Less = total.antisymm y x ∙ ap ordering_reverse (gap.after 0 y (omega arith) (omega arith)) in
        ((less, above_all y x xs less sorted.0), sorted)
    sorted_insert (suc i) [] y sorted gap = absurd (omega (arith, gap.within))
    sorted_insert (suc i) (x ∷ xs) y sorted gap =
        let le : i ≤ length xs = omega (arith, gap.within) in (
          all_insert (λ z. order x z ≡ Less) i xs y le sorted.0 (gap.before 0 y (omega arith)),
          sorted_insert i xs y sorted.1 (record { within = le; before = λ k d lt. gap.before (suc k) d (omega arith); after = λ k d le lt. gap.after (suc k) d (omega arith) (omega arith) }),
        )

    pub distinct_insert : (valid : T → Type 0) (xs : List T) (i : ℕ) (y : T) → AreDistinct order valid xs → valid y → IsGap (λ x. order x y) xs i → AreDistinct order valid (insert xs i y)
    distinct_insert valid xs i y was good gap = record { ordered = sorted_insert i xs y was.ordered gap; each = all_insert valid i xs y gap.within was.each good }
