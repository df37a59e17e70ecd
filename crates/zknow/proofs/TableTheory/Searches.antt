-- A search that halves what is left of a list in order.
use Rattle.std.proofs.Common.{◌≡◌, ℕ, ◌+◌, ◌<◌, ◌≤◌, List, length, get_or, sym, ap, ◌∙◌, ⊎_elim, arith}
use Rattle.std.specs.declared.cmp.Ordering.{Ordering}
use Rattle.std.specs.declared.cmp.Ordering.TheVariants.{Less, Greater}
use Rattle.std.specs.Cmp.{IsTotalOrder}
use Rattle.std.specs.Ordering.{ordering_reverse}
use Rattle.std.specs.List.Sorted.{IsStrictlySortedBy}
use Rattle.std.proofs.lemmas.Bool.{cases_lt}
use Rattle.std.proofs.lemmas.List.{get_or_default}
use Rattle.std.proofs.lemmas.Map.Keys.{Less-from_sorted}

-- in a list in order: what is before one below is below, and what is after one above is above
pub record Rises {T : Type 0} (stands : T → Ordering) (xs : List T) : Type 0 where
  pub below : (j k : ℕ) (d : T) → j < k → k < length xs → stands (get_or xs k d) ≡ Less → stands (get_or xs j d) ≡ Less
  pub above : (j k : ℕ) (d : T) → j < k → k < length xs → stands (get_or xs j d) ≡ Greater → stands (get_or xs k d) ≡ Greater

-- all before low are below, and all from high on above
pub record IsBetween {T : Type 0} (stands : T → Ordering) (xs : List T) (low high : ℕ) : Type 0 where
  pub ordered : low ≤ high
  pub within : high ≤ length xs
  pub before : (k : ℕ) (d : T) → k < low → stands (get_or xs k d) ≡ Less
  pub after : (k : ℕ) (d : T) → high ≤ k → k < length xs → stands (get_or xs k d) ≡ Greater

module _ {T : Type 0} (stands : T → Ordering) (xs : List T) where
  module _ (rises : Rises stands xs) (low high middle : ℕ) (x : T) (from : low ≤ middle) (to : middle < high) (is : x ≡ get_or xs middle x) (between : IsBetween stands xs low high) where
    lt : middle < length xs
    lt = omega (arith, to, between.within)

    at_middle : (o : Ordering) → stands x ≡ o → (d : T) → stands (get_or xs middle d) ≡ o
    at_middle o e d = ap stands (get_or_default xs middle d x lt ∙ sym is) ∙ e

    pub up_from : stands x ≡ Less → IsBetween stands xs (middle + 1) high
    up_from less = record {
      ordered = omega (arith, to);
      within = between.within;
      before = λ k d below. ⊎_elim (λ earlier. rises.below k middle d earlier lt (at_middle Less less d)) (λ here. let same : k ≡ middle = omega (arith, here, below) in ap (λ n. stands (get_or xs n d)) same ∙ at_middle Less less d) (cases_lt k middle);
      after = between.after;
    }

    pub down_to : stands x ≡ Greater → IsBetween stands xs low middle
    down_to greater = record {
      ordered = from;
      within = omega (arith, lt);
      before = between.before;
      after = λ k d above within. ⊎_elim (λ later. rises.above middle k d later within (at_middle Greater greater d)) (λ here. let same : k ≡ middle = omega (arith, here, above) in ap (λ n. stands (get_or xs n d)) same ∙ at_middle Greater greater d) (cases_lt middle k);
    }

module _ {T K : Type 0} (order : K → K → Ordering) (total : IsTotalOrder order) (rank : T → K) (y : K) (xs : List T) (up : (j k : ℕ) (d : T) → j < k → k < length xs → order (rank (get_or xs j d)) (rank (get_or xs k d)) ≡ Less) where
  flipped : (a b : K) → order a b ≡ Less → order b a ≡ Greater
  flipped a b less = total.antisymm b a ∙ ap ordering_reverse less

  unflipped : (a b : K) → order b a ≡ Greater → order a b ≡ Less
  unflipped a b more = total.antisymm a b ∙ ap ordering_reverse more

  pub rises_from : Rises (λ x. order (rank x) y) xs
  rises_from = record {
    below = λ j k d lt within less. total.trans (rank (get_or xs j d)) (rank (get_or xs k d)) y (up j k d lt within) less;
    above = λ j k d lt within more. flipped y (rank (get_or xs k d)) (total.trans y (rank (get_or xs j d)) (rank (get_or xs k d)) (unflipped y (rank (get_or xs j d)) more) (up j k d lt within));
  }

pub rises_sorted : {T : Type 0} (order : T → T → Ordering) (total : IsTotalOrder order) (xs : List T) (y : T) → IsStrictlySortedBy order xs → Rises (λ x. order x y) xs
rises_sorted order total xs y sorted = rises_from order total (λ x. x) y xs (λ j k d lt within. Less-from_sorted order xs j k d sorted lt within)
