-- Keys sorted, and each kept once.
use Rattle.std.proofs.Common.{◌≡◌, List, Bool, sym, ◌∙◌}
use Rattle.std.specs.declared.cmp.Ordering.{Ordering}
use Rattle.std.specs.declared.cmp.Ordering.TheVariants.{Equal}
use Rattle.std.specs.Cmp.{IsTotalOrder, IsEquivalence, Equal-is}
use Rattle.std.specs.Ordering.{eq_by_cmp}
use Rattle.std.specs.List.{dedup}
use Rattle.std.specs.List.Sorted.{IsSorted, IsPermutation}
use Rattle.std.proofs.lemmas.List.Kept.{Contains-dedup, Contains-from_dedup, IsStrictlySortedBy-dedup}
use Rattle.std.proofs.lemmas.List.Sorted.{Contains-permutation, IsPermutation-sym}
use Rattle.zknow.specs.List.Listing.{ascending}
use Rattle.zknow.proofs.ListTheory.Ascending.{is_ascending}

pub sorted_once : {K : Type 0} (cmp : K → K → Ordering) (total : IsTotalOrder cmp) (exact : (a b : K) → cmp a b ≡ Equal → a ≡ b) (E : K → K → Bool) (equal : IsEquivalence E) (ties : (x y : K) → E x y ≡ eq_by_cmp cmp x y)
    (keys moved : List K) → IsPermutation keys moved → IsSorted cmp moved → dedup E moved ≡ ascending cmp keys
sorted_once cmp total exact E equal ties keys moved moves sorted = is_ascending cmp total exact (dedup E moved) keys (IsStrictlySortedBy-dedup total ties moved sorted)
    (λ q. (
      λ h. Contains-permutation moved keys q (IsPermutation-sym keys moved moves) (Contains-from_dedup E moved q h),
      λ h. Contains-dedup equal (λ x y same. exact x y ((Equal-is (cmp x y)).0 (sym (ties x y) ∙ same))) moved q (Contains-permutation keys moved q moves h),
    ))
