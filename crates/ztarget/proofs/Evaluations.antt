-- The lists that are known while a criterion is evaluated: one more, and none at first.
use Rattle.std.proofs.Common.{◌≡◌, refl, sym, ◌∙◌, ap, ℕ, ℤ, List, [], Bool, true, false, cond, Some}
use Rattle.std.proofs.lemmas.Map.Lookups.{exact_pairs, exact_signed, exact_bytes}
use Rattle.std.specs.BTreeMap.{BTreeMap, is_at, Updates}
use Rattle.std.specs.Cmp.{Equal-is}
use Rattle.std.specs.Cmp.Lexicographic.{slice_cmp}
use Rattle.std.specs.FinMap.{slice_cmp-IsAntisymmetric}
use Rattle.std.specs.Map.{lookup}
use Rattle.std.specs.Option.{unwrap_or}
use Rattle.std.specs.Ordering.{nat_cmp, int_cmp, bool_cmp, ordering_then}
use Rattle.std.specs.declared.cmp.Ordering.TheVariants.{Equal}
use Rattle.ztarget.specs.declared.database.Entry.{Entry}
use Rattle.ztarget.specs.declared.evaluation.Sought.{Sought}
use Rattle.ztarget.specs.Asking.{HasPhrase, is_satisfied}
use Rattle.ztarget.specs.Evaluating.{has_sought, sought_cmp, IsListOf, AreLists}
use Rattle.ztarget.specs.Searching.{places_from}

exact_bool : (x y : Bool) → bool_cmp x y ≡ Equal → x ≡ y
exact_bool false false same = refl
exact_bool false true same = absurd (Prim.cc same)
exact_bool true false same = absurd (Prim.cc same)
exact_bool true true same = refl

-- phrases that are not told apart are had by the same entries
same_sought : (s t : Sought) → sought_cmp s t ≡ Equal → has_sought s ≡ has_sought t
same_sought s t same = ap (λ (p : ℤ × (Bool × List (List ℕ))). is_satisfied (HasPhrase p.0 p.1.0 p.1.1))
    (exact_pairs int_cmp (λ (x y : Bool × List (List ℕ)). ordering_then (bool_cmp x.0 y.0) (slice_cmp (slice_cmp nat_cmp) x.1 y.1)) exact_signed
    (exact_pairs bool_cmp (slice_cmp (slice_cmp nat_cmp)) exact_bool (slice_cmp-IsAntisymmetric exact_bytes))
    (s.used, (s.truncated, s.asked.now)) (t.used, (t.truncated, t.asked.now)) same)

module _ (entries : List Entry) where
  pub list_more : (m n : BTreeMap Sought (List ℕ)) (s : Sought) (list : List ℕ) → Updates sought_cmp m n s (Some list) → IsListOf entries s list → AreLists entries m.entries → AreLists entries n.entries
  list_more m n s list updates is are t found at = by (is_at (sought_cmp s) t) refl
    where
      by : (b : Bool) → is_at (sought_cmp s) t ≡ b → IsListOf entries t found
      by true here =
          let told : Some list ≡ Some found = sym (updates.0 t ∙ ap (λ b. cond b (Some list) (lookup (is_at (sought_cmp t)) m.entries)) here) ∙ at in
          sym (ap (λ o. unwrap_or o []) told)
          ∙ is
          ∙ ap (λ p. places_from p 0 entries) (same_sought s t ((Equal-is (sought_cmp s t)).0 here))
      by false other = are t found (sym (updates.0 t ∙ ap (λ b. cond b (Some list) (lookup (is_at (sought_cmp t)) m.entries)) other) ∙ at)
