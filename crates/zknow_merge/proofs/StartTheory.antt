-- A merge of inputs of which nothing has come.
use Rattle.std.proofs.Common.{◌≡◌, ◌<◌, ℕ, false, List, [], ◌∷◌, length, get_or, Option, None, refl, sym, ap, subst, ◌∙◌, arith, length-append}
use Rattle.std.specs.List.Sorted.{IsStrictlySortedBy}
use Rattle.zknow.specs.Tables.DistinctLaws.{none_in_nil}
use Rattle.zknow_merge.specs.declared.merge.Merge.{Merge}
use Rattle.zknow_merge.specs.declared.refusal.Refusal.{Refusal}
use Rattle.zknow_merge.specs.declared.source.Source.{Source}
use Rattle.zknow_merge.specs.Inputs.{Input, no_input, fresh}
use Rattle.zknow_merge.specs.Sources.{IsReadFrom}
use Rattle.zknow_merge.specs.Merges.{AreMerged, IsCut, IsMerge}
use Rattle.zknow_merge.proofs.InputTheory.{fresh_length, fresh_at}

none_merged : (inputs : List Input) → AreMerged inputs []
unfolding IsStrictlySortedBy
none_merged inputs = record {
  ordered = tt;
  savable = λ f here. absurd (none_in_nil f here);
  ahead = λ f here. absurd (none_in_nil f here);
}

pub new_merge : (n : ℕ) (m : Merge) → 0 < n → length m.sources.items ≡ n → ((k : ℕ) (d : Source) → k < length m.sources.items → IsReadFrom [] no_input (get_or m.sources.items k d)) → m.last ≡ None → m.named ≡ false → m.refusal ≡ None → IsMerge (fresh n) [] m
new_merge n m some count read last named refusal = record {
  some = omega (arith, some, fresh_length n);
  names = [];
  merged = [];
  read = λ k d lt. subst (λ (i : Input). IsReadFrom [] i (get_or m.sources.items k d)) (sym (fresh_at n k)) (read k d lt);
  facts = none_merged (fresh n);
  last = record { none = λ _. last; some = λ front f e. absurd (omega (arith, ap length e, length-append front (f ∷ []))) };
  cut = subst (λ (r : Option Refusal). IsCut r (fresh n) [] m.sources.items) (sym refusal) (count ∙ sym (fresh_length n));
  named = λ e. absurd cc;
  unnamed = λ _. record { none = refl; nothing = refl; alike = λ e. absurd cc };
  handed = λ _ e. absurd cc;
}
