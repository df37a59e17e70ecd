-- A reply fits exactly where no row of the table holds of it.
use Rattle.std.proofs.Common.{◌≡◌, ◌≢◌, ◌⊎◌, inl, inr, ℕ, ◌≤◌, ℤ, pos, negsuc, ◌≤ℤ◌, int_lt, Bool, true, false, cond, not, ◌||◌, ◌&&◌, ltb, ◌==◌, List, [], ◌∷◌, length, Option, None, Some, refl, sym, ap, ◌∙◌, true≢false, arith}
use Rattle.std.proofs.lemmas.Bool.Decides.{nat_tests}
use Rattle.std.proofs.lemmas.Int.{ints}
use Rattle.zapdu.specs.declared.apdu.Apdu.{Apdu}
use Rattle.zapdu.specs.declared.apdu.Apdu.TheVariants as apdus
use Rattle.zapdu.specs.declared.productions.record.Records.{Records}
use Rattle.zapdu.specs.declared.productions.search_response.SearchResponse.{SearchResponse}
use Rattle.zapdu.specs.declared.productions.present_response.PresentResponse.{PresentResponse}
use Rattle.zorigin.specs.declared.answer.What.{What}
use Rattle.zorigin.specs.declared.answer.What.TheVariants as what
use Rattle.zorigin.specs.declared.refusal.Refused.TheVariants as refused
use Rattle.zplan.specs.Ranges.{positions}
use Rattle.zorigin.specs.Fitting.{records_in, diagnostics_in, is_empty, has_fragment, IsRecordCount, IsFitSearchReply, IsFitPresentReply, IsFitReply, is_number, is_more_than, count_mismatch, has_negative_count, bad_search, bad_present, search_fault, present_fault, fault_of}

-- ---- the rows

some_so : {X : Type 0} (xs : List X) → is_empty xs ≡ false → xs ≢ []
some_so [] h e = true≢false h
some_so (x ∷ xs) h e = cc

so_some : {X : Type 0} (xs : List X) → xs ≢ [] → is_empty xs ≡ false
so_some [] h = absurd (h refl)
so_some (x ∷ xs) h = refl

number_so : (n : ℤ) (k : ℕ) → is_number n k ≡ true → n ≡ pos k
number_so (pos n) k h = ap (λ m. pos m) (same n k h)
  where
    same : (m n : ℕ) → (m == n) ≡ true → m ≡ n
    same m n h = grind (arith, nat_tests)
number_so (negsuc n) k h = absurd (true≢false (sym h))

so_number : (n : ℤ) (k : ℕ) → n ≡ pos k → is_number n k ≡ true
so_number n k e = ap (λ m. is_number m k) e ∙ same k
  where
    same : (m : ℕ) → (m == m) ≡ true
    same m = grind (arith, nat_tests)

within_so : (k : ℕ) (n : ℤ) → is_more_than k n ≡ false → pos k ≤ℤ n
within_so k (pos n) h = let e : k ≤ n = grind (arith, nat_tests) in omega (arith, ints)
within_so k (negsuc n) h = absurd (true≢false h)

so_within : (k : ℕ) (n : ℤ) → pos k ≤ℤ n → is_more_than k n ≡ false
so_within k (pos n) h = let e : k ≤ n = omega (arith, ints) in grind (arith, nat_tests)
so_within k (negsuc n) h = absurd (omega (arith, ints))

positive_so : (n : ℤ) → int_lt n (pos 0) ≡ false → pos 0 ≤ℤ n
positive_so (pos n) h = omega (arith, ints)
positive_so (negsuc n) h = absurd (true≢false h)

so_positive : (n : ℤ) → pos 0 ≤ℤ n → int_lt n (pos 0) ≡ false
so_positive (pos n) h = let e : ltb n 0 ≡ false = grind (arith, nat_tests) in e
so_positive (negsuc n) h = absurd (omega (arith, ints))

counted_so : (records : Option Records) (n : ℤ) → count_mismatch records n ≡ false → IsRecordCount records n
counted_so records n h = by (is_empty (diagnostics_in records)) (is_number n (length (records_in records))) refl refl h
  where
    by : (e m : Bool) → is_empty (diagnostics_in records) ≡ e → is_number n (length (records_in records)) ≡ m → (e && not m) ≡ false → IsRecordCount records n
    by false m d k g = inl (some_so (diagnostics_in records) d)
    by true true d k g = inr (number_so n (length (records_in records)) k)
    by true false d k g = absurd (true≢false g)

so_counted : (records : Option Records) (n : ℤ) → IsRecordCount records n → count_mismatch records n ≡ false
so_counted records n (inl d) = ap (λ b. b && not (is_number n (length (records_in records)))) (so_some (diagnostics_in records) d)
so_counted records n (inr e) = ap (λ b. is_empty (diagnostics_in records) && not b) (so_number n (length (records_in records)) e) ∙ and_false (is_empty (diagnostics_in records))
  where
    and_false : (b : Bool) → (b && false) ≡ false
    and_false true = refl
    and_false false = refl

neither : (a b : Bool) → (a || b) ≡ false → (a ≡ false) × (b ≡ false)
neither false false h = (refl, refl)
neither true b h = absurd (true≢false h)
neither false true h = absurd (true≢false h)

both_false : (a b : Bool) → a ≡ false → b ≡ false → (a || b) ≡ false
both_false a b h k = ap (λ x. x || b) h ∙ k

-- ---- replies

search_so : (v : SearchResponse) (a b c : Bool) → count_mismatch v.records v.number_of_records_returned ≡ a → has_negative_count v ≡ b → bad_search v ≡ c
    → cond a (Some refused.CountMismatch) (cond b (Some refused.BadNumber) (cond c (Some refused.BadShape) None)) ≡ None → IsFitSearchReply v
search_so v true b c ea eb ec h = absurd (cc)
search_so v false true c ea eb ec h = absurd (cc)
search_so v false false true ea eb ec h = absurd (cc)
search_so v false false false ea eb ec h =
    let shape = neither (is_more_than (length (records_in v.records)) v.result_count) (has_fragment v.records) ec in
    record {
      counted = counted_so v.records v.number_of_records_returned ea;
      positive = positive_so v.result_count eb;
      within = within_so (length (records_in v.records)) v.result_count shape.0;
      entire = shape.1;
    }

so_search : (v : SearchResponse) → IsFitSearchReply v → search_fault v ≡ None
so_search v f =
    let a : count_mismatch v.records v.number_of_records_returned ≡ false = so_counted v.records v.number_of_records_returned f.counted in
    let b : has_negative_count v ≡ false = so_positive v.result_count f.positive in
    let c : bad_search v ≡ false = both_false (is_more_than (length (records_in v.records)) v.result_count) (has_fragment v.records) (so_within (length (records_in v.records)) v.result_count f.within) f.entire in
    λ i. cond (a i) (Some refused.CountMismatch) (cond (b i) (Some refused.BadNumber) (cond (c i) (Some refused.BadShape) None))

some_shown : (v : PresentResponse) → (is_empty (records_in v.records) && is_empty (diagnostics_in v.records)) ≡ false → (records_in v.records ≢ []) ⊎ (diagnostics_in v.records ≢ [])
some_shown v h = by (is_empty (records_in v.records)) (is_empty (diagnostics_in v.records)) refl refl h
  where
    by : (a b : Bool) → is_empty (records_in v.records) ≡ a → is_empty (diagnostics_in v.records) ≡ b → (a && b) ≡ false → (records_in v.records ≢ []) ⊎ (diagnostics_in v.records ≢ [])
    by false b d e g = inl (some_so (records_in v.records) d)
    by true false d e g = inr (some_so (diagnostics_in v.records) e)
    by true true d e g = absurd (true≢false g)

shown_some : (v : PresentResponse) → (records_in v.records ≢ []) ⊎ (diagnostics_in v.records ≢ []) → (is_empty (records_in v.records) && is_empty (diagnostics_in v.records)) ≡ false
shown_some v (inl d) = ap (λ b. b && is_empty (diagnostics_in v.records)) (so_some (records_in v.records) d)
shown_some v (inr d) = ap (λ b. is_empty (records_in v.records) && b) (so_some (diagnostics_in v.records) d) ∙ and_false (is_empty (records_in v.records))
  where
    and_false : (b : Bool) → (b && false) ≡ false
    and_false true = refl
    and_false false = refl

not_more : (k n : ℕ) → ltb n k ≡ false → k ≤ n
not_more k n h = grind (arith, nat_tests)

no_more : (k n : ℕ) → k ≤ n → ltb n k ≡ false
no_more k n h = grind (arith, nat_tests)

present_so : (asked : List ℕ) (v : PresentResponse) (a b : Bool) → count_mismatch v.records v.number_of_records_returned ≡ a → bad_present asked v ≡ b
    → cond a (Some refused.CountMismatch) (cond b (Some refused.BadShape) None) ≡ None → IsFitPresentReply asked v
present_so asked v true b ea eb h = absurd (cc)
present_so asked v false true ea eb h = absurd (cc)
present_so asked v false false ea eb h =
    let many = ltb (length asked) (length (records_in v.records)) in
    let none = is_empty (records_in v.records) && is_empty (diagnostics_in v.records) in
    let last = neither (many || has_fragment v.records) none eb in
    let shape = neither many (has_fragment v.records) last.0 in
    record {
      counted = counted_so v.records v.number_of_records_returned ea;
      within = not_more (length (records_in v.records)) (length asked) shape.0;
      entire = shape.1;
      some = some_shown v last.1;
    }

so_present : (asked : List ℕ) (v : PresentResponse) → IsFitPresentReply asked v → present_fault asked v ≡ None
so_present asked v f =
    let many = ltb (length asked) (length (records_in v.records)) in
    let a : count_mismatch v.records v.number_of_records_returned ≡ false = so_counted v.records v.number_of_records_returned f.counted in
    let b : bad_present asked v ≡ false = both_false (many || has_fragment v.records) (is_empty (records_in v.records) && is_empty (diagnostics_in v.records))
    (both_false many (has_fragment v.records) (no_more (length (records_in v.records)) (length asked) f.within) f.entire) (shown_some v f.some) in
    λ i. cond (a i) (Some refused.CountMismatch) (cond (b i) (Some refused.BadShape) None)

pub fitting : (w : What) (reply : Apdu) → fault_of w reply ≡ None → IsFitReply w reply
fitting what.Init (apdus.InitRequest v) h = absurd (cc)
fitting what.Init (apdus.InitResponse v) h = tt
fitting what.Init (apdus.SearchRequest v) h = absurd (cc)
fitting what.Init (apdus.SearchResponse v) h = absurd (cc)
fitting what.Init (apdus.PresentRequest v) h = absurd (cc)
fitting what.Init (apdus.PresentResponse v) h = absurd (cc)
fitting what.Init (apdus.Close v) h = absurd (cc)
fitting what.Search (apdus.InitRequest v) h = absurd (cc)
fitting what.Search (apdus.InitResponse v) h = absurd (cc)
fitting what.Search (apdus.SearchRequest v) h = absurd (cc)
fitting what.Search (apdus.SearchResponse v) h = search_so v (count_mismatch v.records v.number_of_records_returned) (has_negative_count v) (bad_search v) refl refl refl h
fitting what.Search (apdus.PresentRequest v) h = absurd (cc)
fitting what.Search (apdus.PresentResponse v) h = absurd (cc)
fitting what.Search (apdus.Close v) h = absurd (cc)
fitting (what.Present ranges) (apdus.InitRequest v) h = absurd (cc)
fitting (what.Present ranges) (apdus.InitResponse v) h = absurd (cc)
fitting (what.Present ranges) (apdus.SearchRequest v) h = absurd (cc)
fitting (what.Present ranges) (apdus.SearchResponse v) h = absurd (cc)
fitting (what.Present ranges) (apdus.PresentRequest v) h = absurd (cc)
fitting (what.Present ranges) (apdus.PresentResponse v) h = present_so (positions ranges) v (count_mismatch v.records v.number_of_records_returned) (bad_present (positions ranges) v) refl refl h
fitting (what.Present ranges) (apdus.Close v) h = absurd (cc)

pub fits_none : (w : What) (reply : Apdu) → IsFitReply w reply → fault_of w reply ≡ None
fits_none what.Init (apdus.InitRequest v) h = absurd h
fits_none what.Init (apdus.InitResponse v) h = refl
fits_none what.Init (apdus.SearchRequest v) h = absurd h
fits_none what.Init (apdus.SearchResponse v) h = absurd h
fits_none what.Init (apdus.PresentRequest v) h = absurd h
fits_none what.Init (apdus.PresentResponse v) h = absurd h
fits_none what.Init (apdus.Close v) h = absurd h
fits_none what.Search (apdus.InitRequest v) h = absurd h
fits_none what.Search (apdus.InitResponse v) h = absurd h
fits_none what.Search (apdus.SearchRequest v) h = absurd h
fits_none what.Search (apdus.SearchResponse v) h = so_search v h
fits_none what.Search (apdus.PresentRequest v) h = absurd h
fits_none what.Search (apdus.PresentResponse v) h = absurd h
fits_none what.Search (apdus.Close v) h = absurd h
fits_none (what.Present ranges) (apdus.InitRequest v) h = absurd h
fits_none (what.Present ranges) (apdus.InitResponse v) h = absurd h
fits_none (what.Present ranges) (apdus.SearchRequest v) h = absurd h
fits_none (what.Present ranges) (apdus.SearchResponse v) h = absurd h
fits_none (what.Present ranges) (apdus.PresentRequest v) h = absurd h
fits_none (what.Present ranges) (apdus.PresentResponse v) h = so_present (positions ranges) v h
fits_none (what.Present ranges) (apdus.Close v) h = absurd h
