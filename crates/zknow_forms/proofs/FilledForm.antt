-- At how many positions of a set a record is shown, in parts.
use Rattle.std.proofs.Common.{◌≡◌, ◌↔◌, ◌+◌, ℕ, ℤ, Bool, true, false, List, [], ◌∷◌, ◌++◌, Some, None, cond, refl, sym, ap, subst, ◌∙◌, inl, inr, ⊎_elim}
use Rattle.std.specs.Prelude.{Contains}
use Rattle.std.specs.declared.cmp.Ordering.TheVariants.{Less}
use Rattle.std.specs.Cmp.{int_cmp_is}
use Rattle.std.specs.List.{filter_map, count_by, list_any}
use Rattle.std.specs.List.Sorted.{IsStrictlySortedBy}
use Rattle.std.specs.Ordering.{int_cmp}
use Rattle.std.proofs.lemmas.Bool.Decides.{Decides-eqb}
use Rattle.std.proofs.lemmas.Cmp.{int_cmp_total}
use Rattle.std.proofs.lemmas.List.Elements.{Contains-append_cases, Contains-append_left, Contains-append_right}
use Rattle.std.proofs.lemmas.List.Sums.{sum_by-append, sum_by-cons}
use Rattle.std.proofs.lemmas.Map.Lookups.{exact_signed}
use Rattle.zapdu.specs.declared.productions.record.Record.{Record}
use Rattle.zber.proofs.Tests.{both_true}
use Rattle.zknow.specs.declared.fact.Fact.{Fact}
use Rattle.zknow.specs.declared.fact.Fact.TheVariants.{Count, Failed, Seen, Diag}
use Rattle.zknow.specs.declared.tables.keys.RowKey.{RowKey}
use Rattle.zknow.specs.declared.tables.keys.SetKey.{SetKey}
use Rattle.zknow.specs.Known.{is_set}
use Rattle.zknow.specs.List.Listing.{ascending, fact_position, positions_at, row_key_of}
use Rattle.zknow.specs.Tables.DistinctLaws.{in_head, in_tail}
use Rattle.zknow.specs.Tables.Keys.{row_cmp, row_total, row_exact}
use Rattle.zknow.proofs.ListTheory.Ascending.{ascending_sorted, ascending_members, is_ascending}
use Rattle.zknow.proofs.ListTheory.KnownAt.{is_set_itself}
use Rattle.zknow.proofs.ListTheory.Places.{image_found, teller}
use Rattle.zknow.proofs.TableTheory.InSections.{sorted_append}
use Rattle.zknow_records.specs.Parts.{HasRecord}
use Rattle.zknow_records.specs.Records.{rows}
use Rattle.zknow_records.proofs.PartTheory.{low_records, high_records}
use Rattle.zknow_titles.specs.Blocks.{filled_in, is_shown_at}
use Rattle.zknow_titles.specs.Entries.{is_shown}
use Rattle.zknow_forms.specs.Forms.{AreInParts, AreOthers}
use Rattle.zknow_forms.proofs.InParts.{none_told, record_parts}

-- ---- counts

module _ {X : Type 0} (p q : X → Bool) where
  count_same : (xs : List X) → ((x : X) → Contains xs x → p x ≡ q x) → count_by p xs ≡ count_by q xs
  count_same [] same = refl
  count_same (x ∷ xs) same =
      sum_by-cons (λ y. cond (p y) 1 0) x xs
      ∙ ap (λ (b : Bool). cond b 1 0 + count_by p xs) (same x (in_head x xs))
      ∙ ap (λ (n : ℕ). cond (q x) 1 0 + n) (count_same xs (λ y h. same y (in_tail x xs y h)))
      ∙ sym (sum_by-cons (λ y. cond (q y) 1 0) x xs)

count_append : {X : Type 0} (p : X → Bool) (xs ys : List X) → count_by p (xs ++ ys) ≡ count_by p xs + count_by p ys
count_append p xs ys = sum_by-append (λ x. cond (p x) 1 0) xs ys

-- ---- the positions of a set

some_if : {Y : Type 0} (b : Bool) (y z : Y) → cond b (Some y) None ≡ Some z → (b ≡ true) × (y ≡ z)
some_if true y z is = (refl, cc)
some_if false y z is = absurd cc

module _ (t s : ℕ) where
  set_is : (u v : ℕ) → is_set t s u v ≡ true → (u ≡ t) × (v ≡ s)
  set_is u v is =
      let both = both_true _ _ is in
      ((Decides-eqb u t).0 both.0, (Decides-eqb v s).0 both.1)

  -- the row of the set at a position
  abbrev row_at : ℤ → RowKey
  row_at p = record { position = p; target = t; set = s }

  position_of : (f : Fact) (p : ℤ) → fact_position t s f ≡ Some p → (r : Record) × (f ≡ Seen t s p r)
  position_of (Count u v n) p is = absurd cc
  position_of (Failed u v) p is = absurd cc
  position_of (Seen u v q r) p is =
      let one = some_if (is_set t s u v) q p is in
      let set = set_is u v one.0 in
      (r, ap (λ w. Seen w v q r) set.0 ∙ ap (λ w. Seen t w q r) set.1 ∙ ap (λ w. Seen t s w r) one.1)
  position_of (Diag u v q d) p is = absurd cc

  position_known : (facts : List Fact) (p : ℤ) → Contains (filter_map (fact_position t s) facts) p
      → (r : Record) × HasRecord facts (row_at p) r
  position_known facts p h =
      let found = teller (fact_position t s) facts p h in
      let seen = position_of found.0 p found.2 in
      (seen.0, subst (Contains facts) seen.1 found.1)

  position_listed : (facts : List Fact) (p : ℤ) (r : Record) → HasRecord facts (row_at p) r
      → Contains (filter_map (fact_position t s) facts) p
  position_listed facts p r h =
      image_found (fact_position t s) facts (Seen t s p r) p h
      (ap (λ (b : Bool). cond b (Some p) None) (is_set_itself t s))

  position_in : (facts : List Fact) (p : ℤ)
      → Contains (positions_at t s facts) p ↔ Contains (filter_map (fact_position t s) facts) p
  position_in facts p = ascending_members int_cmp int_cmp_total exact_signed (filter_map (fact_position t s) facts) p

  positions_sorted : (facts : List Fact) → IsStrictlySortedBy int_cmp (positions_at t s facts)
  positions_sorted facts = ascending_sorted int_cmp int_cmp_total exact_signed (filter_map (fact_position t s) facts)

  known_in : (facts : List Fact) (p : ℤ) → Contains (positions_at t s facts) p
      → (r : Record) × HasRecord facts (row_at p) r
  known_in facts p h = position_known facts p ((position_in facts p).0 h)

  -- the row at a position of the set is one of the rows
  row_in : (facts : List Fact) (p : ℤ) → Contains (positions_at t s facts) p → Contains (rows facts) (row_at p)
  row_in facts p h =
      let seen = known_in facts p h in
      (ascending_members row_cmp row_total row_exact (filter_map row_key_of facts) (row_at p)).1
      (image_found row_key_of facts (Seen t s p seen.0) (row_at p) seen.1 refl)

  module _ (low high all : List Fact) (parts : AreInParts low high all) where
    part_position : (p : ℤ) → Contains (positions_at t s low ++ positions_at t s high) p
        → Contains (filter_map (fact_position t s) all) p
    part_position p h = ⊎_elim
        (λ of_low. let seen = known_in low p of_low in
        position_listed all p seen.0 ((parts.union (Seen t s p seen.0)).1 (inl seen.1)))
        (λ of_high. let seen = known_in high p of_high in
        position_listed all p seen.0 ((parts.union (Seen t s p seen.0)).1 (inr seen.1)))
        (Contains-append_cases (positions_at t s low) (positions_at t s high) p h)

    position_part : (p : ℤ) → Contains (filter_map (fact_position t s) all) p
        → Contains (positions_at t s low ++ positions_at t s high) p
    position_part p h =
        let seen = position_known all p h in
        ⊎_elim
        (λ of_low. Contains-append_left (positions_at t s low) (positions_at t s high) p
        ((position_in low p).1 (position_listed low p seen.0 of_low)))
        (λ of_high. Contains-append_right (positions_at t s low) (positions_at t s high) p
        ((position_in high p).1 (position_listed high p seen.0 of_high)))
        ((parts.union (Seen t s p seen.0)).0 seen.1)

    positions_below : (p q : ℤ) → Contains (positions_at t s low) p → Contains (positions_at t s high) q
        → int_cmp p q ≡ Less
    positions_below p q of_low of_high =
        let one = known_in low p of_low in
        let two = known_in high q of_high in
        sym (int_cmp_is p q Less (parts.apart (row_at p) (row_at q) one.0 two.0 one.1 two.1))

    -- the positions of a set are those of the parts
    positions_are : positions_at t s low ++ positions_at t s high ≡ positions_at t s all
    positions_are =
        is_ascending int_cmp int_cmp_total exact_signed (positions_at t s low ++ positions_at t s high)
        (filter_map (fact_position t s) all)
        (sorted_append int_cmp (positions_at t s low) (positions_at t s high) (positions_sorted low)
        (positions_sorted high) positions_below)
        (λ p. (part_position p, position_part p))

    low_shown : (p : ℤ) → Contains (positions_at t s low) p → is_shown_at all t s p ≡ is_shown_at low t s p
    low_shown p h =
        ap (list_any is_shown) (low_records low high all (record_parts low high all parts) (row_at p) (row_in low p h))

    high_shown : (p : ℤ) → Contains (positions_at t s high) p → is_shown_at all t s p ≡ is_shown_at high t s p
    high_shown p h =
        ap (list_any is_shown)
        (high_records low high all (record_parts low high all parts) (row_at p) (row_in high p h))

-- ---- how many

-- records are shown at as many positions as in both parts
pub filled_parts : (low high all : List Fact) (parts : AreInParts low high all) (b : SetKey)
    → filled_in all b ≡ filled_in low b + filled_in high b
filled_parts low high all parts b =
    let of : List Fact → ℤ → Bool = λ facts. is_shown_at facts b.target b.set in
    let low_at = positions_at b.target b.set low in
    let high_at = positions_at b.target b.set high in
    ap (count_by (of all)) (sym (positions_are b.target b.set low high all parts))
    ∙ count_append (of all) low_at high_at
    ∙ ap (λ (n : ℕ). n + count_by (of all) high_at)
    (count_same (of all) (of low) low_at (low_shown b.target b.set low high all parts))
    ∙ ap (λ (n : ℕ). filled_in low b + n)
    (count_same (of all) (of high) high_at (high_shown b.target b.set low high all parts))

no_position : (t s : ℕ) (f : Fact) → row_key_of f ≡ None → fact_position t s f ≡ None
no_position t s (Count u v n) is = refl
no_position t s (Failed u v) is = refl
no_position t s (Seen u v q r) is = absurd cc
no_position t s (Diag u v q d) is = refl

-- and at none, if the facts are no records
pub none_filled : (facts : List Fact) → AreOthers facts → (b : SetKey) → filled_in facts b ≡ 0
none_filled facts none b =
    ap (λ (ps : List ℤ). count_by (is_shown_at facts b.target b.set) (ascending int_cmp ps))
    (none_told (fact_position b.target b.set) facts (λ f h. no_position b.target b.set f (none f h)))
