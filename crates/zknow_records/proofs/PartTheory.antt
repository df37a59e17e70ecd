-- What is written of facts, and left out of them, is what is written of their parts, and left out of these.
use Rattle.std.proofs.Common.{◌≡◌, ◌↔◌, ◌⊎◌, ◌+◌, ◌<ℤ◌, ℕ, ℤ, Bool, true, false, List, [], ◌∷◌, ◌++◌, Option, Some, None, cond, refl, sym, ap, subst, ◌∙◌, inl, inr, ⊎_elim}
use Rattle.std.specs.Prelude.{Contains}
use Rattle.std.specs.declared.cmp.Ordering.{Ordering}
use Rattle.std.specs.declared.cmp.Ordering.TheVariants.{Less}
use Rattle.std.specs.Ordering.{nat_cmp, ordering_then}
use Rattle.std.specs.Cmp.{int_cmp_is}
use Rattle.std.specs.Int.Signed.{<ℤ_irrefl}
use Rattle.std.specs.List.{flat_map, filter_map, count_by}
use Rattle.std.specs.List.Sorted.{IsStrictlySortedBy}
use Rattle.std.proofs.lemmas.Grind.{flat_map-append}
use Rattle.std.proofs.lemmas.List.Elements.{Contains-append_cases, Contains-append_left, Contains-append_right}
use Rattle.std.proofs.lemmas.List.Sums.{sum_by-append, sum_by-cons}
use Rattle.zapdu.specs.declared.productions.record.Record.{Record}
use Rattle.zapdu.specs.Productions.Records.{whole_record}
use Rattle.zasn.specs.Place.{IsSpellable}
use Rattle.zknow.specs.declared.fact.Fact.{Fact}
use Rattle.zknow.specs.declared.fact.Fact.TheVariants.{Count, Failed, Seen, Diag}
use Rattle.zknow.specs.declared.tables.keys.RowKey.{RowKey}
use Rattle.zknow.specs.Encodings.{encoding_cmp, encoding_total}
use Rattle.zknow.specs.Facts.{AreFacts}
use Rattle.zknow.specs.List.Listing.{row_key_of}
use Rattle.zknow.specs.Tables.DistinctLaws.{in_head, in_tail, same_distinct}
use Rattle.zknow.specs.Tables.Keys.{row_cmp, row_total, row_exact}
use Rattle.zknow.proofs.ListTheory.Ascending.{ascending_sorted, ascending_members, is_ascending}
use Rattle.zknow.proofs.ListTheory.Places.{image_found, teller, records_are, records_in_order}
use Rattle.zknow.proofs.TableTheory.InSections.{sorted_append}
use Rattle.zknow_records.specs.Parts.{HasRecord, AreParts, left_sum}
use Rattle.zknow_records.specs.Records.{is_unwanted, is_diagnostic, is_other, is_conflict, taken, row_records, rows, all_taken, record_octets, records_octets, conflicts_left, left_out}
use Rattle.zknow_records.proofs.Taking.{same_left}

-- ---- lists of lists, and counts, of two lists

module _ {X Y : Type 0} (f g : X → List Y) where
  pub flat_same : (xs : List X) → ((x : X) → Contains xs x → f x ≡ g x) → flat_map f xs ≡ flat_map g xs
  flat_same [] same = refl
  flat_same (x ∷ xs) same =
      ap (λ ys. ys ++ flat_map f xs) (same x (in_head x xs))
      ∙ ap (λ ys. g x ++ ys) (flat_same xs (λ y h. same y (in_tail x xs y h)))

module _ {X : Type 0} (p q : X → Bool) where
  count_same : (xs : List X) → ((x : X) → Contains xs x → p x ≡ q x) → count_by p xs ≡ count_by q xs
  count_same [] same = refl
  count_same (x ∷ xs) same =
      sum_by-cons (λ y. cond (p y) 1 0) x xs
      ∙ ap (λ (b : Bool). cond b 1 0 + count_by p xs) (same x (in_head x xs))
      ∙ ap (λ (n : ℕ). cond (q x) 1 0 + n) (count_same xs (λ y h. same y (in_tail x xs y h)))
      ∙ sym (sum_by-cons (λ y. cond (q y) 1 0) x xs)

count_append : {X : Type 0} (p : X → Bool) (xs ys : List X) → count_by p (xs ++ ys) ≡ count_by p xs + count_by p ys
count_append p xs ys = sum_by-append (λ x. cond (p x) 1 0) xs ys

-- ---- rows

row_less : (k q : RowKey) → k.position <ℤ q.position → row_cmp k q ≡ Less
row_less k q less =
    ap (λ (o : Ordering). ordering_then o (ordering_then (nat_cmp k.target q.target) (nat_cmp k.set q.set)))
    (sym (int_cmp_is k.position q.position Less less))

row_of : (f : Fact) (k : RowKey) → row_key_of f ≡ Some k → (r : Record) × (f ≡ Seen k.target k.set k.position r)
row_of (Count t s n) k is = absurd cc
row_of (Failed t s) k is = absurd cc
row_of (Seen t s p r) k is = (r, row_seen t s p r k is)
  where
    row_seen : (t s : ℕ) (p : ℤ) (r : Record) (k : RowKey) → row_key_of (Seen t s p r) ≡ Some k
        → Seen t s p r ≡ Seen k.target k.set k.position r
    row_seen t s p r k is =
        let same : ◌≡◌ {A = RowKey} (record { position = p; target = t; set = s }) k = cc in
        ap (λ (q : RowKey). Seen q.target q.set q.position r) same
row_of (Diag t s p d) k is = absurd cc

row_known : (facts : List Fact) (k : RowKey) → Contains (filter_map row_key_of facts) k → (r : Record) × HasRecord facts k r
row_known facts k h =
    let found = teller row_key_of facts k h in
    let row = row_of found.0 k found.2 in
    (row.0, subst (Contains facts) row.1 found.1)

row_listed : (facts : List Fact) (k : RowKey) (r : Record) → HasRecord facts k r → Contains (filter_map row_key_of facts) k
row_listed facts k r h = image_found row_key_of facts (Seen k.target k.set k.position r) k h refl

row_in : (facts : List Fact) (k : RowKey) → Contains (rows facts) k ↔ Contains (filter_map row_key_of facts) k
row_in facts k = ascending_members row_cmp row_total row_exact (filter_map row_key_of facts) k

rows_sorted : (facts : List Fact) → IsStrictlySortedBy row_cmp (rows facts)
rows_sorted facts = ascending_sorted row_cmp row_total row_exact (filter_map row_key_of facts)

module _ (low high all : List Fact) (parts : AreParts low high all) where
  known_in : (facts : List Fact) (k : RowKey) → Contains (rows facts) k → (r : Record) × HasRecord facts k r
  known_in facts k h = row_known facts k ((row_in facts k).0 h)

  part_row : (k : RowKey) → Contains (rows low ++ rows high) k → Contains (filter_map row_key_of all) k
  part_row k h = ⊎_elim
      (λ of_low. let found = known_in low k of_low in
      row_listed all k found.0 ((parts.union k found.0).1 (inl found.1)))
      (λ of_high. let found = known_in high k of_high in
      row_listed all k found.0 ((parts.union k found.0).1 (inr found.1)))
      (Contains-append_cases (rows low) (rows high) k h)

  row_part : (k : RowKey) → Contains (filter_map row_key_of all) k → Contains (rows low ++ rows high) k
  row_part k h =
      let found = row_known all k h in
      ⊎_elim
      (λ of_low. Contains-append_left (rows low) (rows high) k ((row_in low k).1 (row_listed low k found.0 of_low)))
      (λ of_high. Contains-append_right (rows low) (rows high) k ((row_in high k).1 (row_listed high k found.0 of_high)))
      ((parts.union k found.0).0 found.1)

  rows_below : (k q : RowKey) → Contains (rows low) k → Contains (rows high) q → row_cmp k q ≡ Less
  rows_below k q of_low of_high =
      let one = known_in low k of_low in
      let two = known_in high q of_high in
      row_less k q (parts.apart k q one.0 two.0 one.1 two.1)

  pub rows_are : rows low ++ rows high ≡ rows all
  rows_are = is_ascending row_cmp row_total row_exact (rows low ++ rows high) (filter_map row_key_of all)
      (sorted_append row_cmp (rows low) (rows high) (rows_sorted low) (rows_sorted high) rows_below)
      (λ k. (part_row k, row_part k))

  -- ---- the records of a row

  same_records : (part : List Fact) (k : RowKey) → AreFacts part
      → ((r : Record) → HasRecord all k r ↔ HasRecord part k r) → row_records all k ≡ row_records part k
  same_records part k good same =
      same_distinct (encoding_cmp whole_record) (encoding_total whole_record) (IsSpellable whole_record)
      (row_records all k) (row_records part k)
      (records_in_order k.target k.set all k.position parts.all_facts)
      (records_in_order k.target k.set part k.position good)
      (λ r. (
        λ h. (records_are k.target k.set part k.position r).1
            ((same r).0 ((records_are k.target k.set all k.position r).0 h)),
        λ h. (records_are k.target k.set all k.position r).1
            ((same r).1 ((records_are k.target k.set part k.position r).0 h)),
      ))

  pub low_records : (k : RowKey) → Contains (rows low) k → row_records all k ≡ row_records low k
  low_records k h =
      let one = known_in low k h in
      same_records low k parts.low_facts (λ r. (
        λ seen. ⊎_elim (λ here. here)
            (λ there. absurd (<ℤ_irrefl (parts.apart k k one.0 r one.1 there))) ((parts.union k r).0 seen),
        λ seen. (parts.union k r).1 (inl seen),
      ))

  pub high_records : (k : RowKey) → Contains (rows high) k → row_records all k ≡ row_records high k
  high_records k h =
      let one = known_in high k h in
      same_records high k parts.high_facts (λ r. (
        λ seen. ⊎_elim (λ there. absurd (<ℤ_irrefl (parts.apart k k r one.0 there one.1)))
            (λ here. here) ((parts.union k r).0 seen),
        λ seen. (parts.union k r).1 (inr seen),
      ))

  -- ---- all rows

  module _ {Y : Type 0} (f : RowKey → List Record → List Y) where
    abbrev of_row : List Fact → RowKey → List Y
    of_row facts k = f k (row_records facts k)

    -- what is made of the rows of all facts, row by row, is made of those of the first part, and then of the second
    pub rows_in_parts : flat_map (λ k. f k (row_records all k)) (rows all)
        ≡ flat_map (λ k. f k (row_records low k)) (rows low) ++ flat_map (λ k. f k (row_records high k)) (rows high)
    rows_in_parts =
        ap (flat_map (of_row all)) (sym rows_are)
        ∙ flat_map-append (of_row all) (rows low) (rows high)
        ∙ ap (λ ys. ys ++ flat_map (of_row all) (rows high))
        (flat_same (of_row all) (of_row low) (rows low) (λ k h. ap (f k) (low_records k h)))
        ∙ ap (λ ys. flat_map (of_row low) (rows low) ++ ys)
        (flat_same (of_row all) (of_row high) (rows high) (λ k h. ap (f k) (high_records k h)))

  abbrev conflict_count : List Fact → ℕ
  conflict_count facts = count_by (λ k. is_conflict (row_records facts k)) (rows facts)

  conflict_counts : conflict_count all ≡ conflict_count low + conflict_count high
  conflict_counts =
      ap (count_by (λ k. is_conflict (row_records all k))) (sym rows_are)
      ∙ count_append (λ k. is_conflict (row_records all k)) (rows low) (rows high)
      ∙ ap (λ (n : ℕ). n + count_by (λ k. is_conflict (row_records all k)) (rows high))
      (count_same (λ k. is_conflict (row_records all k)) (λ k. is_conflict (row_records low k)) (rows low)
      (λ k h. ap is_conflict (low_records k h)))
      ∙ ap (λ (n : ℕ). conflict_count low + n)
      (count_same (λ k. is_conflict (row_records all k)) (λ k. is_conflict (row_records high k)) (rows high)
      (λ k h. ap is_conflict (high_records k h)))

  conflicts_in_parts : (conflicts : Bool)
      → conflicts_left conflicts all ≡ conflicts_left conflicts low + conflicts_left conflicts high
  conflicts_in_parts true = refl
  conflicts_in_parts false = conflict_counts

module _ (asked : Option (List ℕ)) (conflicts : Bool) (low high all : List Fact) where
  taken_in_parts : (syntax : Option (List ℕ)) → AreParts low high all
      → all_taken syntax conflicts all ≡ all_taken syntax conflicts low ++ all_taken syntax conflicts high
  taken_in_parts syntax parts = rows_in_parts low high all parts (λ k. taken syntax conflicts)

  count_in_parts : (p : Record → Bool) (syntax : Option (List ℕ)) → AreParts low high all
      → count_by p (all_taken syntax conflicts all)
      ≡ count_by p (all_taken syntax conflicts low) + count_by p (all_taken syntax conflicts high)
  count_in_parts p syntax parts =
      ap (count_by p) (taken_in_parts syntax parts)
      ∙ count_append p (all_taken syntax conflicts low) (all_taken syntax conflicts high)

  pub octets_in_parts : AreParts low high all → records_octets asked conflicts all
      ≡ records_octets asked conflicts low ++ records_octets asked conflicts high
  octets_in_parts parts =
      ap (flat_map record_octets) (taken_in_parts asked parts)
      ∙ flat_map-append record_octets (all_taken asked conflicts low) (all_taken asked conflicts high)

  pub left_in_parts : AreParts low high all → left_out asked conflicts all
      ≡ left_sum (left_out asked conflicts low) (left_out asked conflicts high)
  left_in_parts parts =
      same_left _ _ _ _ _ _ _ _ (conflicts_in_parts low high all parts conflicts)
      (count_in_parts (is_unwanted asked) None parts) (count_in_parts is_diagnostic asked parts)
      (count_in_parts is_other asked parts)
