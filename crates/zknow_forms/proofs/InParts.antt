-- What is made of facts is made of their parts.
use Rattle.std.proofs.Common.{◌≡◌, ◌↔◌, ℕ, ℤ, List, [], ◌∷◌, ◌++◌, Option, Some, None, refl, sym, ap, subst, ◌∙◌, inl, ⊎_elim}
use Rattle.std.specs.Prelude.{Contains}
use Rattle.std.specs.List.{flat_map, filter_map, cons_option}
use Rattle.std.specs.List.Sorted.{IsStrictlySortedBy}
use Rattle.zapdu.specs.declared.productions.record.Record.{Record}
use Rattle.zknow.specs.declared.fact.Fact.{Fact}
use Rattle.zknow.specs.declared.fact.Fact.TheVariants.{Count, Failed, Seen, Diag}
use Rattle.std.specs.declared.cmp.Ordering.TheVariants.{Less}
use Rattle.zknow.specs.declared.tables.keys.RowKey.{RowKey}
use Rattle.zknow.specs.FactLaws.{fact_total}
use Rattle.zknow.specs.Facts.{fact_cmp, AreFacts}
use Rattle.zknow.specs.List.Listing.{ascending, block_key_of, row_key_of}
use Rattle.zknow.specs.Tables.DistinctLaws.{in_head, in_tail, same_sorted}
use Rattle.zknow.specs.Tables.Keys.{row_cmp}
use Rattle.zknow.proofs.ListTheory.Places.{image_found, image_sorted, teller}
use Rattle.zknow_records.specs.Parts.{AreParts}
use Rattle.zknow_records.specs.Records.{row_records, rows}
use Rattle.zknow_records.proofs.PartTheory.{rows_are, rows_in_parts}
use Rattle.zknow_forms.specs.Forms.{AreInParts, AreOthers}

-- ---- what is told of nothing

pub none_told : {X Y : Type 0} (h : X → Option Y) (xs : List X) → ((x : X) → Contains xs x → h x ≡ None)
    → filter_map h xs ≡ []
none_told h [] none = refl
none_told h (x ∷ xs) none =
    ap (λ o. cons_option o (filter_map h xs)) (none x (in_head x xs))
    ∙ none_told h xs (λ y here. none y (in_tail x xs y here))

-- ---- facts that are no records

-- the fact, if it is no record
abbrev other : Fact → Option Fact
other (Count t s n) = Some (Count t s n)
other (Failed t s) = Some (Failed t s)
other (Seen t s p r) = None
other (Diag t s p d) = Some (Diag t s p d)

-- the facts that are no records
abbrev others : List Fact → List Fact
others facts = filter_map other facts

other_same : (f g : Fact) → other f ≡ Some g → f ≡ g
other_same (Count t s n) g is = cc
other_same (Failed t s) g is = cc
other_same (Seen t s p r) g is = absurd cc
other_same (Diag t s p d) g is = cc

other_none : (f : Fact) → block_key_of f ≡ None → other f ≡ None
other_none (Count t s n) is = absurd cc
other_none (Failed t s) is = absurd cc
other_none (Seen t s p r) is = refl
other_none (Diag t s p d) is = absurd cc

other_keeps : (a b y z : Fact) → other a ≡ Some y → other b ≡ Some z → fact_cmp a b ≡ Less → fact_cmp y z ≡ Less
other_keeps a b y z of_a of_b less =
    subst (λ q. fact_cmp q z ≡ Less) (other_same a y of_a)
    (subst (λ q. fact_cmp a q ≡ Less) (other_same b z of_b) less)

others_sorted : (facts : List Fact) → AreFacts facts → IsStrictlySortedBy fact_cmp (others facts)
others_sorted facts good = image_sorted other fact_cmp fact_cmp other_keeps facts good.ordered

others_are : (facts : List Fact) (g : Fact) → Contains (others facts) g ↔ (Contains facts g × (other g ≡ Some g))
others_are facts g = (
  λ h. let f = teller other facts g h in
      let same = other_same f.0 g f.2 in
      (subst (Contains facts) same f.1, subst (λ q. other q ≡ Some g) same f.2),
  λ h. image_found other facts g g h.0 h.1,
)

-- what is told by facts that are no records is told by these alone
others_tell : {Y : Type 0} (h : Fact → Option Y) → ((t s : ℕ) (p : ℤ) (r : Record) → h (Seen t s p r) ≡ None)
    → (facts : List Fact) → filter_map h facts ≡ filter_map h (others facts)
others_tell h none [] = refl
others_tell h none (Count t s n ∷ facts) = ap (cons_option (h (Count t s n))) (others_tell h none facts)
others_tell h none (Failed t s ∷ facts) = ap (cons_option (h (Failed t s))) (others_tell h none facts)
others_tell h none (Seen t s p r ∷ facts) =
    ap (λ o. cons_option o (filter_map h facts)) (none t s p r) ∙ others_tell h none facts
others_tell h none (Diag t s p d ∷ facts) = ap (cons_option (h (Diag t s p d))) (others_tell h none facts)

others_list : {Y : Type 0} (h : Fact → List Y) → ((t s : ℕ) (p : ℤ) (r : Record) → h (Seen t s p r) ≡ [])
    → (facts : List Fact) → flat_map h facts ≡ flat_map h (others facts)
others_list h none [] = refl
others_list h none (Count t s n ∷ facts) = ap (λ ys. h (Count t s n) ++ ys) (others_list h none facts)
others_list h none (Failed t s ∷ facts) = ap (λ ys. h (Failed t s) ++ ys) (others_list h none facts)
others_list h none (Seen t s p r ∷ facts) =
    ap (λ ys. ys ++ flat_map h facts) (none t s p r) ∙ others_list h none facts
others_list h none (Diag t s p d ∷ facts) = ap (λ ys. h (Diag t s p d) ++ ys) (others_list h none facts)

-- facts that are no records have no rows
pub rows_none : (facts : List Fact) → AreOthers facts → rows facts ≡ []
rows_none facts none = ap (ascending row_cmp) (none_told row_key_of facts none)

-- ---- parts

module _ (low high all : List Fact) (parts : AreInParts low high all) where
  -- they are parts of records, too
  pub record_parts : AreParts low high all
  record_parts = record {
    low_facts = parts.low_facts;
    high_facts = parts.high_facts;
    all_facts = parts.all_facts;
    union = λ k r. parts.union (Seen k.target k.set k.position r);
    apart = parts.apart;
  }

  no_others : others high ≡ []
  no_others = none_told other high (λ f h. other_none f (parts.records f h))

  same_others : others all ≡ others low
  same_others = same_sorted fact_cmp fact_total (others all) (others low)
      (others_sorted all parts.all_facts) (others_sorted low parts.low_facts)
      (λ g. (
        λ h. let known = (others_are all g).0 h in
            ⊎_elim (λ of_low. (others_are low g).1 (of_low, known.1))
            (λ of_high. let none = other_none g (parts.records g of_high) in let some = known.1 in absurd cc)
            ((parts.union g).0 known.0),
        λ h. let known = (others_are low g).0 h in
            (others_are all g).1 ((parts.union g).1 (inl known.0), known.1),
      ))

  -- what is gathered of facts that are no records is gathered of the first part
  pub others_same : {Y : Type 0} (h : Fact → Option Y)
      → ((t s : ℕ) (p : ℤ) (r : Record) → h (Seen t s p r) ≡ None) → filter_map h all ≡ filter_map h low
  others_same h none =
      others_tell h none all ∙ ap (filter_map h) same_others ∙ sym (others_tell h none low)

  -- and none of the second
  pub others_none : {Y : Type 0} (h : Fact → Option Y)
      → ((t s : ℕ) (p : ℤ) (r : Record) → h (Seen t s p r) ≡ None) → filter_map h high ≡ []
  others_none h none = others_tell h none high ∙ ap (filter_map h) no_others

  -- the same of lists
  pub lines_same : {Y : Type 0} (h : Fact → List Y)
      → ((t s : ℕ) (p : ℤ) (r : Record) → h (Seen t s p r) ≡ []) → flat_map h all ≡ flat_map h low
  lines_same h none =
      others_list h none all ∙ ap (flat_map h) same_others ∙ sym (others_list h none low)

  -- rows
  pub rows_split : rows low ++ rows high ≡ rows all
  rows_split = rows_are low high all record_parts

  -- what is made of the rows, row by row
  pub rows_apart : {Y : Type 0} (f : RowKey → List Record → List Y)
      → flat_map (λ k. f k (row_records all k)) (rows all)
      ≡ flat_map (λ k. f k (row_records low k)) (rows low) ++ flat_map (λ k. f k (row_records high k)) (rows high)
  rows_apart f = rows_in_parts low high all record_parts f

  -- without records in the first part it has no rows
  pub no_rows : AreOthers low → rows low ≡ []
  no_rows none = rows_none low none
