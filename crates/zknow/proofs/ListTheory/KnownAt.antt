-- The counts and the records that the facts give at a set are the values of the tables there.
use Rattle.std.proofs.Common.{◌≡◌, ℕ, ℤ, List, [], ◌∷◌, ◌++◌, Bool, true, false, Option, Some, None, refl, ap, ◌∙◌}
use Rattle.std.specs.Prelude.{◌&&◌, ◌==◌, if◌then◌else◌}
use Rattle.std.specs.Ordering.{int_cmp, int_eq}
use Rattle.std.specs.List.{flat_map}
use Rattle.std.specs.List.Sorted.{IsStrictlySortedBy}
use Rattle.std.specs.Map.{keys_of}
use Rattle.std.specs.Option.{option_to_list}
use Rattle.std.proofs.lemmas.Bool.Decides.{Decides-eqb, Decides-int_eq}
use Rattle.std.proofs.lemmas.Cmp.{int_cmp_total}
use Rattle.std.proofs.lemmas.Grind.{flat_map-append}
use Rattle.std.proofs.lemmas.List.{append-nil}
use Rattle.std.proofs.lemmas.Map.Lookups.{exact_signed}
use Rattle.zapdu.specs.declared.productions.diagnostic.DiagRec.{DiagRec}
use Rattle.zapdu.specs.declared.productions.record.Record.{Record}
use Rattle.zber.proofs.Tests.{both_true}
use Rattle.zknow.specs.declared.tables.keys.SetKey.{SetKey}
use Rattle.zknow.specs.declared.tables.Tables.{Tables}
use Rattle.zknow.specs.declared.fact.Fact.{Fact}
use Rattle.zknow.specs.declared.fact.Fact.TheVariants.{Count, Failed, Seen, Diag}
use Rattle.zknow.specs.Known.{is_set, fact_count, fact_record, counts_at, records_at, fact_failure, failures_at, fact_diag, diags_at}
use Rattle.zknow.specs.Tables.Keys.{set_cmp, set_total, set_exact}
use Rattle.zknow.specs.Tables.Sections.{table_facts, counts_of, failed_of, seen_of, diags_of, marked, number_pairs}
use Rattle.zknow.specs.Tables.Table.{value_at_key}
use Rattle.zknow.specs.Tables.Tables.{AreLawfulTables, key}
use Rattle.zknow.proofs.TableTheory.AtKeys.{items_of, filter_map_flat, none_in_section, at_section, flat_map_ones}

-- the facts, section by section
pub by_section : {G : Type 0} (f : Fact → List G) (k : Tables) → flat_map f (table_facts k) ≡ flat_map f (counts_of k) ++ (flat_map f (failed_of k) ++ (flat_map f (seen_of k) ++ flat_map f (diags_of k)))
by_section f k =
    flat_map-append f (counts_of k) (failed_of k ++ (seen_of k ++ diags_of k))
    ∙ ap (λ l. flat_map f (counts_of k) ++ l) (flat_map-append f (failed_of k) (seen_of k ++ diags_of k))
    ∙ ap (λ l. flat_map f (counts_of k) ++ (flat_map f (failed_of k) ++ l)) (flat_map-append f (seen_of k) (diags_of k))

pub same_number : (n : ℕ) → (n == n) ≡ true
same_number n = (Decides-eqb n n).1 refl

pub is_set_itself : (t s : ℕ) → is_set t s t s ≡ true
is_set_itself t s = ap (λ b. b && (s == s)) (same_number t) ∙ same_number s

is_set_apart_by : (target set : ℕ) (k : SetKey) (b : Bool) → is_set target set k.target k.set ≡ b → (k ≡ key target set → ⊥) → b ≡ false
is_set_apart_by target set k true is apart =
    let both = both_true (k.target == target) (k.set == set) is in
    absurd (apart (ap (λ t. key t k.set) ((Decides-eqb k.target target).0 both.0) ∙ ap (λ s. key target s) ((Decides-eqb k.set set).0 both.1)))
is_set_apart_by target set k false is apart = refl

pub is_set_apart : (target set : ℕ) (k : SetKey) → (k ≡ key target set → ⊥) → is_set target set k.target k.set ≡ false
is_set_apart target set k apart = is_set_apart_by target set k (is_set target set k.target k.set) refl apart

-- the counts
pub counts_in_table : (target set : ℕ) (k : Tables) → AreLawfulTables k → counts_at target set (table_facts k) ≡ items_of (λ xs. xs) (value_at_key set_cmp k.counts (key target set))
counts_in_table target set k good =
    let f : Fact → List ℤ = λ x. option_to_list (fact_count target set x) in
    let counts = at_section (λ xs. xs) (λ (e : SetKey) n. Count e.target e.set n) f set_cmp set_total set_exact (key target set) (λ n. n ∷ [])
    (λ n. ap (λ b. option_to_list (if b then Some n else None)) (is_set_itself target set))
    (λ q n apart. ap (λ b. option_to_list (if b then Some n else None)) (is_set_apart target set q apart)) k.counts good.counts.ordered in
    let no_failed = none_in_section marked (λ (e : SetKey) u. Failed e.target e.set) f (λ q u. refl) k.failed in
    let no_seen = none_in_section number_pairs (λ (e : SetKey) x. Seen e.target e.set x.0 x.1) f (λ q x. refl) k.seen in
    let no_diags = none_in_section number_pairs (λ (e : SetKey) x. Diag e.target e.set x.0 x.1) f (λ q x. refl) k.diags in
    filter_map_flat (fact_count target set) (table_facts k) ∙ by_section f k
    ∙ ap (λ l. flat_map f (counts_of k) ++ (flat_map f (failed_of k) ++ (flat_map f (seen_of k) ++ l))) no_diags
    ∙ ap (λ l. flat_map f (counts_of k) ++ (flat_map f (failed_of k) ++ (l ++ []))) no_seen
    ∙ ap (λ l. flat_map f (counts_of k) ++ (l ++ [])) no_failed
    ∙ append-nil (flat_map f (counts_of k)) ∙ counts ∙ flat_map_ones (items_of (λ xs. xs) (value_at_key set_cmp k.counts (key target set)))

-- the failures
pub failures_in_table : (target set : ℕ) (k : Tables) → AreLawfulTables k → failures_at target set (table_facts k) ≡ items_of marked (value_at_key set_cmp k.failed (key target set))
failures_in_table target set k good =
    let f : Fact → List (Unit {0}) = λ x. option_to_list (fact_failure target set x) in
    let failed = at_section marked (λ (e : SetKey) u. Failed e.target e.set) f set_cmp set_total set_exact (key target set) (λ u. u ∷ [])
    (λ u. ap (λ b. option_to_list (if b then Some tt else None)) (is_set_itself target set))
    (λ q u apart. ap (λ b. option_to_list (if b then Some tt else None)) (is_set_apart target set q apart)) k.failed good.failed.ordered in
    let no_counts = none_in_section (λ xs. xs) (λ (e : SetKey) n. Count e.target e.set n) f (λ q n. refl) k.counts in
    let no_seen = none_in_section number_pairs (λ (e : SetKey) x. Seen e.target e.set x.0 x.1) f (λ q x. refl) k.seen in
    let no_diags = none_in_section number_pairs (λ (e : SetKey) x. Diag e.target e.set x.0 x.1) f (λ q x. refl) k.diags in
    filter_map_flat (fact_failure target set) (table_facts k) ∙ by_section f k
    ∙ ap (λ l. l ++ (flat_map f (failed_of k) ++ (flat_map f (seen_of k) ++ flat_map f (diags_of k)))) no_counts
    ∙ ap (λ l. flat_map f (failed_of k) ++ (l ++ flat_map f (diags_of k))) no_seen
    ∙ ap (λ l. flat_map f (failed_of k) ++ l) no_diags
    ∙ append-nil (flat_map f (failed_of k)) ∙ failed ∙ flat_map_ones (items_of marked (value_at_key set_cmp k.failed (key target set)))

-- the diagnostics
pub diags_in_table : (target set : ℕ) (k : Tables) → AreLawfulTables k → diags_at target set (table_facts k) ≡ items_of number_pairs (value_at_key set_cmp k.diags (key target set))
diags_in_table target set k good =
    let f : Fact → List (ℤ × DiagRec) = λ x. option_to_list (fact_diag target set x) in
    let diags = at_section number_pairs (λ (e : SetKey) x. Diag e.target e.set x.0 x.1) f set_cmp set_total set_exact (key target set) (λ x. x ∷ [])
    (λ x. ap (λ b. option_to_list (if b then Some x else None)) (is_set_itself target set))
    (λ q x apart. ap (λ b. option_to_list (if b then Some x else None)) (is_set_apart target set q apart)) k.diags good.diags.ordered in
    let no_counts = none_in_section (λ xs. xs) (λ (e : SetKey) n. Count e.target e.set n) f (λ q n. refl) k.counts in
    let no_failed = none_in_section marked (λ (e : SetKey) u. Failed e.target e.set) f (λ q u. refl) k.failed in
    let no_seen = none_in_section number_pairs (λ (e : SetKey) x. Seen e.target e.set x.0 x.1) f (λ q x. refl) k.seen in
    filter_map_flat (fact_diag target set) (table_facts k) ∙ by_section f k
    ∙ ap (λ l. l ++ (flat_map f (failed_of k) ++ (flat_map f (seen_of k) ++ flat_map f (diags_of k)))) no_counts
    ∙ ap (λ l. l ++ (flat_map f (seen_of k) ++ flat_map f (diags_of k))) no_failed
    ∙ ap (λ l. l ++ flat_map f (diags_of k)) no_seen
    ∙ diags ∙ flat_map_ones (items_of number_pairs (value_at_key set_cmp k.diags (key target set)))

-- the values of a set at a number
abbrev pub values_of : {T : Type 0} → List (SetKey × List (ℤ × List T)) → SetKey → ℤ → List T
values_of t q number = items_of (λ rows. items_of (λ xs. xs) (value_at_key int_cmp rows number)) (value_at_key set_cmp t q)

module _ (target set : ℕ) (position : ℤ) where
  int_apart_by : (p : ℤ) (b : Bool) → int_eq p position ≡ b → (p ≡ position → ⊥) → b ≡ false
  int_apart_by p true is apart = absurd (apart ((Decides-int_eq p position).0 is))
  int_apart_by p false is apart = refl

  -- the record of a row, if it has the position
  abbrev row_in : ℤ × Record → List Record
  row_in x = option_to_list (if int_eq x.0 position then Some x.1 else None)

  hit_row : (x : ℤ × Record) → option_to_list (fact_record target set position (Seen target set x.0 x.1)) ≡ row_in x
  hit_row x = ap (λ b. option_to_list (if b && int_eq x.0 position then Some x.1 else None)) (is_set_itself target set)

  miss_row : (q : SetKey) (x : ℤ × Record) → (q ≡ key target set → ⊥) → option_to_list (fact_record target set position (Seen q.target q.set x.0 x.1)) ≡ []
  miss_row q x apart = ap (λ b. option_to_list (if b && int_eq x.0 position then Some x.1 else None)) (is_set_apart target set q apart)

  -- the rows of the set that have the position
  rows_in_table : (o : Option (List (ℤ × List Record))) → ((rows : List (ℤ × List Record)) → o ≡ Some rows → IsStrictlySortedBy int_cmp (keys_of rows))
      → flat_map row_in (items_of number_pairs o) ≡ items_of (λ rows. items_of (λ xs. xs) (value_at_key int_cmp rows position)) o
  rows_in_table None sorted = refl
  rows_in_table (Some rows) sorted =
      at_section (λ xs. xs) (λ p x. (p, x)) row_in int_cmp int_cmp_total exact_signed position (λ r. r ∷ [])
      (λ r. ap (λ b. option_to_list (if b then Some r else None)) ((Decides-int_eq position position).1 refl))
      (λ p r apart. ap (λ b. option_to_list (if b then Some r else None)) (int_apart_by p (int_eq p position) refl apart)) rows (sorted rows refl)
      ∙ flat_map_ones (items_of (λ xs. xs) (value_at_key int_cmp rows position))

  -- the records
  pub records_in_table : (k : Tables) → AreLawfulTables k → records_at target set position (table_facts k) ≡ values_of k.seen (key target set) position
  records_in_table k good =
      let f : Fact → List Record = λ x. option_to_list (fact_record target set position x) in
      let seen = at_section number_pairs (λ (e : SetKey) x. Seen e.target e.set x.0 x.1) f set_cmp set_total set_exact (key target set) row_in hit_row miss_row k.seen good.seen.ordered in
      let no_counts = none_in_section (λ xs. xs) (λ (e : SetKey) n. Count e.target e.set n) f (λ q n. refl) k.counts in
      let no_failed = none_in_section marked (λ (e : SetKey) u. Failed e.target e.set) f (λ q u. refl) k.failed in
      let no_diags = none_in_section number_pairs (λ (e : SetKey) x. Diag e.target e.set x.0 x.1) f (λ q x. refl) k.diags in
      filter_map_flat (fact_record target set position) (table_facts k) ∙ by_section f k
      ∙ ap (λ l. l ++ (flat_map f (failed_of k) ++ (flat_map f (seen_of k) ++ flat_map f (diags_of k)))) no_counts
      ∙ ap (λ l. l ++ (flat_map f (seen_of k) ++ flat_map f (diags_of k))) no_failed
      ∙ ap (λ l. flat_map f (seen_of k) ++ l) no_diags
      ∙ append-nil (flat_map f (seen_of k)) ∙ seen
      ∙ rows_in_table (value_at_key set_cmp k.seen (key target set)) (λ rows is. (good.seen.values (key target set) rows is).ordered)
