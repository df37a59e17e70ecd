-- The keys of the tables are those of the blocks and of the rows of the facts.
use Rattle.std.proofs.Common.{◌≡◌, ℤ, List, [], ◌∷◌, ◌++◌, map, refl, sym, ap, ◌∙◌}
use Rattle.std.specs.Prelude.{Contains}
use Rattle.std.specs.Ordering.{int_cmp}
use Rattle.std.specs.List.{filter_map, flat_map}
use Rattle.std.specs.Map.{keys_of}
use Rattle.std.specs.Option.{option_to_list}
use Rattle.std.proofs.lemmas.Cmp.{int_cmp_total}
use Rattle.std.proofs.lemmas.List.{append-nil}
use Rattle.std.proofs.lemmas.Map.Lookups.{exact_signed}
use Rattle.zapdu.specs.declared.productions.record.Record.{Record}
use Rattle.zapdu.specs.Productions.Records.{whole_record}
use Rattle.zapdu.specs.Productions.Diagnostics.{diag_rec}
use Rattle.zknow.specs.declared.tables.keys.SetKey.{SetKey}
use Rattle.zknow.specs.declared.tables.keys.RowKey.{RowKey}
use Rattle.zknow.specs.declared.tables.Tables.{Tables}
use Rattle.zknow.specs.declared.fact.Fact.{Fact}
use Rattle.zknow.specs.declared.fact.Fact.TheVariants.{Count, Failed, Seen, Diag}
use Rattle.zknow.specs.Encodings.{encoding_cmp}
use Rattle.zasn.specs.Place.{IsSpellable}
use Rattle.zknow.specs.Tables.Keys.{set_cmp, set_total, set_exact, IsMarked, IsAnyMark, row_cmp, row_total, row_exact}
use Rattle.std.specs.Prelude.{ℕ, Option, Some, None, if◌then◌else◌}
use Rattle.std.specs.List.Sorted.{IsStrictlySortedBy}
use Rattle.zknow.specs.Tables.Table.{value_at_key}
use Rattle.zknow.specs.Tables.Tables.{key}
use Rattle.zknow.specs.List.Listing.{ascending, block_key_of, row_key_of, fact_position, positions_at}
use Rattle.zknow.specs.Tables.Sections.{table_facts, counts_of, failed_of, seen_of, diags_of, section, marked, number_pairs}
use Rattle.zknow.specs.Tables.Table.{HasItem, IsLawfulTable}
use Rattle.zknow.specs.Tables.Tables.{AreLawfulTables, IsAnyValue, AreCounts, AreRecords, AreDiags}
use Rattle.zknow.proofs.ListTheory.Ascending.{ascending_same, is_ascending}
use Rattle.zknow.proofs.TableTheory.AtKeys.{items_of, at_section, filter_map_flat, none_in_section, flat_entry}
use Rattle.zknow.proofs.TableTheory.FactsInOrder.{mark_members}
use Rattle.zknow.proofs.TableTheory.InSections.{self_members, numbered_members}
use Rattle.zknow.proofs.ListTheory.KnownAt.{by_section, is_set_itself, is_set_apart}
use Rattle.zknow.proofs.ListTheory.ListKeys.{Same, same_append, same_refl, same_sym, same_trans, same_by, keys_said}
use Rattle.zknow.proofs.TableTheory.TableMerges.{tail_lawful, head_found}

map_keys : {K J G : Type 0} (g : K → G) (t : List (K × J)) → map g (keys_of t) ≡ map (λ x. g x.0) t
map_keys g [] = refl
map_keys g (e ∷ t) = ap (λ l. g e.0 ∷ l) (map_keys g t)

module _ (k : Tables) (good : AreLawfulTables k) where
  pub block_keys_same : Same (keys_of k.counts ++ (keys_of k.failed ++ keys_of k.diags)) (filter_map block_key_of (table_facts k))
  block_keys_same =
      let f : Fact → List SetKey = λ x. option_to_list (block_key_of x) in
      let counts = keys_said set_cmp set_total set_exact Contains AreCounts (λ xs. xs) (self_members int_cmp IsAnyValue) (λ (e : SetKey) n. Count e.target e.set n) f (λ q. q) (λ q n. refl) k.counts good.counts in
      let failed = keys_said set_cmp set_total set_exact IsMarked IsAnyMark marked mark_members (λ (e : SetKey) u. Failed e.target e.set) f (λ q. q) (λ q u. refl) k.failed good.failed in
      let diags = keys_said set_cmp set_total set_exact (HasItem int_cmp Contains) (IsLawfulTable int_cmp Contains AreDiags) number_pairs (numbered_members (encoding_cmp diag_rec) IsAnyValue) (λ (e : SetKey) x. Diag e.target e.set x.0 x.1) f (λ q. q) (λ q x. refl) k.diags good.diags in
      let no_seen = none_in_section number_pairs (λ (e : SetKey) x. Seen e.target e.set x.0 x.1) f (λ q x. refl) k.seen in
      let whole : filter_map block_key_of (table_facts k) ≡ flat_map f (counts_of k) ++ (flat_map f (failed_of k) ++ flat_map f (diags_of k)) =
      filter_map_flat block_key_of (table_facts k) ∙ by_section f k ∙ ap (λ l. flat_map f (counts_of k) ++ (flat_map f (failed_of k) ++ (l ++ flat_map f (diags_of k)))) no_seen in
      same_sym _ _ (same_trans _ _ _ (same_by _ _ whole) (same_append _ _ _ _ counts (same_append _ _ _ _ failed diags)))

  abbrev row : SetKey → ℤ → RowKey
  row e p = record { position = p; target = e.target; set = e.set }

  rows_said : (t : List (SetKey × List (ℤ × List Record))) → IsLawfulTable set_cmp (HasItem int_cmp Contains) (IsLawfulTable int_cmp Contains AreRecords) t
      → Same (flat_map (λ x. option_to_list (row_key_of x)) (section number_pairs (λ (e : SetKey) x. Seen e.target e.set x.0 x.1) t)) (section keys_of row t)
  rows_said [] good = same_refl []
  rows_said (e ∷ t) good =
      let f : Fact → List RowKey = λ x. option_to_list (row_key_of x) in
      let one = flat_map (λ x. f (Seen e.0.target e.0.set x.0 x.1)) (number_pairs e.1) in
      let rest = flat_map f (section number_pairs (λ (e : SetKey) x. Seen e.target e.set x.0 x.1) t) in
      let inner = good.values e.0 e.1 (head_found set_cmp (HasItem int_cmp Contains) (IsLawfulTable int_cmp Contains AreRecords) set_total set_exact e t good) in
      let here = keys_said int_cmp int_cmp_total exact_signed Contains AreRecords (λ xs. xs) (self_members (encoding_cmp whole_record) (IsSpellable whole_record)) (λ p x. (p, x)) (λ (x : ℤ × Record). row e.0 x.0 ∷ []) (row e.0) (λ p x. refl) e.1 inner in
      same_trans _ (one ++ rest) _ (same_by _ _ (flat_entry number_pairs (λ (e : SetKey) x. Seen e.target e.set x.0 x.1) f e t))
      (same_append one rest (map (row e.0) (keys_of e.1)) (section keys_of row t) (same_trans one (map (λ (x : ℤ × List Record). row e.0 x.0) e.1) (map (row e.0) (keys_of e.1)) here (same_by _ _ (sym (map_keys (row e.0) e.1)))) (rows_said t (tail_lawful set_cmp (HasItem int_cmp Contains) (IsLawfulTable int_cmp Contains AreRecords) set_total set_exact e t good)))

  pub row_keys_same : Same (section keys_of row k.seen) (filter_map row_key_of (table_facts k))
  row_keys_same =
      let f : Fact → List RowKey = λ x. option_to_list (row_key_of x) in
      let no_counts = none_in_section (λ xs. xs) (λ (e : SetKey) n. Count e.target e.set n) f (λ q n. refl) k.counts in
      let no_failed = none_in_section marked (λ (e : SetKey) u. Failed e.target e.set) f (λ q u. refl) k.failed in
      let no_diags = none_in_section number_pairs (λ (e : SetKey) x. Diag e.target e.set x.0 x.1) f (λ q x. refl) k.diags in
      let whole : filter_map row_key_of (table_facts k) ≡ flat_map f (seen_of k) =
      filter_map_flat row_key_of (table_facts k) ∙ by_section f k
      ∙ ap (λ l. l ++ (flat_map f (failed_of k) ++ (flat_map f (seen_of k) ++ flat_map f (diags_of k)))) no_counts
      ∙ ap (λ l. l ++ (flat_map f (seen_of k) ++ flat_map f (diags_of k))) no_failed
      ∙ ap (λ l. flat_map f (seen_of k) ++ l) no_diags ∙ append-nil (flat_map f (seen_of k)) in
      same_sym _ _ (same_trans _ _ _ (same_by _ _ whole) (rows_said k.seen good.seen))

  pub block_keys_are : (raw : List SetKey) → raw ≡ keys_of k.counts ++ (keys_of k.failed ++ keys_of k.diags) → ascending set_cmp raw ≡ ascending set_cmp (filter_map block_key_of (table_facts k))
  block_keys_are raw is = ap (ascending set_cmp) is ∙ ascending_same set_cmp set_total set_exact _ _ block_keys_same

  pub row_keys_are : (raw : List RowKey) → raw ≡ section keys_of row k.seen → ascending row_cmp raw ≡ ascending row_cmp (filter_map row_key_of (table_facts k))
  row_keys_are raw is = ap (ascending row_cmp) is ∙ ascending_same row_cmp row_total row_exact _ _ row_keys_same

  -- ---- the positions of one set

  position_rows : (o : Option (List (ℤ × List Record))) → ((rows : List (ℤ × List Record)) → o ≡ Some rows → IsLawfulTable int_cmp Contains AreRecords rows)
      → Same (keys_of (items_of (λ rows. rows) o)) (flat_map (λ (x : ℤ × Record). x.0 ∷ []) (items_of number_pairs o))
  position_rows None sound = same_refl []
  position_rows (Some rows) sound =
      same_sym _ _ (keys_said int_cmp int_cmp_total exact_signed Contains AreRecords (λ xs. xs) (self_members (encoding_cmp whole_record) (IsSpellable whole_record)) (λ p x. (p, x)) (λ (x : ℤ × Record). x.0 ∷ []) (λ p. p) (λ p x. refl) rows (sound rows refl))

  position_order : (o : Option (List (ℤ × List Record))) → ((rows : List (ℤ × List Record)) → o ≡ Some rows → IsLawfulTable int_cmp Contains AreRecords rows)
      → IsStrictlySortedBy int_cmp (keys_of (items_of (λ rows. rows) o))
  unfolding IsStrictlySortedBy
  position_order None sound = tt
  position_order (Some rows) sound = (sound rows refl).ordered

  pub positions_are : (target set : ℕ) → keys_of (items_of (λ rows. rows) (value_at_key set_cmp k.seen (key target set))) ≡ positions_at target set (table_facts k)
  positions_are target set =
      let o = value_at_key set_cmp k.seen (key target set) in
      let sound = λ (rows : List (ℤ × List Record)) (is : o ≡ Some rows). good.seen.values (key target set) rows is in
      let f : Fact → List ℤ = λ x. option_to_list (fact_position target set x) in
      let seen = at_section number_pairs (λ (e : SetKey) x. Seen e.target e.set x.0 x.1) f set_cmp set_total set_exact (key target set) (λ (x : ℤ × Record). x.0 ∷ [])
      (λ x. ap (λ b. option_to_list (if b then Some x.0 else None)) (is_set_itself target set))
      (λ q x apart. ap (λ b. option_to_list (if b then Some x.0 else None)) (is_set_apart target set q apart)) k.seen good.seen.ordered in
      let no_counts = none_in_section (λ xs. xs) (λ (e : SetKey) n. Count e.target e.set n) f (λ q n. refl) k.counts in
      let no_failed = none_in_section marked (λ (e : SetKey) u. Failed e.target e.set) f (λ q u. refl) k.failed in
      let no_diags = none_in_section number_pairs (λ (e : SetKey) x. Diag e.target e.set x.0 x.1) f (λ q x. refl) k.diags in
      let whole : filter_map (fact_position target set) (table_facts k) ≡ flat_map f (seen_of k) =
      filter_map_flat (fact_position target set) (table_facts k) ∙ by_section f k
      ∙ ap (λ l. l ++ (flat_map f (failed_of k) ++ (flat_map f (seen_of k) ++ flat_map f (diags_of k)))) no_counts
      ∙ ap (λ l. l ++ (flat_map f (seen_of k) ++ flat_map f (diags_of k))) no_failed
      ∙ ap (λ l. flat_map f (seen_of k) ++ l) no_diags ∙ append-nil (flat_map f (seen_of k)) in
      is_ascending int_cmp int_cmp_total exact_signed (keys_of (items_of (λ rows. rows) o)) (filter_map (fact_position target set) (table_facts k)) (position_order o sound)
      (same_trans _ _ _ (position_rows o sound) (same_by _ _ (sym (whole ∙ seen))))
