-- The lines of a block are those of what the tables have at its target and set.
use Rattle.std.proofs.Common.{◌≡◌, ℕ, ℤ, List, [], ◌++◌, Bool, refl, ap, ◌∙◌}
use Rattle.std.specs.Prelude.{codes, if◌then◌else◌}
use Rattle.std.specs.Fmt.{decimal, signed_decimal}
use Rattle.std.specs.List.{flat_map}
use Rattle.zapdu.specs.Text.{diag_text}
use Rattle.zapdu.specs.declared.productions.diagnostic.DiagRec.{DiagRec}
use Rattle.zknow.specs.declared.tables.keys.SetKey.{SetKey}
use Rattle.zknow.specs.declared.tables.Tables.{Tables}
use Rattle.zknow.specs.declared.fact.Fact.{Fact}
use Rattle.zknow.specs.declared.fact.Fact.TheVariants.{Count, Failed, Seen, Diag}
use Rattle.zknow.specs.Tables.Keys.{set_cmp, set_total, set_exact}
use Rattle.zknow.specs.Known.{records_at}
use Rattle.zknow.specs.declared.tables.keys.RowKey.{RowKey}
use Rattle.zknow.specs.List.Listing.{line, line_in, block_text, target_text, entry_text, row_text}
use Rattle.zknow.specs.Tables.Sections.{table_facts, counts_of, failed_of, diags_of, marked, number_pairs}
use Rattle.zknow.specs.Tables.Table.{value_at_key}
use Rattle.zknow.specs.Tables.Tables.{AreLawfulTables}
use Rattle.zknow.proofs.TableTheory.AtKeys.{items_of, none_in_section, at_section, written_both}
use Rattle.zknow.proofs.ListTheory.KnownAt.{by_section, is_set_itself, is_set_apart}

module _ (names : List (List ℕ)) (b : SetKey) (k : Tables) (good : AreLawfulTables k) where
  pub counts_lines : flat_map (line_in names b) (counts_of k) ≡ flat_map (λ n. line names b (codes " count " ++ signed_decimal n)) (items_of (λ xs. xs) (value_at_key set_cmp k.counts b))
  counts_lines = at_section (λ xs. xs) (λ (e : SetKey) n. Count e.target e.set n) (line_in names b) set_cmp set_total set_exact b (λ n. line names b (codes " count " ++ signed_decimal n))
      (λ n. ap (λ t. if t then line names b (codes " count " ++ signed_decimal n) else []) (is_set_itself b.target b.set))
      (λ q n apart. ap (λ t. if t then line names b (codes " count " ++ signed_decimal n) else []) (is_set_apart b.target b.set q apart)) k.counts good.counts.ordered

  pub failed_lines : flat_map (line_in names b) (failed_of k) ≡ flat_map (λ u. line names b (codes " failed")) (items_of marked (value_at_key set_cmp k.failed b))
  failed_lines = at_section marked (λ (e : SetKey) u. Failed e.target e.set) (line_in names b) set_cmp set_total set_exact b (λ u. line names b (codes " failed"))
      (λ u. ap (λ t. if t then line names b (codes " failed") else []) (is_set_itself b.target b.set))
      (λ q u apart. ap (λ t. if t then line names b (codes " failed") else []) (is_set_apart b.target b.set q apart)) k.failed good.failed.ordered

  abbrev pub diag_line : ℤ × DiagRec → List ℕ
  diag_line x = line names b (codes " diag " ++ signed_decimal x.0 ++ codes " " ++ diag_text x.1)

  pub diags_lines : flat_map (line_in names b) (diags_of k) ≡ flat_map diag_line (items_of number_pairs (value_at_key set_cmp k.diags b))
  diags_lines = at_section number_pairs (λ (e : SetKey) x. Diag e.target e.set x.0 x.1) (line_in names b) set_cmp set_total set_exact b diag_line
      (λ x. ap (λ t. if t then diag_line x else []) (is_set_itself b.target b.set))
      (λ q x apart. ap (λ t. if t then diag_line x else []) (is_set_apart b.target b.set q apart)) k.diags good.diags.ordered

pub block_sections : (names : List (List ℕ)) (b : SetKey) (k : Tables) → block_text names (table_facts k) b ≡ flat_map (line_in names b) (counts_of k) ++ (flat_map (line_in names b) (failed_of k) ++ flat_map (line_in names b) (diags_of k))
block_sections names b k =
    let no_seen = none_in_section number_pairs (λ (e : SetKey) x. Seen e.target e.set x.0 x.1) (line_in names b) (λ q x. refl) k.seen in
    by_section (line_in names b) k ∙ ap (λ l. flat_map (line_in names b) (counts_of k) ++ (flat_map (line_in names b) (failed_of k) ++ (l ++ flat_map (line_in names b) (diags_of k)))) no_seen

-- a row, part by part
pub row_written : (names : List (List ℕ)) (hex : Bool) (facts : List Fact) (k : RowKey) (a b d e f g last : List ℕ) → b ≡ a ++ signed_decimal k.position → d ≡ b ++ codes " " → e ≡ d ++ target_text names k.target → f ≡ e ++ codes " " → g ≡ f ++ decimal k.set
    → last ≡ g ++ entry_text hex (records_at k.target k.set k.position facts) → last ≡ a ++ row_text names hex facts k
row_written names hex facts k a b d e f g last one two three four five six =
    let second = written_both a b d (signed_decimal k.position) (codes " ") one two in
    let third = written_both a d e _ (target_text names k.target) second three in
    let fourth = written_both a e f _ (codes " ") third four in
    let fifth = written_both a f g _ (decimal k.set) fourth five in
    written_both a g last _ (entry_text hex (records_at k.target k.set k.position facts)) fifth six
