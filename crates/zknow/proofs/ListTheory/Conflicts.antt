-- A conflict stands in the list.
use Rattle.std.proofs.Common.{◌≡◌, ◌≤◌, ℕ, Bool, List, [], ◌∷◌, ◌++◌, length, refl, sym, ap, subst, ◌∙◌, ⊎_elim, append_assoc, arith}
use Rattle.std.specs.Prelude.{Contains, codes}
use Rattle.std.specs.declared.cmp.Ordering.{Ordering}
use Rattle.std.specs.declared.cmp.Ordering.TheVariants.{Equal}
use Rattle.std.specs.Cmp.{IsTotalOrder}
use Rattle.std.specs.List.{flat_map, filter_map}
use Rattle.std.specs.Fmt.{decimal, signed_decimal}
use Rattle.zapdu.specs.declared.productions.record.Record.{Record}
use Rattle.zknow.specs.declared.fact.Fact.{Fact}
use Rattle.zknow.specs.declared.fact.Fact.TheVariants.{Seen}
use Rattle.zber.specs.declared.text.Mode.{Mode}
use Rattle.zknow.specs.declared.tables.keys.RowKey.{RowKey}
use Rattle.zknow.specs.Tables.DistinctLaws.{in_cons, in_head, none_in_nil}
use Rattle.zknow.specs.Tables.Keys.{set_cmp, row_cmp, row_total, row_exact}
use Rattle.zknow.specs.Known.{records_at}
use Rattle.zknow.specs.List.Listing.{ascending, block_key_of, row_key_of, block_text, row_text, entry_text, target_text, is_hex, listing}
use Rattle.zknow.specs.List.ListLaws.{AreSortedKeys, IsSubstring, conflict_text}
use Rattle.zknow.proofs.ListTheory.Ascending.{ascending_sorted, ascending_members}
use Rattle.zknow.proofs.ListTheory.Places.{image_found, records_are}

pub are_keys : {K : Type 0} (cmp : K → K → Ordering) (total : IsTotalOrder cmp) (exact : (a b : K) → cmp a b ≡ Equal → a ≡ b) (keys : List K) → AreSortedKeys cmp keys (ascending cmp keys)
are_keys cmp total exact keys = record { ordered = ascending_sorted cmp total exact keys; members = ascending_members cmp total exact keys }

-- ---- texts within texts

stands_behind : (part whole front : List ℕ) → IsSubstring part whole → IsSubstring part (front ++ whole)
stands_behind part whole front in_whole = record {
  before = front ++ in_whole.before;
  behind = in_whole.behind;
  cut = ap (λ l. front ++ l) in_whole.cut ∙ sym (append_assoc front in_whole.before (part ++ in_whole.behind));
}

module _ {X : Type 0} (text : X → List ℕ) where
  -- the text of one of them stands in that of all
  pub one_text : (xs : List X) (x : X) → Contains xs x → IsSubstring (text x) (flat_map text xs)
  one_text [] x h = absurd (none_in_nil x h)
  one_text (y ∷ ys) x h = ⊎_elim
      (λ same. record { before = []; behind = flat_map text ys; cut = ap (λ z. text z ++ flat_map text ys) same })
      (λ later. stands_behind (text x) (flat_map text ys) (text y) (one_text ys x later))
      (in_cons y ys x h)

-- ---- the row

module _ (names : List (List ℕ)) (hex : Bool) (k : RowKey) where
  conflict_row : (records : List Record) → 2 ≤ length records
      → signed_decimal k.position ++ codes " " ++ target_text names k.target ++ codes " " ++ decimal k.set ++ entry_text hex records ≡ conflict_text names hex k records
  conflict_row [] two = absurd (omega (arith, two))
  conflict_row (r ∷ []) two = absurd (omega (arith, two))
  conflict_row (r ∷ q ∷ rest) two = refl

some_member : (records : List Record) → 2 ≤ length records → (r : Record) × Contains records r
some_member [] two = absurd (omega (arith, two))
some_member (r ∷ rest) two = (r, in_head r rest)

module _ (names : List (List ℕ)) (mode : Mode) (facts : List Fact) (k : RowKey) (two : 2 ≤ length (records_at k.target k.set k.position facts)) where
  row_there : Contains (ascending row_cmp (filter_map row_key_of facts)) k
  row_there =
      let seen = some_member (records_at k.target k.set k.position facts) two in
      let fact = (records_are k.target k.set facts k.position seen.0).0 seen.1 in
      (ascending_members row_cmp row_total row_exact (filter_map row_key_of facts) k).1 (image_found row_key_of facts (Seen k.target k.set k.position seen.0) k fact refl)

  pub conflict_listed : IsSubstring (conflict_text names (is_hex mode) k (records_at k.target k.set k.position facts)) (listing names mode facts)
  conflict_listed =
      let records = records_at k.target k.set k.position facts in
      let rows = one_text (row_text names (is_hex mode) facts) (ascending row_cmp (filter_map row_key_of facts)) k row_there in
      let list = stands_behind (row_text names (is_hex mode) facts k) _ (flat_map (block_text names facts) (ascending set_cmp (filter_map block_key_of facts))) rows in
      subst (λ part. IsSubstring part (listing names mode facts)) (conflict_row names (is_hex mode) k records two) list
