-- Which changes the rows of a file have.
use Rattle.std.proofs.Common.{◌≡◌, ℕ, List, [], ◌∷◌, Option, Some, None, refl, sym, ap, subst, ⊎_elim}
use Rattle.std.specs.Prelude.{Contains}
use Rattle.std.specs.List.{flat_map, filter_map}
use Rattle.std.specs.Option.{option_map}
use Rattle.std.proofs.lemmas.List.Elements.{Contains-append_cases, Contains-append_left, Contains-append_right}
use Rattle.zapdu.specs.declared.productions.record.Record.{Record}
use Rattle.zknow.specs.declared.fact.Fact.{Fact}
use Rattle.zknow.specs.declared.fact.Fact.TheVariants.{Seen}
use Rattle.zknow.specs.declared.tables.keys.RowKey.{RowKey}
use Rattle.zknow.specs.Known.{records_at}
use Rattle.zknow.specs.List.Listing.{ascending, row_key_of}
use Rattle.zknow.specs.Tables.DistinctLaws.{none_in_nil, in_cons, in_head, in_tail}
use Rattle.zknow.specs.Tables.Keys.{row_cmp, row_total, row_exact}
use Rattle.zknow.proofs.ListTheory.Ascending.{ascending_members}
use Rattle.zknow.proofs.ListTheory.Places.{image_found, teller, records_are}
use Rattle.zknow_changes.specs.declared.between.Change.{Change}
use Rattle.zknow_changes.specs.declared.between.ChangeKind.{ChangeKind}
use Rattle.zknow_changes.specs.declared.between.Side.{Side}
use Rattle.zknow_changes.specs.declared.index.Index.{Index}
use Rattle.zknow_changes.specs.Changes.{change_fact}
use Rattle.zknow_changes.specs.Indexes.{presence_in, kind_of, change_of, row_changes, side_changes}

-- ---- members of lists of lists

module _ {X Y : Type 0} (f : X → List Y) where
  in_flat : (xs : List X) (x : X) (y : Y) → Contains xs x → Contains (f x) y → Contains (flat_map f xs) y
  in_flat [] x y h k = absurd (none_in_nil x h)
  in_flat (z ∷ zs) x y h k = ⊎_elim
      (λ same. Contains-append_left (f z) (flat_map f zs) y (subst (λ w. Contains (f w) y) (sym same) k))
      (λ later. Contains-append_right (f z) (flat_map f zs) y (in_flat zs x y later k))
      (in_cons z zs x h)

  pub flat_in : (xs : List X) (y : Y) → Contains (flat_map f xs) y → (x : X) × Contains xs x × Contains (f x) y
  flat_in [] y h = absurd (none_in_nil y h)
  flat_in (z ∷ zs) y h = ⊎_elim
      (λ here. (z, in_head z zs, here))
      (λ later. let found = flat_in zs y later in (found.0, in_tail z zs found.0 found.1, found.2))
      (Contains-append_cases (f z) (flat_map f zs) y h)

-- ---- one record

-- the change is of this kind, and stands there
pub record IsMadeOf (told : Option ChangeKind) (k : RowKey) (r : Record) (c : Change) : Type 0 where
  pub row : c.row ≡ k
  pub rec : c.rec ≡ r
  pub kind : told ≡ Some c.kind

pub made_of : (o : Option ChangeKind) (k : RowKey) (r : Record) (c : Change)
    → option_map (λ kind. record { kind = kind; row = k; rec = r }) o ≡ Some c → IsMadeOf o k r c
made_of None k r c is = absurd (cc)
made_of (Some kind) k r c is =
    let same : ◌≡◌ {A = Change} (record { kind = kind; row = k; rec = r }) c = cc in
    record {
      row = ap (λ (x : Change). x.row) (sym same);
      rec = ap (λ (x : Change). x.rec) (sym same);
      kind = ap (λ (x : Change). Some x.kind) same;
    }

-- ---- all records of a file

module _ (side : Side) (index : Index) (names : List (List ℕ)) (facts : List Fact) where
  abbrev kind_at : RowKey → Record → Option ChangeKind
  kind_at k r = kind_of side (presence_in index names k.target r)

  -- a record of the file that is this change
  abbrev pub IsFound : Change → Type 0
  IsFound c = Contains facts (change_fact c) × (kind_at c.row c.rec ≡ Some c.kind)

  moved : (c : Change) (k : RowKey) (r : Record) → c.row ≡ k → c.rec ≡ r
      → Contains facts (Seen k.target k.set k.position r) → kind_at k r ≡ Some c.kind → IsFound c
  moved c k r at is seen told = (
    subst (λ z. Contains facts (Seen c.row.target c.row.set c.row.position z)) (sym is)
        (subst (λ (q : RowKey). Contains facts (Seen q.target q.set q.position r)) (sym at) seen),
    subst (λ z. kind_at c.row z ≡ Some c.kind) (sym is) (subst (λ q. kind_at q r ≡ Some c.kind) (sym at) told),
  )

  pub found_is : (c : Change) → Contains (side_changes side index names facts) c → IsFound c
  found_is c h =
      let at = flat_in (row_changes side index names facts) (ascending row_cmp (filter_map row_key_of facts)) c h in
      let k : RowKey = at.0 in
      let one = teller (change_of side index names k) (records_at k.target k.set k.position facts) c at.2 in
      let made = made_of (kind_at k one.0) k one.0 c one.2 in
      let seen = (records_are k.target k.set facts k.position one.0).0 one.1 in
      moved c k one.0 made.row made.rec seen made.kind

  row_there : (k : RowKey) (r : Record) → Contains facts (Seen k.target k.set k.position r)
      → Contains (ascending row_cmp (filter_map row_key_of facts)) k
  row_there k r seen =
      (ascending_members row_cmp row_total row_exact (filter_map row_key_of facts) k).1
      (image_found row_key_of facts (Seen k.target k.set k.position r) k seen refl)

  pub is_found : (c : Change) → IsFound c → Contains (side_changes side index names facts) c
  is_found c h =
      let k : RowKey = c.row in
      let here = (records_are k.target k.set facts k.position c.rec).1 h.0 in
      let made : change_of side index names k c.rec ≡ Some c =
      ap (option_map (λ (kind : ChangeKind). record { kind = kind; row = k; rec = c.rec })) h.1 in
      in_flat (row_changes side index names facts) (ascending row_cmp (filter_map row_key_of facts)) k c
      (row_there k c.rec h.0)
      (image_found (change_of side index names k) (records_at k.target k.set k.position facts) c.rec c here made)
