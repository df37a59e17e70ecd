-- The changes of a file are in the order of its list.
use Rattle.std.proofs.Common.{◌≡◌, ℕ, List, [], ◌∷◌, Some, refl, sym, ap, ◌∙◌}
use Rattle.std.specs.Prelude.{Contains}
use Rattle.std.specs.declared.cmp.Ordering.{Ordering}
use Rattle.std.specs.declared.cmp.Ordering.TheVariants.{Less, Equal}
use Rattle.std.specs.Ordering.{nat_cmp, ordering_then}
use Rattle.std.specs.List.{flat_map, filter_map}
use Rattle.std.specs.List.Sorted.{IsStrictlySortedBy}
use Rattle.std.proofs.lemmas.Cmp.{tied_itself, nat_cmp_total}
use Rattle.std.proofs.lemmas.Map.Keys.{sorted_head, sorted_tail}
use Rattle.zapdu.specs.declared.productions.record.Record.{Record}
use Rattle.zapdu.specs.Productions.Records.{whole_record}
use Rattle.zknow.specs.declared.fact.Fact.{Fact}
use Rattle.zknow.specs.declared.tables.keys.RowKey.{RowKey}
use Rattle.zknow.specs.Encodings.{encoding_cmp}
use Rattle.zknow.specs.Facts.{AreFacts}
use Rattle.zknow.specs.Known.{records_at}
use Rattle.zknow.specs.List.Listing.{ascending, row_key_of}
use Rattle.zknow.specs.Tables.DistinctLaws.{each_in}
use Rattle.zknow.specs.Tables.Keys.{row_cmp, row_total, row_exact}
use Rattle.zknow.proofs.TableTheory.InSections.{sorted_append}
use Rattle.zknow.proofs.ListTheory.Ascending.{ascending_sorted}
use Rattle.zknow.proofs.ListTheory.Places.{teller, image_sorted, records_in_order}
use Rattle.zknow_changes.specs.declared.between.Change.{Change}
use Rattle.zknow_changes.specs.declared.between.ChangeKind.{ChangeKind}
use Rattle.zknow_changes.specs.declared.between.ChangeKind.TheVariants.{New, Changed, Gone}
use Rattle.zknow_changes.specs.declared.between.Side.{Side}
use Rattle.zknow_changes.specs.declared.between.Side.TheVariants.{Later, Earlier}
use Rattle.zknow_changes.specs.declared.index.Index.{Index}
use Rattle.zknow_changes.specs.declared.index.Presence.{Presence}
use Rattle.zknow_changes.specs.declared.index.Presence.TheVariants.{Same, Other, Absent}
use Rattle.zknow_changes.specs.Changes.{kind_place, change_cmp, AreInOrder}
use Rattle.zknow_changes.specs.Indexes.{presence_in, kind_of, change_of, row_changes, side_changes}
use Rattle.zknow_changes.proofs.ChangeTheory.{flat_in, IsMadeOf, made_of, found_is}

-- ---- lists of lists

module _ {K Y : Type 0} (cmp : K → K → Ordering) (c : Y → Y → Ordering) (f : K → List Y)
    (each : (k : K) → IsStrictlySortedBy c (f k))
    (across : (k q : K) (x y : Y) → cmp k q ≡ Less → Contains (f k) x → Contains (f q) y → c x y ≡ Less) where
  flat_sorted : (ks : List K) → IsStrictlySortedBy cmp ks → IsStrictlySortedBy c (flat_map f ks)
  unfolding IsStrictlySortedBy
  flat_sorted [] sorted = tt
  flat_sorted (k ∷ ks) sorted =
      sorted_append c (f k) (flat_map f ks) (each k) (flat_sorted ks (sorted_tail cmp k ks sorted))
      (λ x y hx hy.
      let at = flat_in f ks y hy in
      let less = each_in (λ q. cmp k q ≡ Less) ks (sorted_head cmp k ks sorted) at.0 at.1 in
      across k at.0 x y less hx at.2)

-- ---- the parts of the order

then_equal : (a r : Ordering) → a ≡ Equal → ordering_then a r ≡ r
then_equal a r h = ap (λ o. ordering_then o r) h

then_less : (a r : Ordering) → a ≡ Less → ordering_then a r ≡ Less
then_less a r h = ap (λ o. ordering_then o r) h

-- the place of the changes of a file
abbrev side_place : Side → ℕ
side_place Later = 0
side_place Earlier = 1

place_of : (side : Side) (p : Presence) (kind : ChangeKind) → kind_of side p ≡ Some kind
    → kind_place kind ≡ side_place side
place_of Later p Gone is = absurd (not_gone p is)
  where
    not_gone : (p : Presence) → kind_of Later p ≡ Some Gone → ⊥
    not_gone Same is = cc
    not_gone Other is = cc
    not_gone Absent is = cc
place_of Later p New is = refl
place_of Later p Changed is = refl
place_of Earlier p Gone is = refl
place_of Earlier p New is = absurd (not_new p is)
  where
    not_new : (p : Presence) → kind_of Earlier p ≡ Some New → ⊥
    not_new Same is = cc
    not_new Other is = cc
    not_new Absent is = cc
place_of Earlier p Changed is = absurd (not_changed p is)
  where
    not_changed : (p : Presence) → kind_of Earlier p ≡ Some Changed → ⊥
    not_changed Same is = cc
    not_changed Other is = cc
    not_changed Absent is = cc

same_place : (a b : ℕ) → a ≡ b → nat_cmp a b ≡ Equal
same_place a b same = ap (λ x. nat_cmp x b) same ∙ tied_itself nat_cmp_total b

same_row : (a b k : RowKey) → a ≡ k → b ≡ k → row_cmp a b ≡ Equal
same_row a b k at here = ap (λ x. row_cmp x b) at ∙ ap (λ x. row_cmp k x) here ∙ tied_itself row_total k

-- changes of one place, of rows in order
by_row : (x y : Change) → kind_place x.kind ≡ kind_place y.kind → row_cmp x.row y.row ≡ Less → change_cmp x y ≡ Less
by_row x y place less =
    then_equal (nat_cmp (kind_place x.kind) (kind_place y.kind)) _ (same_place _ _ place)
    ∙ then_less (row_cmp x.row y.row) _ less

-- changes of one place and row, of records in order
by_record : (x y : Change) → kind_place x.kind ≡ kind_place y.kind → row_cmp x.row y.row ≡ Equal
    → encoding_cmp whole_record x.rec y.rec ≡ Less → change_cmp x y ≡ Less
by_record x y place same less =
    then_equal (nat_cmp (kind_place x.kind) (kind_place y.kind)) _ (same_place _ _ place)
    ∙ then_equal (row_cmp x.row y.row) _ same ∙ less

-- ---- the changes of a file

module _ (side : Side) (index : Index) (names : List (List ℕ)) (facts : List Fact) (good : AreFacts facts) where
  made_at : (k : RowKey) (r : Record) (c : Change) → change_of side index names k r ≡ Some c
      → IsMadeOf (kind_of side (presence_in index names k.target r)) k r c
  made_at k r c is = made_of (kind_of side (presence_in index names k.target r)) k r c is

  place_at : (k : RowKey) (r : Record) (c : Change) → change_of side index names k r ≡ Some c
      → kind_place c.kind ≡ side_place side
  place_at k r c is = place_of side (presence_in index names k.target r) c.kind (made_at k r c is).kind

  keeps : (k : RowKey) (a b : Record) (y z : Change) → change_of side index names k a ≡ Some y
      → change_of side index names k b ≡ Some z → encoding_cmp whole_record a b ≡ Less → change_cmp y z ≡ Less
  keeps k a b y z is_y is_z less =
      let one = made_at k a y is_y in
      let two = made_at k b z is_z in
      by_record y z (place_at k a y is_y ∙ sym (place_at k b z is_z)) (same_row y.row z.row k one.row two.row)
      (rw (one.rec, two.rec) less)

  row_sorted : (k : RowKey) → IsStrictlySortedBy change_cmp (row_changes side index names facts k)
  row_sorted k =
      image_sorted (change_of side index names k) (encoding_cmp whole_record) change_cmp (keeps k)
      (records_at k.target k.set k.position facts)
      (records_in_order k.target k.set facts k.position good).ordered

  across : (k q : RowKey) (x y : Change) → row_cmp k q ≡ Less → Contains (row_changes side index names facts k) x
      → Contains (row_changes side index names facts q) y → change_cmp x y ≡ Less
  across k q x y less hx hy =
      let one = teller (change_of side index names k) (records_at k.target k.set k.position facts) x hx in
      let two = teller (change_of side index names q) (records_at q.target q.set q.position facts) y hy in
      by_row x y (place_at k one.0 x one.2 ∙ sym (place_at q two.0 y two.2))
      (rw ((made_at k one.0 x one.2).row, (made_at q two.0 y two.2).row) less)

  pub side_sorted : AreInOrder (side_changes side index names facts)
  side_sorted =
      flat_sorted row_cmp change_cmp (row_changes side index names facts) row_sorted across
      (ascending row_cmp (filter_map row_key_of facts))
      (ascending_sorted row_cmp row_total row_exact (filter_map row_key_of facts))

  pub side_kinds : (c : Change) → Contains (side_changes side index names facts) c
      → kind_place c.kind ≡ side_place side
  side_kinds c h =
      place_of side (presence_in index names c.row.target c.rec) c.kind (found_is side index names facts c h).1
