-- The sets that a saved file's records fill, and the changes that are found by them.
use Rattle.std.specs.Prelude.{◌≡◌, ◌↔◌, ℕ, Bool, false, if◌then◌else◌, List, [], ◌++◌, Option, Some, None, Contains}
use Rattle.std.specs.declared.cmp.Ordering.{Ordering}
use Rattle.std.specs.BTreeSet.{BTreeSet, contains}
use Rattle.std.specs.List.{flat_map, filter_map}
use Rattle.std.specs.Option.{option_map}
use Rattle.zapdu.specs.declared.productions.record.Record.{Record}
use Rattle.zknow.specs.declared.fact.Fact.{Fact}
use Rattle.zknow.specs.declared.tables.keys.RowKey.{RowKey}
use Rattle.zknow.specs.Known.{records_at}
use Rattle.zknow.specs.List.Listing.{ascending, row_key_of}
use Rattle.zknow.specs.Tables.Join.{IsUnion}
use Rattle.zknow.specs.Tables.Keys.{row_cmp}
use Rattle.zknow_changes.specs.declared.between.Change.{Change}
use Rattle.zknow_changes.specs.declared.between.ChangeKind.{ChangeKind}
use Rattle.zknow_changes.specs.declared.between.ChangeKind.TheVariants.{New, Changed, Gone}
use Rattle.zknow_changes.specs.declared.between.Side.{Side}
use Rattle.zknow_changes.specs.declared.between.Side.TheVariants.{Later, Earlier}
use Rattle.zknow_changes.specs.declared.held.Held.{Held}
use Rattle.zknow_changes.specs.declared.index.Index.{Index}
use Rattle.zknow_changes.specs.declared.index.Presence.{Presence}
use Rattle.zknow_changes.specs.declared.index.Presence.TheVariants.{Same, Other, Absent}
use Rattle.zknow_changes.specs.contracts.held.HeldOrd.TheImpl as held_ord
use Rattle.zknow_changes.specs.Records.{held_contents, held_number, fact_contents, fact_number, contents_of, numbers_of}
use Rattle.zknow_changes.specs.Changes.{HasContents, IsOther, IsUnknown}

-- ---- the sets

-- by catalogue, then octet by octet
abbrev pub held_cmp : Held → Held → Ordering
held_cmp = (held_ord.ghosts).cmp

-- the set has this
abbrev pub is_in : BTreeSet Held → Held → Bool
is_in set held = contains held_cmp set held

-- the set has this, if there is one
abbrev pub is_number_in : BTreeSet Held → Option Held → Bool
is_number_in set None = false
is_number_in set (Some held) = is_in set held

-- no record has filled the sets
abbrev pub IsIndexEmpty : Index → Type 0
IsIndexEmpty index = (index.contents.keys ≡ []) × (index.numbers.keys ≡ [])

-- what a fact tells was added
pub record IsIndexMore (names : List (List ℕ)) (fact : Fact) (before after : Index) : Type 0 where
  pub contents : IsUnion (Contains before.contents.keys) (λ q. fact_contents names fact ≡ Some q)
      (Contains after.contents.keys)
  pub numbers : IsUnion (Contains before.numbers.keys) (λ q. fact_number names fact ≡ Some q)
      (Contains after.numbers.keys)

-- the sets have the contents, and the control numbers, of the records that facts tell of
pub record AreIndexed (names : List (List ℕ)) (facts : List Fact) (index : Index) : Type 0 where
  pub contents : (q : Held) → Contains index.contents.keys q ↔ Contains (contents_of names facts) q
  pub numbers : (q : Held) → Contains index.numbers.keys q ↔ Contains (numbers_of names facts) q

-- what the records of a file have of a record of a target of the other
abbrev pub IsPresence : List (List ℕ) → List Fact → List (List ℕ) → ℕ → Record → Presence → Type 0
IsPresence names facts others target r Same = HasContents names facts others target r
IsPresence names facts others target r Other = IsOther names facts others target r
IsPresence names facts others target r Absent = IsUnknown names facts others target r

-- ---- changes by the sets of the other file

-- what the sets have of a record of a target
abbrev pub presence_in : Index → List (List ℕ) → ℕ → Record → Presence
presence_in index names target r =
    if is_in index.contents (held_contents names target r) then Same
    else if is_number_in index.numbers (held_number names target r) then Other else Absent

-- what a record of a file is, by what the other file has of it
abbrev pub kind_of : Side → Presence → Option ChangeKind
kind_of Later Same = None
kind_of Later Other = Some Changed
kind_of Later Absent = Some New
kind_of Earlier Same = None
kind_of Earlier Other = None
kind_of Earlier Absent = Some Gone

-- the change that a record is, if it is one
abbrev pub change_of : Side → Index → List (List ℕ) → RowKey → Record → Option Change
change_of side index names k r =
    option_map (λ kind. record { kind = kind; row = k; rec = r })
    (kind_of side (presence_in index names k.target r))

-- the changes of a row
abbrev pub row_changes : Side → Index → List (List ℕ) → List Fact → RowKey → List Change
row_changes side index names facts k =
    filter_map (change_of side index names k) (records_at k.target k.set k.position facts)

-- the changes of all rows, in the order of the list
abbrev pub side_changes : Side → Index → List (List ℕ) → List Fact → List Change
side_changes side index names facts =
    flat_map (row_changes side index names facts) (ascending row_cmp (filter_map row_key_of facts))

-- the changes of a file were appended, by the sets of the other
pub record AreSideChanges
    (side : Side) (names : List (List ℕ)) (facts : List Fact) (others : List (List ℕ)) (known : List Fact)
    (before after : List Change)
    : Type 0 where
  pub index : Index
  pub indexed : AreIndexed others known index
  pub appended : after ≡ before ++ side_changes side index names facts
