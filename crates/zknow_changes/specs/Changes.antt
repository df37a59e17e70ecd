-- What changed from one saved file to another, by catalogue and record.
use Rattle.std.specs.Prelude.{◌≡◌, ◌↔◌, ℕ, List, Some, Contains}
use Rattle.std.specs.declared.cmp.Ordering.{Ordering}
use Rattle.std.specs.Ordering.{nat_cmp, ordering_then}
use Rattle.std.specs.List.Sorted.{IsStrictlySortedBy}
use Rattle.zapdu.specs.declared.productions.record.Record.{Record}
use Rattle.zapdu.specs.Productions.Records.{whole_record}
use Rattle.zknow.specs.declared.fact.Fact.{Fact}
use Rattle.zknow.specs.declared.fact.Fact.TheVariants.{Seen}
use Rattle.zknow.specs.Encodings.{encoding_cmp}
use Rattle.zknow.specs.Facts.{IsFact}
use Rattle.zknow.specs.Tables.Keys.{row_cmp}
use Rattle.zknow_changes.specs.declared.between.Change.{Change}
use Rattle.zknow_changes.specs.declared.between.ChangeKind.{ChangeKind}
use Rattle.zknow_changes.specs.declared.between.ChangeKind.TheVariants.{New, Changed, Gone}
use Rattle.zknow_changes.specs.declared.held.Held.{Held}
use Rattle.zknow_changes.specs.Records.{held_contents, held_number, contents_of, numbers_of}

-- ---- a record and the records of the other file

module _ (names : List (List ℕ)) (facts : List Fact) where
  -- a record of the catalogue has the contents of this one; `others` are the names of its file
  abbrev pub HasContents : List (List ℕ) → ℕ → Record → Type 0
  HasContents others target r = Contains (contents_of names facts) (held_contents others target r)

  -- a record of the catalogue has the control number of this one
  pub record HasNumber (others : List (List ℕ)) (target : ℕ) (r : Record) : Type 0 where
    pub number : Held
    pub is : held_number others target r ≡ Some number
    pub held : Contains (numbers_of names facts) number

  -- no record of the catalogue has these contents, and one has this control number
  abbrev pub IsOther : List (List ℕ) → ℕ → Record → Type 0
  IsOther others target r = (HasContents others target r → ⊥) × HasNumber others target r

  -- no record of the catalogue has these contents or this control number
  abbrev pub IsUnknown : List (List ℕ) → ℕ → Record → Type 0
  IsUnknown others target r = (HasContents others target r → ⊥) × (HasNumber others target r → ⊥)

-- ---- changes

-- where the record of a change stands
abbrev pub change_fact : Change → Fact
change_fact c = Seen c.row.target c.row.set c.row.position c.rec

module _ (earlier_names : List (List ℕ)) (earlier : List Fact) (later_names : List (List ℕ)) (later : List Fact) where
  -- a record of the later file is new if the earlier one has neither its contents nor its control number, and changed
  -- if it has only this; one of the earlier file is gone if the later one has neither
  abbrev pub IsOfKind : Change → ChangeKind → Type 0
  IsOfKind c New =
      Contains later (change_fact c) × IsUnknown earlier_names earlier later_names c.row.target c.rec
  IsOfKind c Changed =
      Contains later (change_fact c) × IsOther earlier_names earlier later_names c.row.target c.rec
  IsOfKind c Gone =
      Contains earlier (change_fact c) × IsUnknown later_names later earlier_names c.row.target c.rec

-- those of the later file, then those of the earlier one
abbrev pub kind_place : ChangeKind → ℕ
kind_place New = 0
kind_place Changed = 0
kind_place Gone = 1

-- by file, then as in its list: by position, target and set, then by the canonical encoding
abbrev pub change_cmp : Change → Change → Ordering
change_cmp a b =
    ordering_then (nat_cmp (kind_place a.kind) (kind_place b.kind))
    (ordering_then (row_cmp a.row b.row) (encoding_cmp whole_record a.rec b.rec))

-- in the order of the later file's list, then of the earlier one's, each once
abbrev pub AreInOrder : List Change → Type 0
AreInOrder changes = IsStrictlySortedBy change_cmp changes

-- exactly the changes from the earlier file to the later, in order
pub record AreChanges
    (earlier_names : List (List ℕ)) (earlier : List Fact) (later_names : List (List ℕ)) (later : List Fact)
    (changes : List Change)
    : Type 0 where
  pub members : (c : Change) → Contains changes c ↔ IsOfKind earlier_names earlier later_names later c c.kind
  pub ordered : AreInOrder changes

-- each is a fact that a knowledge can have
abbrev pub AreAddable : List Change → Type 0
AreAddable changes = (c : Change) → Contains changes c → IsFact (change_fact c)
