-- The changes of one kind, as facts.
use Rattle.std.specs.Prelude.{◌↔◌, ◌⊎◌, ℕ, Bool, true, false, if◌then◌else◌, List, Option, Some, None, Contains}
use Rattle.std.specs.List.{filter_map, count_by}
use Rattle.zknow.specs.declared.fact.Fact.{Fact}
use Rattle.zknow.specs.Facts.{AreFacts}
use Rattle.zknow_changes.specs.declared.between.Change.{Change}
use Rattle.zknow_changes.specs.declared.between.ChangeKind.{ChangeKind}
use Rattle.zknow_changes.specs.declared.between.ChangeKind.TheVariants.{New, Changed, Gone}
use Rattle.zknow_changes.specs.Changes.{change_fact}

-- the two kinds are the same
abbrev pub is_kind : ChangeKind → ChangeKind → Bool
is_kind New New = true
is_kind Changed Changed = true
is_kind Gone Gone = true
is_kind _ _ = false

-- the change is of this kind
abbrev pub is_of : ChangeKind → Change → Bool
is_of kind c = is_kind kind c.kind

-- the fact of a change, if it is of this kind
abbrev pub part_fact : ChangeKind → Change → Option Fact
part_fact kind c = if is_of kind c then Some (change_fact c) else None

-- the facts of the changes of this kind
abbrev pub part_facts : ChangeKind → List Change → List Fact
part_facts kind changes = filter_map (part_fact kind) changes

-- how many changes are of this kind
abbrev pub count_part : ChangeKind → List Change → ℕ
count_part kind changes = count_by (is_of kind) changes

-- these facts, in fact order
pub record IsPart (kind : ChangeKind) (changes : List Change) (facts : List Fact) : Type 0 where
  pub lawful : AreFacts facts
  pub members : (f : Fact) → Contains facts f ↔ Contains (part_facts kind changes) f

-- the facts of the changes that are new or changed, in fact order
pub record AreNews (changes : List Change) (facts : List Fact) : Type 0 where
  pub lawful : AreFacts facts
  pub members : (f : Fact)
      → Contains facts f ↔ (Contains (part_facts New changes) f ⊎ Contains (part_facts Changed changes) f)
