-- The list of changes.
use Rattle.std.specs.Prelude.{ℕ, Bool, List, ◌++◌, codes}
use Rattle.std.specs.Fmt.{decimal, signed_decimal}
use Rattle.std.specs.List.{flat_map}
use Rattle.zapdu.specs.Text.{record_text}
use Rattle.zber.specs.declared.text.Mode.{Mode}
use Rattle.zknow.specs.declared.tables.keys.RowKey.{RowKey}
use Rattle.zknow.specs.List.Listing.{target_text, is_hex}
use Rattle.zknow_changes.specs.declared.between.Change.{Change}
use Rattle.zknow_changes.specs.declared.between.ChangeKind.{ChangeKind}
use Rattle.zknow_changes.specs.declared.between.ChangeKind.TheVariants.{New, Changed, Gone}

-- the word for a kind
abbrev pub kind_name : ChangeKind → List ℕ
kind_name New = codes "new"
kind_name Changed = codes "changed"
kind_name Gone = codes "gone"

-- the names of the file in which the records of a kind stand
abbrev pub names_for : List (List ℕ) → List (List ℕ) → ChangeKind → List (List ℕ)
names_for earlier later New = later
names_for earlier later Changed = later
names_for earlier later Gone = earlier

-- where a record stands, as in the list of all that is known: the position, the catalogue and the set
abbrev pub place_text : List (List ℕ) → RowKey → List ℕ
place_text names k =
    signed_decimal k.position ++ codes " " ++ target_text names k.target ++ codes " " ++ decimal k.set

-- the line of a change in the list
abbrev pub change_text : List (List ℕ) → List (List ℕ) → Bool → Change → List ℕ
change_text earlier later hex c =
    kind_name c.kind ++ codes " " ++ place_text (names_for earlier later c.kind) c.row ++ codes " "
    ++ record_text hex c.rec ++ codes "\n"

-- a line for each change
abbrev pub change_list : List (List ℕ) → List (List ℕ) → Mode → List Change → List ℕ
change_list earlier later mode changes = flat_map (change_text earlier later (is_hex mode)) changes
