-- The lines of changes between two saved files. No character set is known of their records.
use Rattle.std.specs.Prelude.{ℕ, None, List, ◌++◌, codes}
use Rattle.std.specs.List.{flat_map}
use Rattle.zknow_changes.specs.declared.between.Change.{Change}
use Rattle.zknow_changes.specs.Lists.{kind_name, names_for}
use Rattle.zknow_json.specs.Members.{text_member, object, line}
use Rattle.zknow_json.specs.Records.{body_kind, body_members, row_head}

-- the line of a change: its kind, and then what the line of the record at its position has
unfoldable pub change_line : List (List ℕ) → List (List ℕ) → Change → List ℕ
change_line earlier later c =
    line (object (text_member (codes "change") (kind_name c.kind)
    ++ row_head (body_kind c.rec.body) (names_for earlier later c.kind) c.row ++ body_members None c.rec c.rec.body))

-- a line for each change
unfoldable pub change_lines : List (List ℕ) → List (List ℕ) → List Change → List ℕ
change_lines earlier later changes = flat_map (change_line earlier later) changes
