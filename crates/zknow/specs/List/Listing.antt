-- The printed list, as a function of the facts.
use Rattle.std.specs.Prelude.{ℕ, ℤ, Bool, true, false, List, [], ◌∷◌, ◌++◌, length, Option, Some, None, codes, slice_get, if◌then◌else◌}
use Rattle.std.specs.declared.cmp.Ordering.{Ordering}
use Rattle.std.specs.List.{flat_map, filter_map}
use Rattle.std.specs.BTreeSet.{insert_key}
use Rattle.std.specs.Fmt.{decimal, signed_decimal}
use Rattle.zapdu.specs.declared.productions.record.Record.{Record}
use Rattle.zapdu.specs.Text.{quoted, record_text, diag_text}
use Rattle.zknow.specs.declared.fact.Fact.{Fact}
use Rattle.zknow.specs.declared.fact.Fact.TheVariants.{Count, Failed, Seen, Diag}
use Rattle.zber.specs.declared.text.Mode.{Mode}
use Rattle.zber.specs.declared.text.Mode.TheVariants.{Text, Hex}
use Rattle.zknow.specs.declared.tables.keys.SetKey.{SetKey}
use Rattle.zknow.specs.declared.tables.keys.RowKey.{RowKey}
use Rattle.std.specs.Ordering.{int_cmp}
use Rattle.zknow.specs.Tables.Keys.{set_cmp, row_cmp}
use Rattle.zknow.specs.Known.{is_set, records_at}

-- the keys in order, each once
abbrev pub ascending : {K : Type 0} → (K → K → Ordering) → List K → List K
ascending cmp [] = []
ascending cmp (k ∷ ks) = insert_key cmp (ascending cmp ks) k

-- the target and set of the block that the fact is in
abbrev pub block_key_of : Fact → Option SetKey
block_key_of (Count t s n) = Some (record { target = t; set = s })
block_key_of (Failed t s) = Some (record { target = t; set = s })
block_key_of (Seen t s p r) = None
block_key_of (Diag t s p d) = Some (record { target = t; set = s })

-- the position, target and set of the row that the fact is in
abbrev pub row_key_of : Fact → Option RowKey
row_key_of (Count t s n) = None
row_key_of (Failed t s) = None
row_key_of (Seen t s p r) = Some (record { position = p; target = t; set = s })
row_key_of (Diag t s p d) = None

-- the quoted name, or # and the number if the target has no name
abbrev pub name_or_number : ℕ → Option (List ℕ) → List ℕ
name_or_number target None = 35 ∷ decimal target
name_or_number target (Some name) = quoted name

-- the text of a target
abbrev pub target_text : List (List ℕ) → ℕ → List ℕ
target_text names target = name_or_number target (slice_get names target)

-- the position, if the fact has a record of this set
abbrev pub fact_position : ℕ → ℕ → Fact → Option ℤ
fact_position target set (Count t s n) = None
fact_position target set (Failed t s) = None
fact_position target set (Seen t s p r) = if is_set target set t s then Some p else None
fact_position target set (Diag t s p d) = None

-- the positions of a set at which a record is known, in order and each once
abbrev pub positions_at : ℕ → ℕ → List Fact → List ℤ
positions_at target set facts = ascending int_cmp (filter_map (fact_position target set) facts)

-- a line of a block
abbrev pub line : List (List ℕ) → SetKey → List ℕ → List ℕ
line names b tail =
    codes "target " ++ target_text names b.target ++ codes " set " ++ decimal b.set ++ tail ++ codes "\n"

-- the line of a fact, empty if the fact is not in this block
abbrev pub line_in : List (List ℕ) → SetKey → Fact → List ℕ
line_in names b (Count t s n) =
    if is_set b.target b.set t s then line names b (codes " count " ++ signed_decimal n) else []
line_in names b (Failed t s) = if is_set b.target b.set t s then line names b (codes " failed") else []
line_in names b (Seen t s p r) = []
line_in names b (Diag t s p d) =
    if is_set b.target b.set t s
    then line names b (codes " diag " ++ signed_decimal p ++ codes " " ++ diag_text d) else []

-- a block: the lines of its facts, in fact order
abbrev pub block_text : List (List ℕ) → List Fact → SetKey → List ℕ
block_text names facts b = flat_map (line_in names b) facts

-- the end of a row: its record, or a conflict with a line for each of its records
abbrev pub entry_text : Bool → List Record → List ℕ
entry_text hex [] = []
entry_text hex (r ∷ []) = codes " " ++ record_text hex r ++ codes "\n"
entry_text hex (r ∷ q ∷ rest) =
    codes " conflict " ++ decimal (length (r ∷ q ∷ rest)) ++ codes "\n"
    ++ flat_map (λ x. codes "  " ++ record_text hex x ++ codes "\n") (r ∷ q ∷ rest)

-- a row: its position, target and set, and its records
abbrev pub row_text : List (List ℕ) → Bool → List Fact → RowKey → List ℕ
row_text names hex facts k =
    signed_decimal k.position ++ codes " " ++ target_text names k.target ++ codes " " ++ decimal k.set
    ++ entry_text hex (records_at k.target k.set k.position facts)

-- octets of records are printed in hexadecimal
abbrev pub is_hex : Mode → Bool
is_hex Text = false
is_hex Hex = true

-- the list: the blocks by target and set, then the rows by position, target and set
abbrev pub listing : List (List ℕ) → Mode → List Fact → List ℕ
listing names mode facts =
    flat_map (block_text names facts) (ascending set_cmp (filter_map block_key_of facts))
    ++ flat_map (row_text names (is_hex mode) facts) (ascending row_cmp (filter_map row_key_of facts))
