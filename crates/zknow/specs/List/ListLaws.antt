-- Laws of the counts and records of facts at one place, and of the printed list.
use Rattle.std.specs.Prelude.{◌≡◌, ◌≢◌, ◌↔◌, ◌≤◌, ℕ, ℤ, Bool, List, ◌++◌, length, codes, Contains}
use Rattle.std.specs.declared.cmp.Ordering.{Ordering}
use Rattle.std.specs.Fmt.{decimal, signed_decimal}
use Rattle.std.specs.List.{flat_map, filter_map}
use Rattle.std.specs.List.Sorted.{IsStrictlySortedBy}
use Rattle.zapdu.specs.declared.productions.record.Record.{Record}
use Rattle.zapdu.specs.Text.{record_text}
use Rattle.zknow.specs.declared.fact.Fact.{Fact}
use Rattle.zknow.specs.declared.fact.Fact.TheVariants.{Count, Seen}
use Rattle.zber.specs.declared.text.Mode.{Mode}
use Rattle.zknow.specs.declared.tables.keys.SetKey.{SetKey}
use Rattle.zknow.specs.declared.tables.keys.RowKey.{RowKey}
use Rattle.zknow.specs.Facts.{AreFacts}
use Rattle.zknow.specs.Tables.Keys.{set_cmp, row_cmp}
use Rattle.zknow.specs.Known.{counts_at, records_at}
use Rattle.zknow.specs.List.Listing.{ascending, block_key_of, row_key_of, block_text, row_text, target_text, is_hex, listing}
use Rattle.zknow.specs.Tables.Tables.{AreCounts, AreRecords}

-- facts have two different records at the position
pub record IsConflict (target set : ℕ) (position : ℤ) (facts : List Fact) : Type 0 where
  pub one : Record
  pub other : Record
  pub differ : one ≢ other
  pub sees_one : Contains facts (Seen target set position one)
  pub sees_other : Contains facts (Seen target set position other)

-- facts have two different counts of the set
pub record HasTwoCounts (target set : ℕ) (facts : List Fact) : Type 0 where
  pub one : ℤ
  pub other : ℤ
  pub differ : one ≢ other
  pub counted_one : Contains facts (Count target set one)
  pub counted_other : Contains facts (Count target set other)

-- The counts of a set are those of the facts, in order and each once. There are two or more exactly if facts have two
-- different ones.
pub record CountLaws (t s : ℕ) (facts : List Fact) : Type 0 where
  pub members : (n : ℤ) → Contains (counts_at t s facts) n ↔ Contains facts (Count t s n)
  pub once : AreFacts facts → AreCounts (counts_at t s facts)
  pub conflict : AreFacts facts → (2 ≤ length (counts_at t s facts)) ↔ HasTwoCounts t s facts

-- The records at a position are those of the facts, in order and each once. There are two or more exactly if facts have
-- two different ones.
pub record PositionLaws (t s : ℕ) (p : ℤ) (facts : List Fact) : Type 0 where
  pub members : (r : Record) → Contains (records_at t s p facts) r ↔ Contains facts (Seen t s p r)
  pub once : AreFacts facts → AreRecords (records_at t s p facts)
  pub conflict : AreFacts facts → (2 ≤ length (records_at t s p facts)) ↔ IsConflict t s p facts

-- the laws of the counts of each set and of the records at each position
pub record PlaceLaws : Type 0 where
  pub counts : (t s : ℕ) (facts : List Fact) → CountLaws t s facts
  pub records : (t s : ℕ) (p : ℤ) (facts : List Fact) → PositionLaws t s p facts

-- the keys are those of the list, in order and each once
pub record AreSortedKeys {K : Type 0} (cmp : K → K → Ordering) (list keys : List K) : Type 0 where
  pub ordered : IsStrictlySortedBy cmp keys
  pub members : (k : K) → Contains keys k ↔ Contains list k

-- the first text is a part of the second
pub record IsSubstring (part whole : List ℕ) : Type 0 where
  pub before : List ℕ
  pub behind : List ℕ
  pub cut : whole ≡ before ++ (part ++ behind)

-- the number of records in conflict, and a line for each
abbrev pub conflict_lines : Bool → List Record → List ℕ
conflict_lines hex records =
    codes " conflict " ++ decimal (length records) ++ codes "\n"
    ++ flat_map (λ r. codes "  " ++ record_text hex r ++ codes "\n") records

-- the text of a conflict
abbrev pub conflict_text : List (List ℕ) → Bool → RowKey → List Record → List ℕ
conflict_text names hex k records =
    signed_decimal k.position ++ codes " " ++ target_text names k.target ++ codes " " ++ decimal k.set
    ++ conflict_lines hex records

-- if there is a conflict in the row, the list has its text, with all its records
abbrev pub IsListedWhole : List (List ℕ) → Mode → List Fact → RowKey → Type 0
IsListedWhole names mode facts k =
    let records = records_at k.target k.set k.position facts in
    2 ≤ length records → IsSubstring (conflict_text names (is_hex mode) k records) (listing names mode facts)

-- the targets and sets of the blocks, in order and each once
abbrev pub block_keys : List Fact → List SetKey
block_keys facts = ascending set_cmp (filter_map block_key_of facts)

-- the positions, targets and sets of the rows, in order and each once
abbrev pub row_keys : List Fact → List RowKey
row_keys facts = ascending row_cmp (filter_map row_key_of facts)

-- the list is the blocks, then the rows, and nothing else
abbrev pub IsBlocksAndRows : List (List ℕ) → Mode → List Fact → Type 0
IsBlocksAndRows names mode facts =
    listing names mode facts
    ≡ flat_map (block_text names facts) (block_keys facts)
    ++ flat_map (row_text names (is_hex mode) facts) (row_keys facts)

-- the list is the blocks and rows, in order and each once, and has each conflict with all its records
pub record ListLaws : Type 0 where
  pub whole : (names : List (List ℕ)) (mode : Mode) (facts : List Fact) → IsBlocksAndRows names mode facts
  pub blocks : (facts : List Fact) → AreSortedKeys set_cmp (filter_map block_key_of facts) (block_keys facts)
  pub rows : (facts : List Fact) → AreSortedKeys row_cmp (filter_map row_key_of facts) (row_keys facts)
  pub conflict : (names : List (List ℕ)) (mode : Mode) (facts : List Fact) (k : RowKey)
      → IsListedWhole names mode facts k
