-- Laws of the records that are taken, of their octets and of what is left out.
use Rattle.std.specs.Prelude.{◌≡◌, ◌↔◌, ◌+◌, ℕ, Bool, true, false, is_some, Option, List, length, Contains}
use Rattle.std.specs.List.{count_by}
use Rattle.zapdu.specs.declared.productions.record.Record.{Record}
use Rattle.zknow.specs.declared.fact.Fact.{Fact}
use Rattle.zknow.specs.declared.fact.Fact.TheVariants.{Seen}
use Rattle.zknow.specs.declared.tables.keys.RowKey.{RowKey}
use Rattle.zknow.specs.Facts.{AreFacts}
use Rattle.zknow.specs.List.ListLaws.{IsConflict, IsSubstring}
use Rattle.zknow_records.specs.Records.{is_wanted, own_octets, record_octets, all_taken, records_octets, left_out}

-- facts have the record at a position; it is not of another syntax than the one asked for; and facts have two different
-- records there only if conflicts are asked for
pub record IsTakenRecord (asked : Option (List ℕ)) (conflicts : Bool) (facts : List Fact) (r : Record) : Type 0 where
  pub row : RowKey
  pub seen : Contains facts (Seen row.target row.set row.position r)
  pub wanted : is_wanted asked r ≡ true
  pub alone : conflicts ≡ false → IsConflict row.target row.set row.position facts → ⊥

-- how many of the records have octets of their own
abbrev pub count_written : List Record → ℕ
count_written records = count_by (λ r. is_some (own_octets r)) records

-- The records taken are these, and no others. The octets of each are among those written. Each has octets, or is
-- counted once: as a surrogate diagnostic, or as another.
pub record RecordLaws (asked : Option (List ℕ)) (conflicts : Bool) (facts : List Fact) : Type 0 where
  pub members : AreFacts facts → (r : Record)
      → Contains (all_taken asked conflicts facts) r ↔ IsTakenRecord asked conflicts facts r
  pub octets : (r : Record) → Contains (all_taken asked conflicts facts) r
      → IsSubstring (record_octets r) (records_octets asked conflicts facts)
  pub counted : count_written (all_taken asked conflicts facts)
      + (left_out asked conflicts facts).diagnostics + (left_out asked conflicts facts).others
      ≡ length (all_taken asked conflicts facts)

-- the laws, for any syntax, with and without conflicts, and for any facts
abbrev pub AllRecordLaws : Type 0
AllRecordLaws = (asked : Option (List ℕ)) (conflicts : Bool) (facts : List Fact) → RecordLaws asked conflicts facts
