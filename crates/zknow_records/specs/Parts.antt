-- The octets of all facts, and what is left out of them, by two parts of which one is at lower positions.
use Rattle.std.specs.Prelude.{◌≡◌, ◌↔◌, ◌⊎◌, ◌+◌, ◌≤◌, ◌^◌, ◌<ℤ◌, ℕ, Bool, Option, List, ◌++◌, Contains}
use Rattle.zapdu.specs.declared.productions.record.Record.{Record}
use Rattle.zknow.specs.declared.fact.Fact.{Fact}
use Rattle.zknow.specs.declared.fact.Fact.TheVariants.{Seen}
use Rattle.zknow.specs.declared.tables.keys.RowKey.{RowKey}
use Rattle.zknow.specs.Facts.{AreFacts}
use Rattle.zknow_records.specs.Records.{records_octets, left_out}
use Rattle.zknow_records.specs.declared.left_out.LeftOut.{LeftOut}

-- the facts have this record in this row
abbrev pub HasRecord : List Fact → RowKey → Record → Type 0
HasRecord facts k r = Contains facts (Seen k.target k.set k.position r)

-- All facts have the records of two parts. Each record of the first is at a lower position than each of the second.
pub record AreParts (low high all : List Fact) : Type 0 where
  pub low_facts : AreFacts low
  pub high_facts : AreFacts high
  pub all_facts : AreFacts all
  pub union : (k : RowKey) (r : Record) → HasRecord all k r ↔ (HasRecord low k r ⊎ HasRecord high k r)
  pub apart : (k q : RowKey) (r s : Record) → HasRecord low k r → HasRecord high q s → k.position <ℤ q.position

-- both counts of each kind together
abbrev pub left_sum : LeftOut → LeftOut → LeftOut
left_sum a b =
    record {
      conflicts = a.conflicts + b.conflicts;
      syntaxes = a.syntaxes + b.syntaxes;
      diagnostics = a.diagnostics + b.diagnostics;
      others = a.others + b.others;
    }

-- one of the counts passes 64 bits
abbrev pub HasTooMany : LeftOut → Type 0
HasTooMany left =
    (2 ^ 64 ≤ left.conflicts) ⊎ ((2 ^ 64 ≤ left.syntaxes)
    ⊎ ((2 ^ 64 ≤ left.diagnostics) ⊎ (2 ^ 64 ≤ left.others)))

-- The octets of all facts are those of the first part, and then those of the second. What is left out is what is left
-- out of both parts together.
pub record PartLaws (asked : Option (List ℕ)) (conflicts : Bool) (low high all : List Fact) : Type 0 where
  pub octets : AreParts low high all → records_octets asked conflicts all
      ≡ records_octets asked conflicts low ++ records_octets asked conflicts high
  pub left : AreParts low high all → left_out asked conflicts all
      ≡ left_sum (left_out asked conflicts low) (left_out asked conflicts high)

-- the laws, for any syntax, with and without conflicts, and for any parts
abbrev pub AllPartLaws : Type 0
AllPartLaws =
    (asked : Option (List ℕ)) (conflicts : Bool) (low high all : List Fact) → PartLaws asked conflicts low high all
