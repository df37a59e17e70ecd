-- Accepted replies that show different records at one position: the row is then a conflict, and is printed as one.
use Rattle.std.specs.Prelude.{◌≢◌, ◌↔◌, ◌≤◌, ℕ, ℤ, List, length, Contains}
use Rattle.zapdu.specs.declared.productions.record.Record.{Record}
use Rattle.zknow.specs.declared.fact.Fact.TheVariants.{Seen}
use Rattle.zber.specs.declared.text.Mode.{Mode}
use Rattle.zknow.specs.Known.{records_at}
use Rattle.zknow.specs.List.Listing.{is_hex, listing}
use Rattle.zknow.specs.List.ListLaws.{IsSubstring, conflict_text}
use Rattle.zorigin.specs.declared.settings.Settings.{Settings}
use Rattle.zorigin.specs.declared.answer.Answer.{Answer}
use Rattle.zorigin_facts.specs.Facts.{facts_of}
use Rattle.zoom_pool.specs.Transcripts.{Transcript}
use Rattle.zoom_pool.specs.Links.{Links}
use Rattle.zoom_pool.specs.History.{History, accepted, After}

-- an answer of connection `c` shows this record at this position of the set
pub record IsShownBy (transcript : ℕ → Transcript) (c set : ℕ) (position : ℤ) (rec : Record) : Type 0 where
  pub answer : Answer
  pub among : Contains (accepted (transcript c)) answer
  pub shows : Contains (facts_of c answer) (Seen c set position rec)

-- answers of connection `c` show two different records at this position of the set
pub record DifferingRecords (transcript : ℕ → Transcript) (c set : ℕ) (position : ℤ) : Type 0 where
  pub one : Record
  pub other : Record
  pub differ : one ≢ other
  pub shows_one : IsShownBy transcript c set position one
  pub shows_other : IsShownBy transcript c set position other

-- the printed list contains the row's records as a conflict, for any names and any mode
abbrev pub IsPrinted : Links → ℕ → ℕ → ℤ → Type 0
IsPrinted pool c set position =
    (names : List (List ℕ)) (mode : Mode)
    → IsSubstring
    (conflict_text names (is_hex mode) (record { position = position; target = c; set = set })
    (records_at c set position pool.knowledge))
    (listing names mode pool.knowledge)

-- what holds of one row
pub record RowLaws (transcript : ℕ → Transcript) (pool : Links) (c set : ℕ) (position : ℤ) : Type 0 where
  -- its records are exactly those that accepted replies show
  pub records : (rec : Record) → Contains (records_at c set position pool.knowledge) rec
      ↔ IsShownBy transcript c set position rec
  -- it has two records or more exactly if accepted replies differ; it is then printed as a conflict
  pub conflict : (2 ≤ length (records_at c set position pool.knowledge)) ↔ DifferingRecords transcript c set position
  pub printed : DifferingRecords transcript c set position → IsPrinted pool c set position

-- if a history can have left a pool, the laws of a row hold at each of its positions
abbrev pub ConflictLaw : Type 0
ConflictLaw =
    (settings : Settings) (h : History) (pool : Links) (a : After settings h pool) (c set : ℕ) (position : ℤ)
    → RowLaws a.transcript pool c set position
