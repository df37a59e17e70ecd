-- One step of the records by position.
use Rattle.std.specs.Prelude.{◌≡◌, ◌≢◌, ◌↔◌, ◌⊎◌, ◌+◌, ◌≤◌, ◌≤ℤ◌, ℕ, ℤ, true, false, List, [], ◌++◌, nat_lt, if◌then◌else◌, Contains, Option, Some, None}
use Rattle.zknow.specs.declared.fact.Fact.{Fact}
use Rattle.zknow.specs.Facts.{AreFacts}
use Rattle.zknow.specs.Tables.Join.{IsUnion}
use Rattle.zknow_forms.specs.Forms.{AreInParts, form_text, IsTold}
use Rattle.zknow_runs.specs.declared.rows.Next.{Next}
use Rattle.zknow_runs.specs.declared.rows.ReadStep.{ReadStep}
use Rattle.zknow_runs.specs.declared.rows.ReadStep.TheVariants as steps
use Rattle.zknow_runs.specs.declared.rows.Rows.{Rows}
use Rattle.zknow_runs.specs.declared.run.Run.{Run}
use Rattle.zknow_runs.specs.OpenRuns.{IsPutAmong}
use Rattle.zknow_runs.specs.Rows.{place_of, is_taken, kept_octets}

-- the same runs are in both lists
abbrev pub AreSameRuns : List Run → List Run → Type 0
AreSameRuns xs ys = (r : Run) → Contains xs r ↔ Contains ys r

-- what is left of a run behind an offset, and its next record is not due
abbrev pub next_behind : Next → ℕ → Next
next_behind n begin = record { number = n.number; run = record n.run { begin = begin }; is_due = false }

-- what is left of a run behind an offset, if anything is
abbrev pub rest_of : Next → ℕ → Option Next
rest_of n begin = if nat_lt begin n.run.end then Some (next_behind n begin) else None

-- the gathered records were appended, and the rest is as it was
pub record HasAppended (old new : Rows) : Type 0 where
  pub chosen : new.chosen ≡ old.chosen
  pub form : new.form ≡ old.form
  pub runs : new.runs ≡ old.runs
  pub next : new.next ≡ old.next
  pub position : new.position ≡ old.position
  pub gathered : new.gathered ≡ []
  pub octets : kept_octets new ≡ kept_octets old ++ form_text old.form.now old.gathered
  pub tally : (low all : List Fact) → IsTold old.form.now low old.tally → AreInParts low old.gathered all
      → IsTold old.form.now all new.tally

-- the position is this one, as it was, or another one was and its records were appended
abbrev pub HasTurned : Rows → ℤ → Rows → Type 0
HasTurned old position new = ((new ≡ old) × (old.position ≡ Some position))
    ⊎ ((old.position ≢ Some position) × ((mid : Rows) × HasAppended old mid
    × (new ≡ record mid { position = Some position })))

-- the record was gathered
pub record HasGathered (old : Rows) (n : Next) (f : Fact) (size : ℕ) (new : Rows) : Type 0 where
  pub target : ℕ
  pub place : place_of f ≡ Some (target, n.run.position)
  pub taken : is_taken old.chosen.now target ≡ true
  pub within : n.run.begin + size ≤ n.run.end
  pub mid : Rows
  pub turned : HasTurned old n.run.position mid
  pub facts : IsUnion (Contains mid.gathered) (λ g. g ≡ f) (Contains new.gathered)
  pub lawful : AreFacts new.gathered
  pub is : new ≡ record mid { gathered = new.gathered; next = rest_of n (n.run.begin + size) }

-- the fact has the record that is due
pub record IsDue (old : Rows) (n : Next) (f : Fact) (size : ℕ) : Type 0 where
  pub target : ℕ
  pub place : place_of f ≡ Some (target, n.run.position)
  pub taken : is_taken old.chosen.now target ≡ true
  pub within : n.run.begin + size ≤ n.run.end

-- what became of a record that was due
abbrev pub AfterGathered : Rows → Next → Fact → ℕ → Rows → ReadStep → Type 0
AfterGathered old n f size new steps.Taken = HasGathered old n f size new
AfterGathered old n f size new steps.Unfinished = ⊥
AfterGathered old n f size new steps.Changed = IsDue old n f size → ⊥

-- the run was put back, and its next record is at this position
pub record HasPlaced (old : Rows) (n : Next) (position : ℤ) (new : Rows) : Type 0 where
  pub above : n.run.position ≤ℤ position
  pub put : IsPutAmong old.runs new.runs (record n.run { position = position })
  pub is : new ≡ record old { runs = new.runs; next = None }

-- what became of a run whose next position was read
abbrev pub AfterPlaced : Rows → Next → ℤ → Rows → ReadStep → Type 0
AfterPlaced old n position new steps.Taken = HasPlaced old n position new
AfterPlaced old n position new steps.Unfinished = ⊥
AfterPlaced old n position new steps.Changed = n.run.position ≤ℤ position → ⊥

-- the fact has a record that is not at a lower position than the run
abbrev pub IsLater : Next → Fact → Type 0
IsLater n f = (target : ℕ) × (position : ℤ) × (place_of f ≡ Some (target, position)) × (n.run.position ≤ℤ position)

-- the fact gave a record, or the next position
abbrev pub HasTaken : Rows → Next → Fact → ℕ → Rows → Type 0
HasTaken old n f size new = ((n.is_due ≡ true) × HasGathered old n f size new)
    ⊎ ((n.is_due ≡ false) × ((target : ℕ) × (position : ℤ) × (place_of f ≡ Some (target, position))
    × HasPlaced old n position new))

-- the fact is not one that can stand there
abbrev pub IsOther : Rows → Next → Fact → ℕ → Type 0
IsOther old n f size = ((n.is_due ≡ true) × (IsDue old n f size → ⊥)) ⊎ ((n.is_due ≡ false) × (IsLater n f → ⊥))

-- what became of a fact that was read
abbrev pub AfterTaken : Rows → Next → Fact → ℕ → Rows → ReadStep → Type 0
AfterTaken old n f size new steps.Taken = HasTaken old n f size new
AfterTaken old n f size new steps.Unfinished = ⊥
AfterTaken old n f size new steps.Changed = IsOther old n f size
