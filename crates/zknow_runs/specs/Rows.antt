-- The records of runs, by position: what files owe, and what was taken of them.
use Rattle.std.specs.Prelude.{◌≡◌, ◌⊎◌, ◌+◌, ◌<◌, ◌<ℤ◌, ◌≤ℤ◌, ℕ, ℤ, Bool, true, List, [], ◌∷◌, ◌++◌, length, take, drop, slice_index_or, Contains, Option, Some, None, IfSome, ⊤}
use Rattle.zknow.specs.declared.fact.Fact.{Fact}
use Rattle.zknow.specs.declared.fact.Fact.TheVariants.{Count, Failed, Seen, Diag}
use Rattle.zknow.specs.Encodings.{encoding}
use Rattle.zknow.specs.Facts.{AreFacts}
use Rattle.zknow.specs.Saved.SavedFacts.{saved_fact}
use Rattle.zknow.specs.Saved.Saved.{IsWithinLimits}
use Rattle.zknow_forms.specs.Forms.{form_text, IsTold}
use Rattle.zknow_forms.specs.declared.tally.Tally.{Tally}
use Rattle.zknow_runs.specs.declared.rows.Chosen.{Chosen}
use Rattle.zknow_runs.specs.declared.rows.Next.{Next}
use Rattle.zknow_runs.specs.declared.rows.ReadStep.{ReadStep}
use Rattle.zknow_runs.specs.declared.rows.ReadStep.TheVariants as steps
use Rattle.zknow_runs.specs.declared.rows.Rows.{Rows}
use Rattle.zknow_runs.specs.declared.rows.Taking.{Taking}
use Rattle.zknow_runs.specs.declared.rows.Wanted.{Wanted}
use Rattle.zknow_runs.specs.declared.run.Run.{Run}

-- ---- a record's fact

-- the target and the position of a record's fact, if it is one
abbrev pub place_of : Fact → Option (ℕ × ℤ)
place_of (Count t s n) = None
place_of (Failed t s) = None
place_of (Seen t s p r) = Some (t, p)
place_of (Diag t s p d) = None

-- whether records of the target of this number are taken
abbrev pub is_taken : Chosen → ℕ → Bool
is_taken c target = slice_index_or c.targets.items target c.others

-- the fact has a record at this position
abbrev pub IsAt : ℤ → Fact → Type 0
IsAt position f = (target : ℕ) × (place_of f ≡ Some (target, position))

-- the fact has a record that is taken, and its element is within the limits of saved files
pub record IsTaken (c : Chosen) (f : Fact) : Type 0 where
  pub target : ℕ
  pub position : ℤ
  pub seen : place_of f ≡ Some (target, position)
  pub taken : is_taken c target ≡ true
  pub fits : IsWithinLimits saved_fact f

-- ---- a file, and where facts stand in it

-- the octets stand in the file, behind this many of its octets, if they are known
abbrev pub StandAt : Option (List ℕ) → ℕ → List ℕ → Type 0
StandAt file offset octets = IfSome file (λ xs. octets ≡ take (length octets) (drop offset xs))

-- the fact's element stands in the file, behind this many octets
pub record IsElementAt (file : List ℕ) (begin : ℕ) (f : Fact) : Type 0 where
  pub rest : List ℕ
  pub cut : drop begin file ≡ encoding saved_fact f ++ rest
  pub fits : IsWithinLimits saved_fact f

-- the elements of the facts fill the octets of the file between these bounds, one after the other
abbrev pub AreElements : List ℕ → ℕ → ℕ → List Fact → Type 0
AreElements file begin end [] = begin ≡ end
AreElements file begin end (f ∷ fs) =
    IsElementAt file begin f × AreElements file (begin + length (encoding saved_fact f)) end fs

-- they have records, and none is at a lower position than this one, or than the record before it
abbrev pub DoRise : ℤ → List Fact → Type 0
DoRise p [] = ⊤
DoRise p (f ∷ fs) = (q : ℤ) × IsAt q f × (p ≤ℤ q) × DoRise q fs

-- ---- runs of files by their numbers, each with its octets if they are known

-- the run has octets, if those of its file are known
abbrev pub HasOctets : (ℕ → Option (List ℕ)) → Run → Type 0
HasOctets files r = IfSome (files r.file) (λ file. r.begin < r.end)

-- the first record of the run is at its position, if the octets of its file are known
abbrev pub HasFirst : (ℕ → Option (List ℕ)) → Run → Type 0
HasFirst files r = IfSome (files r.file) (λ file. (f : Fact) × IsElementAt file r.begin f × IsAt r.position f)

-- ---- what is left of the runs

-- what is left of the run that is read next, if there is one
abbrev pub next_run : Option Next → List Run
next_run None = []
next_run (Some n) = n.run ∷ []

-- what is left of all runs
abbrev pub left_runs : Rows → List Run
left_runs rows = next_run rows.next ++ rows.runs

-- the octets that were not handed out
abbrev pub kept_octets : Rows → List ℕ
kept_octets rows = rows.octets.items

-- ---- files by their numbers, each with its octets if they are known; the facts that are wanted of those that are
-- known; and what holds if there is a file whose octets are not known
module _ (files : ℕ → Option (List ℕ)) (wanted : Fact → Type 0) (unknown : Type 0) where
  -- the run has these facts, and all of them are wanted
  pub record HasFacts (file : List ℕ) (r : Run) (fs : List Fact) : Type 0 where
    pub elements : AreElements file r.begin r.end fs
    pub rise : DoRise r.position fs
    pub each : (f : Fact) → Contains fs f → wanted f

  -- the run has facts of the file, if its octets are known
  abbrev pub IsCoveredBy : Option (List ℕ) → Run → Type 0
  IsCoveredBy None r = unknown
  IsCoveredBy (Some file) r = (fs : List Fact) × HasFacts file r fs

  -- so has it of the file that it names
  abbrev pub IsCovered : Run → Type 0
  IsCovered r = IsCoveredBy (files r.file) r

  -- the fact is one of the run's
  pub record Owes (r : Run) (f : Fact) : Type 0 where
    pub file : List ℕ
    pub known : files r.file ≡ Some file
    pub facts : List Fact
    pub has : HasFacts file r facts
    pub here : Contains facts f

  -- each run is covered, and begins as it says; and each fact that is wanted is one of a run
  pub record AreAllWanted (runs : List Run) : Type 0 where
    pub covered : (r : Run) → Contains runs r → IsCovered r
    pub some : (r : Run) → Contains runs r → HasOctets files r
    pub first : (r : Run) → Contains runs r → HasFirst files r
    pub complete : (f : Fact) → wanted f → (r : Run) × Contains runs r × Owes r f

  -- The facts are all those that are wanted. If there is a file whose octets are not known, others that have records
  -- that are taken may be among them.
  pub record AreGiven (c : Chosen) (given : List Fact) : Type 0 where
    pub lawful : AreFacts given
    pub complete : (f : Fact) → wanted f → Contains given f
    pub sound : (f : Fact) → Contains given f → IsTaken c f × (wanted f ⊎ unknown)

  -- ---- what was taken

  -- The facts whose records were written: what stands before them, their text, and what was not handed out. Those that
  -- were gathered are at the position, and what is left of the runs is not below it. A run whose next record is due
  -- begins with it.
  pub record HoldsRows (t : Taking) (text : List ℕ) (low : List Fact) (rows : Rows) : Type 0 where
    pub chosen : rows.chosen ≡ t.chosen
    pub form : rows.form ≡ t.form
    pub low_facts : AreFacts low
    pub gathered_facts : AreFacts rows.gathered
    pub complete : (f : Fact) → wanted f
        → Contains low f ⊎ (Contains rows.gathered f ⊎ ((r : Run) × Contains (left_runs rows) r × Owes r f))
    pub sound : (f : Fact) → Contains low f ⊎ Contains rows.gathered f → IsTaken t.chosen.now f × (wanted f ⊎ unknown)
    pub covered : (r : Run) → Contains (left_runs rows) r → IsCovered r
    pub some : (r : Run) → Contains (left_runs rows) r → HasOctets files r
    pub first : (r : Run) → Contains rows.runs r → HasFirst files r
    pub due : (n : Next) → rows.next ≡ Some n → n.is_due ≡ true → HasFirst files n.run
    pub below : (f : Fact) → Contains low f → (p q : ℤ) × IsAt p f × (rows.position ≡ Some q) × (p <ℤ q)
    pub at : (f : Fact) → Contains rows.gathered f → (p : ℤ) × IsAt p f × (rows.position ≡ Some p)
    pub above : (r : Run) → Contains (left_runs rows) r → IfSome rows.position (λ q. q ≤ℤ r.position)
    pub least : (n : Next) (r : Run) → rows.next ≡ Some n → n.is_due ≡ true → Contains rows.runs r
        → n.run.position ≤ℤ r.position
    pub written : text ++ kept_octets rows ≡ t.head.items ++ form_text t.form.now low
    pub told : IsTold t.form.now low rows.tally

  -- so it is for some facts
  abbrev pub Holds : Taking → List ℕ → Rows → Type 0
  Holds t text rows = (low : List Fact) × HoldsRows t text low rows

  -- after octets were read that stand where they were wanted
  abbrev pub AfterRead : Taking → List ℕ → Rows → ReadStep → Type 0
  AfterRead t text rows steps.Taken = Holds t text rows
  AfterRead t text rows steps.Unfinished = Holds t text rows
  AfterRead t text rows steps.Changed = ⊤

  -- ---- the end

  -- these are the head and the text, and the tally, of all that was given
  pub record AreRows (t : Taking) (text : List ℕ) (told : Tally) : Type 0 where
    pub given : List Fact
    pub are : AreGiven t.chosen.now given
    pub octets : text ≡ t.head.items ++ form_text t.form.now given
    pub tally : IsTold t.form.now given told

  -- these octets are a front of the head and the text of facts that may be given
  pub record AreRowsFront (t : Taking) (text : List ℕ) : Type 0 where
    pub given : List Fact
    pub rest : List ℕ
    pub are : AreGiven t.chosen.now given
    pub octets : text ++ rest ≡ t.head.items ++ form_text t.form.now given

-- ---- what is read next

-- the octets stand where the next record is read, in files by their numbers
abbrev pub StandNext : (ℕ → Option (List ℕ)) → Rows → List ℕ → Type 0
StandNext files rows octets = IfSome rows.next (λ n. StandAt (files n.run.file) n.run.begin octets)

-- octets of the run that is read next are wanted
pub record IsWantedOf (n : Next) (w : Wanted) : Type 0 where
  pub file : w.file ≡ n.run.file
  pub begin : w.begin ≡ n.run.begin
  pub end : w.end ≡ n.run.end

-- the same, and there is such a run
abbrev pub IsWanted : Rows → Wanted → Type 0
IsWanted rows w = (n : Next) × (rows.next ≡ Some n) × IsWantedOf n w

-- the octets of the file of the run that is read next are not known
abbrev pub IsNextUnknown : (ℕ → Option (List ℕ)) → Rows → Type 0
IsNextUnknown files rows = IfSome rows.next (λ n. files n.run.file ≡ None)

-- the run that is read next has more octets than these
abbrev pub GoesOnBehind : Rows → List ℕ → Type 0
GoesOnBehind rows octets = IfSome rows.next (λ n. n.run.begin + length octets < n.run.end)

-- Octets that stand where the next record is read begin with it, where their file is known: if they have no whole
-- record, the run has more.
abbrev pub IsExcused : (ℕ → Option (List ℕ)) → Rows → List ℕ → ReadStep → Type 0
IsExcused files rows octets steps.Taken = ⊤
IsExcused files rows octets steps.Unfinished = GoesOnBehind rows octets ⊎ IsNextUnknown files rows
IsExcused files rows octets steps.Changed = IsNextUnknown files rows

-- ---- files, with lists in place of predicates

-- files by their numbers, each with its octets if they are known; the records that are taken of those that are known;
-- and whether there is a file whose octets are not known
pub record Sources : Type 0 where
  pub files : ℕ → Option (List ℕ)
  pub known : List Fact
  pub unknown : Bool

-- the runs have all known records, and no others of files that are known
abbrev pub AreRunsIn : Sources → List Run → Type 0
AreRunsIn s runs = AreAllWanted s.files (Contains s.known) (s.unknown ≡ true) runs

-- what was taken so far is theirs
abbrev pub HoldsOf : Sources → Taking → List ℕ → Rows → Type 0
HoldsOf s t text rows = Holds s.files (Contains s.known) (s.unknown ≡ true) t text rows

-- after octets were read that stand where they were wanted
abbrev pub AfterReadOf : Sources → Taking → List ℕ → Rows → ReadStep → Type 0
AfterReadOf s t text rows step = AfterRead s.files (Contains s.known) (s.unknown ≡ true) t text rows step

-- each known record is one of those that are taken
abbrev pub AreTaken : Sources → Taking → Type 0
AreTaken s t = (f : Fact) → Contains s.known f → IsTaken t.chosen.now f

-- these are the head and the text, and the tally, of all that was given
abbrev pub AreRowsOf : Sources → Taking → List ℕ → Tally → Type 0
AreRowsOf s t text told = AreRows s.files (Contains s.known) (s.unknown ≡ true) t text told
