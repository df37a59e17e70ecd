-- What is read of saved files where their records stand, and what is written of the records in a form.
use Rattle.std.specs.Prelude.{◌≡◌, ◌⊎◌, ◌<◌, ℕ, true, List, [], ◌++◌, length, slice_index_or, Contains, Option, None, IfSome, Result, Ok, Err, MatchResult, Vec, ⊤}
use Rattle.std.specs.List.{AllByRecursion}
use Rattle.zknow.specs.declared.fact.Fact.{Fact}
use Rattle.zknow.specs.declared.tables.keys.SetKey.{SetKey}
use Rattle.zknow_forms.specs.declared.tally.Tally.{Tally}
use Rattle.zknow_runs.specs.RowLaws.{AreRowsFrontOf}
use Rattle.zknow_runs.specs.Rows.{StandAt, IsTaken, IsWanted, Sources, AreRunsIn, AreGiven, AreTaken, HoldsOf, AreRowsOf}
use Rattle.zknow_runs.specs.declared.rows.Chosen.{Chosen}
use Rattle.zknow_runs.specs.declared.rows.Rows.{Rows}
use Rattle.zknow_runs.specs.declared.rows.Taking.{Taking}
use Rattle.zknow_runs.specs.declared.rows.Wanted.{Wanted}
use Rattle.zknow_runs.specs.declared.run.Run.{Run}
use Rattle.zknow_titles.specs.Blocks.{filled_in, filled_at}
use Rattle.zknow_titles.specs.Rows.{widths}
use Rattle.zknow_titles.specs.Titles.{rows_of}
use Rattle.zknow_titles.specs.declared.rows.Widths.{Widths}
use Rattle.zmeta_args.specs.Texts.{texts_of}
use Rattle.zmeta_devices.specs.Devices.{Device, IsUnchanged, HasGained, HasStopped, PutFailure}
use Rattle.zmeta_devices.specs.declared.fault.Fault.{Fault}
use Rattle.zmeta_devices.specs.declared.fault.Fault.TheVariants.{Read, Write, Memory}
use Rattle.zmeta_offline.specs.Marked.{file_at}
use Rattle.zmeta_offline.specs.declared.rows.Reader.{Reader}
use Rattle.zmeta_offline.specs.declared.rows.Window.{Window}

-- ---- what is kept of files

-- the octets of the files are those of the files at these paths
abbrev pub AreFilesAt : (List ℕ → Option (List ℕ)) → List (List ℕ) → Sources → Type 0
AreFilesAt octets paths s = (number : ℕ) → s.files number ≡ file_at octets paths number

-- the path of the file of this number
abbrev pub path_at : List (List ℕ) → ℕ → List ℕ
path_at paths file = slice_index_or paths file []

-- the octets of the window stand where it says
abbrev pub IsWindow : (List ℕ → Option (List ℕ)) → List (List ℕ) → Window → Type 0
IsWindow octets paths w = StandAt (octets (path_at paths w.file)) w.begin w.octets.items

-- so do those of all windows of the reader, which is of these paths
pub record IsReader (octets : List ℕ → Option (List ℕ)) (paths : List (List ℕ)) (r : Reader) : Type 0 where
  pub of : texts_of r.paths.now ≡ paths
  pub windows : AllByRecursion (IsWindow octets paths) r.windows.items

-- the octets stand where some are wanted
abbrev pub IsKept : Reader → Wanted → List ℕ → Type 0
IsKept r w kept = (octets : List ℕ → Option (List ℕ)) (paths : List (List ℕ)) → IsReader octets paths r
    → StandAt (octets (path_at paths w.file)) w.begin kept

-- a read of the file at a path failed, and this is so; or no memory was found
abbrev pub IsReadFault : Type 0 → List ℕ → Fault → Type 0
IsReadFault IsSo path (Read failed) = (failed.now ≡ path) × IsSo
IsReadFault IsSo path Memory = ⊤
IsReadFault IsSo path _ = ⊥

-- the file has fewer octets, if its octets are known
abbrev pub EndsBefore : Option (List ℕ) → ℕ → Type 0
EndsBefore file end = IfSome file (λ xs. length xs < end)

-- ---- steps

-- It is not known what the file has where octets are wanted, if they are wanted of the run that is read next. The
-- reader and the machine are of these files.
abbrev pub IsUnknownTo : (List ℕ → Option (List ℕ)) → List (List ℕ) → Wanted → Reader → Rows → Type 0
IsUnknownTo octets paths w r rows = IsReader octets paths r → IsWanted rows w → (s : Sources) → AreFilesAt octets paths s
    → (t : Taking) (text : List ℕ) → AreTaken s t → HoldsOf s t text rows → octets (path_at paths w.file) ≡ None

-- why no octets of the machine's next record are read: it is not known what its file has, or no memory was found
abbrev pub IsNextFault : (List ℕ → Option (List ℕ)) → List (List ℕ) → Wanted → Reader → Rows → Fault → Type 0
IsNextFault octets paths w r rows (Read failed) =
    Contains paths failed.now × (failed.now ≡ path_at paths w.file) × IsUnknownTo octets paths w r rows
IsNextFault octets paths w r rows Memory = ⊤
IsNextFault octets paths w r rows _ = ⊥

-- the machine was given octets that stand where some were wanted, and the windows of the reader stand
pub record HasRead (octets : List ℕ → Option (List ℕ)) (paths : List (List ℕ)) (w : Wanted) (old : Reader)
    (before : Rows) (new : Reader) (after : Rows) : Type 0 where
  pub reader : IsReader octets paths old → IsReader octets paths new
  pub holds : IsReader octets paths old → IsWanted before w → (s : Sources) → AreFilesAt octets paths s → (t : Taking)
      (text : List ℕ) → HoldsOf s t text before → HoldsOf s t text after

-- some of the machine's octets were written
pub record HasPut (old new : Device) (before after : Rows) : Type 0 where
  pub more : List ℕ
  pub gained : HasGained old new more
  pub holds : (s : Sources) (t : Taking) (text : List ℕ) → HoldsOf s t text before → HoldsOf s t (text ++ more) after

-- the stream failed at some of the machine's octets, which were handed out
pub record HasNotPut (old new : Device) (before after : Rows) (f : Fault) : Type 0 where
  pub more : List ℕ
  pub failed : PutFailure old new more f
  pub holds : (s : Sources) (t : Taking) (text : List ℕ) → HoldsOf s t text before → HoldsOf s t (text ++ more) after

-- some octets were written, or the stream failed
abbrev pub PutPieceResult : Device → Device → Rows → Rows → Result (Unit {0}) Fault → Type 0
PutPieceResult old new before after result =
    MatchResult result (λ _. HasPut old new before after) (HasNotPut old new before after)

-- ---- a pass over the records

-- The facts may be given of these files: they are the known records, and others only if there is a file whose octets
-- are not known.
abbrev pub AreGivenOf : Sources → Chosen → List Fact → Type 0
AreGivenOf s c given = AreGiven s.files (Contains s.known) (s.unknown ≡ true) c given

-- the whole text was written, but for these octets
pub record IsWritten (t : Taking) (old new : Device) (last : List ℕ) (told : Tally) (s : Sources) : Type 0 where
  pub text : List ℕ
  pub gained : HasGained old new text
  pub is : AreRowsOf s t (text ++ last) told

-- a front of the text was written
pub record IsCutOff (t : Taking) (old new : Device) (s : Sources) : Type 0 where
  pub text : List ℕ
  pub gained : HasGained old new text
  pub is : AreRowsFrontOf s t text

-- the stream failed after a front of the text
pub record IsStopped (t : Taking) (old new : Device) (s : Sources) : Type 0 where
  pub text : List ℕ
  pub stopped : HasStopped old new text
  pub is : AreRowsFrontOf s t text

-- These are the columns that the rows of facts need that may be given, and the numbers of positions at which a record
-- is shown.
pub record IsMeasured (shown : List (List ℕ)) (c : Chosen) (w : Widths) (filled : List (SetKey × ℕ)) (s : Sources)
    : Type 0 where
  pub given : List Fact
  pub are : AreGivenOf s c given
  pub columns : w ≡ widths shown (rows_of given)
  pub positions : (b : SetKey) → filled_at filled b ≡ filled_in given b

module _ (octets : List ℕ → Option (List ℕ)) (paths : List (List ℕ)) (runs : List Run) where
  -- so it is of the files at these paths, if the runs have all their records that are taken
  abbrev pub IsOfRuns : Chosen → (Sources → Type 0) → Type 0
  IsOfRuns c P = (s : Sources) → AreFilesAt octets paths s → AreRunsIn s runs
      → ((f : Fact) → Contains s.known f → IsTaken c f) → P s

  -- why records are not read: it is not known what one of the files has, or no memory was found
  abbrev pub IsMissedRead : Chosen → Fault → Type 0
  IsMissedRead c (Read failed) = Contains paths failed.now × IsOfRuns c (λ s. octets failed.now ≡ None)
  IsMissedRead c Memory = ⊤
  IsMissedRead c _ = ⊥

  -- all was written, but for the last octets, or why not
  abbrev pub WriteRowsResult : {A : Type 0} → Taking → Device → Device → Result (Vec ℕ A × Tally) Fault → Type 0
  WriteRowsResult t old new (Ok r) = IsOfRuns t.chosen.now (IsWritten t old new r.0.items r.1)
  WriteRowsResult t old new (Err (Read failed)) =
      IsMissedRead t.chosen.now (Read failed) × IsOfRuns t.chosen.now (IsCutOff t old new)
  WriteRowsResult t old new (Err (Write failed)) =
      (failed.now ≡ old.path) × IsOfRuns t.chosen.now (IsStopped t old new)
  WriteRowsResult t old new (Err Memory) = IsUnchanged old new ⊎ IsOfRuns t.chosen.now (IsCutOff t old new)
  WriteRowsResult t old new (Err _) = ⊥

  -- all was measured, or why not
  abbrev pub MeasureRowsResult : Chosen → List (List ℕ) → Result Tally Fault → Type 0
  MeasureRowsResult c shown (Ok told) = IsOfRuns c (IsMeasured shown c told.widths told.filled.entries)
  MeasureRowsResult c shown (Err f) = IsMissedRead c f
