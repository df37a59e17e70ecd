-- Records are read, and nothing is written.
use Rattle.std.proofs.Common.{◌≡◌, subst, sym, ℕ, List, [], ◌++◌, Option, None, Result, Err}
use Rattle.zknow.specs.declared.fact.Fact.{Fact}
use Rattle.zknow.specs.declared.tables.keys.SetKey.{SetKey}
use Rattle.zknow_forms.specs.Forms.{IsTold}
use Rattle.zknow_forms.specs.declared.tally.Tally.{Tally}
use Rattle.zknow_runs.specs.Rows.{IsTaken, IsWanted, Sources, AreRunsIn, HoldsOf, AreRowsOf}
use Rattle.zknow_runs.specs.declared.rows.Chosen.{Chosen}
use Rattle.zknow_runs.specs.declared.rows.Rows.{Rows}
use Rattle.zknow_runs.specs.declared.rows.Taking.{Taking}
use Rattle.zknow_runs.specs.declared.rows.Wanted.{Wanted}
use Rattle.zknow_runs.specs.declared.run.Run.{Run}
use Rattle.zknow_titles.specs.Blocks.{filled_in, filled_at}
use Rattle.zknow_titles.specs.Rows.{widths}
use Rattle.zknow_titles.specs.Titles.{rows_of}
use Rattle.zmeta_devices.specs.declared.fault.Fault.{Fault}
use Rattle.zmeta_devices.specs.declared.fault.Fault.TheVariants.{Read, Memory}
use Rattle.zmeta_offline.specs.Rows.{AreFilesAt, AreGivenOf, IsReader, IsNextFault, HasRead, IsMeasured, IsOfRuns, IsMissedRead, MeasureRowsResult}
use Rattle.zmeta_offline.specs.declared.rows.Reader.{Reader}

-- a tally says which columns these facts need, and at how many positions of a set a record is shown
pub record TellsRows (shown : List (List ℕ)) (facts : List Fact) (told : Tally) : Type 0 where
  pub columns : told.widths ≡ widths shown (rows_of facts)
  pub positions : (b : SetKey) → filled_at told.filled.entries b ≡ filled_in facts b

module _ (octets : List ℕ → Option (List ℕ)) (paths : List (List ℕ)) (runs : List Run) (c : Chosen)
    (shown : List (List ℕ)) where
  -- what is taken, and what the machine and the reader hold; nothing was handed out
  pub record IsMeasuring (reader : Reader) (rows : Rows) : Type 0 where
    pub taking : Taking
    pub chosen : taking.chosen.now ≡ c
    pub tells : (facts : List Fact) (told : Tally) → IsTold taking.form.now facts told → TellsRows shown facts told
    pub windows : IsReader octets paths reader
    pub holds : (s : Sources) → AreFilesAt octets paths s → AreRunsIn s runs → HoldsOf s taking [] rows

  -- nothing was read yet
  pub begun : (reader : Reader) (rows : Rows) (t : Taking)
      → ((s : Sources) → AreRunsIn s runs → HoldsOf s t [] rows) → t.chosen.now ≡ c
      → ((facts : List Fact) (told : Tally) → IsTold t.form.now facts told → TellsRows shown facts told)
      → IsReader octets paths reader → IsMeasuring reader rows
  begun reader rows t holds chosen tells windows = record {
    taking = t;
    chosen = chosen;
    tells = tells;
    windows = windows;
    holds = λ s files are. holds s are;
  }

  -- the machine changed, and holds the same
  pub turned : (reader : Reader) (old new : Rows)
      → ((s : Sources) (t : Taking) (text : List ℕ) → HoldsOf s t text old → HoldsOf s t text new)
      → IsMeasuring reader old → IsMeasuring reader new
  turned reader old new same m = record {
    taking = m.taking;
    chosen = m.chosen;
    tells = m.tells;
    windows = m.windows;
    holds = λ s files are. same s m.taking [] (m.holds s files are);
  }

  -- the machine read
  pub read : (wanted : Wanted) (old : Reader) (before : Rows) (new : Reader) (after : Rows) → IsWanted before wanted
      → HasRead octets paths wanted old before new after → IsMeasuring old before → IsMeasuring new after
  read wanted old before new after next has m = record {
    taking = m.taking;
    chosen = m.chosen;
    tells = m.tells;
    windows = has.reader m.windows;
    holds = λ s files are. has.holds m.windows next s files m.taking [] (m.holds s files are);
  }

  -- the next record could not be read
  pub next_missed : (wanted : Wanted) (reader : Reader) (rows : Rows) (f : Fault) → IsWanted rows wanted
      → IsNextFault octets paths wanted reader rows f → IsMeasuring reader rows → IsMissedRead octets paths runs c f
  next_missed wanted reader rows (Read failed) next fault m = (
    fault.0,
    λ s files are taken. subst (λ (p : List ℕ). octets p ≡ None) (sym fault.1)
        (fault.2 m.windows next s files m.taking []
        (λ f is. subst (λ (z : Chosen). IsTaken z f) (sym m.chosen) (taken f is)) (m.holds s files are)),
  )
  next_missed wanted reader rows Memory next fault m = tt
  next_missed wanted reader rows f next fault m = absurd fault

  -- all was read
  pub ended : (reader : Reader) (rows : Rows) (last : List ℕ) (told : Tally)
      → ((s : Sources) (t : Taking) (text : List ℕ) → HoldsOf s t text rows → AreRowsOf s t (text ++ last) told)
      → IsMeasuring reader rows → IsOfRuns octets paths runs c (IsMeasured shown c told.widths told.filled.entries)
  ended reader rows last told all m s files are taken =
      let r = all s m.taking [] (m.holds s files are) in
      let tells : TellsRows shown r.given told = m.tells r.given told r.tally in
      record {
        given = r.given;
        are = subst (λ (z : Chosen). AreGivenOf s z r.given) m.chosen r.are;
        columns = tells.columns;
        positions = tells.positions;
      }

  -- it is broken off
  pub missed : (g f : Fault) (r : Result Tally Fault) → r ≡ Err f → f ≡ g → IsMissedRead octets paths runs c g
      → MeasureRowsResult octets paths runs c shown r
  missed g f r is of among = rw (is, of) among
