-- The second pass goes on, and how it ends.
use Rattle.std.proofs.Common.{◌≡◌, ◌∙◌, ◌⊎◌, inl, inr, refl, sym, ap, subst, ℕ, List, [], ◌++◌, append-nil, append_assoc, Option, None, Result, Ok, Err}
use Rattle.std.specs.Borrow.{Bor}
use Rattle.std.specs.Prelude.{Contains, Vec}
use Rattle.zknow.specs.declared.fact.Fact.{Fact}
use Rattle.zknow_forms.specs.declared.tally.Tally.{Tally}
use Rattle.zknow_runs.specs.RowLaws.{AllRowLaws}
use Rattle.zknow_runs.specs.Rows.{IsTaken, IsWanted, Sources, AreRunsIn, HoldsOf, AreRowsOf}
use Rattle.zknow_runs.specs.declared.rows.Rows.{Rows}
use Rattle.zknow_runs.specs.declared.rows.Taking.{Taking}
use Rattle.zknow_runs.specs.declared.rows.Wanted.{Wanted}
use Rattle.zknow_runs.specs.declared.run.Run.{Run}
use Rattle.zmeta_devices.specs.Devices.{Device, HasGained}
use Rattle.zmeta_devices.specs.declared.fault.Fault.{Fault}
use Rattle.zmeta_devices.specs.declared.fault.Fault.TheVariants.{Read, Write, Memory}
use Rattle.zmeta_offline.specs.Rows.{AreFilesAt, IsReader, IsNextFault, HasRead, HasPut, HasNotPut, IsWritten, IsCutOff, IsStopped, IsOfRuns, IsMissedRead, WriteRowsResult}
use Rattle.zmeta_offline.specs.declared.rows.Reader.{Reader}
use Rattle.zmeta_offline.proofs.Joining.{kept}
use Rattle.zmeta_offline.proofs.Keeping.{none_gained}
use Rattle.zmeta_offline.proofs.Streaming.{gained_more, gained_stopped}

-- what was written so far, and what the machine and the reader hold
pub record IsGoing (octets : List ℕ → Option (List ℕ)) (paths : List (List ℕ)) (runs : List Run) (t : Taking)
    (start now : Device) (reader : Reader) (rows : Rows) : Type 0 where
  pub windows : IsReader octets paths reader
  pub path : now.path ≡ start.path
  pub holds : (s : Sources) → AreFilesAt octets paths s → AreRunsIn s runs
      → (text : List ℕ) × HasGained start now text × HoldsOf s t text rows

module _ (octets : List ℕ → Option (List ℕ)) (paths : List (List ℕ)) (runs : List Run) (t : Taking) (start : Device)
  where
    -- nothing was read yet
    pub begun : (reader : Reader) (rows : Rows) → IsReader octets paths reader
        → ((s : Sources) → AreRunsIn s runs → HoldsOf s t [] rows)
        → IsGoing octets paths runs t start start reader rows
    begun reader rows windows holds = record {
      windows = windows;
      path = refl;
      holds = λ s files are. ([], none_gained start, holds s are);
    }

    -- the machine changed, and holds the same
    pub turned : (now : Device) (reader : Reader) (old new : Rows)
        → ((s : Sources) (t : Taking) (text : List ℕ) → HoldsOf s t text old → HoldsOf s t text new)
        → IsGoing octets paths runs t start now reader old → IsGoing octets paths runs t start now reader new
    turned now reader old new same going = record {
      windows = going.windows;
      path = going.path;
      holds = λ s files are. let w = going.holds s files are in (w.0, w.1, same s t w.0 w.2);
    }

    -- the machine read
    pub read : (now : Device) (wanted : Wanted) (old : Reader) (before : Rows) (new : Reader) (after : Rows)
        → IsWanted before wanted → HasRead octets paths wanted old before new after
        → IsGoing octets paths runs t start now old before → IsGoing octets paths runs t start now new after
    read now wanted old before new after next has going = record {
      windows = has.reader going.windows;
      path = going.path;
      holds = λ s files are.
          let w = going.holds s files are in (w.0, w.1, has.holds going.windows next s files t w.0 w.2);
    }

    -- some of the octets were written
    pub put : (old new : Device) (reader : Reader) (before after : Rows) → HasPut old new before after
        → IsGoing octets paths runs t start old reader before → IsGoing octets paths runs t start new reader after
    put old new reader before after has going = record {
      windows = going.windows;
      path = has.gained.path ∙ going.path;
      holds = λ s files are.
          let w = going.holds s files are in (
            w.0 ++ has.more,
            gained_more start old new w.0 has.more w.1 has.gained,
            has.holds s t w.0 w.2,
          );
    }

    -- the next record could not be read
    pub next_missed : (now : Device) (wanted : Wanted) (reader : Reader) (rows : Rows) (f : Fault)
        → IsWanted rows wanted → IsNextFault octets paths wanted reader rows f
        → IsGoing octets paths runs t start now reader rows → IsMissedRead octets paths runs t.chosen.now f
    next_missed now wanted reader rows (Read failed) next fault going = (
      fault.0,
      λ s files are taken.
          let w = going.holds s files are in
          subst (λ (p : List ℕ). octets p ≡ None) (sym fault.1)
          (fault.2 going.windows next s files t w.0 taken w.2),
    )
    next_missed now wanted reader rows Memory next fault going = tt
    next_missed now wanted reader rows f next fault going = absurd fault

    -- all was read
    pub ended : (now : Device) (reader : Reader) (rows : Rows) (last : List ℕ) (told : Tally)
        → ((s : Sources) (t : Taking) (text : List ℕ) → HoldsOf s t text rows → AreRowsOf s t (text ++ last) told)
        → IsGoing octets paths runs t start now reader rows
        → IsOfRuns octets paths runs t.chosen.now (IsWritten t start now last told)
    ended now reader rows last told all going s files are taken =
        let w = going.holds s files are in record { text = w.0; gained = w.1; is = all s t w.0 w.2 }

    module _ (law : AllRowLaws) where
      -- it is broken off
      pub cut_off : (now : Device) (reader : Reader) (rows : Rows) → IsGoing octets paths runs t start now reader rows
          → IsOfRuns octets paths runs t.chosen.now (IsCutOff t start now)
      cut_off now reader rows going s files are taken =
          let w = going.holds s files are in
          record { text = w.0; gained = w.1; is = law s t w.0 rows w.2 taken }

      stopped : (A : Type 0) (old new : Device) (reader : Reader) (before after : Rows) (f : Fault)
          → HasNotPut old new before after f → IsGoing octets paths runs t start old reader before
          → WriteRowsResult octets paths runs {A = A} t start new (Err f)
      stopped A old new reader before after (Write to) has going = (
        has.failed.0 ∙ going.path,
        λ s files are taken.
            let w = going.holds s files are in record {
              text = w.0 ++ has.more;
              stopped = gained_stopped start old new w.0 has.more w.1 has.failed.1;
              is = law s t (w.0 ++ has.more) after (has.holds s t w.0 w.2) taken;
            },
      )
      stopped A old new reader before after f has going = absurd has.failed

      missed : (A : Type 0) (now : Device) (reader : Reader) (rows : Rows) (f : Fault)
          → IsMissedRead octets paths runs t.chosen.now f → IsGoing octets paths runs t start now reader rows
          → WriteRowsResult octets paths runs {A = A} t start now (Err f)
      missed A now reader rows (Read failed) among going = (among, cut_off now reader rows going)
      missed A now reader rows Memory among going = inr (cut_off now reader rows going)
      missed A now reader rows f among going = absurd among

      -- with the result that is returned
      pub missed_as : {A : Type 0} (now : Device) (reader : Reader) (rows : Rows) (g f : Fault)
          (r : Result (Vec ℕ A × Tally) Fault) → r ≡ Err f → f ≡ g → IsMissedRead octets paths runs t.chosen.now g
          → IsGoing octets paths runs t start now reader rows → WriteRowsResult octets paths runs t start now r
      missed_as {A = A} now reader rows g f r is of among going =
          rw (is, of) (missed A now reader rows g among going)

      pub stopped_as : {A : Type 0} (old new : Device) (reader : Reader) (before after : Rows) (g f : Fault)
          (r : Result (Vec ℕ A × Tally) Fault) → r ≡ Err f → f ≡ g → HasNotPut old new before after g
          → IsGoing octets paths runs t start old reader before → WriteRowsResult octets paths runs t start new r
      stopped_as {A = A} old new reader before after g f r is of has going =
          rw (is, of) (stopped A old new reader before after g has going)

    -- no memory was found before anything was written
    pub no_memory : {A : Type 0} (f : Fault) (r : Result (Vec ℕ A × Tally) Fault) → r ≡ Err f → f ≡ Memory
        → WriteRowsResult octets paths runs t start start r
    no_memory f r is of = rw (is, of) (inl (kept start))
