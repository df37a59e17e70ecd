-- Why octets of files are not read: it is not known what the files have.
use Rattle.std.proofs.Common.{◌≡◌, ◌∙◌, ◌⊎◌, inl, inr, refl, sym, ap, subst, arith, ℕ, ◌+◌, ◌-◌, ◌<◌, ◌≤◌, List, [], ◌++◌, length, drop, append-nil, Option, Some, None, IfSome, Result, Err}
use Rattle.std.specs.Prelude.{Contains}
use Rattle.std.specs.Io.KnownBytes.{Consumes, IsAtEnd}
use Rattle.std.proofs.lemmas.List.{length-drop}
use Rattle.zknow_runs.proofs.ExcuseTheory.{next_within}
use Rattle.zknow_runs.specs.Rows.{StandNext, IsWantedOf, IsWanted, Sources, HoldsOf, AreTaken, IsNextUnknown, GoesOnBehind, IsExcused}
use Rattle.zknow_runs.specs.declared.rows.Next.{Next}
use Rattle.zknow_runs.specs.declared.rows.ReadStep.{ReadStep}
use Rattle.zknow_runs.specs.declared.rows.ReadStep.TheVariants as steps
use Rattle.zknow_runs.specs.declared.rows.Rows.{Rows}
use Rattle.zknow_runs.specs.declared.rows.Taking.{Taking}
use Rattle.zknow_runs.specs.declared.rows.Wanted.{Wanted}
use Rattle.zmeta_devices.specs.Files.{left_from}
use Rattle.zmeta_devices.specs.declared.fault.Fault.{Fault}
use Rattle.zmeta_devices.specs.declared.fault.Fault.TheVariants.{Read, Memory}
use Rattle.zmeta_offline.specs.Rows.{path_at, AreFilesAt, IsReader, IsKept, IsReadFault, EndsBefore, IsUnknownTo, IsNextFault}
use Rattle.zmeta_offline.specs.declared.rows.Reader.{Reader}
use Rattle.zmeta_offline.proofs.Keeping.{stand_next}

-- ---- the octets of a file

-- they are not known
pub unread : (file : Option (List ℕ)) (end : ℕ) → file ≡ None → EndsBefore file end
unread None end none = tt
unread (Some xs) end none = absurd cc

-- it is not known what is left behind an offset
pub unread_behind : (file left : Option (List ℕ)) (offset end : ℕ) → left ≡ left_from offset file → left ≡ None
    → EndsBefore file end
unread_behind None left offset end is none = tt
unread_behind (Some xs) left offset end is none = let no = sym is ∙ none in absurd cc

-- fewer came before the end
pub read_short : (file left now : Option (List ℕ)) (offset wanted : ℕ) (read : List ℕ) → left ≡ left_from offset file
    → Consumes left now read → IsAtEnd now → length read < wanted → EndsBefore file (offset + wanted)
read_short None left now offset wanted read is taken end short = tt
read_short (Some xs) left now offset wanted read is taken end short =
    by now (subst (λ z. Consumes z now read) is taken) end
  where
    by : (now : Option (List ℕ)) → Consumes (Some (drop offset xs)) now read → IsAtEnd now
        → length xs < offset + wanted
    by None taken end = absurd taken
    by (Some rest) taken end =
        let whole : drop offset xs ≡ read = taken ∙ ap (λ l. read ++ l) end ∙ append-nil read in
        let size : length xs - offset ≡ length read = sym (length-drop offset xs) ∙ ap length whole in
        omega (arith, size, short)

-- fewer than some are fewer than more
pub less_wanted : (file : Option (List ℕ)) (path : List ℕ) (begin size most : ℕ) (f : Fault) → size ≤ most
    → IsReadFault (EndsBefore file (begin + size)) path f → IsReadFault (EndsBefore file (begin + most)) path f
less_wanted file path begin size most (Read failed) le is = (is.0, by file is.1)
  where
    by : (file : Option (List ℕ)) → EndsBefore file (begin + size) → EndsBefore file (begin + most)
    by None h = tt
    by (Some xs) h = omega (arith, h, le)
less_wanted file path begin size most Memory le is = tt
less_wanted file path begin size most f le is = absurd is

-- ---- what the machine holds

module _ (octets : List ℕ → Option (List ℕ)) (paths : List (List ℕ)) (w : Wanted) where
  -- no record was taken of octets that were kept, and the run has no more
  pub given_unknown : (r : Reader) (before : Rows) (kept : List ℕ) (step : ReadStep) → IsKept r w kept
      → ((s : Sources) (t : Taking) (text : List ℕ) → AreTaken s t → StandNext s.files before kept
      → HoldsOf s t text before → IsExcused s.files before kept step)
      → (step ≡ steps.Changed) ⊎ ((step ≡ steps.Unfinished) × (w.end - w.begin ≤ length kept))
      → IsUnknownTo octets paths w r before
  given_unknown r before kept step stands says why reader wanted s files t text taken h =
      let n : Next = wanted.0 in
      let next_stands = stand_next octets paths s files before w wanted kept (stands octets paths reader) in
      let excused : IsExcused s.files before kept step = says s t text taken next_stands h in
      let none : s.files n.run.file ≡ None = by n wanted.1 wanted.2 step why excused in
      subst (λ k. octets (path_at paths k) ≡ None) (sym wanted.2.file) (sym (files n.run.file) ∙ none)
    where
      next_none : (n : Next) → before.next ≡ Some n → IsNextUnknown s.files before → s.files n.run.file ≡ None
      next_none n is unknown = subst (λ (o : Option Next). IfSome o (λ m. s.files m.run.file ≡ None)) is unknown

      goes_on : (n : Next) → before.next ≡ Some n → GoesOnBehind before kept → n.run.begin + length kept < n.run.end
      goes_on n is more =
          subst (λ (o : Option Next). IfSome o (λ m. m.run.begin + length kept < m.run.end)) is more

      by : (n : Next) → before.next ≡ Some n → IsWantedOf n w → (step : ReadStep)
          → (step ≡ steps.Changed) ⊎ ((step ≡ steps.Unfinished) × (w.end - w.begin ≤ length kept))
          → IsExcused s.files before kept step → s.files n.run.file ≡ None
      by n is of step (inl same) excused = next_none n is (subst (IsExcused s.files before kept) same excused)
      by n is of step (inr whole) excused = elim (subst (IsExcused s.files before kept) whole.0 excused) [
        | inl more ↦ absurd (omega (arith, goes_on n is more, whole.1, of.begin, of.end))
        | inr unknown ↦ next_none n is unknown
      ]

  -- the file ends before the run does
  pub short_unknown : (r : Reader) (before : Rows)
      → EndsBefore (octets (path_at paths w.file)) (w.begin + (w.end - w.begin)) → IsUnknownTo octets paths w r before
  short_unknown r before short reader wanted s files t text taken h = by (octets (path_at paths w.file)) refl short
    where
      by : (o : Option (List ℕ)) → octets (path_at paths w.file) ≡ o → EndsBefore o (w.begin + (w.end - w.begin))
          → o ≡ None
      by None is short = refl
      by (Some file) is short =
          let n : Next = wanted.0 in
          let known : s.files n.run.file ≡ Some file =
          files n.run.file ∙ ap (λ k. octets (path_at paths k)) (sym wanted.2.file) ∙ is in
          let within = next_within s t text before n file wanted.1 known h in
          absurd (omega (arith, short, within.0, within.1, wanted.2.begin, wanted.2.end))

  -- so it is if the windows were filled before
  pub filled_unknown : (old mid : Reader) (before : Rows) → (IsReader octets paths old → IsReader octets paths mid)
      → IsUnknownTo octets paths w mid before → IsUnknownTo octets paths w old before
  filled_unknown old mid before fills unknown reader = unknown (fills reader)

  -- the fault of a file is one of the machine's next record
  pub next_fault : (r : Reader) (rows : Rows) (path : List ℕ) → path ≡ path_at paths w.file → Contains paths path
      → (f : Fault) → IsReadFault (IsUnknownTo octets paths w r rows) path f → IsNextFault octets paths w r rows f
  next_fault r rows path at among (Read failed) is = (subst (Contains paths) (sym is.0) among, is.0 ∙ at, is.1)
  next_fault r rows path at among Memory is = tt
  next_fault r rows path at among f is = absurd is

-- what is so of the fault is so by other words
pub fault_to : (A B : Type 0) (path : List ℕ) (f : Fault) → (A → B) → IsReadFault A path f → IsReadFault B path f
fault_to A B path (Read failed) to is = (is.0, to is.1)
fault_to A B path Memory to is = tt
fault_to A B path f to is = absurd is
