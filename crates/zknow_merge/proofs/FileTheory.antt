-- What the steps of a merge say of files.
use Rattle.std.proofs.Common.{◌≡◌, ◌<◌, ℕ, zero, suc, true, false, Bool, List, [], ◌∷◌, ◌++◌, length, map, refl, sym, ap, subst, ◌∙◌, ⊎_elim, arith}
use Rattle.std.proofs.lemmas.List.{append-nil}
use Rattle.std.proofs.lemmas.Bool.{cases_eq}
use Rattle.zknow.specs.declared.saved.loading.LoadError.{LoadError}
use Rattle.zknow_merge.specs.declared.step.Step.{Step}
use Rattle.zknow_merge.specs.declared.step.Step.TheVariants.{Need, Again, Refused, NamesDiffer, Done}
use Rattle.zknow_merge.specs.Inputs.{Input, IsFileOf, AreWhole, fed, at_end, input_at, octets_of, changed_at, fresh}
use Rattle.zknow_merge.specs.Joins.{HasNames, IsJoin}
use Rattle.zknow_merge.specs.Merges.{IsStep, IsFirstFaultyInput, IsFirstInputOfOtherNames, AreSound}
use Rattle.zknow_merge.specs.Files.{file_at, AreFilesOf, AreSavedBefore, IsFirstFaultyFile, IsFirstFileOfOtherNames, IsStepOf, FileLaws}
use Rattle.zknow_merge.proofs.SourceTheory.{fed_open, fed_ended}
use Rattle.zknow_merge.proofs.InputTheory.{fresh_length, fresh_at, changed_there, changed_else, changed_length}

start : (files : List (List ℕ)) → AreFilesOf (fresh (length files)) files
start files = record {
  count = fresh_length (length files);
  each = λ k lt. subst (λ (i : Input). IsFileOf i (file_at files k)) (sym (fresh_at (length files) k))
      (record { more = file_at files k; cut = refl; whole = λ e. absurd cc });
}

-- ---- a file of which more came

piece_by : (piece more file : List ℕ) (i : Input) → IsFileOf i file → file ≡ i.octets ++ piece ++ more → (b : Bool) → i.ended ≡ b → IsFileOf (fed piece i) file
piece_by piece more file i of cut true is = subst (λ (j : Input). IsFileOf j file) (sym (fed_ended piece i is)) of
piece_by piece more file i of cut false is =
    let longer : IsFileOf (record i { octets = i.octets ++ piece }) file = record {
      more = more;
      cut = cut;
      whole = λ e. absurd cc;
    } in
    subst (λ (j : Input). IsFileOf j file) (sym (fed_open piece i is)) longer

ended_file : (file : List ℕ) (i : Input) → file ≡ i.octets → IsFileOf (at_end i) file
ended_file file i is = record { more = []; cut = is ∙ sym (append-nil i.octets); whole = λ _. refl }

module _ (inputs : List Input) (files : List (List ℕ)) (k : ℕ) (change : Input → Input) (are : AreFilesOf inputs files) (among : k < length files) (of : IsFileOf (change (input_at inputs k)) (file_at files k)) where
  within : k < length inputs
  within = omega (arith, among, are.count)

  there : (j : ℕ) → j ≡ k → IsFileOf (input_at (changed_at k change inputs) j) (file_at files j)
  there j same =
      subst (λ (n : ℕ). IsFileOf (input_at (changed_at k change inputs) n) (file_at files n)) (sym same)
      (subst (λ (i : Input). IsFileOf i (file_at files k)) (sym (changed_there inputs k within change)) of)

  elsewhere : (j : ℕ) → j < length files → (j ≡ k → ⊥) → IsFileOf (input_at (changed_at k change inputs) j) (file_at files j)
  elsewhere j lt other =
      subst (λ (i : Input). IsFileOf i (file_at files j)) (sym (changed_else inputs k within change j other)) (are.each j lt)

  changed_files : AreFilesOf (changed_at k change inputs) files
  changed_files = record {
    count = changed_length inputs k within change ∙ are.count;
    each = λ j lt. ⊎_elim (there j) (elsewhere j lt) (cases_eq j k);
  }

piece_came : (inputs : List Input) (files : List (List ℕ)) (k : ℕ) (piece more : List ℕ) → AreFilesOf inputs files → k < length files → file_at files k ≡ octets_of (input_at inputs k) ++ piece ++ more → AreFilesOf (changed_at k (fed piece) inputs) files
piece_came inputs files k piece more are among cut =
    let i = input_at inputs k in
    changed_files inputs files k (fed piece) are among
    (piece_by piece more (file_at files k) i (are.each k among) cut i.ended refl)

end_came : (inputs : List Input) (files : List (List ℕ)) (k : ℕ) → AreFilesOf inputs files → k < length files → file_at files k ≡ octets_of (input_at inputs k) → AreFilesOf (changed_at k at_end inputs) files
end_came inputs files k are among cut =
    changed_files inputs files k at_end are among (ended_file (file_at files k) (input_at inputs k) cut)

-- ---- what a step says

whole_octets : (i : Input) (file : List ℕ) → IsFileOf i file → i.ended ≡ true → octets_of i ≡ file
whole_octets i file of ended =
    sym (of.cut ∙ ap (λ (l : List ℕ). i.octets ++ l) (of.whole ended) ∙ append-nil i.octets)

all_octets : (inputs : List Input) (files : List (List ℕ)) → length inputs ≡ length files → ((k : ℕ) → k < length files → octets_of (input_at inputs k) ≡ file_at files k) → map octets_of inputs ≡ files
all_octets [] [] same each = refl
all_octets [] (f ∷ files) same each = absurd (omega (arith, same))
all_octets (i ∷ inputs) [] same each = absurd (omega (arith, same))
all_octets (i ∷ inputs) (f ∷ files) same each =
    ap (λ (l : List ℕ). l ∷ map octets_of inputs) (each zero (omega (arith)))
    ∙ ap (λ (l : List (List ℕ)). f ∷ l) (all_octets inputs files (omega (arith, same)) (λ k lt. each (suc k) (omega (arith, lt))))

module _ (inputs : List Input) (files : List (List ℕ)) (are : AreFilesOf inputs files) where
  saved_before : (names : List (List ℕ)) (count : ℕ) → count < length files → AreSound inputs names count → AreSavedBefore names files count
  saved_before names count among sound k lt =
      let h = sound k lt in
      subst (HasNames names)
      (whole_octets (input_at inputs k) (file_at files k) (are.each k (omega (arith, lt, among))) h.0) h.1

  first_fault : (i : ℕ) (e : LoadError) → IsFirstFaultyInput inputs i e → IsFirstFaultyFile files i e
  first_fault i e h =
      let among : i < length files = omega (arith, h.among, are.count) in
      record {
        among = among;
        names = h.names;
        before = saved_before h.names i among h.before;
        is = h.is.file (file_at files i) (are.each i among);
        some = h.is.some;
      }

  first_others : (i : ℕ) → IsFirstInputOfOtherNames inputs i → IsFirstFileOfOtherNames files i
  first_others i h =
      let among : i < length files = omega (arith, h.among, are.count) in
      record {
        among = among;
        some = h.some;
        names = h.names;
        before = saved_before h.names i among h.before;
        others = h.others;
        file = subst (HasNames h.others)
            (whole_octets (input_at inputs i) (file_at files i) (are.each i among) h.ended) h.file;
        differ = h.differ;
      }

  all_done : (written : List ℕ) → AreWhole inputs → IsJoin (map octets_of inputs) written → IsJoin files written
  all_done written whole join = subst (λ (l : List (List ℕ)). IsJoin l written)
      (all_octets inputs files are.count
      (λ k lt. whole_octets (input_at inputs k) (file_at files k) (are.each k lt) (whole k (omega (arith, lt, are.count))))) join

step_says : (inputs : List Input) (files : List (List ℕ)) (written : List ℕ) (step : Step) → AreFilesOf inputs files → IsStep inputs written step → IsStepOf files written step
step_says inputs files written (Need i) are h = omega (arith, h.0, are.count)
step_says inputs files written Again are h = tt
step_says inputs files written (Refused i e) are h = first_fault inputs files are i e h
step_says inputs files written (NamesDiffer i) are h = first_others inputs files are i h
step_says inputs files written Done are h = all_done inputs files are written h.0 h.1

pub file_laws : FileLaws
file_laws = record { start = start; piece = piece_came; end = end_came; step = step_says }
