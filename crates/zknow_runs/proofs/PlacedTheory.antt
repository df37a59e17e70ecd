-- Where the records that are taken stand in files, and which run each is in.
use Rattle.std.proofs.Common.{◌≡◌, ◌<◌, ◌+◌, ℕ, zero, suc, ℤ, Bool, true, false, cond, List, [], ◌∷◌, ◌++◌, length, drop, slice_index_or, Contains, Option, Some, None, ⊎_elim, refl, sym, ap, subst, ◌∙◌, append_assoc, append-nil, length-append, arith}
use Rattle.std.proofs.Math.Seq.{drop-append_seam}
use Rattle.std.proofs.lemmas.Grind.{flat_map-append}
use Rattle.std.proofs.lemmas.List.Elements.{Contains-append_left, Contains-append_right, Contains-append_cases}
use Rattle.zknow.specs.declared.fact.Fact.{Fact}
use Rattle.zknow.specs.Encodings.{encoding}
use Rattle.zknow.specs.Saved.SavedFacts.{saved_names, saved_fact}
use Rattle.zknow.specs.Saved.Saved.{saved, IsWithinLimits, IsSaved}
use Rattle.zknow.specs.Tables.DistinctLaws.{none_in_nil, in_cons, in_head, in_tail, each_in}
use Rattle.zknow.proofs.SavedTheory.OneElement.{one_element}
use Rattle.zknow.proofs.SavedTheory.FactRuns.{bodies}
use Rattle.zknow_runs.specs.declared.rows.Chosen.{Chosen}
use Rattle.zknow_runs.specs.declared.run.Run.{Run}
use Rattle.zknow_runs.specs.Runs.{IsRunOf, AreRunsOf, all_of}
use Rattle.zknow_runs.specs.Rows.{place_of, is_taken, IsTaken, IsElementAt}
use Rattle.zknow_runs.specs.Placed.{run_of, runs_at, placed, all_placed}

-- ---- the elements of a saved file

-- behind the names and some facts the file goes on with the element of the next fact
pub saved_behind : (names : List (List ℕ)) (front : List Fact) (f : Fact) (more : List Fact)
    → saved names (front ++ f ∷ more) ≡ saved names front ++ (encoding saved_fact f ++ bodies more)
saved_behind names front f more =
    ap (λ (l : List ℕ). encoding saved_names names ++ l) (flat_map-append (encoding saved_fact) front (f ∷ more))
    ∙ sym (append_assoc (encoding saved_names names) (bodies front) (encoding saved_fact f ++ bodies more))

-- the file of the names and one fact more is longer by the element of that fact
pub saved_longer : (names : List (List ℕ)) (front : List Fact) (f : Fact)
    → length (saved names (front ++ f ∷ [])) ≡ length (saved names front) + length (encoding saved_fact f)
saved_longer names front f =
    ap length (saved_behind names front f [])
    ∙ length-append (saved names front) (encoding saved_fact f ++ [])
    ∙ ap (λ (l : List ℕ). length (saved names front) + length l) (append-nil (encoding saved_fact f))

-- two facts whose elements stand at the same place are the same
pub one_fact : (file : List ℕ) (begin : ℕ) (f g : Fact) → IsElementAt file begin f → IsElementAt file begin g → f ≡ g
one_fact file begin f g a b =
    (one_element saved_fact f g (encoding saved_fact f) (encoding saved_fact g) a.rest b.rest a.fits b.fits
    (sym a.cut ∙ b.cut)).0

-- ---- the records of a file

-- the record is one that is taken, and it is that of this one of the facts of a file with the names
pub record IsPlacedOf (c : Chosen) (names : List (List ℕ)) (facts : List Fact) (f : Fact) (p : Run) : Type 0 where
  pub front : List Fact
  pub more : List Fact
  pub whole : facts ≡ front ++ f ∷ more
  pub target : ℕ
  pub seen : place_of f ≡ Some (target, p.position)
  pub taken : is_taken c target ≡ true
  pub begin : p.begin ≡ length (saved names front)
  pub end : p.end ≡ length (saved names (front ++ f ∷ []))

-- it is that of one of the facts
abbrev pub IsPlaced : Chosen → List (List ℕ) → List Fact → Run → Type 0
IsPlaced c names facts p = (f : Fact) × IsPlacedOf c names facts f p

module _ (c : Chosen) (names : List (List ℕ)) where
  -- ---- of one fact
  module _ (k : ℕ) (front : List Fact) (f : Fact) (more : List Fact) where
    placed_run : (at : ℕ × ℤ) → place_of f ≡ Some at → is_taken c at.0 ≡ true
        → IsPlacedOf c names (front ++ f ∷ more) f (run_of names k front f at.1)
    placed_run at seen taken = record {
      front = front;
      more = more;
      whole = refl;
      target = at.0;
      seen = seen;
      taken = taken;
      begin = refl;
      end = refl;
    }

    if_taken : (at : ℕ × ℤ) (b : Bool) → place_of f ≡ Some at → is_taken c at.0 ≡ b → (p : Run)
        → Contains (cond b (run_of names k front f at.1 ∷ []) []) p
        → (p.file ≡ k) × IsPlacedOf c names (front ++ f ∷ more) f p
    if_taken at true seen taken p h = ⊎_elim
        (λ same. subst (λ (q : Run). (q.file ≡ k) × IsPlacedOf c names (front ++ f ∷ more) f q) same
        (refl, placed_run at seen taken))
        (λ never. absurd (none_in_nil p never))
        (in_cons (run_of names k front f at.1) [] p h)
    if_taken at false seen taken p h = absurd (none_in_nil p h)

    runs_at_each : (o : Option (ℕ × ℤ)) → place_of f ≡ o → (p : Run) → Contains (runs_at c names k front f o) p
        → (p.file ≡ k) × IsPlacedOf c names (front ++ f ∷ more) f p
    runs_at_each None seen p h = absurd (none_in_nil p h)
    runs_at_each (Some at) seen p h = if_taken at (is_taken c at.0) seen refl p h

    runs_at_has : (t : IsTaken c f)
        → Contains (runs_at c names k front f (place_of f)) (run_of names k front f t.position)
    runs_at_has t =
        let run : Run = run_of names k front f t.position in
        subst (λ (o : Option (ℕ × ℤ)). Contains (runs_at c names k front f o) run) (sym t.seen)
        (subst (λ (b : Bool). Contains (cond b (run ∷ []) []) run) (sym t.taken) (in_head run []))

  -- ---- of one file

  -- each record is that of one of the facts
  pub placed_each : (k : ℕ) (front fs : List Fact) (p : Run) → Contains (placed c names k front fs) p
      → (p.file ≡ k) × IsPlaced c names (front ++ fs) p
  placed_each k front [] p h = absurd (none_in_nil p h)
  placed_each k front (f ∷ fs) p h = ⊎_elim
      (λ one. let it = runs_at_each k front f fs (place_of f) refl p one in (it.0, (f, it.1)))
      (λ later. let it = placed_each k (front ++ f ∷ []) fs p later in
      (it.0, subst (λ (l : List Fact). IsPlaced c names l p) (append_assoc front (f ∷ []) fs) it.1))
      (Contains-append_cases (runs_at c names k front f (place_of f)) (placed c names k (front ++ f ∷ []) fs) p h)

  -- each of the facts that has a record that is taken has one
  pub placed_has : (k : ℕ) (front fs : List Fact) (f : Fact) → Contains fs f → IsTaken c f
      → (p : Run) × Contains (placed c names k front fs) p × (p.file ≡ k) × IsPlacedOf c names (front ++ fs) f p
  placed_has k front [] f h t = absurd (none_in_nil f h)
  placed_has k front (g ∷ fs) f h t =
      let one : List Run = runs_at c names k front g (place_of g) in
      let rest : List Run = placed c names k (front ++ g ∷ []) fs in
      ⊎_elim
      (λ same. let u : IsTaken c g = subst (IsTaken c) (sym same) t in
      let run : Run = run_of names k front g u.position in (
        run,
        Contains-append_left one rest run (runs_at_has k front g fs u),
        refl,
        subst (λ (x : Fact). IsPlacedOf c names (front ++ g ∷ fs) x run) same
            (placed_run k front g fs (u.target, u.position) u.seen u.taken),
      ))
      (λ later. let it = placed_has k (front ++ g ∷ []) fs f later t in (
        it.0,
        Contains-append_right one rest it.0 it.1,
        it.2,
        subst (λ (l : List Fact). IsPlacedOf c names l f it.0) (append_assoc front (g ∷ []) fs) it.3,
      ))
      (in_cons g fs f h)

  -- ---- of several files

  -- each record is that of one of the facts of one of the files
  pub all_each : (first : ℕ) (theirs : List (List Fact)) (p : Run) → Contains (all_placed c names first theirs) p
      → (k : ℕ) × (k < length theirs) × (p.file ≡ first + k) × IsPlaced c names (slice_index_or theirs k []) p
  all_each first [] p h = absurd (none_in_nil p h)
  all_each first (fs ∷ theirs) p h = ⊎_elim
      (λ one. let it = placed_each first [] fs p one in (0, omega arith, omega (arith, it.0), it.1))
      (λ later. let it = all_each (suc first) theirs p later in
      (suc it.0, omega (arith, it.1), omega (arith, it.2), it.3))
      (Contains-append_cases (placed c names first [] fs) (all_placed c names (suc first) theirs) p h)

  -- each record of one of the files is one of them
  pub all_has : (first : ℕ) (theirs : List (List Fact)) (k : ℕ) (p : Run) → k < length theirs
      → Contains (placed c names (first + k) [] (slice_index_or theirs k [])) p
      → Contains (all_placed c names first theirs) p
  all_has first [] k p lt h = absurd (omega (arith, lt))
  all_has first (fs ∷ theirs) zero p lt h =
      let here : first + zero ≡ first = omega arith in
      Contains-append_left (placed c names first [] fs) (all_placed c names (suc first) theirs) p
      (subst (λ (n : ℕ). Contains (placed c names n [] fs) p) here h)
  all_has first (fs ∷ theirs) (suc k) p lt h =
      let later : first + suc k ≡ suc first + k = omega arith in
      Contains-append_right (placed c names first [] fs) (all_placed c names (suc first) theirs) p
      (all_has (suc first) theirs k p (omega (arith, lt))
      (subst (λ (n : ℕ). Contains (placed c names n [] (slice_index_or theirs k [])) p) later h))

  -- ---- one more

  -- the records of one fact more are behind those of the others
  pub placed_more : (k : ℕ) (front fs : List Fact) (f : Fact)
      → placed c names k front (fs ++ f ∷ [])
      ≡ placed c names k front fs ++ runs_at c names k (front ++ fs) f (place_of f)
  placed_more k front [] f =
      append-nil (runs_at c names k front f (place_of f))
      ∙ ap (λ (l : List Fact). runs_at c names k l f (place_of f)) (sym (append-nil front))
  placed_more k front (g ∷ fs) f =
      let one : List Run = runs_at c names k front g (place_of g) in
      let rest : List Run = placed c names k (front ++ g ∷ []) fs in
      ap (λ (l : List Run). one ++ l) (placed_more k (front ++ g ∷ []) fs f)
      ∙ ap (λ (l : List Fact). one ++ (rest ++ runs_at c names k l f (place_of f))) (append_assoc front (g ∷ []) fs)
      ∙ sym (append_assoc one rest (runs_at c names k (front ++ g ∷ fs) f (place_of f)))

  -- the records of one file more are behind those of the others
  pub all_placed_more : (k : ℕ) (theirs : List (List Fact)) (fs : List Fact)
      → all_placed c names k (theirs ++ fs ∷ [])
      ≡ all_placed c names k theirs ++ placed c names (k + length theirs) [] fs
  all_placed_more k [] fs =
      let here : k ≡ k + zero = omega arith in
      append-nil (placed c names k [] fs) ∙ ap (λ (n : ℕ). placed c names n [] fs) here
  all_placed_more k (gs ∷ theirs) fs =
      let one : List Run = placed c names k [] gs in
      let rest : List Run = all_placed c names (suc k) theirs in
      let later : suc k + length theirs ≡ k + length (gs ∷ theirs) = omega arith in
      ap (λ (l : List Run). one ++ l) (all_placed_more (suc k) theirs fs)
      ∙ ap (λ (n : ℕ). one ++ (rest ++ placed c names n [] fs)) later
      ∙ sym (append_assoc one rest (placed c names (k + length (gs ∷ theirs)) [] fs))

  -- ---- where the elements stand
  module _ (own : List Fact) (file : List ℕ) (is : IsSaved names own file) (f : Fact) (p : Run)
      (at : IsPlacedOf c names own f p) where
    pub is_own : Contains own f
    is_own = subst (λ (l : List Fact). Contains l f) (sym at.whole)
        (Contains-append_right at.front (f ∷ at.more) f (in_head f at.more))

    pub element_at : IsElementAt file p.begin f
    element_at =
        let lined : file ≡ saved names at.front ++ (encoding saved_fact f ++ bodies at.more) =
        is.octets ∙ ap (λ (l : List Fact). saved names l) at.whole ∙ saved_behind names at.front f at.more in
        record {
          rest = bodies at.more;
          cut = ap (λ (n : ℕ). drop n file) at.begin
              ∙ ap (λ (l : List ℕ). drop (length (saved names at.front)) l) lined
              ∙ drop-append_seam (saved names at.front) (encoding saved_fact f ++ bodies at.more);
          fits = each_in (IsWithinLimits saved_fact) own is.facts_fit f is_own;
        }

    pub element_end : p.end ≡ p.begin + length (encoding saved_fact f)
    element_end = at.end ∙ saved_longer names at.front f
        ∙ ap (λ (n : ℕ). n + length (encoding saved_fact f)) (sym at.begin)

-- ---- runs and their records

-- the run is that of these records, which are some of all
pub record IsPartOf (records : List Run) (r : Run) (part : List Run) : Type 0 where
  pub is : IsRunOf r part
  pub within : (p : Run) → Contains part p → Contains records p

-- each run has its records
pub run_has_part : (runs : List Run) (parts : List (List Run)) → AreRunsOf runs parts → (r : Run) → Contains runs r
    → (part : List Run) × IsPartOf (all_of parts) r part
run_has_part [] parts are r h = absurd (none_in_nil r h)
run_has_part (q ∷ rs) [] are r h = absurd are
run_has_part (q ∷ rs) (part ∷ parts) are r h = ⊎_elim
    (λ same. (
      part,
      record {
        is = subst (λ (x : Run). IsRunOf x part) same are.0;
        within = λ p i. Contains-append_left part (all_of parts) p i;
      },
    ))
    (λ later. let it = run_has_part rs parts are.1 r later in (
      it.0,
      record {
        is = it.1.is;
        within = λ p i. Contains-append_right part (all_of parts) p (it.1.within p i);
      },
    ))
    (in_cons q rs r h)

-- each record is in one of the runs
pub record_has_run : (runs : List Run) (parts : List (List Run)) → AreRunsOf runs parts → (p : Run)
    → Contains (all_of parts) p
    → (r : Run) × Contains runs r × ((part : List Run) × IsPartOf (all_of parts) r part × Contains part p)
record_has_run [] [] are p h = absurd (none_in_nil p h)
record_has_run [] (part ∷ parts) are p h = absurd are
record_has_run (q ∷ rs) [] are p h = absurd are
record_has_run (q ∷ rs) (part ∷ parts) are p h = ⊎_elim
    (λ one. (
      q,
      in_head q rs,
      (
        part,
        record { is = are.0; within = λ x i. Contains-append_left part (all_of parts) x i },
        one,
      ),
    ))
    (λ later. let it = record_has_run rs parts are.1 p later in (
      it.0,
      in_tail q rs it.0 it.1,
      (
        it.2.0,
        record {
          is = it.2.1.is;
          within = λ x i. Contains-append_right part (all_of parts) x (it.2.1.within x i);
        },
        it.2.2,
      ),
    ))
    (Contains-append_cases part (all_of parts) p h)
