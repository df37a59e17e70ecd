-- Octets that stand where the next record is read begin with it, where their file is known.
use Rattle.std.proofs.Common.{◌≡◌, ◌⊎◌, ◌+◌, ◌-◌, ◌<◌, ◌≤◌, ◌≤ℤ◌, ℕ, ℤ, Bool, true, false, List, [], ◌∷◌, ◌++◌, length, take, drop, Option, Some, None, Result, Ok, Err, refl, sym, ap, subst, ◌∙◌, inl, inr, true≢false, arith, length-append}
use Rattle.std.proofs.lemmas.List.{take-append-drop, take-append-le, length-drop}
use Rattle.std.proofs.Math.Seq.{take-append_seam}
use Rattle.std.proofs.lemmas.Bool.Decides.{nat_tests}
use Rattle.std.specs.Prelude.{Contains, IfSome, IfOk, nat_lt, ⊤}
use Rattle.std.specs.Borrow.{Bor}
use Rattle.std.specs.declared.alloc.AllocError.{AllocError}
use Rattle.zknow.specs.declared.fact.Fact.{Fact}
use Rattle.zknow.specs.Encodings.{encoding}
use Rattle.zknow.specs.Saved.Fronts.{IsTakenFront, IsNoncanonical}
use Rattle.zknow.specs.Saved.Loaded.{HasNoFrontValue, HasFrontValue}
use Rattle.zknow.specs.Saved.SavedFacts.{saved_fact}
use Rattle.zknow.specs.Tables.DistinctLaws.{in_head}
use Rattle.zknow.proofs.SavedTheory.OneElement.{one_element}
use Rattle.zknow_merge.specs.Scans.{IsNoFirstFact, IsFirstFault}
use Rattle.zknow_merge.specs.declared.first.FirstError.{FirstError}
use Rattle.zknow_merge.specs.declared.first.FirstError.TheVariants as firsts
use Rattle.zknow_runs.specs.declared.rows.Chosen.{Chosen}
use Rattle.zknow_runs.specs.declared.rows.Next.{Next}
use Rattle.zknow_runs.specs.declared.rows.ReadStep.{ReadStep}
use Rattle.zknow_runs.specs.declared.rows.ReadStep.TheVariants as steps
use Rattle.zknow_runs.specs.declared.rows.Rows.{Rows}
use Rattle.zknow_runs.specs.declared.rows.Taking.{Taking}
use Rattle.zknow_runs.specs.declared.run.Run.{Run}
use Rattle.zknow_runs.specs.Rows.{place_of, is_taken, IsAt, IsTaken, StandAt, StandNext, IsElementAt, AreElements, HasOctets, HasFirst, HasFacts, IsCoveredBy, next_run, left_runs, HoldsRows, Sources, HoldsOf, AreTaken, IsNextUnknown, GoesOnBehind, IsExcused}
use Rattle.zknow_runs.specs.RowSteps.{IsDue, AfterGathered, IsLater, AfterPlaced, IsOther, AfterTaken}
use Rattle.zknow_runs.proofs.RowTheory.{size_of, element_has, position_in, elements_go, sized, same_fact}

-- ---- places

-- the target of a place, if there is one
abbrev target_in : ℕ → Option (ℕ × ℤ) → ℕ
target_in other None = other
target_in other (Some at) = at.0

one_place : (a b : ℕ) (p q : ℤ) → ◌≡◌ {A = Option (ℕ × ℤ)} (Some (a, p)) (Some (b, q)) → (a ≡ b) × (p ≡ q)
one_place a b p q e = (ap (target_in a) e, ap (position_in p) e)

-- ---- octets that stand where an element does

module _ (file : List ℕ) (begin : ℕ) (octets : List ℕ) (stand : octets ≡ take (length octets) (drop begin file))
    (g : Fact) (at : IsElementAt file begin g) where
  abbrev behind : List ℕ
  behind = drop (length octets) (drop begin file)

  lined : octets ++ behind ≡ encoding saved_fact g ++ at.rest
  lined = ap (λ (l : List ℕ). l ++ behind) stand ∙ take-append-drop (length octets) (drop begin file) ∙ at.cut

  -- they may be the front of a fact
  pub is_front : IsNoFirstFact octets → ⊥
  is_front (inl none) = none behind g (encoding saved_fact g) at.rest (record { cut = lined; element = at.fits })
  is_front (inr odd) =
      let o = odd behind in
      let one = one_element saved_fact o.value g o.spelling (encoding saved_fact g) o.rest at.rest o.begins.element
      at.fits (sym o.begins.cut ∙ lined) in
      o.odd (one.1 ∙ ap (encoding saved_fact) (sym one.0))

  -- as many as the element has begin with it
  pub is_whole : size_of g ≤ length octets → HasNoFrontValue saved_fact octets → ⊥
  is_whole enough none = none g (encoding saved_fact g) (drop (size_of g) octets) (record {
    cut = sym (take-append-drop (size_of g) octets) ∙ ap (λ (l : List ℕ). l ++ drop (size_of g) octets) fronts;
    element = at.fits;
  })
    where
      fronts : take (size_of g) octets ≡ encoding saved_fact g
      fronts =
          sym (take-append-le (size_of g) octets behind enough)
          ∙ ap (take (size_of g)) lined
          ∙ take-append_seam (encoding saved_fact g) at.rest

-- ---- elements within a file

in_file : (file : List ℕ) (begin : ℕ) (g : Fact) → IsElementAt file begin g → begin + size_of g ≤ length file
in_file file begin g at =
    let some = element_has g at.fits in
    let size : length file - begin ≡ size_of g + length at.rest =
    sym (length-drop begin file) ∙ ap length at.cut ∙ length-append (encoding saved_fact g) at.rest in
    omega (arith, some, size)

all_in_file : (file : List ℕ) (begin end : ℕ) (fs : List Fact) → begin ≤ length file → AreElements file begin end fs
    → end ≤ length file
all_in_file file begin end [] le are = omega (arith, le, are)
all_in_file file begin end (g ∷ gs) le are =
    all_in_file file (begin + size_of g) end gs (in_file file begin g are.0) are.1

-- ---- the run that is read next

-- the octets of a run are those of its file, if they are known
pub next_within : (s : Sources) (t : Taking) (text : List ℕ) (rows : Rows) (n : Next) (file : List ℕ)
    → rows.next ≡ Some n → s.files n.run.file ≡ Some file → HoldsOf s t text rows
    → (n.run.begin < n.run.end) × (n.run.end ≤ length file)
next_within s t text rows n file is_next known h = (some, by covered)
  where
    there : Contains (left_runs rows) n.run
    there = subst (λ (o : Option Next). Contains (next_run o ++ rows.runs) n.run) (sym is_next)
        (in_head n.run rows.runs)

    some : n.run.begin < n.run.end
    some = subst (λ (o : Option (List ℕ)). IfSome o (λ file. n.run.begin < n.run.end)) known (h.1.some n.run there)

    covered : IsCoveredBy s.files (Contains s.known) (s.unknown ≡ true) (Some file) n.run
    covered = subst (λ (o : Option (List ℕ)). IsCoveredBy s.files (Contains s.known) (s.unknown ≡ true) o n.run) known
        (h.1.covered n.run there)

    by : IsCoveredBy s.files (Contains s.known) (s.unknown ≡ true) (Some file) n.run → n.run.end ≤ length file
    by ([], has) = absurd (omega (arith, some, has.elements))
    by (g ∷ fs, has) =
        all_in_file file (n.run.begin + size_of g) n.run.end fs (in_file file n.run.begin g has.elements.0)
        has.elements.1

module _ (files : ℕ → Option (List ℕ)) (wanted : Fact → Type 0) (unknown : Type 0) (t : Taking) (text : List ℕ)
    (low : List Fact) (old : Rows) (n : Next) (octets : List ℕ) (is_next : old.next ≡ Some n)
    (h : HoldsRows files wanted unknown t text low old) (stand : StandAt (files n.run.file) n.run.begin octets)
    (taken : (f : Fact) → wanted f → IsTaken t.chosen.now f) where
  here : Contains (left_runs old) n.run
  here = subst (λ (o : Option Next). Contains (next_run o ++ old.runs) n.run) (sym is_next) (in_head n.run old.runs)

  -- the record that it begins with
  record IsRecord (file : List ℕ) (g : Fact) : Type 0 where
    element : IsElementAt file n.run.begin g
    position : ℤ
    at : IsAt position g
    above : n.run.position ≤ℤ position
    within : n.run.begin + size_of g ≤ n.run.end
    wants : wanted g

  stands : (file : List ℕ) → files n.run.file ≡ Some file → octets ≡ take (length octets) (drop n.run.begin file)
  stands file known = subst (λ (o : Option (List ℕ)). StandAt o n.run.begin octets) known stand

  first_record : (file : List ℕ) → files n.run.file ≡ Some file → (g : Fact) × IsRecord file g
  first_record file known =
      by (subst (λ (o : Option (List ℕ)). IsCoveredBy files wanted unknown o n.run) known (h.covered n.run here))
      (subst (λ (o : Option (List ℕ)). IfSome o (λ file. n.run.begin < n.run.end)) known (h.some n.run here))
    where
      by : IsCoveredBy files wanted unknown (Some file) n.run → n.run.begin < n.run.end → (g : Fact) × IsRecord file g
      by ([], has) some = absurd (omega (arith, some, has.elements))
      by (g ∷ fs, has) some = (
        g,
        record {
          element = has.elements.0;
          position = has.rise.0;
          at = has.rise.1;
          above = has.rise.2;
          within = elements_go file (n.run.begin + size_of g) n.run.end fs has.elements.1;
          wants = has.each g (in_head g fs);
        },
      )

  -- ---- its file is not known, if no record is taken

  unknown_unless : ((file : List ℕ) → files n.run.file ≡ Some file → ⊥) → files n.run.file ≡ None
  unknown_unless never = by (files n.run.file) refl
    where
      by : (o : Option (List ℕ)) → files n.run.file ≡ o → o ≡ None
      by None is = refl
      by (Some file) is = absurd (never file is)

  pub none_fits : IsNoFirstFact octets → files n.run.file ≡ None
  none_fits unfit = unknown_unless (λ file known.
      let one = first_record file known in
      is_front file n.run.begin octets (stands file known) one.0 one.1.element unfit)

  pub none_whole : n.run.end ≤ n.run.begin + length octets → HasNoFrontValue saved_fact octets
      → files n.run.file ≡ None
  none_whole enough unfit = unknown_unless (λ file known.
      let one = first_record file known in
      let size : size_of one.0 ≤ length octets = omega (arith, enough, one.1.within) in
      is_whole file n.run.begin octets (stands file known) one.0 one.1.element size unfit)

  module _ (f : Fact) (size : ℕ) (front : IsTakenFront saved_fact octets f size) where
    due_fits : n.is_due ≡ true → (file : List ℕ) → files n.run.file ≡ Some file → IsDue old n f size
    due_fits due file known =
        let one = first_record file known in
        let same : one.0 ≡ f =
        same_fact file n.run.begin octets (stands file known) f size front one.0 one.1.element in
        let has = taken f (subst wanted same one.1.wants) in
        let first = subst (λ (o : Option (List ℕ)). IfSome o
        (λ x. (g : Fact) × IsElementAt x n.run.begin g × IsAt n.run.position g)) known (h.due n is_next due) in
        let is : first.0 ≡ f = same_fact file n.run.begin octets (stands file known) f size front first.0 first.1 in
        let at : IsAt n.run.position f = subst (IsAt n.run.position) is first.2 in
        let targets : at.0 ≡ has.target =
        (one_place at.0 has.target n.run.position has.position (sym at.1 ∙ has.seen)).0 in
        record {
          target = at.0;
          place = at.1;
          taken = subst (λ (z : ℕ). is_taken old.chosen.now z ≡ true) (sym targets)
              (subst (λ (z : Bor Chosen). is_taken z.now has.target ≡ true) (sym h.chosen) has.taken);
          within = subst (λ (z : ℕ). n.run.begin + z ≤ n.run.end) (sized_as file known one.0 same) one.1.within;
        }
      where
        sized_as : (file : List ℕ) → files n.run.file ≡ Some file → (g : Fact) → g ≡ f → size_of g ≡ size
        sized_as file known g same =
            ap size_of same ∙ sym (sized file n.run.begin octets (stands file known) f size front)

    later_fits : (file : List ℕ) → files n.run.file ≡ Some file → IsLater n f
    later_fits file known =
        let one = first_record file known in
        let same : one.0 ≡ f =
        same_fact file n.run.begin octets (stands file known) f size front one.0 one.1.element in
        let at : IsAt one.1.position f = subst (IsAt one.1.position) same one.1.at in
        (at.0, one.1.position, at.1, one.1.above)

    pub other_unknown : IsOther old n f size → files n.run.file ≡ None
    other_unknown (inl (due, never)) = unknown_unless (λ file known. never (due_fits due file known))
    other_unknown (inr (late, never)) = unknown_unless (λ file known. never (later_fits file known))

-- ---- what became of octets that were read

-- what is shown of a step
abbrev pub IsAlwaysExcused : Rows → List ℕ → ReadStep → Type 0
IsAlwaysExcused old octets step = (s : Sources) (t : Taking) (text : List ℕ) → AreTaken s t
    → StandNext s.files old octets → HoldsOf s t text old → IsExcused s.files old octets step

stand_next : (files : ℕ → Option (List ℕ)) (old : Rows) (n : Next) (octets : List ℕ) → old.next ≡ Some n
    → StandNext files old octets → StandAt (files n.run.file) n.run.begin octets
stand_next files old n octets is stand =
    subst (λ (o : Option Next). IfSome o (λ m. StandAt (files m.run.file) m.run.begin octets)) is stand

unknown_next : (files : ℕ → Option (List ℕ)) (old : Rows) (n : Next) → old.next ≡ Some n → files n.run.file ≡ None
    → IsNextUnknown files old
unknown_next files old n is none = subst (λ (o : Option Next). IfSome o (λ m. files m.run.file ≡ None)) (sym is) none

-- no record is the first
pub unfit_excused : (old : Rows) (n : Next) (octets : List ℕ) → old.next ≡ Some n → IsNoFirstFact octets
    → IsAlwaysExcused old octets steps.Changed
unfit_excused old n octets is unfit s t text taken stand h =
    unknown_next s.files old n is
    (none_fits s.files (Contains s.known) (s.unknown ≡ true) t text h.0 old n octets is h.1
    (stand_next s.files old n octets is stand) taken unfit)

-- there is no whole record
pub unfinished_excused : (old : Rows) (n : Next) (octets : List ℕ) → old.next ≡ Some n
    → HasNoFrontValue saved_fact octets → IsAlwaysExcused old octets steps.Unfinished
unfinished_excused old n octets is unfit s t text taken stand h =
    by (nat_lt (n.run.begin + length octets) n.run.end) refl
  where
    by : (b : Bool) → nat_lt (n.run.begin + length octets) n.run.end ≡ b
        → IsExcused s.files old octets steps.Unfinished
    by true less = inl (subst (λ (o : Option Next). IfSome o (λ m. m.run.begin + length octets < m.run.end)) (sym is)
        (grind (arith, nat_tests, less)))
    by false less = inr (unknown_next s.files old n is
        (none_whole s.files (Contains s.known) (s.unknown ≡ true) t text h.0 old n octets is h.1
        (stand_next s.files old n octets is stand) taken (grind (arith, nat_tests, less)) unfit))

-- the same, by the fault
pub unfit_by : (old : Rows) (n : Next) (octets : List ℕ) (e : FirstError) → old.next ≡ Some n → e ≡ firsts.NotFact
    → IsFirstFault octets e → IsAlwaysExcused old octets steps.Changed
unfit_by old n octets e is of fault = unfit_excused old n octets is (subst (IsFirstFault octets) of fault)

pub unfinished_by : (old : Rows) (n : Next) (octets : List ℕ) (e : FirstError) → old.next ≡ Some n
    → e ≡ firsts.Unfinished → IsFirstFault octets e → IsAlwaysExcused old octets steps.Unfinished
unfinished_by old n octets e is of fault = unfinished_excused old n octets is (subst (IsFirstFault octets) of fault)

-- there is a fact
pub taken_excused : (old new : Rows) (n : Next) (octets : List ℕ) (f : Fact) (size : ℕ)
    (r : Result ReadStep AllocError) → old.next ≡ Some n → IsTakenFront saved_fact octets f size
    → IfOk r (AfterTaken old n f size new) → IfOk r (IsAlwaysExcused old octets)
taken_excused old new n octets f size (Ok steps.Taken) is front after = λ s t text taken stand h. tt
taken_excused old new n octets f size (Ok steps.Unfinished) is front after = absurd after
taken_excused old new n octets f size (Ok steps.Changed) is front after = λ s t text taken stand h.
    unknown_next s.files old n is
    (other_unknown s.files (Contains s.known) (s.unknown ≡ true) t text h.0 old n octets is h.1
    (stand_next s.files old n octets is stand) taken f size front after)
taken_excused old new n octets f size (Err e) is front after = tt

-- ---- what a fact that was read is not

-- its record is not taken, or at another position, or goes beyond the run
pub not_due : (old : Rows) (n : Next) (f : Fact) (size target : ℕ) (position : ℤ)
    → place_of f ≡ Some (target, position)
    → (is_taken old.chosen.now target ≡ false) ⊎ ((position ≡ n.run.position → ⊥) ⊎ (n.run.end < n.run.begin + size))
    → IsDue old n f size → ⊥
not_due old n f size target position place why d =
    by why (one_place target d.target position n.run.position (sym place ∙ d.place))
  where
    by : (is_taken old.chosen.now target ≡ false) ⊎ ((position ≡ n.run.position → ⊥) ⊎ (n.run.end < n.run.begin + size))
        → (target ≡ d.target) × (position ≡ n.run.position) → ⊥
    by (inl untaken) same = true≢false
        (sym d.taken ∙ ap (is_taken old.chosen.now) (sym same.0) ∙ untaken)
    by (inr (inl other)) same = other same.1
    by (inr (inr beyond)) same = omega (arith, beyond, d.within)

-- it has no record
pub placeless : (old : Rows) (n : Next) (f : Fact) (size : ℕ) → place_of f ≡ None → IsOther old n f size
placeless old n f size none = by n.is_due refl
  where
    some_is : (at : ℕ × ℤ) → place_of f ≡ Some at → ⊥
    some_is at some = let e = sym none ∙ some in absurd cc

    by : (b : Bool) → n.is_due ≡ b → IsOther old n f size
    by true is = inl (is, λ d. some_is (d.target, n.run.position) d.place)
    by false is = inr (is, λ l. some_is (l.0, l.1) l.2)

pub gathered_taken : (old new : Rows) (n : Next) (f : Fact) (size : ℕ) (r : Result ReadStep AllocError)
    → n.is_due ≡ true → IfOk r (AfterGathered old n f size new) → IfOk r (AfterTaken old n f size new)
gathered_taken old new n f size (Ok steps.Taken) due after = inl (due, after)
gathered_taken old new n f size (Ok steps.Unfinished) due after = absurd after
gathered_taken old new n f size (Ok steps.Changed) due after = inl (due, after)
gathered_taken old new n f size (Err e) due after = tt

pub placed_taken : (old new : Rows) (n : Next) (f : Fact) (size target : ℕ) (position : ℤ)
    (r : Result ReadStep AllocError) → n.is_due ≡ false → place_of f ≡ Some (target, position)
    → IfOk r (AfterPlaced old n position new) → IfOk r (AfterTaken old n f size new)
placed_taken old new n f size target position (Ok steps.Taken) late place after =
    inr (late, (target, position, place, after))
placed_taken old new n f size target position (Ok steps.Unfinished) late place after = absurd after
placed_taken old new n f size target position (Ok steps.Changed) late place after = inr (
  late,
  λ l. after (subst (λ (p : ℤ). n.run.position ≤ℤ p)
      (sym (one_place target l.0 position l.1 (sym place ∙ l.2)).1) l.3),
)
placed_taken old new n f size target position (Err e) late place after = tt

-- what became of a fact
pub ruleset taken_steps = (placeless, gathered_taken, placed_taken)
