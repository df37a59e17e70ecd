-- Steps of the records by position.
use Rattle.std.proofs.Common.{◌≡◌, ◌⊎◌, ◌↔◌, ◌+◌, ◌<◌, ◌≤◌, ◌<ℤ◌, ◌≤ℤ◌, ℕ, ℤ, Bool, true, false, List, [], ◌∷◌, ◌++◌, Option, Some, None, Result, Ok, Err, refl, sym, ap, subst, ◌∙◌, inl, inr, ⊎_elim, true≢false, arith}
use Rattle.std.proofs.lemmas.Int.{ints}
use Rattle.std.proofs.lemmas.Bool.Decides.{nat_tests}
use Rattle.std.proofs.lemmas.List.Elements.{Contains-append_right}
use Rattle.std.specs.Prelude.{Contains, IfSome, IfOk, nat_lt, if◌then◌else◌}
use Rattle.std.specs.Borrow.{Bor}
use Rattle.std.specs.declared.alloc.AllocError.{AllocError}
use Rattle.zknow.specs.declared.fact.Fact.{Fact}
use Rattle.zknow.specs.Facts.{AreFacts}
use Rattle.zknow.specs.Saved.Fronts.{IsTakenFront}
use Rattle.zknow.specs.Saved.SavedFacts.{saved_fact}
use Rattle.zknow.specs.Tables.DistinctLaws.{none_in_nil, in_cons, in_head, in_tail, each_in}
use Rattle.zknow.specs.Tables.Join.{IsUnion}
use Rattle.zknow_forms.specs.Forms.{AreInParts, form_text, IsTold}
use Rattle.zknow_forms.specs.declared.form.Form.{Form}
use Rattle.zknow_runs.specs.declared.rows.Chosen.{Chosen}
use Rattle.zknow_runs.specs.declared.rows.Next.{Next}
use Rattle.zknow_runs.specs.declared.rows.ReadStep.{ReadStep}
use Rattle.zknow_runs.specs.declared.rows.ReadStep.TheVariants as steps
use Rattle.zknow_runs.specs.declared.rows.Rows.{Rows}
use Rattle.zknow_runs.specs.declared.rows.Taking.{Taking}
use Rattle.zknow_runs.specs.declared.run.Run.{Run}
use Rattle.zknow_runs.specs.OpenRuns.{IsPutAmong, IsLeast}
use Rattle.zknow_runs.specs.Rows.{place_of, is_taken, IsAt, IsTaken, StandAt, StandNext, HasOctets, HasFirst, IsCovered, Owes, AreRows, next_run, left_runs, kept_octets, HoldsRows, Holds, Sources, HoldsOf, AfterReadOf}
use Rattle.zknow_runs.specs.RowSteps.{next_behind, rest_of, HasAppended, HasTurned, HasTaken, AfterTaken}
use Rattle.zknow_runs.proofs.BeginTheory.{put_cases}
use Rattle.zknow_runs.proofs.RowTheory.{owed, rest_covered, wanted_or, placed_covered, placed_first, placed_owes, owes_none}
use Rattle.zknow_runs.proofs.UnionTheory.{Joined, no_facts}
use Rattle.zknow_runs.proofs.GivenTheory.{appended, TellsMore, appended_octets, appended_tally, rows_end}

if_known : {A : Type 0} {P : Type 0} (o : Option A) → P → IfSome o (λ x. P)
if_known None p = tt
if_known (Some x) p = p

none_some : (n : Next) → None ≡ Some n → ⊥
none_some n is = absurd cc

is_not_due : (m n : Next) → Some m ≡ Some n → m.is_due ≡ false → n.is_due ≡ true → ⊥
is_not_due m n is late due =
    true≢false (sym due ∙ subst (λ (o : Option Next). IfSome o (λ k. k.is_due ≡ false)) is late)

module _ (files : ℕ → Option (List ℕ)) (wanted : Fact → Type 0) (unknown : Type 0) (t : Taking) (text : List ℕ) where
  abbrev Are : List Fact → Rows → Type 0
  Are low rows = HoldsRows files wanted unknown t text low rows

  -- ---- a run is turned to

  least_all : (run : Run) (rest : List Run) → IsLeast run rest → (r : Run) → Contains rest r
      → run.position ≤ℤ r.position
  least_all run rest least r here = not_less (each_in (λ (r : Run). r.position <ℤ run.position → ⊥) rest least r here)
    where
      not_less : (r.position <ℤ run.position → ⊥) → run.position ≤ℤ r.position
      not_less never = grind (arith, ints, never)

  pub turned_next : (low : List Fact) (old : Rows) (number : ℕ) (run : Run) (rest : List Run) → old.next ≡ None
      → old.runs ≡ run ∷ rest → IsLeast run rest → Are low old
      → Are low (record old { runs = rest; next = Some (record { number = number; run = run; is_due = true }) })
  turned_next low old number run rest none was least h =
      let same : left_runs old ≡ run ∷ rest = ap (λ (n : Option Next). next_run n ++ old.runs) none ∙ was in
      record {
        chosen = h.chosen;
        form = h.form;
        low_facts = h.low_facts;
        gathered_facts = h.gathered_facts;
        complete = λ f is. subst (λ (l : List Run). Contains low f ⊎ (Contains old.gathered f ⊎
            ((r : Run) × Contains l r × Owes files wanted unknown r f))) same (h.complete f is);
        sound = h.sound;
        covered = λ r here. h.covered r (subst (λ (l : List Run). Contains l r) (sym same) here);
        some = λ r here. h.some r (subst (λ (l : List Run). Contains l r) (sym same) here);
        first = λ r here. h.first r (subst (λ (l : List Run). Contains l r) (sym was) (in_tail run rest r here));
        due = λ n is due. subst (λ (o : Option Next). IfSome o (λ m. HasFirst files m.run)) is
            (h.first run (subst (λ (l : List Run). Contains l run) (sym was) (in_head run rest)));
        below = h.below;
        at = h.at;
        above = λ r here. h.above r (subst (λ (l : List Run). Contains l r) (sym same) here);
        least = λ n r is due here. by n r is here;
        written = h.written;
        told = h.told;
      }
    where
      by : (n : Next) (r : Run) → Some (record { number = number; run = run; is_due = true }) ≡ Some n
          → Contains rest r → n.run.position ≤ℤ r.position
      by n r is here = subst (λ (o : Option Next). IfSome o (λ m. m.run.position ≤ℤ r.position)) is
          (least_all run rest least r here)

  -- ---- the records of a position are appended

  module _ (low : List Fact) (old : Rows) (h : Are low old) where
    -- the facts that were written then
    abbrev pub all_low : Joined low old.gathered
    all_low = appended files wanted unknown t text low old h

    module _ (mid : Rows) (a : HasAppended old mid) where
      octets_are : kept_octets mid ≡ kept_octets old ++ form_text t.form.now old.gathered
      octets_are = a.octets ∙ ap (λ (z : Bor Form). kept_octets old ++ form_text z.now old.gathered) h.form

      tells_more : TellsMore files wanted unknown t text low old h mid.tally
      tells_more = subst (λ (z : Bor Form). (before all : List Fact) → IsTold z.now before old.tally
          → AreInParts before old.gathered all → IsTold z.now all mid.tally) h.form a.tally

      same_left : left_runs mid ≡ left_runs old
      same_left = ap (λ (n : Option Next). next_run n ++ mid.runs) a.next ∙ ap
          (λ (l : List Run). next_run old.next ++ l) a.runs

      pub turned_on : (position : ℤ) → (old.position ≡ Some position → ⊥) → IfSome old.position (λ q. q ≤ℤ position)
          → ((r : Run) → Contains (left_runs old) r → position ≤ℤ r.position)
          → Are all_low.0 (record mid { position = Some position })
      turned_on position other above all_above = record {
        chosen = a.chosen ∙ h.chosen;
        form = a.form ∙ h.form;
        low_facts = all_low.1;
        gathered_facts = subst AreFacts (sym a.gathered) no_facts;
        complete = λ f is. ⊎_elim
            (λ in_low. inl ((all_low.2 f).1 (inl in_low)))
            (λ more. ⊎_elim
            (λ in_gathered. inl ((all_low.2 f).1 (inr in_gathered)))
            (λ left. inr (inr (subst (λ (l : List Run). (r : Run) × Contains l r × Owes files wanted unknown r f)
            (sym same_left) left)))
            more)
            (h.complete f is);
        sound = λ f here. ⊎_elim
            (λ in_low. h.sound f ((all_low.2 f).0 in_low))
            (λ none. absurd (none_in_nil f (subst (λ (l : List Fact). Contains l f) a.gathered none)))
            here;
        covered = λ r here. h.covered r (subst (λ (l : List Run). Contains l r) same_left here);
        some = λ r here. h.some r (subst (λ (l : List Run). Contains l r) same_left here);
        first = λ r here. h.first r (subst (λ (l : List Run). Contains l r) a.runs here);
        due = λ n is due. h.due n (sym a.next ∙ is) due;
        below = λ f here. ⊎_elim (was_below f) (was_at f) ((all_low.2 f).0 here);
        at = λ f none. absurd (none_in_nil f (subst (λ (l : List Fact). Contains l f) a.gathered none));
        above = λ r here. all_above r (subst (λ (l : List Run). Contains l r) same_left here);
        least = λ n r is due here. h.least n r (sym a.next ∙ is) due (subst
            (λ (l : List Run). Contains l r) a.runs here);
        written = appended_octets files wanted unknown t text low old h (kept_octets mid) octets_are;
        told = appended_tally files wanted unknown t text low old h mid.tally tells_more;
      }
        where
          was_below : (f : Fact) → Contains low f → (p q : ℤ) × IsAt p f × (Some position ≡ Some q) × (p <ℤ q)
          was_below f here =
              let b = h.below f here in
              let to : b.1 ≤ℤ position = subst (λ (o : Option ℤ). IfSome o (λ q. q ≤ℤ position)) b.3 above in
              (b.0, position, b.2, refl, omega (arith, ints, b.4, to))

          was_at : (f : Fact) → Contains old.gathered f → (p q : ℤ) × IsAt p f × (Some position ≡ Some q) × (p <ℤ q)
          was_at f here =
              let b = h.at f here in
              let to : b.0 ≤ℤ position = subst (λ (o : Option ℤ). IfSome o (λ q. q ≤ℤ position)) b.2 above in
              let differ : b.0 ≡ position → ⊥ = λ same. other (b.2 ∙ ap Some same) in
              (b.0, position, b.1, refl, grind (arith, ints, to, differ))

    -- ---- the end

    pub ended : (mid : Rows) → HasAppended old mid → left_runs old ≡ []
        → AreRows files wanted unknown t (text ++ kept_octets mid) mid.tally
    ended mid a none =
        rows_end files wanted unknown t text low old h none (kept_octets mid) (octets_are mid a) mid.tally
        (tells_more mid a)

  -- ---- a record is gathered

  module _ (low : List Fact) (mid : Rows) (n : Next) (octets : List ℕ) (f : Fact) (size target : ℕ)
      (is_next : mid.next ≡ Some n) (stand : StandAt (files n.run.file) n.run.begin octets)
      (taken : IsTakenFront saved_fact octets f size) where
    abbrev rest_run : ℤ → Run
    rest_run position = record n.run { position = position; begin = n.run.begin + size }

    abbrev at_run : ℤ → Run
    at_run position = record n.run { position = position }

    first_left : Contains (left_runs mid) n.run
    first_left = subst (λ (o : Option Next). Contains (next_run o ++ mid.runs) n.run) (sym is_next)
        (in_head n.run mid.runs)

    later_left : (r : Run) → Contains mid.runs r → Contains (left_runs mid) r
    later_left r here = Contains-append_right (next_run mid.next) mid.runs r here

    left_cases : (r : Run) → Contains (left_runs mid) r → (n.run ≡ r) ⊎ Contains mid.runs r
    left_cases r here = in_cons n.run mid.runs r (subst (λ (o : Option Next). Contains
        (next_run o ++ mid.runs) r) is_next here)

    -- what is left after the record was gathered
    rest_left : (r : Run) → Contains (next_run (rest_of n (n.run.begin + size)) ++ mid.runs) r
        → ((r ≡ rest_run n.run.position) × (n.run.begin + size < n.run.end)) ⊎ Contains mid.runs r
    rest_left r here = by (nat_lt (n.run.begin + size) n.run.end) refl here
      where
        by : (b : Bool) → nat_lt (n.run.begin + size) n.run.end ≡ b
            → Contains (next_run (if b then Some (next_behind n (n.run.begin + size)) else None) ++ mid.runs) r
            → ((r ≡ rest_run n.run.position) × (n.run.begin + size < n.run.end)) ⊎ Contains mid.runs r
        by true is here = ⊎_elim (λ same. inl (sym same, grind (arith, nat_tests, is))) inr
            (in_cons (rest_run n.run.position) mid.runs r here)
        by false is here = inr here

    later_rest : (r : Run) → Contains mid.runs r → Contains (next_run (rest_of n (n.run.begin + size)) ++ mid.runs) r
    later_rest r here = Contains-append_right (next_run (rest_of n (n.run.begin + size))) mid.runs r here

    first_rest : (h : Fact) → Owes files wanted unknown (rest_run n.run.position) h
        → Contains (next_run (rest_of n (n.run.begin + size)) ++ mid.runs) (rest_run n.run.position)
    first_rest h o = by (nat_lt (n.run.begin + size) n.run.end) refl
      where
        by : (b : Bool) → nat_lt (n.run.begin + size) n.run.end ≡ b
            → Contains (next_run (if b then Some (next_behind n (n.run.begin + size)) else None) ++ mid.runs)
            (rest_run n.run.position)
        by true is = in_head (rest_run n.run.position) mid.runs
        by false is = absurd (owes_none files wanted unknown (rest_run n.run.position) (grind
            (arith, nat_tests, is)) h o)

    pub gathered : (facts : List Fact) → AreFacts facts → IsUnion (Contains mid.gathered) (λ g. g ≡ f) (Contains facts)
        → place_of f ≡ Some (target, n.run.position) → is_taken t.chosen.now target ≡ true
        → n.run.begin + size ≤ n.run.end → mid.position ≡ Some n.run.position → Are low mid
        → (new : Rows) → new ≡ record mid { gathered = new.gathered; next = rest_of n (n.run.begin + size) }
        → new.gathered ≡ facts → Are low new
    gathered facts lawful union place is_chosen within here_at h new is are = record {
      chosen = ap (λ (z : Rows). z.chosen) is ∙ h.chosen;
      form = ap (λ (z : Rows). z.form) is ∙ h.form;
      low_facts = h.low_facts;
      gathered_facts = subst AreFacts (sym are) lawful;
      complete = λ g wants. ⊎_elim inl
          (λ more. inr (⊎_elim
          (λ had. inl (put_in g (inl had)))
          (λ left. owes_left g left.0 left.2 (left_cases left.0 left.1))
          more))
          (h.complete g wants);
      sound = λ g here. ⊎_elim (λ in_low. h.sound g (inl in_low))
          (λ in_new. ⊎_elim (λ had. h.sound g (inr had))
          (λ same. subst (λ (x : Fact). IsTaken t.chosen.now x × (wanted x ⊎ unknown)) (sym same) sound_f)
          ((union g).0 (subst (λ (l : List Fact). Contains l g) are in_new))) here;
      covered = λ r here. ⊎_elim
          (λ rest. subst (IsCovered files wanted unknown) (sym rest.0)
          (rest_covered files wanted unknown n.run octets stand f size taken n.run.position (target, place) within
          (h.covered n.run first_left)))
          (λ later. h.covered r (later_left r later))
          (rest_left r (subst (λ (l : List Run). Contains l r) left_is here));
      some = λ r here. ⊎_elim
          (λ rest. subst (HasOctets files) (sym rest.0) (if_known (files n.run.file) rest.1))
          (λ later. h.some r (later_left r later))
          (rest_left r (subst (λ (l : List Run). Contains l r) left_is here));
      first = λ r here. h.first r (subst (λ (l : List Run). Contains l r) (ap (λ (z : Rows). z.runs) is) here);
      due = λ m some due. absurd (not_due m (sym (ap (λ (z : Rows). z.next) is) ∙ some) due);
      below = λ g here. let b = h.below g here in (b.0, b.1, b.2, position_is ∙ b.3, b.4);
      at = λ g here. ⊎_elim (λ had. let a = h.at g had in (a.0, a.1, position_is ∙ a.2))
          (λ same. (n.run.position, subst (IsAt n.run.position) (sym same) (target, place), position_is ∙ here_at))
          ((union g).0 (subst (λ (l : List Fact). Contains l g) are here));
      above = λ r here. subst (λ (o : Option ℤ). IfSome o (λ q. q ≤ℤ r.position)) (sym position_is)
          (⊎_elim
          (λ rest. subst (λ (z : Run). IfSome mid.position (λ q. q ≤ℤ z.position)) (sym rest.0)
          (h.above n.run first_left))
          (λ later. h.above r (later_left r later))
          (rest_left r (subst (λ (l : List Run). Contains l r) left_is here)));
      least = λ m r some due here. absurd (not_due m (sym (ap (λ (z : Rows). z.next) is) ∙ some) due);
      written = ap (λ (z : Rows). text ++ kept_octets z) is ∙ h.written;
      told = subst (IsTold t.form.now low) (sym (ap (λ (z : Rows). z.tally) is)) h.told;
    }
      where
        position_is : new.position ≡ mid.position
        position_is = ap (λ (z : Rows). z.position) is

        left_is : left_runs new ≡ next_run (rest_of n (n.run.begin + size)) ++ mid.runs
        left_is = ap left_runs is

        put_in : (g : Fact) → Contains mid.gathered g ⊎ (g ≡ f) → Contains new.gathered g
        put_in g one = subst (λ (l : List Fact). Contains l g) (sym are) ((union g).1 one)

        sound_f : IsTaken t.chosen.now f × (wanted f ⊎ unknown)
        sound_f = (
          record {
            target = target;
            position = n.run.position;
            seen = place;
            taken = is_chosen;
            fits = taken.element;
          },
          wanted_or files wanted unknown n.run octets stand f size taken within (h.covered n.run first_left),
        )

        owes_left : (g : Fact) (r : Run) → Owes files wanted unknown r g → (n.run ≡ r) ⊎ Contains mid.runs r
            → Contains new.gathered g ⊎ ((r : Run) × Contains (left_runs new) r × Owes files wanted unknown r g)
        owes_left g r o (inl same) = ⊎_elim
            (λ one. inl (put_in g (inr one)))
            (λ rest. inr (
              rest_run n.run.position,
              subst (λ (l : List Run). Contains l (rest_run n.run.position)) (sym left_is) (first_rest g rest),
              rest,
            ))
            (owed files wanted unknown n.run octets stand f size taken n.run.position (target, place) g
            (subst (λ (z : Run). Owes files wanted unknown z g) (sym same) o))
        owes_left g r o (inr later) = inr (
          r,
          subst (λ (l : List Run). Contains l r) (sym left_is)
              (later_rest r later),
          o,
        )

        not_due : (m : Next) → rest_of n (n.run.begin + size) ≡ Some m → m.is_due ≡ true → ⊥
        not_due m some due = by (nat_lt (n.run.begin + size) n.run.end) some
          where
            by : (b : Bool) → (if b then Some (next_behind n (n.run.begin + size)) else None) ≡ Some m → ⊥
            by true some = is_not_due (next_behind n (n.run.begin + size)) m some refl due
            by false some = none_some m some

    -- ---- a run is put back

    pub put_back : (position : ℤ) → place_of f ≡ Some (target, position) → n.run.position ≤ℤ position → Are low mid
        → (new : Rows) → IsPutAmong mid.runs new.runs (record n.run { position = position })
        → new ≡ record mid { runs = new.runs; next = None } → Are low new
    put_back position place above h new put is = record {
      chosen = ap (λ (z : Rows). z.chosen) is ∙ h.chosen;
      form = ap (λ (z : Rows). z.form) is ∙ h.form;
      low_facts = h.low_facts;
      gathered_facts = subst AreFacts (sym (ap (λ (z : Rows). z.gathered) is)) h.gathered_facts;
      complete = λ g wants. ⊎_elim inl
          (λ more. inr (⊎_elim
          (λ had. inl (subst (λ (l : List Fact). Contains l g) (sym (ap (λ (z : Rows). z.gathered) is)) had))
          (λ left. inr (owes_left g left.0 left.2 (left_cases left.0 left.1)))
          more))
          (h.complete g wants);
      sound = λ g here. h.sound g (subst (λ (l : List Fact). Contains low g ⊎ Contains l g) (ap
          (λ (z : Rows). z.gathered) is) here);
      covered = λ r here. ⊎_elim
          (λ later. h.covered r (later_left r later))
          (λ one. subst (IsCovered files wanted unknown) one
          (placed_covered files wanted unknown n.run octets stand f size taken position (target, place)
          (h.covered n.run first_left)))
          ((cases r).0 here);
      some = λ r here. ⊎_elim
          (λ later. h.some r (later_left r later))
          (λ one. subst (HasOctets files) one (h.some n.run first_left))
          ((cases r).0 here);
      first = λ r here. ⊎_elim (h.first r)
          (λ one. subst (HasFirst files) one
          (placed_first files wanted unknown n.run octets stand f size taken position (target, place)
          (h.some n.run first_left) (h.covered n.run first_left)))
          ((put_cases mid.runs new.runs (at_run position) r put).0 here);
      due = λ m some due. absurd (none_some m (sym (ap (λ (z : Rows). z.next) is) ∙ some));
      below = λ g here. let b = h.below g here in (b.0, b.1, b.2, position_is ∙ b.3, b.4);
      at = λ g here.
          let a = h.at g (subst (λ (l : List Fact). Contains l g) (ap (λ (z : Rows). z.gathered) is) here) in
          (a.0, a.1, position_is ∙ a.2);
      above = λ r here. subst (λ (o : Option ℤ). IfSome o (λ q. q ≤ℤ r.position)) (sym position_is)
          (⊎_elim
          (λ later. h.above r (later_left r later))
          (λ one. subst (λ (z : Run). IfSome mid.position (λ q. q ≤ℤ z.position)) one (raise mid.position
          (h.above n.run first_left)))
          ((cases r).0 here));
      least = λ m r some due here. absurd (none_some m (sym (ap (λ (z : Rows). z.next) is) ∙ some));
      written = ap (λ (z : Rows). text ++ kept_octets z) is ∙ h.written;
      told = subst (IsTold t.form.now low) (sym (ap (λ (z : Rows). z.tally) is)) h.told;
    }
      where
        position_is : new.position ≡ mid.position
        position_is = ap (λ (z : Rows). z.position) is

        left_is : left_runs new ≡ new.runs
        left_is = ap (λ (o : Option Next). next_run o ++ new.runs) (ap (λ (z : Rows). z.next) is)

        raise : (o : Option ℤ) → IfSome o (λ q. q ≤ℤ n.run.position) → IfSome o (λ q. q ≤ℤ position)
        raise None below = tt
        raise (Some q) below = omega (arith, ints, below, above)

        cases : (r : Run) → Contains (left_runs new) r ↔ (Contains mid.runs r ⊎ (at_run position ≡ r))
        cases r = subst (λ (l : List Run). Contains l r ↔ (Contains mid.runs r ⊎ (at_run position ≡ r))) (sym left_is)
            (put_cases mid.runs new.runs (at_run position) r put)

        owes_left : (g : Fact) (r : Run) → Owes files wanted unknown r g → (n.run ≡ r) ⊎ Contains mid.runs r
            → (r : Run) × Contains (left_runs new) r × Owes files wanted unknown r g
        owes_left g r o (inl same) = (
          at_run position,
          (cases (at_run position)).1 (inr refl),
          placed_owes files wanted unknown n.run octets stand f size taken position (target, place) g
              (subst (λ (z : Run). Owes files wanted unknown z g) (sym same) o),
        )
        owes_left g r o (inr later) = (r, (cases r).1 (inl later), o)

  -- ---- what was read is taken

  module _ (low : List Fact) (old : Rows) (n : Next) (is_next : old.next ≡ Some n) (h : Are low old) where
    first_of_all : Contains (left_runs old) n.run
    first_of_all = subst (λ (o : Option Next). Contains (next_run o ++ old.runs) n.run) (sym is_next)
        (in_head n.run old.runs)

    none_lower : n.is_due ≡ true → (r : Run) → Contains (left_runs old) r → n.run.position ≤ℤ r.position
    none_lower due r here = ⊎_elim
        (λ same. subst (λ (z : Run). n.run.position ≤ℤ z.position) same (omega (arith, ints)))
        (λ later. h.least n r is_next due later)
        (in_cons n.run old.runs r (subst (λ (o : Option Next). Contains (next_run o ++ old.runs) r) is_next here))

    -- the rows at the position of the run that is due
    pub record IsTurned (mid : Rows) : Type 0 where
      pub facts : List Fact
      pub are : Are facts mid
      pub at : mid.position ≡ Some n.run.position
      pub next : mid.next ≡ Some n

    turned : n.is_due ≡ true → (mid : Rows) → HasTurned old n.run.position mid → IsTurned mid
    turned due mid (inl still) = subst IsTurned (sym still.0)
        (record { facts = low; are = h; at = still.1; next = is_next })
    turned due mid (inr (other, (m, moved, is))) = subst IsTurned (sym is) (record {
      facts = (all_low low old h).0;
      are = turned_on low old h m moved n.run.position other (h.above n.run first_of_all) (none_lower due);
      at = refl;
      next = moved.next ∙ is_next;
    })

    pub taken_holds : (octets : List ℕ) (f : Fact) (size : ℕ) → StandAt (files n.run.file) n.run.begin octets
        → IsTakenFront saved_fact octets f size → (new : Rows) → HasTaken old n f size new
        → Holds files wanted unknown t text new
    taken_holds octets f size stand taken new (inl (due, g)) =
        let mid = turned due g.mid g.turned in (
          mid.facts,
          gathered mid.facts g.mid n octets f size g.target mid.next stand taken new.gathered g.lawful g.facts g.place
              (subst (λ (z : Bor Chosen). is_taken z.now g.target ≡ true) h.chosen g.taken) g.within mid.at mid.are new
              g.is refl,
        )
    taken_holds octets f size stand taken new (inr (late, (target, position, place, p))) = (
      low,
      put_back low old n octets f size target is_next stand taken position place p.above h new p.put p.is,
    )

-- what became of octets that were read
pub read_taken : (old new : Rows) (n : Next) (octets : List ℕ) (f : Fact) (size : ℕ) (r : Result ReadStep AllocError)
    → old.next ≡ Some n → IsTakenFront saved_fact octets f size → IfOk r (AfterTaken old n f size new)
    → IfOk r (λ step. (s : Sources) (t : Taking) (text : List ℕ) → StandNext s.files old octets → HoldsOf s t text old
    → AfterReadOf s t text new step)
read_taken old new n octets f size (Ok steps.Taken) is_next taken after = λ s t text stand h.
    taken_holds s.files (Contains s.known) (s.unknown ≡ true) t text h.0 old n is_next h.1 octets f size
    (subst (λ (o : Option Next). IfSome o (λ m. StandAt (s.files m.run.file) m.run.begin octets)) is_next stand)
    taken new after
read_taken old new n octets f size (Ok steps.Unfinished) is_next taken after = absurd after
read_taken old new n octets f size (Ok steps.Changed) is_next taken after = λ s t text stand h. tt
read_taken old new n octets f size (Err e) is_next taken after = tt
