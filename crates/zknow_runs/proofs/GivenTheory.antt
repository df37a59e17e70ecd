-- What is given: the facts that were written, those that were gathered, and those that are left in runs.
use Rattle.std.proofs.Common.{◌≡◌, ◌⊎◌, ◌↔◌, ◌+◌, ◌≤◌, ◌<ℤ◌, ◌≤ℤ◌, ℕ, ℤ, List, [], ◌∷◌, ◌++◌, length, Option, Some, None, refl, sym, ap, subst, ◌∙◌, inl, inr, ⊎_elim, arith, append_assoc}
use Rattle.std.specs.Prelude.{Contains, IfSome}
use Rattle.std.specs.Int.Signed.{<ℤ-≤ℤ_trans, ≤ℤ_refl}
use Rattle.std.proofs.lemmas.List.Elements.{Contains-append_cases, Contains-append_left, Contains-append_right}
use Rattle.zapdu.specs.declared.productions.record.Record.{Record}
use Rattle.zknow.specs.declared.fact.Fact.{Fact}
use Rattle.zknow.specs.declared.fact.Fact.TheVariants.{Count, Failed, Seen, Diag}
use Rattle.zknow.specs.Encodings.{encoding}
use Rattle.zknow.specs.Facts.{AreFacts}
use Rattle.zknow.specs.List.Listing.{block_key_of}
use Rattle.zknow.specs.Saved.SavedFacts.{saved_fact}
use Rattle.zknow.specs.Tables.DistinctLaws.{none_in_nil, in_cons, in_head, in_tail}
use Rattle.zknow.proofs.SavedTheory.OneElement.{one_element, element_some}
use Rattle.zknow_forms.specs.Forms.{AreInParts, form_text, IsTold}
use Rattle.zknow_forms.specs.declared.tally.Tally.{Tally}
use Rattle.zknow_forms.proofs.FormTheory.{form_laws_hold}
use Rattle.zknow_runs.specs.Rows.{IsAt, IsTaken, AreElements, DoRise, HasFacts, IsCoveredBy, IsCovered, Owes, AreGiven, left_runs, kept_octets, HoldsRows, Holds, AreRows, AreRowsFront}
use Rattle.zknow_runs.specs.declared.rows.Rows.{Rows}
use Rattle.zknow_runs.specs.declared.rows.Taking.{Taking}
use Rattle.zknow_runs.specs.declared.run.Run.{Run}
use Rattle.zknow_runs.proofs.RowTheory.{position_in, elements_go}
use Rattle.zknow_runs.proofs.UnionTheory.{Joined, union_of, DoFit, fits_agree, Ordered, in_order}

some_is : {A : Type 0} (x y : A) → ◌≡◌ {A = Option A} (Some x) (Some y) → x ≡ y
some_is x y e = cc

le_through : (a b c : ℤ) → a ≤ℤ b → b ≤ℤ c → a ≤ℤ c
le_through a b c ab bc = grind arith

-- ---- positions

seen_at : (t s : ℕ) (q : ℤ) (r : Record) (p : ℤ) → IsAt p (Seen t s q r) → q ≡ p
seen_at t s q r p at = ap (position_in q) at.1

no_place : (target : ℕ) (p : ℤ) → ◌≡◌ {A = Option (ℕ × ℤ)} None (Some (target, p)) → ⊥
no_place target p is = absurd cc

-- a fact that has a position is a record
record_at : (p : ℤ) (f : Fact) → IsAt p f → block_key_of f ≡ None
record_at p (Count t s n) at = absurd (no_place at.0 p at.1)
record_at p (Failed t s) at = absurd (no_place at.0 p at.1)
record_at p (Seen t s q r) at = refl
record_at p (Diag t s q d) at = absurd (no_place at.0 p at.1)

-- the fact is at a lower position than this one
abbrev pub IsLow : Option ℤ → Fact → Type 0
IsLow o f = (p q : ℤ) × IsAt p f × (o ≡ Some q) × (p <ℤ q)

-- the fact is at this position or a higher one
abbrev pub IsHigh : Option ℤ → Fact → Type 0
IsHigh o f = (p : ℤ) × IsAt p f × IfSome o (λ q. q ≤ℤ p)

low_high : (o : Option ℤ) (t s : ℕ) (p : ℤ) (r : Record) (u v : ℕ) (q : ℤ) (w : Record)
    → IsLow o (Seen t s p r) → IsHigh o (Seen u v q w) → p <ℤ q
low_high o t s p r u v q w low high =
    let bound : low.1 ≤ℤ high.0 = subst (λ (e : Option ℤ). IfSome e (λ b. b ≤ℤ high.0)) low.3 high.2 in
    let less : low.0 <ℤ high.0 = <ℤ-≤ℤ_trans low.4 bound in
    subst (λ (n : ℤ). n <ℤ q) (sym (seen_at t s p r low.0 low.2))
    (subst (λ (n : ℤ). low.0 <ℤ n) (sym (seen_at u v q w high.0 high.1)) less)

-- facts at lower positions and facts at others are parts of all of them
parts_of : (o : Option ℤ) (low high all : List Fact) → AreFacts low → AreFacts high → AreFacts all
    → ((f : Fact) → Contains all f ↔ (Contains low f ⊎ Contains high f))
    → ((f : Fact) → Contains low f → IsLow o f) → ((f : Fact) → Contains high f → IsHigh o f)
    → AreInParts low high all
parts_of o low high all of_low of_high of_all union is_low is_high = record {
  low_facts = of_low;
  high_facts = of_high;
  all_facts = of_all;
  union = union;
  records = λ f here. let at = is_high f here in record_at at.0 f at.1;
  apart =
      λ k q r s hl hh. low_high o k.target k.set k.position r q.target q.set q.position s
      (is_low (Seen k.target k.set k.position r) hl) (is_high (Seen q.target q.set q.position s) hh);
}

-- ---- the facts of a run

no_more : (file : List ℕ) (begin end : ℕ) (f : Fact) (fs : List Fact) → begin ≡ end
    → AreElements file begin end (f ∷ fs) → ⊥
no_more file begin end f fs same h =
    let rest = elements_go file (begin + length (encoding saved_fact f)) end fs h.1 in
    let some = element_some saved_fact f (encoding saved_fact f) h.0.fits in
    omega (arith, rest, some, same)

-- the octets between two bounds are the elements of one list of facts
same_elements : (file : List ℕ) (begin end : ℕ) (fs gs : List Fact) → AreElements file begin end fs
    → AreElements file begin end gs → fs ≡ gs
same_elements file begin end [] [] of_f of_g = refl
same_elements file begin end [] (g ∷ gs) of_f of_g = absurd (no_more file begin end g gs of_f of_g)
same_elements file begin end (f ∷ fs) [] of_f of_g = absurd (no_more file begin end f fs of_g of_f)
same_elements file begin end (f ∷ fs) (g ∷ gs) of_f of_g =
    let heads : f ≡ g =
    (one_element saved_fact f g (encoding saved_fact f) (encoding saved_fact g) of_f.0.rest of_g.0.rest of_f.0.fits
    of_g.0.fits (sym of_f.0.cut ∙ of_g.0.cut)).0 in
    let behind : AreElements file (begin + length (encoding saved_fact f)) end gs =
    subst (λ (z : Fact). AreElements file (begin + length (encoding saved_fact z)) end gs) (sym heads) of_g.1 in
    ap (λ (z : Fact). z ∷ fs) heads
    ∙ ap (λ (l : List Fact). g ∷ l)
    (same_elements file (begin + length (encoding saved_fact f)) end fs gs of_f.1 behind)

rise_at : (p : ℤ) (fs : List Fact) → DoRise p fs → (f : Fact) → Contains fs f → (q : ℤ) × IsAt q f × (p ≤ℤ q)
rise_at p [] rise f here = absurd (none_in_nil f here)
rise_at p (g ∷ gs) rise f here =
    ⊎_elim (λ same. subst (λ (z : Fact). (q : ℤ) × IsAt q z × (p ≤ℤ q)) same (rise.0, rise.1, rise.2))
    (λ later. let next = rise_at rise.0 gs rise.3 f later in
    (next.0, next.1, le_through p rise.0 next.0 rise.2 next.2)) (in_cons g gs f here)

bound_through : (o : Option ℤ) (a b : ℤ) → IfSome o (λ q. q ≤ℤ a) → a ≤ℤ b → IfSome o (λ q. q ≤ℤ b)
bound_through None a b h le = h
bound_through (Some q) a b h le = le_through q a b h le

module _ (files : ℕ → Option (List ℕ)) (wanted : Fact → Type 0) (unknown : Type 0) where
  -- the facts that the run has, if they are known
  abbrev OwedBy : Run → Type 0
  OwedBy r = (fs : List Fact) × ((f : Fact) → Contains fs f → Owes files wanted unknown r f)
      × ((f : Fact) → Owes files wanted unknown r f → Contains fs f)

  owed_by : (o : Option (List ℕ)) (r : Run) → files r.file ≡ o → IsCoveredBy files wanted unknown o r → OwedBy r
  owed_by None r is covered = (
    [],
    λ f h. absurd (none_in_nil f h),
    λ f owes. let known : files r.file ≡ Some owes.file = owes.known in absurd cc,
  )
  owed_by (Some file) r is covered = (
    covered.0,
    λ f h. record { file = file; known = is; facts = covered.0; has = covered.1; here = h },
    λ f owes.
        let one_file : file ≡ owes.file = some_is file owes.file (sym is ∙ owes.known) in
        let theirs : HasFacts files wanted unknown file r owes.facts =
        subst (λ (x : List ℕ). HasFacts files wanted unknown x r owes.facts) (sym one_file) owes.has in
        subst (λ (l : List Fact). Contains l f)
        (sym (same_elements file r.begin r.end covered.0 owes.facts covered.1.elements theirs.elements)) owes.here,
  )

  -- the facts that the runs have, if they are known
  abbrev OwedByAll : List Run → Type 0
  OwedByAll runs = (fs : List Fact)
      × ((f : Fact) → Contains fs f → (r : Run) × Contains runs r × Owes files wanted unknown r f)
      × ((r : Run) (f : Fact) → Contains runs r → Owes files wanted unknown r f → Contains fs f)

  owed_by_all : (runs : List Run) → ((r : Run) → Contains runs r → IsCovered files wanted unknown r)
      → OwedByAll runs
  owed_by_all [] covered = ([], λ f h. absurd (none_in_nil f h), λ r f h owes. absurd (none_in_nil r h))
  owed_by_all (r ∷ rs) covered =
      let one : OwedBy r = owed_by (files r.file) r refl (covered r (in_head r rs)) in
      let more : OwedByAll rs = owed_by_all rs (λ q h. covered q (in_tail r rs q h)) in (
        one.0 ++ more.0,
        λ f h. ⊎_elim (λ here. (r, in_head r rs, one.1 f here))
            (λ there. let found = more.1 f there in (found.0, in_tail r rs found.0 found.1, found.2))
            (Contains-append_cases one.0 more.0 f h),
        λ q f h owes. ⊎_elim
            (λ same. Contains-append_left one.0 more.0 f
            (one.2 f (subst (λ (z : Run). Owes files wanted unknown z f) (sym same) owes)))
            (λ later. Contains-append_right one.0 more.0 f (more.2 q f later owes)) (in_cons r rs q h),
      )

  module _ (t : Taking) (text : List ℕ) (low : List Fact) (rows : Rows)
      (h : HoldsRows files wanted unknown t text low rows) where
    low_fits : DoFit low
    low_fits f here = (h.sound f (inl here)).0.fits

    gathered_fits : DoFit rows.gathered
    gathered_fits f here = (h.sound f (inr here)).0.fits

    gathered_high : (f : Fact) → Contains rows.gathered f → IsHigh rows.position f
    gathered_high f here =
        let at = h.at f here in
        (at.0, at.1, subst (λ (o : Option ℤ). IfSome o (λ q. q ≤ℤ at.0)) (sym at.2) (≤ℤ_refl at.0))

    -- ---- the gathered facts are appended

    -- the facts that were written then
    pub appended : Joined low rows.gathered
    appended =
        union_of low rows.gathered h.low_facts h.gathered_facts
        (fits_agree low rows.gathered low_fits gathered_fits)

    pub appended_parts : AreInParts low rows.gathered appended.0
    appended_parts =
        parts_of rows.position low rows.gathered appended.0 h.low_facts h.gathered_facts appended.1 appended.2 h.below
        gathered_high

    -- the text of facts at other positions goes on behind what was written
    written_on : (high all : List Fact) → AreInParts low high all
        → text ++ (kept_octets rows ++ form_text t.form.now high) ≡ t.head.items ++ form_text t.form.now all
    written_on high all parts =
        let more : List ℕ = form_text t.form.now high in
        sym (append_assoc text (kept_octets rows) more)
        ∙ ap (λ (l : List ℕ). l ++ more) h.written
        ∙ append_assoc t.head.items (form_text t.form.now low) more
        ∙ ap (λ (l : List ℕ). t.head.items ++ l) (sym ((form_laws_hold.parts t.form.now low high all).text parts))

    pub appended_octets : (octets : List ℕ)
        → octets ≡ kept_octets rows ++ form_text t.form.now rows.gathered
        → text ++ octets ≡ t.head.items ++ form_text t.form.now appended.0
    appended_octets octets is =
        ap (λ (l : List ℕ). text ++ l) is ∙ written_on rows.gathered appended.0 appended_parts

    -- what is told of the gathered facts too, whatever was told before
    abbrev pub TellsMore : Tally → Type 0
    TellsMore tally =
        (before all : List Fact) → IsTold t.form.now before rows.tally → AreInParts before rows.gathered all
        → IsTold t.form.now all tally

    pub appended_tally : (tally : Tally) → TellsMore tally → IsTold t.form.now appended.0 tally
    appended_tally tally more = more low appended.0 h.told appended_parts

    -- ---- nothing is left of the runs

    pub given_at_end : left_runs rows ≡ [] → AreGiven files wanted unknown t.chosen.now appended.0
    given_at_end none = record {
      lawful = appended.1;
      complete =
          λ f w. (appended.2 f).1
          (⊎_elim inl
          (λ more. ⊎_elim inr
          (λ owed. absurd (none_in_nil owed.0 (subst (λ (l : List Run). Contains l owed.0) none owed.1))) more)
          (h.complete f w));
      sound = λ f here. h.sound f ((appended.2 f).0 here);
    }

    pub rows_end : left_runs rows ≡ [] → (octets : List ℕ)
        → octets ≡ kept_octets rows ++ form_text t.form.now rows.gathered → (tally : Tally)
        → TellsMore tally → AreRows files wanted unknown t (text ++ octets) tally
    rows_end none octets is tally more = record {
      given = appended.0;
      are = given_at_end none;
      octets = appended_octets octets is;
      tally = appended_tally tally more;
    }

    -- ---- what was written is a front

    module _ (taken : (f : Fact) → wanted f → IsTaken t.chosen.now f) where
      owed : OwedByAll (left_runs rows)
      owed = owed_by_all (left_runs rows) h.covered

      owed_wanted : (f : Fact) → Contains owed.0 f → wanted f
      owed_wanted f here = let by = owed.1 f here in by.2.has.each f by.2.here

      abbrev higher : List Fact
      higher = rows.gathered ++ owed.0

      higher_fits : DoFit higher
      higher_fits f here =
          ⊎_elim (gathered_fits f) (λ there. (taken f (owed_wanted f there)).fits)
          (Contains-append_cases rows.gathered owed.0 f here)

      all_fit : DoFit (low ++ higher)
      all_fit f here = ⊎_elim (low_fits f) (higher_fits f) (Contains-append_cases low higher f here)

      high : Ordered higher
      high = in_order higher higher_fits

      given : Ordered (low ++ higher)
      given = in_order (low ++ higher) all_fit

      in_parts : (f : Fact) → Contains given.0 f ↔ (Contains low f ⊎ Contains high.0 f)
      in_parts f = (
        λ here. ⊎_elim inl (λ there. inr ((high.2 f).1 there))
            (Contains-append_cases low higher f ((given.2 f).0 here)),
        ⊎_elim (λ here. (given.2 f).1 (Contains-append_left low higher f here))
            (λ there. (given.2 f).1 (Contains-append_right low higher f ((high.2 f).0 there))),
      )

      owed_high : (f : Fact) → Contains owed.0 f → IsHigh rows.position f
      owed_high f here =
          let by = owed.1 f here in
          let at = rise_at by.0.position by.2.facts by.2.has.rise f by.2.here in
          (at.0, at.1, bound_through rows.position by.0.position at.0 (h.above by.0 by.1) at.2)

      is_high : (f : Fact) → Contains high.0 f → IsHigh rows.position f
      is_high f here =
          ⊎_elim (gathered_high f) (owed_high f) (Contains-append_cases rows.gathered owed.0 f ((high.2 f).0 here))

      front_parts : AreInParts low high.0 given.0
      front_parts =
          parts_of rows.position low high.0 given.0 h.low_facts high.1 given.1 in_parts h.below is_high

      all_wanted : (f : Fact) → wanted f → Contains (low ++ higher) f
      all_wanted f w =
          ⊎_elim (Contains-append_left low higher f)
          (λ more. Contains-append_right low higher f
          (⊎_elim (Contains-append_left rows.gathered owed.0 f)
          (λ left. Contains-append_right rows.gathered owed.0 f (owed.2 left.0 f left.1 left.2)) more))
          (h.complete f w)

      are_given : AreGiven files wanted unknown t.chosen.now given.0
      are_given = record {
        lawful = given.1;
        complete = λ f w. (given.2 f).1 (all_wanted f w);
        sound =
            λ f here. ⊎_elim (λ there. h.sound f (inl there))
            (λ there. ⊎_elim (λ g. h.sound f (inr g))
            (λ o. let w : wanted f = owed_wanted f o in (taken f w, inl w))
            (Contains-append_cases rows.gathered owed.0 f there))
            (Contains-append_cases low higher f ((given.2 f).0 here));
      }

      front_of : AreRowsFront files wanted unknown t text
      front_of = record {
        given = given.0;
        rest = kept_octets rows ++ form_text t.form.now high.0;
        are = are_given;
        octets = written_on high.0 given.0 front_parts;
      }

  pub rows_front : (t : Taking) (text : List ℕ) (rows : Rows) → Holds files wanted unknown t text rows
      → ((f : Fact) → wanted f → IsTaken t.chosen.now f) → AreRowsFront files wanted unknown t text
  rows_front t text rows holds taken = front_of t text holds.0 rows holds.1 taken
