-- The runs that were found in files cover the facts of the files: each run has facts that follow one another in its
-- file and begins with the first of them, and each fact that is wanted is one of a run.
use Rattle.std.proofs.Common.{◌≡◌, ◌≤ℤ◌, ◌<◌, ◌+◌, ℕ, ℤ, List, [], ◌∷◌, length, slice_index_or, Contains, Option, Some, None, IfSome, ⊎_elim, refl, sym, ap, subst, ◌∙◌, arith}
use Rattle.std.specs.Prelude.{⊤}
use Rattle.std.specs.Option.{IsSome}
use Rattle.std.specs.Int.Signed.{≤ℤ_refl}
use Rattle.zknow.specs.declared.fact.Fact.{Fact}
use Rattle.zknow.specs.Encodings.{encoding}
use Rattle.zknow.specs.Saved.SavedFacts.{saved_fact}
use Rattle.zknow.specs.Saved.Saved.{IsSaved}
use Rattle.zknow.specs.Tables.DistinctLaws.{none_in_nil, in_cons, in_head, in_tail}
use Rattle.zknow_runs.specs.declared.rows.Chosen.{Chosen}
use Rattle.zknow_runs.specs.declared.run.Run.{Run}
use Rattle.zknow_runs.specs.Runs.{AreBetween, DoNotFall, BeginsAt, AreRunsOf, all_of, AreAllRuns}
use Rattle.zknow_runs.specs.Rows.{IsAt, IsElementAt, AreElements, DoRise, HasOctets, HasFirst, HasFacts, IsCoveredBy, IsCovered, Owes, AreAllWanted}
use Rattle.zknow_runs.specs.Placed.{placed, all_placed, IsKnownTaken}
use Rattle.zknow_runs.proofs.RowTheory.{some_octets}
use Rattle.zknow_runs.proofs.PlacedTheory.{one_fact, IsPlacedOf, IsPlaced, placed_has, all_each, all_has, is_own, element_at, element_end, IsPartOf, run_has_part, record_has_run}

-- all records of a run are in its file
between_file : (file begin end : ℕ) (ps : List Run) → AreBetween file begin end ps → (p : Run) → Contains ps p
    → p.file ≡ file
between_file file begin end [] is p h = absurd (none_in_nil p h)
between_file file begin end (q ∷ ps) is p h = ⊎_elim
    (λ same. subst (λ (x : Run). x.file ≡ file) same is.0)
    (λ later. between_file file q.end end ps is.2 p later)
    (in_cons q ps p h)

-- a run has a record
some_record : (position : ℤ) (ps : List Run) → BeginsAt position ps → (p : Run) × Contains ps p
some_record position [] first = absurd first
some_record position (p ∷ ps) first = (p, in_head p ps)

-- the first record is not at a lower position, if there is one
abbrev StartsAbove : ℤ → List Run → Type 0
StartsAbove q [] = ⊤
StartsAbove q (p ∷ ps) = q ≤ℤ p.position

begins_above : (position : ℤ) (ps : List Run) → BeginsAt position ps → StartsAbove position ps
begins_above position [] first = absurd first
begins_above position (p ∷ ps) first = subst (λ (q : ℤ). position ≤ℤ q) (sym first) (≤ℤ_refl position)

next_above : (p : Run) (ps : List Run) → DoNotFall (p ∷ ps) → StartsAbove p.position ps
next_above p [] rise = tt
next_above p (q ∷ ps) rise = rise.0

rest_rise : (p : Run) (ps : List Run) → DoNotFall (p ∷ ps) → DoNotFall ps
rest_rise p [] rise = tt
rest_rise p (q ∷ ps) rise = rise.1

some_of : {T : Type 0} (o : Option T) → IsSome o → (x : T) × (o ≡ Some x)
some_of None is = absurd cc
some_of (Some x) is = (x, refl)

-- ---- the facts of a run

module _ (files : ℕ → Option (List ℕ)) (c : Chosen) (names : List (List ℕ)) (theirs : List (List Fact)) where
  abbrev of_file : ℕ → List Fact
  of_file k = slice_index_or theirs k []

  -- the facts are those of the records: their elements fill the octets between the bounds, they are wanted and do not
  -- fall, and the element of each record is one of theirs
  record HasFactsOf (file : List ℕ) (begin end : ℕ) (low : ℤ) (ps : List Run) : Type 0 where
    facts : List Fact
    elements : AreElements file begin end facts
    rise : DoRise low facts
    each : (f : Fact) → Contains facts f → IsKnownTaken files c theirs f
    all : (p : Run) → Contains ps p → (f : Fact) × Contains facts f × IsElementAt file p.begin f

  module _ (k : ℕ) (among : k < length theirs) (file : List ℕ) (known : files k ≡ Some file)
      (is : IsSaved names (of_file k) file) where
    is_wanted : (f : Fact) (p : Run) → IsPlacedOf c names (of_file k) f p → IsKnownTaken files c theirs f
    is_wanted f p at = record {
      number = k;
      among = among;
      known = subst (λ (o : Option (List ℕ)). IsSome o) (sym known) refl;
      here = is_own c names (of_file k) file is f p at;
      taken = record {
        target = at.target;
        position = p.position;
        seen = at.seen;
        taken = at.taken;
        fits = (element_at c names (of_file k) file is f p at).fits;
      };
    }

    facts_of : (begin end : ℕ) (low : ℤ) (ps : List Run) → AreBetween k begin end ps → DoNotFall ps
        → StartsAbove low ps → ((p : Run) → Contains ps p → IsPlaced c names (of_file k) p)
        → HasFactsOf file begin end low ps
    facts_of begin end low [] between rise above placed_all = record {
      facts = [];
      elements = between;
      rise = tt;
      each = λ f h. absurd (none_in_nil f h);
      all = λ p h. absurd (none_in_nil p h);
    }
    facts_of begin end low (p ∷ ps) between rise above placed_all =
        let one = placed_all p (in_head p ps) in
        let f : Fact = one.0 in
        let at : IsPlacedOf c names (of_file k) f p = one.1 in
        let element : IsElementAt file p.begin f = element_at c names (of_file k) file is f p at in
        let begins : p.begin ≡ begin = between.1 in
        let ends : p.end ≡ begin + length (encoding saved_fact f) =
        element_end c names (of_file k) file is f p at
        ∙ ap (λ (n : ℕ). n + length (encoding saved_fact f)) begins in
        let rest = facts_of p.end end p.position ps between.2 (rest_rise p ps rise) (next_above p ps rise)
        (λ q i. placed_all q (in_tail p ps q i)) in
        record {
          facts = f ∷ rest.facts;
          elements = (
            subst (λ (n : ℕ). IsElementAt file n f) begins element,
            subst (λ (n : ℕ). AreElements file n end rest.facts) ends rest.elements,
          );
          rise = (p.position, (at.target, at.seen), above, rest.rise);
          each = λ g h. ⊎_elim
              (λ same. subst (IsKnownTaken files c theirs) same (is_wanted f p at))
              (λ later. rest.each g later)
              (in_cons f rest.facts g h);
          all = λ q h. ⊎_elim
              (λ same. (f, in_head f rest.facts, subst (λ (x : Run). IsElementAt file x.begin f) same element))
              (λ later. let it = rest.all q later in (it.0, in_tail f rest.facts it.0 it.1, it.2))
              (in_cons p ps q h);
        }

  -- ---- all runs
  module _ (unknown : Type 0)
      (saved_all : (k : ℕ) (d : List Fact) → k < length theirs
      → IfSome (files k) (λ file. IsSaved names (slice_index_or theirs k d) file))
      (unknown_all : (k : ℕ) → k < length theirs → files k ≡ None → unknown) where
    abbrev IsPart : Run → List Run → Type 0
    IsPart r part = IsPartOf (all_placed c names 0 theirs) r part

    -- each record of a run is that of one of the facts of the run's file
    part_placed : (r : Run) (part : List Run) → IsPart r part → (p : Run) → Contains part p
        → (r.file < length theirs) × IsPlaced c names (of_file r.file) p
    part_placed r part h p i =
        let it = all_each c names 0 theirs p (h.within p i) in
        let in_file : p.file ≡ r.file = between_file r.file r.begin r.end part h.is.between p i in
        let same : it.0 ≡ r.file = omega (arith, it.2, in_file) in
        subst (λ (n : ℕ). (n < length theirs) × IsPlaced c names (of_file n) p) same (it.1, it.3)

    part_among : (r : Run) (part : List Run) → IsPart r part → r.file < length theirs
    part_among r part h =
        let one = some_record r.position part h.is.first in
        (part_placed r part h one.0 one.1).0

    file_saved : (k : ℕ) → k < length theirs → (file : List ℕ) → files k ≡ Some file → IsSaved names (of_file k) file
    file_saved k among file known =
        subst (λ (o : Option (List ℕ)). IfSome o (λ x. IsSaved names (of_file k) x)) known (saved_all k [] among)

    part_facts : (r : Run) (part : List Run) → IsPart r part → (file : List ℕ) → files r.file ≡ Some file
        → HasFactsOf file r.begin r.end r.position part
    part_facts r part h file known =
        let among : r.file < length theirs = part_among r part h in
        facts_of r.file among file known (file_saved r.file among file known) r.begin r.end r.position part
        h.is.between h.is.rise (begins_above r.position part h.is.first)
        (λ p i. (part_placed r part h p i).1)

    has_facts : (r : Run) (part : List Run) (file : List ℕ) (it : HasFactsOf file r.begin r.end r.position part)
        → HasFacts files (IsKnownTaken files c theirs) unknown file r it.facts
    has_facts r part file it = record { elements = it.elements; rise = it.rise; each = it.each }

    part_covered : (r : Run) (part : List Run) → IsPart r part → (o : Option (List ℕ)) → files r.file ≡ o
        → IsCoveredBy files (IsKnownTaken files c theirs) unknown o r
    part_covered r part h None known = unknown_all r.file (part_among r part h) known
    part_covered r part h (Some file) known =
        let it = part_facts r part h file known in (it.facts, has_facts r part file it)

    -- a run of a known file has octets, and begins with its first record
    part_octets : (r : Run) (part : List Run) → IsPart r part → (o : Option (List ℕ)) → files r.file ≡ o
        → IfSome o (λ file. r.begin < r.end)
    part_octets r part h None known = tt
    part_octets r part h (Some file) known =
        let it = part_facts r part h file known in
        let one = some_record r.position part h.is.first in
        let has = it.all one.0 one.1 in
        some_octets file r.begin r.end it.facts it.elements has.0 has.1

    part_first : (r : Run) (part : List Run) → IsPart r part → (o : Option (List ℕ)) → files r.file ≡ o
        → IfSome o (λ file. (f : Fact) × IsElementAt file r.begin f × IsAt r.position f)
    part_first r part h None known = tt
    part_first r part h (Some file) known =
        first_of part h.is.first h.is.between (λ p i. (part_placed r part h p i).1)
      where
        is : IsSaved names (of_file r.file) file
        is = file_saved r.file (part_among r part h) file known

        first_of : (ps : List Run) → BeginsAt r.position ps → AreBetween r.file r.begin r.end ps
            → ((p : Run) → Contains ps p → IsPlaced c names (of_file r.file) p)
            → (f : Fact) × IsElementAt file r.begin f × IsAt r.position f
        first_of [] first between placed_all = absurd first
        first_of (p ∷ ps) first between placed_all =
            let one = placed_all p (in_head p ps) in
            let at : IsPlacedOf c names (of_file r.file) one.0 p = one.1 in (
              one.0,
              subst (λ (n : ℕ). IsElementAt file n one.0) between.1
                  (element_at c names (of_file r.file) file is one.0 p at),
              subst (λ (q : ℤ). IsAt q one.0) first (at.target, at.seen),
            )

    -- a fact is one of the run that has its record
    part_owes : (r : Run) (part : List Run) → IsPart r part → (file : List ℕ) → files r.file ≡ Some file → (f : Fact)
        (p : Run) → Contains part p → IsPlacedOf c names (of_file r.file) f p
        → Owes files (IsKnownTaken files c theirs) unknown r f
    part_owes r part h file known f p i at =
        let it = part_facts r part h file known in
        let one = it.all p i in
        let is : IsSaved names (of_file r.file) file = file_saved r.file (part_among r part h) file known in
        let same : one.0 ≡ f =
        one_fact file p.begin one.0 f one.2 (element_at c names (of_file r.file) file is f p at) in
        record {
          file = file;
          known = known;
          facts = it.facts;
          has = has_facts r part file it;
          here = subst (Contains it.facts) same one.1;
        }

    module _ (runs : List Run) (parts : List (List Run)) (are : AreRunsOf runs parts)
        (whole : all_placed c names 0 theirs ≡ all_of parts) where
      is_part : (r : Run) (part : List Run) → IsPartOf (all_of parts) r part → IsPart r part
      is_part r part h = subst (λ (l : List Run). IsPartOf l r part) (sym whole) h

      each_covered : (r : Run) → Contains runs r → IsCovered files (IsKnownTaken files c theirs) unknown r
      each_covered r h =
          let it = run_has_part runs parts are r h in
          part_covered r it.0 (is_part r it.0 it.1) (files r.file) refl

      each_octets : (r : Run) → Contains runs r → HasOctets files r
      each_octets r h =
          let it = run_has_part runs parts are r h in
          part_octets r it.0 (is_part r it.0 it.1) (files r.file) refl

      each_first : (r : Run) → Contains runs r → HasFirst files r
      each_first r h =
          let it = run_has_part runs parts are r h in
          part_first r it.0 (is_part r it.0 it.1) (files r.file) refl

      each_owed : (f : Fact) → IsKnownTaken files c theirs f
          → (r : Run) × Contains runs r × Owes files (IsKnownTaken files c theirs) unknown r f
      each_owed f w =
          let own = placed_has c names w.number [] (of_file w.number) f w.here w.taken in
          let p : Run = own.0 in
          let number : w.number ≡ 0 + w.number = omega arith in
          let among_all : Contains (all_placed c names 0 theirs) p =
          all_has c names 0 theirs w.number p w.among
          (subst (λ (n : ℕ). Contains (placed c names n [] (of_file w.number)) p) number own.1) in
          let it = record_has_run runs parts are p (subst (λ (l : List Run). Contains l p) whole among_all) in
          let r : Run = it.0 in
          let part : List Run = it.2.0 in
          let h : IsPart r part = is_part r part it.2.1 in
          let in_file : p.file ≡ r.file = between_file r.file r.begin r.end part h.is.between p it.2.2 in
          let same : w.number ≡ r.file = sym own.2 ∙ in_file in
          let octets = some_of (files w.number) w.known in (
            r,
            it.1,
            part_owes r part h octets.0
                (subst (λ (n : ℕ). files n ≡ Some octets.0) same octets.1)
                f p it.2.2
                (subst (λ (n : ℕ). IsPlacedOf c names (of_file n) f p) same own.3),
          )

-- The runs of all records that are taken cover the facts that are wanted: those of the files whose octets are known.
pub runs_cover : (files : ℕ → Option (List ℕ)) (c : Chosen) (names : List (List ℕ)) (theirs : List (List Fact))
    (unknown : Type 0) (runs : List Run)
    → ((k : ℕ) (d : List Fact) → k < length theirs
    → IfSome (files k) (λ file. IsSaved names (slice_index_or theirs k d) file))
    → ((k : ℕ) → k < length theirs → files k ≡ None → unknown)
    → AreAllRuns runs (all_placed c names 0 theirs)
    → AreAllWanted files (IsKnownTaken files c theirs) unknown runs
runs_cover files c names theirs unknown runs saved_all unknown_all all = record {
  covered = each_covered files c names theirs unknown saved_all unknown_all runs all.0 all.1 all.2;
  some = each_octets files c names theirs unknown saved_all unknown_all runs all.0 all.1 all.2;
  first = each_first files c names theirs unknown saved_all unknown_all runs all.0 all.1 all.2;
  complete = each_owed files c names theirs unknown saved_all unknown_all runs all.0 all.1 all.2;
}
