-- One step of the records by position keeps what holds of them.
use Rattle.std.proofs.Common.{◌≡◌, ◌⊎◌, ◌+◌, ◌<◌, ◌≤◌, ℕ, ℤ, List, [], ◌∷◌, ◌++◌, length, take, drop, Option, Some, None, refl, sym, ap, subst, ◌∙◌, inl, inr, ⊎_elim, arith, append_assoc, length-take}
use Rattle.std.proofs.lemmas.Int.{ints}
use Rattle.std.proofs.lemmas.List.{take-append-drop}
use Rattle.std.specs.Prelude.{Contains, IfSome}
use Rattle.zknow.specs.declared.fact.Fact.{Fact}
use Rattle.zknow.specs.Encodings.{encoding}
use Rattle.zknow.specs.Saved.Fronts.{IsTakenFront}
use Rattle.zknow.specs.Saved.Saved.{IsWithinLimits}
use Rattle.zknow.specs.Saved.SavedFacts.{saved_fact}
use Rattle.zknow.specs.Tables.DistinctLaws.{none_in_nil, in_cons, in_head, in_tail}
use Rattle.zknow.proofs.SavedTheory.OneElement.{one_element, element_some}
use Rattle.zknow_runs.specs.declared.run.Run.{Run}
use Rattle.zknow_runs.specs.Rows.{place_of, IsAt, StandAt, IsElementAt, AreElements, DoRise, HasOctets, HasFirst, HasFacts, IsCoveredBy, IsCovered, Owes}

-- ---- elements in a file

abbrev pub size_of : Fact → ℕ
size_of f = length (encoding saved_fact f)

pub element_has : (f : Fact) → IsWithinLimits saved_fact f → 0 < size_of f
element_has f fits = element_some saved_fact f (encoding saved_fact f) fits

-- the number of a place, if there is one
abbrev pub position_in : ℤ → Option (ℕ × ℤ) → ℤ
position_in other None = other
position_in other (Some at) = at.1

-- elements end where they begin, or behind
pub elements_go : (file : List ℕ) (begin end : ℕ) (fs : List Fact) → AreElements file begin end fs → begin ≤ end
elements_go file begin end [] are = omega (arith, are)
elements_go file begin end (f ∷ fs) are =
    omega (arith, elements_go file (begin + size_of f) end fs are.1)

-- elements have octets, if there are any
pub some_octets : (file : List ℕ) (begin end : ℕ) (fs : List Fact) → AreElements file begin end fs → (f : Fact)
    → Contains fs f → begin < end
some_octets file begin end [] are f here = absurd (none_in_nil f here)
some_octets file begin end (g ∷ gs) are f here =
    omega (arith, element_has g are.0.fits, elements_go file (begin + size_of g) end gs are.1)

-- octets that stand there begin with the element that stands there
module _ (file : List ℕ) (begin : ℕ) (octets : List ℕ) (stand : octets ≡ take (length octets) (drop begin file))
    (f : Fact) (size : ℕ) (taken : IsTakenFront saved_fact octets f size) where
  abbrev behind : List ℕ
  behind = drop size octets ++ drop (length octets) (drop begin file)

  front : drop begin file ≡ encoding saved_fact f ++ behind
  front =
      sym (take-append-drop (length octets) (drop begin file))
      ∙ ap (λ (l : List ℕ). l ++ drop (length octets) (drop begin file)) (sym stand)
      ∙ ap (λ (l : List ℕ). l ++ drop (length octets) (drop begin file)) (sym (take-append-drop size octets))
      ∙ append_assoc (take size octets) (drop size octets) (drop (length octets) (drop begin file))
      ∙ ap (λ (l : List ℕ). l ++ behind) taken.canonical

  pub sized : size ≡ size_of f
  sized = omega (arith, taken.within, ap length taken.canonical, length-take size octets)

  pub same_fact : (g : Fact) → IsElementAt file begin g → g ≡ f
  same_fact g at =
      (one_element saved_fact g f (encoding saved_fact g) (encoding saved_fact f) at.rest behind at.fits taken.element
      (sym at.cut ∙ front)).0

-- ---- a run whose first fact was read

module _ (files : ℕ → Option (List ℕ)) (wanted : Fact → Type 0) (unknown : Type 0) where
  module _ (r : Run) (octets : List ℕ) (stand : StandAt (files r.file) r.begin octets) (f : Fact) (size : ℕ)
      (taken : IsTakenFront saved_fact octets f size) where
    -- of a known file: the first of its facts is the one that was read
    stands : (file : List ℕ) → files r.file ≡ Some file → octets ≡ take (length octets) (drop r.begin file)
    stands file known = subst (λ (o : Option (List ℕ)). StandAt o r.begin octets) known stand

    first_is : (file : List ℕ) → files r.file ≡ Some file → (g : Fact) (fs : List Fact)
        → HasFacts files wanted unknown file r (g ∷ fs) → g ≡ f
    first_is file known g fs has = same_fact file r.begin octets (stands file known) f size taken g has.elements.0

    -- the facts behind it are those of the rest
    rest_has : (position : ℤ) → IsAt position f → (file : List ℕ) → files r.file ≡ Some file → (g : Fact)
        (fs : List Fact) → HasFacts files wanted unknown file r (g ∷ fs)
        → HasFacts files wanted unknown file (record r { position = position; begin = r.begin + size }) fs
    rest_has position at file known g fs has =
        let same = first_is file known g fs has in
        let size_is : size ≡ size_of g =
        sized file r.begin octets (stands file known) f size taken ∙ ap size_of (sym same) in
        record {
          elements = subst (λ (n : ℕ). AreElements file (r.begin + n) r.end fs) (sym size_is) has.elements.1;
          rise = risen position at g fs same has.rise;
          each = λ h here. has.each h (in_tail g fs h here);
        }
      where
        one_place : (p q : ℤ) (g : Fact) → g ≡ f → IsAt p f → IsAt q g → q ≡ p
        one_place p q g same a b = ap (position_in p) (sym b.1 ∙ ap place_of same ∙ a.1)

        risen : (position : ℤ) → IsAt position f → (g : Fact) (fs : List Fact) → g ≡ f → DoRise r.position (g ∷ fs)
            → DoRise position fs
        risen position at g fs same rise =
            subst (λ (z : ℤ). DoRise z fs) (one_place position rise.0 g same at rise.1) rise.3

    -- a fact that the run owes is the one that was read, or one of the rest
    pub owed : (position : ℤ) → IsAt position f → (h : Fact) → Owes files wanted unknown r h
        → (h ≡ f) ⊎ Owes files wanted unknown (record r { position = position; begin = r.begin + size }) h
    owed position at h o = by o.facts o.has o.here
      where
        by : (fs : List Fact) → HasFacts files wanted unknown o.file r fs → Contains fs h
            → (h ≡ f) ⊎ Owes files wanted unknown (record r { position = position; begin = r.begin + size }) h
        by [] has here = absurd (none_in_nil h here)
        by (g ∷ fs) has here = ⊎_elim
            (λ same. inl (sym same ∙ first_is o.file o.known g fs has))
            (λ later. inr (record {
              file = o.file;
              known = o.known;
              facts = fs;
              has = rest_has position at o.file o.known g fs has;
              here = later;
            }))
            (in_cons g fs h here)

    -- the rest is covered, if it does not end before the fact does
    pub rest_covered : (position : ℤ) → IsAt position f → r.begin + size ≤ r.end → IsCovered files wanted unknown r
        → IsCovered files wanted unknown (record r { position = position; begin = r.begin + size })
    rest_covered position at within c = by (files r.file) refl c
      where
        by : (o : Option (List ℕ)) → files r.file ≡ o → IsCoveredBy files wanted unknown o r
            → IsCovered files wanted unknown (record r { position = position; begin = r.begin + size })
        by None is u = subst (λ (o : Option (List ℕ)). IsCoveredBy files wanted unknown o
            (record r { position = position; begin = r.begin + size })) (sym is) u
        by (Some file) is ([], has) =
            absurd (omega (
              arith,
              within,
              has.elements,
              element_has f taken.element,
              sized file r.begin octets (stands file is) f size taken,
            ))
        by (Some file) is (g ∷ fs, has) =
            subst (λ (o : Option (List ℕ)). IsCoveredBy files wanted unknown o
            (record r { position = position; begin = r.begin + size })) (sym is)
            (fs, rest_has position at file is g fs has)

    -- the fact is wanted, or there is a file that is not known
    pub wanted_or : r.begin + size ≤ r.end → IsCovered files wanted unknown r → wanted f ⊎ unknown
    wanted_or within c = by (files r.file) refl c
      where
        by : (o : Option (List ℕ)) → files r.file ≡ o → IsCoveredBy files wanted unknown o r → wanted f ⊎ unknown
        by None is u = inr u
        by (Some file) is ([], has) =
            absurd (omega (
              arith,
              within,
              has.elements,
              element_has f taken.element,
              sized file r.begin octets (stands file is) f size taken,
            ))
        by (Some file) is (g ∷ fs, has) =
            inl (subst wanted (first_is file is g fs has) (has.each g (in_head g fs)))

    -- the run is covered too, if its first record is at the position of the fact
    placed_has : (position : ℤ) → IsAt position f → (file : List ℕ) → files r.file ≡ Some file → (fs : List Fact)
        → HasFacts files wanted unknown file r fs → HasFacts files wanted unknown file
        (record r { position = position }) fs
    placed_has position at file known [] has = record { elements = has.elements; rise = tt; each = has.each }
    placed_has position at file known (g ∷ fs) has = record {
      elements = has.elements;
      rise = (
        position,
        subst (IsAt position) (sym (first_is file known g fs has)) at,
        omega (arith, ints),
        (rest_has position at file known g fs has).rise,
      );
      each = has.each;
    }

    pub placed_covered : (position : ℤ) → IsAt position f → IsCovered files wanted unknown r
        → IsCovered files wanted unknown (record r { position = position })
    placed_covered position at c = by (files r.file) refl c
      where
        by : (o : Option (List ℕ)) → files r.file ≡ o → IsCoveredBy files wanted unknown o r
            → IsCovered files wanted unknown (record r { position = position })
        by None is u = subst (λ (o : Option (List ℕ)). IsCoveredBy files wanted unknown o
            (record r { position = position })) (sym is) u
        by (Some file) is (fs, has) = subst (λ (o : Option (List ℕ)). IsCoveredBy files wanted unknown o
            (record r { position = position })) (sym is)
            (fs, placed_has position at file is fs has)

    -- then its first record is there
    pub placed_first : (position : ℤ) → IsAt position f → HasOctets files r → IsCovered files wanted unknown r
        → HasFirst files (record r { position = position })
    placed_first position at some c = by (files r.file) refl some c
      where
        Begins : Option (List ℕ) → Type 0
        Begins o = IfSome o (λ file. (g : Fact) × IsElementAt file r.begin g × IsAt position g)

        by : (o : Option (List ℕ)) → files r.file ≡ o → IfSome o (λ file. r.begin < r.end)
            → IsCoveredBy files wanted unknown o r → Begins (files r.file)
        by None is some u = subst Begins (sym is) tt
        by (Some file) is some ([], has) = absurd (omega (arith, some, has.elements))
        by (Some file) is some (g ∷ fs, has) =
            subst Begins (sym is) (g, has.elements.0, subst (IsAt position) (sym (first_is file is g fs has)) at)

    pub placed_owes : (position : ℤ) → IsAt position f → (h : Fact) → Owes files wanted unknown r h
        → Owes files wanted unknown (record r { position = position }) h
    placed_owes position at h o = record {
      file = o.file;
      known = o.known;
      facts = o.facts;
      has = placed_has position at o.file o.known o.facts o.has;
      here = o.here;
    }

  -- nothing is owed by a run without octets
  pub owes_none : (r : Run) → r.end ≤ r.begin → (h : Fact) → Owes files wanted unknown r h → ⊥
  owes_none r none h o = by o.facts o.has o.here
    where
      by : (fs : List Fact) → HasFacts files wanted unknown o.file r fs → Contains fs h → ⊥
      by [] has here = none_in_nil h here
      by (g ∷ fs) has here = omega (
        arith,
        none,
        element_has g has.elements.0.fits,
        elements_go o.file (r.begin + size_of g) r.end fs has.elements.1,
      )
