-- What the second pass asks of the first: the facts that are wanted as one list, whether the octets of a file are not
-- known, and the same runs by other words for the same facts.
use Rattle.std.proofs.Common.{◌≡◌, ◌<◌, ◌+◌, ◌↔◌, ℕ, zero, suc, ℤ, Bool, true, false, cond, filter, List, [], ◌∷◌, ◌++◌, length, slice_index_or, Contains, Option, Some, None, ⊎_elim, refl, sym, ap, subst, ◌∙◌, arith}
use Rattle.std.specs.Option.{IsSome}
use Rattle.std.specs.List.{AllByRecursion}
use Rattle.std.proofs.lemmas.List.Elements.{Contains-append_left, Contains-append_right, Contains-append_cases}
use Rattle.zknow.specs.declared.fact.Fact.{Fact}
use Rattle.zknow.specs.Saved.SavedFacts.{saved_fact}
use Rattle.zknow.specs.Saved.Saved.{IsWithinLimits}
use Rattle.zknow.specs.Tables.DistinctLaws.{none_in_nil, in_cons, in_head, in_tail, each_in}
use Rattle.zknow_runs.specs.declared.rows.Chosen.{Chosen}
use Rattle.zknow_runs.specs.declared.run.Run.{Run}
use Rattle.zknow_runs.specs.Rows.{place_of, is_taken, IsTaken, HasFacts, IsCoveredBy, Owes, AreAllWanted}
use Rattle.zknow_runs.specs.Placed.{IsKnownTaken}

-- ---- what passes a test

module _ {T : Type 0} (test : T → Bool) where
  passed_one : (y : T) (ys zs : List T) (x : T) (b : Bool) → test y ≡ b
      → (Contains zs x → Contains ys x × (test x ≡ true)) → Contains (cond b (y ∷ zs) zs) x
      → Contains (y ∷ ys) x × (test x ≡ true)
  passed_one y ys zs x true is rest h = ⊎_elim
      (λ same. (
        subst (λ (z : T). Contains (y ∷ ys) z) same (in_head y ys),
        subst (λ (z : T). test z ≡ true) same is,
      ))
      (λ later. let it = rest later in (in_tail y ys x it.0, it.1))
      (in_cons y zs x h)
  passed_one y ys zs x false is rest h = let it = rest h in (in_tail y ys x it.0, it.1)

  passed_each : (xs : List T) (x : T) → Contains (filter test xs) x → Contains xs x × (test x ≡ true)
  passed_each [] x h = absurd (none_in_nil x h)
  passed_each (y ∷ ys) x h = passed_one y ys (filter test ys) x (test y) refl (passed_each ys x) h

  passed_later : (y : T) (zs : List T) (x : T) (b : Bool) → Contains zs x → Contains (cond b (y ∷ zs) zs) x
  passed_later y zs x true h = in_tail y zs x h
  passed_later y zs x false h = h

  passed_has : (xs : List T) (x : T) → Contains xs x → test x ≡ true → Contains (filter test xs) x
  passed_has [] x h is = absurd (none_in_nil x h)
  passed_has (y ∷ ys) x h is =
      let rest : List T = filter test ys in
      ⊎_elim
      (λ same. let passes : test y ≡ true = subst (λ (z : T). test z ≡ true) (sym same) is in
      subst (λ (b : Bool). Contains (cond b (y ∷ rest) rest) x) (sym passes)
      (subst (λ (z : T). Contains (y ∷ rest) z) same (in_head y rest)))
      (λ later. passed_later y rest x (test y) (passed_has ys x later is))
      (in_cons y ys x h)

-- ---- the facts that are wanted, as a list

-- whether they are the target and the position of a record that is taken
abbrev takes : Chosen → Option (ℕ × ℤ) → Bool
takes c None = false
takes c (Some at) = is_taken c at.0

takes_each : (c : Chosen) (o : Option (ℕ × ℤ)) → takes c o ≡ true
    → (target : ℕ) × (position : ℤ) × (o ≡ Some (target, position)) × (is_taken c target ≡ true)
takes_each c None is = absurd cc
takes_each c (Some at) is = (at.0, at.1, refl, is)

takes_has : (c : Chosen) (f : Fact) → IsTaken c f → takes c (place_of f) ≡ true
takes_has c f t = subst (λ (o : Option (ℕ × ℤ)). takes c o ≡ true) (sym t.seen) t.taken

-- those of the facts that have a record that is taken
abbrev taken_of : Chosen → List Fact → List Fact
taken_of c facts = filter (λ f. takes c (place_of f)) facts

-- the facts, if the octets of their file are known
abbrev known_of : Option (List ℕ) → List Fact → List Fact
known_of None facts = []
known_of (Some file) facts = facts

known_each : (o : Option (List ℕ)) (facts : List Fact) (f : Fact) → Contains (known_of o facts) f
    → IsSome o × Contains facts f
known_each None facts f h = absurd (none_in_nil f h)
known_each (Some file) facts f h = (refl, h)

known_has : (o : Option (List ℕ)) (facts : List Fact) (f : Fact) → IsSome o → Contains facts f
    → Contains (known_of o facts) f
known_has None facts f is h = absurd cc
known_has (Some file) facts f is h = h

module _ (files : ℕ → Option (List ℕ)) (c : Chosen) where
  -- those of all files; the first file has this number
  abbrev listed : ℕ → List (List Fact) → List Fact
  listed first [] = []
  listed first (fs ∷ theirs) = known_of (files first) (taken_of c fs) ++ listed (suc first) theirs

  -- the fact is one of a file whose octets are known, and has a record that is taken
  record IsListed (first : ℕ) (theirs : List (List Fact)) (f : Fact) : Type 0 where
    number : ℕ
    among : number < length theirs
    known : IsSome (files (first + number))
    here : Contains (slice_index_or theirs number []) f
    taken : takes c (place_of f) ≡ true

  listed_each : (first : ℕ) (theirs : List (List Fact)) (f : Fact) → Contains (listed first theirs) f
      → IsListed first theirs f
  listed_each first [] f h = absurd (none_in_nil f h)
  listed_each first (fs ∷ theirs) f h = ⊎_elim
      (λ one. let it = known_each (files first) (taken_of c fs) f one in
      let own = passed_each (λ x. takes c (place_of x)) fs f it.1 in
      let at : first ≡ first + zero = omega arith in
      record {
        number = zero;
        among = omega arith;
        known = subst (λ (n : ℕ). IsSome (files n)) at it.0;
        here = own.0;
        taken = own.1;
      })
      (λ later. let it = listed_each (suc first) theirs f later in
      let at : suc first + it.number ≡ first + suc it.number = omega arith in
      record {
        number = suc it.number;
        among = omega (arith, it.among);
        known = subst (λ (n : ℕ). IsSome (files n)) at it.known;
        here = it.here;
        taken = it.taken;
      })
      (Contains-append_cases (known_of (files first) (taken_of c fs)) (listed (suc first) theirs) f h)

  listed_has : (first : ℕ) (theirs : List (List Fact)) (k : ℕ) (f : Fact) → k < length theirs
      → IsSome (files (first + k)) → Contains (slice_index_or theirs k []) f → takes c (place_of f) ≡ true
      → Contains (listed first theirs) f
  listed_has first [] k f among known here taken = absurd (omega (arith, among))
  listed_has first (fs ∷ theirs) zero f among known here taken =
      let at : first + zero ≡ first = omega arith in
      Contains-append_left (known_of (files first) (taken_of c fs)) (listed (suc first) theirs) f
      (known_has (files first) (taken_of c fs) f (subst (λ (n : ℕ). IsSome (files n)) at known)
      (passed_has (λ x. takes c (place_of x)) fs f here taken))
  listed_has first (fs ∷ theirs) (suc k) f among known here taken =
      let at : first + suc k ≡ suc first + k = omega arith in
      Contains-append_right (known_of (files first) (taken_of c fs)) (listed (suc first) theirs) f
      (listed_has (suc first) theirs k f (omega (arith, among)) (subst (λ (n : ℕ). IsSome (files n)) at known)
      here taken)

-- a list has the facts that are wanted, if the elements of the facts of known files are within the limits
pub known_list : (files : ℕ → Option (List ℕ)) (c : Chosen) (theirs : List (List Fact))
    → ((k : ℕ) → k < length theirs → IsSome (files k)
    → AllByRecursion (IsWithinLimits saved_fact) (slice_index_or theirs k []))
    → (known : List Fact) × ((f : Fact) → Contains known f ↔ IsKnownTaken files c theirs f)
known_list files c theirs fit = (
  listed files c 0 theirs,
  λ f. (
    (λ h. let it = listed_each files c 0 theirs f h in
        let at : 0 + it.number ≡ it.number = omega arith in
        let known : IsSome (files it.number) = subst (λ (n : ℕ). IsSome (files n)) at it.known in
        let place = takes_each c (place_of f) it.taken in
        record {
          number = it.number;
          among = it.among;
          known = known;
          here = it.here;
          taken = record {
            target = place.0;
            position = place.1;
            seen = place.2;
            taken = place.3;
            fits = each_in (IsWithinLimits saved_fact) (slice_index_or theirs it.number [])
                (fit it.number it.among known) f it.here;
          };
        }),
    (λ w. let at : w.number ≡ 0 + w.number = omega arith in
        listed_has files c 0 theirs w.number f w.among (subst (λ (n : ℕ). IsSome (files n)) at w.known) w.here
        (takes_has c f w.taken)),
  ),
)

-- ---- whether octets are not known

-- one of the first files is one whose octets are not known
abbrev pub HasUnknownBelow : (ℕ → Option (List ℕ)) → ℕ → Type 0
HasUnknownBelow files count = (k : ℕ) × (k < count) × (files k ≡ None)

-- whether there is such a file
abbrev pub TellsUnknown : (ℕ → Option (List ℕ)) → ℕ → Type 0
TellsUnknown files count = (b : Bool) × ((b ≡ true) ↔ HasUnknownBelow files count)

module _ (files : ℕ → Option (List ℕ)) (count : ℕ) where
  -- the next file is known, so that one of those before it is unknown
  unknown_before : (file : List ℕ) → files count ≡ Some file → HasUnknownBelow files (suc count)
      → HasUnknownBelow files count
  unknown_before file is w =
      let other : w.0 ≡ count → ⊥ = λ same. let none = sym is ∙ ap files (sym same) ∙ w.2 in absurd cc in
      (w.0, omega (arith, w.1, other), w.2)

  unknown_next : TellsUnknown files count → (o : Option (List ℕ)) → files count ≡ o → TellsUnknown files (suc count)
  unknown_next before None is = (true, ((λ e. (count, omega arith, is)), (λ w. refl)))
  unknown_next before (Some file) is = (
    before.0,
    (
      (λ e. let w = before.1.0 e in (w.0, omega (arith, w.1), w.2)),
      (λ w. before.1.1 (unknown_before file is w)),
    ),
  )

pub any_unknown : (files : ℕ → Option (List ℕ)) (count : ℕ)
    → (b : Bool) × ((b ≡ true) ↔ ((k : ℕ) × (k < count) × (files k ≡ None)))
any_unknown files zero = (false, ((λ e. absurd cc), (λ w. absurd (omega (arith, w.1)))))
any_unknown files (suc count) = unknown_next files count (any_unknown files count) (files count) refl

-- ---- other words for the same facts

module _ (files : ℕ → Option (List ℕ)) (V W : Fact → Type 0) (A B : Type 0) (same : (f : Fact) → V f ↔ W f)
    (to : A → B) where
  facts_same : (file : List ℕ) (r : Run) (fs : List Fact) → HasFacts files V A file r fs → HasFacts files W B file r fs
  facts_same file r fs h = record {
    elements = h.elements;
    rise = h.rise;
    each = λ f here. (same f).0 (h.each f here);
  }

  covered_same : (file : Option (List ℕ)) (r : Run) → IsCoveredBy files V A file r → IsCoveredBy files W B file r
  covered_same None r h = to h
  covered_same (Some file) r h = (h.0, facts_same file r h.0 h.1)

  owes_same : (r : Run) (f : Fact) → Owes files V A r f → Owes files W B r f
  owes_same r f h = record {
    file = h.file;
    known = h.known;
    facts = h.facts;
    has = facts_same h.file r h.facts h.has;
    here = h.here;
  }

  -- runs that have the facts that are wanted by the one word have those that are wanted by the other
  pub wanted_same : (runs : List Run) → AreAllWanted files V A runs → AreAllWanted files W B runs
  wanted_same runs h = record {
    covered = λ r here. covered_same (files r.file) r (h.covered r here);
    some = h.some;
    first = h.first;
    complete = λ f w. let it = h.complete f ((same f).1 w) in (it.0, it.1, owes_same it.0 f it.2);
  }
