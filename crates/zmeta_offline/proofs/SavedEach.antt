-- The facts of saved files together, from those of each file.
use Rattle.std.proofs.Common.{◌≡◌, ◌⊎◌, ◌↔◌, ℕ, List, [], ◌∷◌, ◌++◌, Option, sym, subst, inl, inr, ⊎_elim, append_assoc}
use Rattle.std.specs.Prelude.{Contains}
use Rattle.std.specs.List.{AllByRecursion}
use Rattle.std.proofs.lemmas.List.{append-nil}
use Rattle.zknow.specs.declared.fact.Fact.{Fact}
use Rattle.zknow.specs.Facts.{fact_cmp, AreFacts}
use Rattle.zknow.specs.Saved.Saved.{IsWithinLimits}
use Rattle.zknow.specs.Saved.SavedFacts.{saved_fact}
use Rattle.zknow.specs.Tables.DistinctLaws.{none_in_nil, in_cons, in_head, in_tail, each_in}
use Rattle.zknow.proofs.TableTheory.InSections.{all_from}
use Rattle.zknow_runs.proofs.UnionTheory.{Joined, union_of, DoFit, fits_agree}
use Rattle.zmeta_offline.specs.Join.{AreJoined}
use Rattle.zmeta_offline.specs.Join.AreJoined.{one, more}
use Rattle.zmeta_offline.specs.Marked.{AreSavedEach}

-- one of the lists has the fact
abbrev pub IsAmong : List (List Fact) → Fact → Type 0
IsAmong theirs f = (facts : List Fact) × Contains theirs facts × Contains facts f

pub among_cons : (facts : List Fact) (theirs : List (List Fact)) (f : Fact)
    → IsAmong (facts ∷ theirs) f ↔ (Contains facts f ⊎ IsAmong theirs f)
among_cons facts theirs f = (
  λ a. ⊎_elim (λ same. inl (subst (λ (l : List Fact). Contains l f) (sym same) a.2))
      (λ later. inr (a.0, later, a.2)) (in_cons facts theirs a.0 a.1),
  ⊎_elim (λ here. (facts, in_head facts theirs, here))
      (λ a. (a.0, in_tail facts theirs a.0 a.1, a.2)),
)

module _ (octets : List ℕ → Option (List ℕ)) (names : List (List ℕ)) where
  -- the files at the paths together have facts, and these are the members
  abbrev pub JoinedAs : List (List ℕ) → (Fact → Type 0) → Type 0
  JoinedAs paths members = (all : List Fact) × AreJoined octets names paths all × AreFacts all
      × AllByRecursion (IsWithinLimits saved_fact) all × ((f : Fact) → Contains all f ↔ members f)

  -- so it is with files behind files that together have facts
  joined_on : (before : List (List ℕ)) (mine : List Fact) → AreJoined octets names before mine → AreFacts mine
      → DoFit mine → (paths : List (List ℕ)) (theirs : List (List Fact)) → AreSavedEach octets names paths theirs
      → JoinedAs (before ++ paths) (λ f. Contains mine f ⊎ IsAmong theirs f)
  joined_on before mine joined of_mine fits [] [] saved = (
    mine,
    subst (λ (l : List (List ℕ)). AreJoined octets names l mine) (sym (append-nil before)) joined,
    of_mine,
    all_from fact_cmp (IsWithinLimits saved_fact) mine fits,
    λ f. (inl, ⊎_elim (λ h. h) (λ a. absurd (none_in_nil a.0 a.1))),
  )
  joined_on before mine joined of_mine fits [] (facts ∷ theirs) saved = absurd saved
  joined_on before mine joined of_mine fits (path ∷ paths) [] saved = absurd saved
  joined_on before mine joined of_mine fits (path ∷ paths) (facts ∷ theirs) saved =
      let fits_facts : DoFit facts = λ f here. each_in (IsWithinLimits saved_fact) facts saved.2 f here in
      let both : Joined mine facts = union_of mine facts of_mine saved.1 (fits_agree mine facts fits fits_facts) in
      let fits_both : DoFit both.0 = λ f here. ⊎_elim (fits f) (fits_facts f) ((both.2 f).0 here) in
      let one_more : AreJoined octets names (before ++ path ∷ []) both.0 =
      more path mine facts joined saved.0 both.1 both.2 in
      let all : JoinedAs ((before ++ path ∷ []) ++ paths) (λ f. Contains both.0 f ⊎ IsAmong theirs f) =
      joined_on (before ++ path ∷ []) both.0 one_more both.1 fits_both paths theirs saved.3 in (
        all.0,
        subst (λ (l : List (List ℕ)). AreJoined octets names l all.0) (append_assoc before (path ∷ []) paths) all.1,
        all.2,
        all.3,
        λ f. (
          λ h. ⊎_elim
              (λ old. ⊎_elim inl (λ here. inr ((among_cons facts theirs f).1 (inl here))) ((both.2 f).0 old))
              (λ a. inr ((among_cons facts theirs f).1 (inr a))) ((all.4 f).0 h),
          ⊎_elim (λ here. (all.4 f).1 (inl ((both.2 f).1 (inl here))))
              (λ a. ⊎_elim (λ here. (all.4 f).1 (inl ((both.2 f).1 (inr here))))
              (λ later. (all.4 f).1 (inr later)) ((among_cons facts theirs f).0 a)),
        ),
      )

  pub joined_each : (path : List ℕ) (paths : List (List ℕ)) (theirs : List (List Fact))
      → AreSavedEach octets names (path ∷ paths) theirs → JoinedAs (path ∷ paths) (IsAmong theirs)
  joined_each path paths [] saved = absurd saved
  joined_each path paths (facts ∷ theirs) saved =
      let fits : DoFit facts = λ f here. each_in (IsWithinLimits saved_fact) facts saved.2 f here in
      let all : JoinedAs (path ∷ paths) (λ f. Contains facts f ⊎ IsAmong theirs f) =
      joined_on (path ∷ []) facts (one path saved.0) saved.1 fits paths theirs saved.3 in (
        all.0,
        all.1,
        all.2,
        all.3,
        λ f. (
          λ h. (among_cons facts theirs f).1 ((all.4 f).0 h),
          λ a. (all.4 f).1 ((among_cons facts theirs f).0 a),
        ),
      )
