-- The facts about chosen catalogues, one after the other.
use Rattle.std.proofs.Common.{◌≡◌, ◌∙◌, ◌↔◌, sym, ap, subst, ℕ, ◌+◌, ◌<◌, Bool, true, false, List, [], ◌∷◌, ◌++◌, length, take, get_or, Contains, ◌⊎◌, inl, inr}
use Rattle.std.proofs.lemmas.List.{take_more}
use Rattle.std.proofs.lemmas.List.Elements.{Contains-append_left, Contains-push, Contains-push_cases}
use Rattle.zknow.specs.declared.fact.Fact.{Fact}
use Rattle.zknow.specs.Tables.Join.{IsUnion}

-- of the first i facts, exactly those for which p holds
pub record ArePicked (p : Fact → Bool) (facts : List Fact) (i : ℕ) (chosen : List Fact) : Type 0 where
  pub members : (f : Fact) → Contains chosen f ↔ (Contains (take i facts) f × (p f ≡ true))

module _ (p : Fact → Bool) (facts : List Fact) (i : ℕ) (x : Fact) (lt : i < length facts) (at : x ≡ get_or facts i x) where
  more : take (i + 1) facts ≡ take i facts ++ x ∷ []
  more = take_more facts i x lt ∙ ap (λ z. take i facts ++ z ∷ []) (sym at)

  before : (f : Fact) → Contains (take i facts) f → Contains (take (i + 1) facts) f
  before f h = subst (λ z. Contains z f) (sym more) (Contains-append_left (take i facts) (x ∷ []) f h)

  last : (f : Fact) → f ≡ x → Contains (take (i + 1) facts) f
  last f e = subst (λ z. Contains (take (i + 1) facts) z) (sym e) (subst (λ z. Contains z x) (sym more) (Contains-push (take i facts) x))

  cases : (f : Fact) → Contains (take (i + 1) facts) f → Contains (take i facts) f ⊎ (x ≡ f)
  cases f h = Contains-push_cases (take i facts) x f (subst (λ z. Contains z f) more h)

  pub picked : (old new : List Fact) → p x ≡ true → ArePicked p facts i old → IsUnion (Contains old) (λ f. f ≡ x) (Contains new)
      → ArePicked p facts (i + 1) new
  picked old new is so union = record {
    members = λ f. (
      (λ h. elim ((union f).0 h) [
        | inl o ↦ (let w = (so.members f).0 o in (before f w.0, w.1))
        | inr e ↦ (last f e, subst (λ z. p z ≡ true) (sym e) is)
      ]),
      (λ h. elim (cases f h.0) [
        | inl o ↦ (union f).1 (inl ((so.members f).1 (o, h.1)))
        | inr e ↦ (union f).1 (inr (sym e))
      ]),
    );
  }

  pub passed : (old : List Fact) → p x ≡ false → ArePicked p facts i old → ArePicked p facts (i + 1) old
  passed old other so = record {
    members = λ f. (
      (λ h. let w = (so.members f).0 h in (before f w.0, w.1)),
      (λ h. elim (cases f h.0) [
        | inl o ↦ (so.members f).1 (o, h.1)
        | inr e ↦ absurd (Prim.cc (sym (subst (λ z. p z ≡ false) e other) ∙ h.1))
      ]),
    );
  }
