-- Lists that grow, by what is left to be appended.
use Rattle.std.proofs.Common.{◌≡◌, ◌∙◌, sym, ap, refl, subst, List, [], ◌∷◌, ◌++◌, append_assoc, append-nil}
use Rattle.zmeta_catalogues.specs.Mistakes.{AreJoined, HasAdded}

-- some were appended; with those that are left behind them they are all
abbrev pub Growing : {A : Type 0} → (List A → Type 0) → (List A → Type 0) → List A → List A → Type 0
Growing {A} Left All old new =
    (added : List A) × (new ≡ old ++ added) × ((rest : List A) → Left rest → All (added ++ rest))

-- all are left
pub begun : {A : Type 0} (All : List A → Type 0) (old new : List A) → new ≡ old → Growing All All old new
begun All old new same = ([], same ∙ sym (append-nil old), λ rest left. left)

-- all are left, of a list that is gone through
pub begun_at : {X A : Type 0} (Are : X → List A → Type 0) (all left : X) (old new : List A) → all ≡ left → new ≡ old
    → Growing (Are left) (Are all) old new
begun_at Are all left old new is same =
    subst (λ x. Growing (Are x) (Are all) old new) is (begun (Are all) old new same)

-- these were appended
pub grown : {A : Type 0} (Here Next Left All : List A → Type 0) (old mid new : List A)
    → ((front rest : List A) → Here front → Next rest → Left (front ++ rest)) → HasAdded Here mid new
    → Growing Left All old mid → Growing Next All old new
grown Here Next Left All old mid new join h g = (
  g.0 ++ h.0,
  h.1 ∙ ap (λ z. z ++ h.0) g.1 ∙ append_assoc old g.0 h.0,
  λ rest next. subst All (sym (append_assoc g.0 h.0 rest)) (g.2 (h.0 ++ rest) (join h.0 rest h.2 next)),
)

-- none had to be appended
pub passed : {A : Type 0} (Next Left All : List A → Type 0) (old new : List A)
    → ((rest : List A) → Next rest → Left rest) → Growing Left All old new → Growing Next All old new
passed Next Left All old new same g = (g.0, g.1, λ rest next. g.2 rest (same rest next))

-- none are left
pub finished : {A : Type 0} (Left All : List A → Type 0) (old new : List A) → Left [] → Growing Left All old new
    → HasAdded All old new
finished Left All old new none g = (g.0, g.1, subst All (append-nil g.0) (g.2 [] none))

-- ---- a few

-- exactly these
pub exactly : {A : Type 0} (these old new : List A) → new ≡ old ++ these
    → HasAdded (λ (added : List A). added ≡ these) old new
exactly these old new is = (these, is, refl)

-- some, and others behind them
pub both : {A : Type 0} (First Others : List A → Type 0) (old mid new : List A) → HasAdded First old mid
    → HasAdded Others mid new → HasAdded (AreJoined First Others) old new
both First Others old mid new a b = (
  a.0 ++ b.0,
  b.1 ∙ ap (λ z. z ++ b.0) a.1 ∙ append_assoc old a.0 b.0,
  (a.0, b.0, refl, a.2, b.2),
)

-- these, and others behind them
pub join_two : {A : Type 0} (old mid new a b : List A) → mid ≡ old ++ a → new ≡ mid ++ b → new ≡ old ++ (a ++ b)
join_two old mid new a b first others = others ∙ ap (λ z. z ++ b) first ∙ append_assoc old a b

-- all that were appended to none
pub all_added : {A : Type 0} (Are : List A → Type 0) (old new : List A) → old ≡ [] → HasAdded Are old new → Are new
all_added Are old new none h = subst Are (sym (h.1 ∙ ap (λ z. z ++ h.0) none)) h.2
