-- Places in order with the same members are the same list.
use Rattle.std.proofs.Common.{◌≡◌, refl, sym, ◌∙◌, ap, subst, inl, inr, ℕ, zero, suc, ◌<◌, List, [], ◌∷◌, length, Bool, ◌&&◌, nat_eq, arith}
use Rattle.std.proofs.lemmas.Cmp.{on_total, then_total, nat_cmp_total}
use Rattle.std.proofs.lemmas.Map.Lookups.{exact_pairs, exact_unsigned}
use Rattle.std.specs.declared.cmp.Ordering.{Ordering}
use Rattle.std.specs.declared.cmp.Ordering.TheVariants.{Less, Equal, Greater}
use Rattle.std.specs.Cmp.{IsTotalOrder, unsigned_ties}
use Rattle.std.specs.List.{AllByRecursion, Contains}
use Rattle.std.specs.List.Sorted.{IsStrictlySortedBy}
use Rattle.std.specs.Ordering.{nat_cmp, ordering_then, is_eq, eq_by_cmp, ordering_reverse}
use Rattle.std.specs.Prelude.{slice_index_or}
use Rattle.zplan.specs.Positions.{IsIn}
use Rattle.ztarget.specs.declared.index.Place.{Place}
use Rattle.ztarget.specs.Phrasing.{place_cmp}

pub place_total : IsTotalOrder place_cmp
place_total = then_total (on_total (λ p. p.entry) nat_cmp_total) (then_total (on_total (λ p. p.field) nat_cmp_total) (on_total (λ p. p.word) nat_cmp_total))

pub place_exact : (a b : Place) → place_cmp a b ≡ Equal → a ≡ b
place_exact a b h = ap (λ (p : ℕ × (ℕ × ℕ)). record { entry = p.0; field = p.1.0; word = p.1.1 })
    (exact_pairs nat_cmp (λ (x y : ℕ × ℕ). ordering_then (nat_cmp x.0 y.0) (nat_cmp x.1 y.1)) exact_unsigned (exact_pairs nat_cmp nat_cmp exact_unsigned exact_unsigned)
    (a.entry, (a.field, a.word)) (b.entry, (b.field, b.word)) h)

eq_then : (o r : Ordering) → (is_eq o && is_eq r) ≡ is_eq (ordering_then o r)
eq_then Less r = refl
eq_then Equal r = refl
eq_then Greater r = refl

abbrev pub place_eq : Place → Place → Bool
place_eq p q = nat_eq p.entry q.entry && (nat_eq p.field q.field && nat_eq p.word q.word)

pub place_ties : (p q : Place) → place_eq p q ≡ eq_by_cmp place_cmp p q
place_ties p q =
    let words = unsigned_ties p.word q.word in
    let fields = unsigned_ties p.field q.field in
    let within = ap (λ b. b && nat_eq p.word q.word) fields ∙ ap (λ b. is_eq (nat_cmp p.field q.field) && b) words ∙ eq_then (nat_cmp p.field q.field) (nat_cmp p.word q.word) in
    ap (λ b. b && (nat_eq p.field q.field && nat_eq p.word q.word)) (unsigned_ties p.entry q.entry)
    ∙ ap (λ b. is_eq (nat_cmp p.entry q.entry) && b) within
    ∙ eq_then (nat_cmp p.entry q.entry) (ordering_then (nat_cmp p.field q.field) (nat_cmp p.word q.word))

from_index : {X : Type 0} (x : X) (ys : List X) (k : ℕ) → k < length ys → slice_index_or ys k x ≡ x → IsIn x ys
from_index x [] k lt is = absurd (omega (arith, lt))
from_index x (y ∷ ys) zero lt is = inl (sym is)
from_index x (y ∷ ys) (suc k) lt is = inr (from_index x ys k (omega (arith, lt)) is)

pub among_from : {X : Type 0} (x : X) (ys : List X) → Contains ys x → IsIn x ys
among_from x ys c = from_index x ys c.0 c.1 c.2

pub contains_from : {X : Type 0} (x : X) (ys : List X) → IsIn x ys → Contains ys x
contains_from x [] h = absurd h
contains_from x (y ∷ ys) (inl e) = (0, omega arith, sym e)
contains_from x (y ∷ ys) (inr h) = let c = contains_from x ys h in (suc c.0, omega (arith, c.1), c.2)

all_among : (P : Place → Type 0) (p : Place) (ps : List Place) → AllByRecursion P ps → IsIn p ps → P p
all_among P p [] all h = absurd h
all_among P p (q ∷ qs) all (inl e) = subst P (sym e) all.0
all_among P p (q ∷ qs) all (inr h) = all_among P p qs all.1 h

-- not below itself
itself : (p : Place) → place_cmp p p ≡ Less → ⊥
itself p h =
    let turned : ordering_reverse (place_cmp p p) ≡ Greater = ap ordering_reverse h in
    let same : Less ≡ Greater = sym h ∙ place_total.antisymm p p ∙ turned in
    absurd (Prim.cc same)

crossed : (p q : Place) → place_cmp p q ≡ Less → place_cmp q p ≡ Less → ⊥
crossed p q h k = itself p (place_total.trans p q p h k)

pub same_members : (ps qs : List Place) → IsStrictlySortedBy place_cmp ps → IsStrictlySortedBy place_cmp qs
    → ((x : Place) → IsIn x ps → IsIn x qs) → ((x : Place) → IsIn x qs → IsIn x ps) → ps ≡ qs
unfolding IsStrictlySortedBy
same_members [] [] is is' to from = refl
same_members [] (q ∷ qs) is is' to from = absurd (from q (inl refl))
same_members (p ∷ ps) [] is is' to from = absurd (to p (inl refl))
same_members (p ∷ ps) (q ∷ qs) is is' to from =
    let first : p ≡ q =
    elim (to p (inl refl)) as (λ _. p ≡ q) [
      | inl e ↦ e
      | inr h ↦ elim (from q (inl refl)) as (λ _. p ≡ q) [
        | inl e ↦ sym e
        | inr k ↦ absurd (crossed p q (all_among (λ y. place_cmp p y ≡ Less) q ps is.0 k) (all_among (λ y. place_cmp q y ≡ Less) p qs is'.0 h))
      ]
    ] in
    let forth : (x : Place) → IsIn x ps → IsIn x qs =
    λ x h. elim (to x (inr h)) as (λ _. IsIn x qs) [
      | inl e ↦ absurd (itself p (subst (λ y. place_cmp p y ≡ Less) (e ∙ sym first) (all_among (λ y. place_cmp p y ≡ Less) x ps is.0 h)))
      | inr k ↦ k
    ] in
    let back : (x : Place) → IsIn x qs → IsIn x ps =
    λ x h. elim (from x (inr h)) as (λ _. IsIn x ps) [
      | inl e ↦ absurd (itself q (subst (λ y. place_cmp q y ≡ Less) (e ∙ first) (all_among (λ y. place_cmp q y ≡ Less) x qs is'.0 h)))
      | inr k ↦ k
    ] in
    ap (λ x. x ∷ ps) first ∙ ap (λ l. q ∷ l) (same_members ps qs is.1 is'.1 forth back)
