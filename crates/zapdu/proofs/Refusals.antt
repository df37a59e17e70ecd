-- An element has one error, with one place.
use Rattle.std.proofs.Common.{◌≡◌, ℕ, inl, inr, List, Some, subst}
use Rattle.std.proofs.lemmas.Bool.{cases_order}
use Rattle.zber.specs.AsnTags.{AsnTag}
use Rattle.zber.specs.Elements.{Element, Primitive, Constructed, elements}
use Rattle.zapdu.specs.declared.apdu.Apdu.{Apdu}
use Rattle.zapdu.specs.declared.apdu.Kind.{Kind}
use Rattle.zapdu.specs.Writes.{kind_of, tag_of_kind, Writes, kind_at, IsLargestFront, HasLargestFront, IsNoApdu, OneRefusal}
use Rattle.zapdu.proofs.ApduKinds.{kind_at-tag_of_kind}

written : (v : Apdu) (n : Element) → Writes v n → IsNoApdu n → ⊥
written v (Primitive t xs) h g = h
written v (Constructed t f) h g = g (kind_of v) h.0

known : (kind : Kind) (at : ℕ) (n : Element) → IsNoApdu n → HasLargestFront kind at n → ⊥
known kind at (Primitive t xs) g h = h
known kind at (Constructed t f) g h = g kind h.0

one_kind : (j k : Kind) (t : AsnTag) → t ≡ tag_of_kind j → t ≡ tag_of_kind k → j ≡ k
one_kind j k t e f =
    let first : kind_at t ≡ Some j = rw e (kind_at-tag_of_kind j) in
    let second : kind_at t ≡ Some k = rw f (kind_at-tag_of_kind k) in
    cc

one_misfit : (k : Kind) (ns : List Element) (a b : ℕ) → IsLargestFront k ns a → IsLargestFront k ns b → a ≡ b
one_misfit k ns a b f g = elim (cases_order a b) [
  | inl e ↦ e
  | inr o ↦ (elim o [
    | inl l ↦ absurd (f.largest b l g.within g.begins)
    | inr l ↦ absurd (g.largest a l f.within f.begins)
  ])
]

one_place : (j k : Kind) (a b : ℕ) (n : Element) → HasLargestFront j a n → HasLargestFront k b n → (j ≡ k) × (a ≡ b)
one_place j k a b (Primitive t xs) f g = absurd f
one_place j k a b (Constructed t h) f g =
    let same : j ≡ k = one_kind j k t f.0 g.0 in
    (same, one_misfit k (elements h) a b (subst (λ (i : Kind). IsLargestFront i (elements h) a) same f.1) g.1)

pub one_refusal : OneRefusal
one_refusal = record { written = written; known = known; one_place = one_place }
