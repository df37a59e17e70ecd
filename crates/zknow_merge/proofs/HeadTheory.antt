-- Facts of saved files, and their order.
use Rattle.std.proofs.Common.{◌≡◌, ℕ, ℤ, List, [], ◌∷◌, refl, sym, ap, subst, ◌∙◌, inl, inr, arith}
use Rattle.std.specs.declared.cmp.Ordering.{Ordering}
use Rattle.std.specs.declared.cmp.Ordering.TheVariants.{Less, Equal, Greater}
use Rattle.std.specs.Ordering.{nat_cmp, int_cmp, ordering_then, ordering_reverse}
use Rattle.std.specs.Cmp.Lexicographic.{slice_cmp}
use Rattle.std.proofs.lemmas.Cmp.{tied_itself, nat_list_cmp_total}
use Rattle.std.proofs.lemmas.Map.Lookups.{exact_bytes, exact_unsigned, exact_signed}
use Rattle.zber.specs.Elements.{Element, Primitive, Constructed, elements}
use Rattle.zasn_tables.specs.Place.{IsSpellable}
use Rattle.zapdu.specs.declared.productions.diagnostic.DiagRec.{DiagRec}
use Rattle.zapdu.specs.Productions.Records.{whole_record}
use Rattle.zapdu.specs.Productions.Diagnostics.{diag_rec}
use Rattle.zknow.specs.declared.fact.Fact.{Fact}
use Rattle.zknow.specs.declared.fact.Fact.TheVariants.{Count, Failed, Seen, Diag}
use Rattle.zknow.specs.Facts.{fact_cmp, fact_kind, fact_target, fact_set, fact_number, encoded_octets}
use Rattle.zknow.specs.FactLaws.{fact_total}
use Rattle.zknow.specs.Saved.SavedFacts.{saved_fact, diag_parts}
use Rattle.zknow.specs.Tables.DistinctLaws.{less_itself}
use Rattle.zknow.proofs.OneEncoding.{one_encoding}
use Rattle.zknow.proofs.SavedTheory.LoadSteps.{said_is_fact}
use Rattle.zknow_merge.specs.declared.head.Head.{Head}
use Rattle.zknow_merge.specs.Heads.{IsSpellableFact, IsSavable, IsKeyOf, head_key_cmp}
use Rattle.zknow_merge.specs.Sources.{IsAtMost}

-- ---- what an element says has a spellable record or diagnostic

fourth : (t s : _) (p : ℤ) (d : DiagRec) (ns : List Element) → diag_parts.writes (record { target = t; set = s; place = p; diag = d }) ns → IsSpellable diag_rec d
unfolding diag_parts
fourth t s p d [] h = absurd h
fourth t s p d (a ∷ []) h = absurd h.1
fourth t s p d (a ∷ b ∷ []) h = absurd h.1.1
fourth t s p d (a ∷ b ∷ c ∷ []) h = absurd h.1.1.1
fourth t s p d (a ∷ b ∷ c ∷ e ∷ ns) h = (e, h.1.1.1.0)

pub said_is_spellable : (f : Fact) (n : Element) → saved_fact.writes f n → IsSpellableFact f
said_is_spellable (Count t s n) m h = tt
said_is_spellable (Failed t s) m h = tt
said_is_spellable (Seen t s p r) m h = (said_is_fact (Seen t s p r) m h).1
said_is_spellable (Diag t s p d) (Primitive name xs) h = absurd h.0
said_is_spellable (Diag t s p d) (Constructed name inside) h = fourth _ _ p d (elements inside) h.0.1

-- ---- ties

both_equal : (a b : Ordering) → ordering_then a b ≡ Equal → (a ≡ Equal) × (b ≡ Equal)
both_equal Less b e = absurd cc
both_equal Equal b e = (refl, e)
both_equal Greater b e = absurd cc

pub record SameKeys (f g : Fact) : Type 0 where
  pub kind : fact_kind f ≡ fact_kind g
  pub target : fact_target f ≡ fact_target g
  pub set : fact_set f ≡ fact_set g
  pub number : fact_number f ≡ fact_number g
  pub octets : encoded_octets f ≡ encoded_octets g

same_keys : (f g : Fact) → fact_cmp f g ≡ Equal → SameKeys f g
unfolding fact_cmp
same_keys f g tied =
    let a = both_equal (nat_cmp (fact_kind f) (fact_kind g)) _ tied in
    let b = both_equal (nat_cmp (fact_target f) (fact_target g)) _ a.1 in
    let c = both_equal (nat_cmp (fact_set f) (fact_set g)) _ b.1 in
    let d = both_equal (int_cmp (fact_number f) (fact_number g)) _ c.1 in
    record {
      kind = exact_unsigned _ _ a.0;
      target = exact_unsigned _ _ b.0;
      set = exact_unsigned _ _ c.0;
      number = exact_signed _ _ d.0;
      octets = exact_bytes _ _ d.1;
    }

-- the encodings are the same, so they tie
tie : (xs ys : List ℕ) → xs ≡ ys → slice_cmp nat_cmp xs ys ≡ Equal
tie xs ys same = subst (λ (l : List ℕ). slice_cmp nat_cmp xs l ≡ Equal) same (tied_itself nat_list_cmp_total xs)

pub tied_facts : (f g : Fact) → IsSavable f → IsSavable g → fact_cmp f g ≡ Equal → f ≡ g
tied_facts (Count t s n) (Count t' s' n') of_f of_g tied =
    let k = same_keys (Count t s n) (Count t' s' n') tied in
    let a = k.target in
    let b = k.set in
    let c = k.number in
    (cc)
tied_facts (Failed t s) (Failed t' s') of_f of_g tied =
    let k = same_keys (Failed t s) (Failed t' s') tied in
    let a = k.target in
    let b = k.set in
    (cc)
tied_facts (Seen t s p r) (Seen t' s' p' r') of_f of_g tied =
    let k = same_keys (Seen t s p r) (Seen t' s' p' r') tied in
    let a = k.target in
    let b = k.set in
    let c = k.number in
    let d = one_encoding whole_record r r' of_f.spellable of_g.spellable of_f.lawful of_g.lawful (tie _ _ k.octets) in
    (cc)
tied_facts (Diag t s p d) (Diag t' s' p' d') of_f of_g tied =
    let k = same_keys (Diag t s p d) (Diag t' s' p' d') tied in
    let a = k.target in
    let b = k.set in
    let c = k.number in
    let e = one_encoding diag_rec d d' of_f.spellable of_g.spellable of_f.lawful of_g.lawful (tie _ _ k.octets) in
    (cc)
tied_facts (Count t s n) (Failed t' s') of_f of_g tied = let k = (same_keys (Count t s n) (Failed t' s') tied).kind in absurd (omega arith)
tied_facts (Count t s n) (Seen t' s' p' r') of_f of_g tied = let k = (same_keys (Count t s n) (Seen t' s' p' r') tied).kind in absurd (omega arith)
tied_facts (Count t s n) (Diag t' s' p' d') of_f of_g tied = let k = (same_keys (Count t s n) (Diag t' s' p' d') tied).kind in absurd (omega arith)
tied_facts (Failed t s) (Count t' s' n') of_f of_g tied = let k = (same_keys (Failed t s) (Count t' s' n') tied).kind in absurd (omega arith)
tied_facts (Failed t s) (Seen t' s' p' r') of_f of_g tied = let k = (same_keys (Failed t s) (Seen t' s' p' r') tied).kind in absurd (omega arith)
tied_facts (Failed t s) (Diag t' s' p' d') of_f of_g tied = let k = (same_keys (Failed t s) (Diag t' s' p' d') tied).kind in absurd (omega arith)
tied_facts (Seen t s p r) (Count t' s' n') of_f of_g tied = let k = (same_keys (Seen t s p r) (Count t' s' n') tied).kind in absurd (omega arith)
tied_facts (Seen t s p r) (Failed t' s') of_f of_g tied = let k = (same_keys (Seen t s p r) (Failed t' s') tied).kind in absurd (omega arith)
tied_facts (Seen t s p r) (Diag t' s' p' d') of_f of_g tied = let k = (same_keys (Seen t s p r) (Diag t' s' p' d') tied).kind in absurd (omega arith)
tied_facts (Diag t s p d) (Count t' s' n') of_f of_g tied = let k = (same_keys (Diag t s p d) (Count t' s' n') tied).kind in absurd (omega arith)
tied_facts (Diag t s p d) (Failed t' s') of_f of_g tied = let k = (same_keys (Diag t s p d) (Failed t' s') tied).kind in absurd (omega arith)
tied_facts (Diag t s p d) (Seen t' s' p' r') of_f of_g tied = let k = (same_keys (Diag t s p d) (Seen t' s' p' r') tied).kind in absurd (omega arith)

-- ---- at most

not_less : (f g : Fact) → IsSavable f → IsSavable g → (o : Ordering) → fact_cmp f g ≡ o → (fact_cmp g f ≡ Less → ⊥) → IsAtMost f g
not_less f g of_f of_g Less is never = inl is
not_less f g of_f of_g Equal is never = inr (tied_facts f g of_f of_g is)
not_less f g of_f of_g Greater is never = absurd (never (fact_total.antisymm g f ∙ ap ordering_reverse is))

-- what is not above is at most
pub at_most : (f g : Fact) → IsSavable f → IsSavable g → (fact_cmp g f ≡ Less → ⊥) → IsAtMost f g
at_most f g of_f of_g never = not_less f g of_f of_g (fact_cmp f g) refl never

pub at_most_trans : (f g h : Fact) → IsAtMost f g → IsAtMost g h → IsAtMost f h
at_most_trans f g h (inl a) (inl b) = inl (fact_total.trans f g h a b)
at_most_trans f g h (inl a) (inr b) = inl (subst (λ (z : Fact). fact_cmp f z ≡ Less) b a)
at_most_trans f g h (inr a) (inl b) = inl (subst (λ (z : Fact). fact_cmp z h ≡ Less) (sym a) b)
at_most_trans f g h (inr a) (inr b) = inr (a ∙ b)

-- what is below is not at most
pub below_at_most : (f g : Fact) → fact_cmp f g ≡ Less → IsAtMost g f → ⊥
below_at_most f g less (inl back) = less_itself fact_cmp fact_total f (fact_total.trans f g f less back)
below_at_most f g less (inr same) = less_itself fact_cmp fact_total f (subst (λ (z : Fact). fact_cmp f z ≡ Less) same less)

pub not_both : (f g : Fact) → fact_cmp f g ≡ Less → fact_cmp g f ≡ Less → ⊥
not_both f g less back = less_itself fact_cmp fact_total f (fact_total.trans f g f less back)

-- ---- the order of heads

then_assoc : (a b c : Ordering) → ordering_then (ordering_then a b) c ≡ ordering_then a (ordering_then b c)
then_assoc Less b c = refl
then_assoc Equal b c = refl
then_assoc Greater b c = refl

pub head_order : (h k : Head) (f g : Fact) → IsKeyOf h f → IsKeyOf k g → ordering_then (head_key_cmp h k) (slice_cmp nat_cmp h.octets.items k.octets.items) ≡ fact_cmp f g
unfolding fact_cmp
head_order h k f g of_h of_k = rw (of_h.kind, of_h.target, of_h.set, of_h.number, of_h.octets, of_k.kind, of_k.target, of_k.set, of_k.number, of_k.octets) (
    let kinds = nat_cmp (fact_kind f) (fact_kind g) in
    let targets = nat_cmp (fact_target f) (fact_target g) in
    let sets = nat_cmp (fact_set f) (fact_set g) in
    let numbers = int_cmp (fact_number f) (fact_number g) in
    let octets = slice_cmp nat_cmp (encoded_octets f) (encoded_octets g) in
    then_assoc kinds (ordering_then targets (ordering_then sets numbers)) octets
    ∙ ap (λ (o : Ordering). ordering_then kinds o) (then_assoc targets (ordering_then sets numbers) octets)
    ∙ ap (λ (o : Ordering). ordering_then kinds (ordering_then targets o)) (then_assoc sets numbers octets))
