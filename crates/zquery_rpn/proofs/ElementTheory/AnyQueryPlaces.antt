-- A type-1 query or another one, as a place of a production.
use Rattle.std.proofs.Common.{◌≡◌, List, [], ◌∷◌, Option, Some, None, Ok, Bool, true, false, cond, refl, sym, subst, inl, inr}
use Rattle.std.specs.Prelude.{◌⊎◌}
use Rattle.zber.specs.AsnTags.{AsnTag, context}
use Rattle.zber.specs.Elements.{Element, Constructed, end, tag_of}
use Rattle.zber.specs.Tags.{same_tag, among}
use Rattle.zasn.specs.Standing.{required, ended}
use Rattle.zasn.specs.Reading.{option_map}
use Rattle.zasn.specs.Within.{value_read}
use Rattle.zasn.specs.Laws.{IsLawfulPlace, IsSpelled}
use Rattle.zasn_tables.proofs.Readings.{either, or_left}
use Rattle.zasn_tables.proofs.Withins.{nested_place, nested_spelled}
use Rattle.zquery_rpn.specs.Trees.{RpnQuery}
use Rattle.zquery_rpn.specs.Element.Type1Reading.{element_query}
use Rattle.zquery_rpn.specs.Element.AnyQueries.{WritesAny, WritesWithin, any_query, the_one, any_query_at, query_within, any_query_spelling, within_spelling}
use Rattle.zquery_rpn.proofs.ElementTheory.Type1Finding.{some_is, finds_query, reads_query, begins_query}
use Rattle.zquery_rpn.proofs.ElementTheory.Type1Making.{makes_query, query_none}

-- the test on one tag finds the tags of type-1 queries
named : (n : Element) → among (tag_of n) (context 1 ∷ []) ≡ true → same_tag (tag_of n) (context 1) ≡ true
named n h = elim (either (same_tag (tag_of n) (context 1)) false h) [ inl same ↦ same | inr other ↦ absurd cc ]

-- ---- one element

any_finds : (v : RpnQuery ⊎ Element) (n : Element) → WritesAny v n → any_query n ≡ Some v
any_finds (inl q) n h = rw (named n (begins_query q n h), finds_query q n h) refl
any_finds (inr m) n h = rw (h.1, h.0) refl

any_reads : (v : RpnQuery ⊎ Element) (n : Element) → any_query n ≡ Some v → WritesAny v n
any_reads v n e = by_tag (same_tag (tag_of n) (context 1)) (element_query n) refl refl e
  where
    by_tag : (b : Bool) (o : Option RpnQuery) → same_tag (tag_of n) (context 1) ≡ b → element_query n ≡ o → cond b (option_map inl o) (Some (inr n)) ≡ Some v → WritesAny v n
    by_tag true None is read e = absurd cc
    by_tag true (Some q) is read e = subst (λ (w : RpnQuery ⊎ Element). WritesAny w n) (some_is (inl q) v (Some (inl q)) refl e) (reads_query q n (or_left (same_tag (tag_of n) (context 1)) false is) read)
    by_tag false o is read e = subst (λ (w : RpnQuery ⊎ Element). WritesAny w n) (some_is (inr n) v (Some (inr n)) refl e) (refl, is)

any_makes : (v : RpnQuery ⊎ Element) (n : Element) → any_query_spelling v ≡ Some n → WritesAny v n
any_makes (inl q) n e = makes_query q n e
any_makes (inr m) n e = by_tag (same_tag (tag_of m) (context 1)) refl e
  where
    by_tag : (b : Bool) → same_tag (tag_of m) (context 1) ≡ b → cond b None (Some m) ≡ Some n → WritesAny (inr m) n
    by_tag true is e = absurd cc
    by_tag false is e = let same : m ≡ n = some_is m n (Some m) refl e in (sym same, subst (λ (k : Element). same_tag (tag_of k) (context 1) ≡ false) same is)

any_none : (v : RpnQuery ⊎ Element) → any_query_spelling v ≡ None → (n : Element) → WritesAny v n → ⊥
any_none (inl q) e n h = query_none q e n h
any_none (inr m) e n h = let is : same_tag (tag_of m) (context 1) ≡ false = subst (λ (k : Element). same_tag (tag_of k) (context 1) ≡ false) h.0 h.1 in no_other (same_tag (tag_of m) (context 1)) is e
  where
    no_other : (b : Bool) → b ≡ false → cond b None (Some m) ≡ None → ⊥
    no_other true is e = absurd cc
    no_other false is e = absurd cc

-- ---- alone

abbrev IsAlone : RpnQuery ⊎ Element → List Element → Type 0
IsAlone v ns = required WritesAny v ended ns

one_reads : (v : RpnQuery ⊎ Element) (n : Element) (o : Option (RpnQuery ⊎ Element)) → any_query n ≡ o → the_one o n ≡ Ok v → WritesAny v n
one_reads v n None is e = absurd cc
one_reads v n (Some w) is e = let same : w ≡ v = cc in any_reads v n (rw (← same) is)

alone_reads : (ns : List Element) (v : RpnQuery ⊎ Element) → any_query_at ns ≡ Ok v → IsAlone v ns
alone_reads [] v e = absurd cc
alone_reads (n ∷ []) v e = (one_reads v n (any_query n) refl e, tt)
alone_reads (n ∷ m ∷ ns) v e = absurd cc

alone_finds : (ns : List Element) (v : RpnQuery ⊎ Element) → IsAlone v ns → any_query_at ns ≡ Ok v
alone_finds [] v h = absurd h
alone_finds (n ∷ []) v h = rw (any_finds v n h.0) refl
alone_finds (n ∷ m ∷ ns) v h = absurd h.1

abbrev made : RpnQuery ⊎ Element → Option (List Element)
made v = option_map (λ n. n ∷ []) (any_query_spelling v)

one_makes : (v : RpnQuery ⊎ Element) (ns : List Element) (o : Option Element) → any_query_spelling v ≡ o → option_map (λ n. n ∷ []) o ≡ Some ns → IsAlone v ns
one_makes v ns None is e = absurd cc
one_makes v ns (Some n) is e = subst (λ (ms : List Element). IsAlone v ms) (some_is (n ∷ []) ns (Some (n ∷ [])) refl e) (any_makes v n is, tt)

one_none : (v : RpnQuery ⊎ Element) (o : Option Element) → any_query_spelling v ≡ o → option_map (λ n. n ∷ []) o ≡ None → (ns : List Element) → IsAlone v ns → ⊥
one_none v o is e [] h = h
one_none v None is e (n ∷ ns) h = any_none v is n h.0
one_none v (Some m) is e (n ∷ ns) h = absurd cc

alone_makes : (v : RpnQuery ⊎ Element) (ns : List Element) → made v ≡ Some ns → IsAlone v ns
alone_makes v ns e = one_makes v ns (any_query_spelling v) refl e

alone_none : (v : RpnQuery ⊎ Element) → made v ≡ None → (ns : List Element) → IsAlone v ns → ⊥
alone_none v e ns h = one_none v (any_query_spelling v) refl e ns h

-- one element alone has the query of this element
found_one : (n : Element) (o : Option (RpnQuery ⊎ Element)) → value_read (the_one o n) ≡ o
found_one n (Some v) = refl
found_one n None = refl

pub alone_says : (n : Element) → value_read (any_query_at (n ∷ [])) ≡ any_query n
alone_says n = found_one n (any_query n)

-- ---- the place

abbrev other : Element
other = Constructed (context 0) end

pub any_query_place : (tag : AsnTag) → IsLawfulPlace (WritesWithin tag) (tag ∷ []) query_within
any_query_place tag = nested_place tag IsAlone any_query_at made alone_reads alone_finds alone_makes alone_none (inr other) (other ∷ []) ((refl, refl), tt)

pub any_query_spelled : (tag : AsnTag) → IsSpelled (WritesWithin tag) (within_spelling tag)
any_query_spelled tag = nested_spelled tag IsAlone any_query_at made alone_reads alone_finds alone_makes alone_none
