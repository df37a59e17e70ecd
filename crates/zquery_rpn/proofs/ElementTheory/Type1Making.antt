-- What is spelled stands for the structure or the query, and where nothing is spelled nothing stands for it.
use Rattle.std.proofs.Common.{◌≡◌, List, [], ◌∷◌, Option, Some, None, Result, Ok, Err, refl, sym, subst}
use Rattle.zber.specs.AsnTags.{context, universal}
use Rattle.zber.specs.Elements.{Element, Primitive, Constructed, forest, elements}
use Rattle.zasn.specs.Standing.{sequence}
use Rattle.zasn.specs.Within.{around}
use Rattle.zasn.specs.Laws.{IsLawfulPlace, IsSpelled}
use Rattle.zber.proofs.Runs.{elements-forest}
use Rattle.zasn.specs.declared.error.BuildError.{BuildError}
use Rattle.zasn.specs.declared.error.BuildError.TheVariants.{NotSpellable, Memory}
use Rattle.zasn.specs.Results.{BuildResult, WritingResult}
use Rattle.zasn.specs.Places.{oid}
use Rattle.zquery_rpn.specs.Trees.{Tree, OfTerm, OfSet, OfSetAttrs, Of, OfProx, RpnQuery}
use Rattle.zquery_rpn.specs.Element.Operands.{AttrTerm, ResultSet, ResultAttr}
use Rattle.zquery_rpn.specs.declared.element.operator.Joint.TheVariants.{Logical, ProxOperator}
use Rattle.zquery_rpn.specs.declared.element.operator.Joint.{Joint}
use Rattle.zquery_rpn.specs.Element.Operators.{operator}
use Rattle.zquery_rpn.specs.Element.Type1.{op, WritesTree, WritesQuery}
use Rattle.zquery_rpn.specs.Element.Type1Reading.{of_operand, two, three, element_query, tree_spelling, query_spelling}
use Rattle.zquery_rpn.proofs.ElementTheory.Type1Finding.{some_is, AreJoinedParts, Parts, writes_operand, finds_query, reads_query, begins_query}

-- the element around elements for which P holds
around_makes : (P : List Element → Type 0) (ns : List Element) (n : Element) → P ns → around (context 1) (Some ns) ≡ Some n → sequence (context 1) P n
around_makes P ns n h e =
    let made : Element = Constructed (context 1) (forest ns) in
    subst (λ (m : Element). sequence (context 1) P m) (some_is made n (Some made) refl e) (refl, subst (λ (ms : List Element). P ms) (sym (elements-forest ns)) h)

around_none : (P : List Element → Type 0) → ((ns : List Element) → P ns → ⊥) → (n : Element) → sequence (context 1) P n → ⊥
around_none P none (Primitive t bs) h = h
around_none P none (Constructed t f) h = none (elements f) h.1

-- ---- two structures with an operator

makes_both : (a b : Tree) (o : Joint) (n : Element) (p q r : Option Element) → ((m : Element) → p ≡ Some m → WritesTree a m) → ((m : Element) → q ≡ Some m → WritesTree b m) → ((m : Element) → r ≡ Some m → operator.writes o m)
    → around (context 1) (three p q r) ≡ Some n → sequence (context 1) (AreJoinedParts a b o) n
makes_both a b o n None q r fa fb fo e = absurd cc
makes_both a b o n (Some x) None r fa fb fo e = absurd cc
makes_both a b o n (Some x) (Some y) None fa fb fo e = absurd cc
makes_both a b o n (Some x) (Some y) (Some z) fa fb fo e = around_makes (AreJoinedParts a b o) (x ∷ y ∷ z ∷ []) n (fa x refl, (fb y refl, (fo z refl, tt))) e

unstood : (a b : Tree) (o : Joint) (p q r : Option Element) → (p ≡ None → (m : Element) → WritesTree a m → ⊥) → (q ≡ None → (m : Element) → WritesTree b m → ⊥) → (r ≡ None → (m : Element) → operator.writes o m → ⊥)
    → around (context 1) (three p q r) ≡ None → (ns : List Element) → AreJoinedParts a b o ns → ⊥
unstood a b o p q r fa fb fo e [] h = h
unstood a b o p q r fa fb fo e (x ∷ []) h = h.1
unstood a b o p q r fa fb fo e (x ∷ y ∷ []) h = h.1.1
unstood a b o None q r fa fb fo e (x ∷ y ∷ z ∷ ns) h = fa refl x h.0
unstood a b o (Some l) None r fa fb fo e (x ∷ y ∷ z ∷ ns) h = fb refl y h.1.0
unstood a b o (Some l) (Some m) None fa fb fo e (x ∷ y ∷ z ∷ ns) h = fo refl z h.1.1.0
unstood a b o (Some l) (Some m) (Some k) fa fb fo e (x ∷ y ∷ z ∷ ns) h = absurd cc

pub makes_tree : (q : Tree) (n : Element) → tree_spelling q ≡ Some n → WritesTree q n
makes_tree (OfTerm xs v) n e = op.makes (AttrTerm (xs, v)) n e
makes_tree (OfSet name) n e = op.makes (ResultSet name) n e
makes_tree (OfSetAttrs name xs) n e = op.makes (ResultAttr (name, xs)) n e
makes_tree (Of o a b) n e = makes_both a b (Logical o) n (tree_spelling a) (tree_spelling b) (operator.spelling (Logical o)) (λ m f. makes_tree a m f) (λ m f. makes_tree b m f) (λ m f. operator.makes (Logical o) m f) e
makes_tree (OfProx k a b) n e = makes_both a b (ProxOperator k) n (tree_spelling a) (tree_spelling b) (operator.spelling (ProxOperator k)) (λ m f. makes_tree a m f) (λ m f. makes_tree b m f) (λ m f. operator.makes (ProxOperator k) m f) e

pub tree_none : (q : Tree) → tree_spelling q ≡ None → (n : Element) → WritesTree q n → ⊥
tree_none (OfTerm xs v) e n h = op.none (AttrTerm (xs, v)) e n h
tree_none (OfSet name) e n h = op.none (ResultSet name) e n h
tree_none (OfSetAttrs name xs) e n h = op.none (ResultAttr (name, xs)) e n h
tree_none (Of o a b) e n h =
    around_none (AreJoinedParts a b (Logical o)) (unstood a b (Logical o) (tree_spelling a) (tree_spelling b) (operator.spelling (Logical o)) (λ f m k. tree_none a f m k) (λ f m k. tree_none b f m k) (λ f m k. operator.none (Logical o) f m k) e) n h
tree_none (OfProx i a b) e n h =
    around_none (AreJoinedParts a b (ProxOperator i)) (unstood a b (ProxOperator i) (tree_spelling a) (tree_spelling b) (operator.spelling (ProxOperator i)) (λ f m k. tree_none a f m k) (λ f m k. tree_none b f m k) (λ f m k. operator.none (ProxOperator i) f m k) e) n h

-- ---- queries

query_makes : (q : RpnQuery) (n : Element) (s r : Option Element) → (oid (universal 6)).spelling q.attr_set ≡ s → tree_spelling q.root ≡ r → around (context 1) (two s r) ≡ Some n → WritesQuery q n
query_makes q n None r es er e = absurd cc
query_makes q n (Some x) None es er e = absurd cc
query_makes q n (Some x) (Some y) es er e = around_makes (Parts q) (x ∷ y ∷ []) n ((oid (universal 6)).makes q.attr_set x es, (makes_tree q.root y er, tt)) e

query_unstood : (q : RpnQuery) (s r : Option Element) → (oid (universal 6)).spelling q.attr_set ≡ s → tree_spelling q.root ≡ r → around (context 1) (two s r) ≡ None → (ns : List Element) → Parts q ns → ⊥
query_unstood q s r es er e [] h = h
query_unstood q s r es er e (x ∷ []) h = h.1
query_unstood q None r es er e (x ∷ y ∷ ns) h = (oid (universal 6)).none q.attr_set es x h.0
query_unstood q (Some l) None es er e (x ∷ y ∷ ns) h = tree_none q.root er y h.1.0
query_unstood q (Some l) (Some m) es er e (x ∷ y ∷ ns) h = absurd cc

pub makes_query : (q : RpnQuery) (n : Element) → query_spelling q ≡ Some n → WritesQuery q n
makes_query q n e = query_makes q n ((oid (universal 6)).spelling q.attr_set) (tree_spelling q.root) refl refl e

pub query_none : (q : RpnQuery) → query_spelling q ≡ None → (n : Element) → WritesQuery q n → ⊥
query_none q e n h = around_none (Parts q) (query_unstood q ((oid (universal 6)).spelling q.attr_set) (tree_spelling q.root) refl refl e) n h

-- some element stands for some query
some_query : (q : RpnQuery) × (n : Element) × WritesQuery q n
some_query =
    let s = (oid (universal 6)).some in
    let r = op.some in
    let q : RpnQuery = record { attr_set = s.0; root = of_operand r.0 } in
    let ns : List Element = s.1 ∷ r.1 ∷ [] in
    (q, Constructed (context 1) (forest ns), (refl, subst (λ (ms : List Element). Parts q ms) (sym (elements-forest ns)) (s.2, (writes_operand r.0 r.1 r.2, tt))))

-- type-1 queries at their place in a production
pub query_place : IsLawfulPlace WritesQuery (context 1 ∷ []) element_query
query_place = record { some = some_query; begins = begins_query; reads = reads_query; finds = finds_query }

pub query_spelled : IsSpelled WritesQuery query_spelling
query_spelled = record { makes = makes_query; none = query_none }

-- ---- what callers see

pub one_query : (q r : RpnQuery) (n : Element) → WritesQuery q n → WritesQuery r n → q ≡ r
one_query q r n h k = some_is q r (element_query n) (finds_query q n h) (finds_query r n k)

pub query_written : (q : RpnQuery) (r : Result Element BuildError) → BuildResult (query_spelling q) r → WritingResult (WritesQuery q) r
query_written q (Ok n) h = makes_query q n h
query_written q (Err NotSpellable) h = query_none q h
query_written q (Err Memory) h = tt
