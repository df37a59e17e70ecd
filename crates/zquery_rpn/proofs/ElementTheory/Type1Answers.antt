-- What the readers of type-1 queries return.
use Rattle.std.proofs.Common.{◌≡◌, List, map, Option, Some, None, Result, Ok, Err, Bool, true, false, cond, IfOk, refl, sym, ap, subst}
use Rattle.std.specs.Prelude.{◌||◌}
use Rattle.zber.specs.AsnTags.{AsnTag, context}
use Rattle.zber.specs.Elements.{Element, cons, forest, tag_of}
use Rattle.zber.specs.Tags.{same_tag}
use Rattle.zber.proofs.Runs.{elements-forest}
use Rattle.zasn_tables.proofs.Readings.{or_left, same_tag-true}
use Rattle.zasn.specs.declared.error.PartError.{PartError}
use Rattle.zquery_rpn.specs.declared.query.Rpn.{Rpn}
use Rattle.zquery_rpn.specs.Trees.{RpnQuery}
use Rattle.zquery_rpn.specs.Element.Type1.{WritesQuery, IsQueryOfElement}
use Rattle.zquery_rpn.specs.Element.Type1Reading.{joined_tree_of, tree_of, tree_and_element, element_query, query_at, IsTreeResult}
use Rattle.zquery_rpn.proofs.ElementTheory.Type1Finding.{trees-elements, finds_query, reads_query, begins_query}
use Rattle.zquery_rpn.proofs.ElementTheory.Type1Making.{one_query}

-- an element with the tag of two structures and an operator is read as the elements within
pub joined_means : (e : Element) (t : AsnTag) (es xs : List Element) (r : Result Rpn PartError) → e ≡ cons t es → xs ≡ es → same_tag (tag_of e) (context 1) ≡ true
    → IsTreeResult (joined_tree_of (map tree_and_element xs)) r → IsTreeResult (tree_of e) r
joined_means e t es xs r is same tag h =
    let named : t ≡ context 1 = same_tag-true t (context 1) (subst (λ (x : Element). same_tag (tag_of x) (context 1) ≡ true) is tag) in
    let inside : IsTreeResult (joined_tree_of (map tree_and_element es)) r = subst (λ (ys : List Element). IsTreeResult (joined_tree_of (map tree_and_element ys)) r) same h in
    rw (is, named, trees-elements (forest es), elements-forest es) inside

-- the query of an element is the query that it stands for
not_there : (b : Bool) → b ≡ false → b || false ≡ true → ⊥
not_there true e f = absurd cc
not_there false e f = absurd cc

query_at_is : (n : Element) → IsQueryOfElement n (query_at n)
query_at_is n = by_tag (same_tag (tag_of n) (context 1)) (element_query n) refl refl
  where
    by_tag : (b : Bool) (o : Option RpnQuery) → same_tag (tag_of n) (context 1) ≡ b → element_query n ≡ o → IsQueryOfElement n (cond b o None)
    by_tag true None is found = λ q h. let f : element_query n ≡ Some q = finds_query q n h in absurd cc
    by_tag true (Some q) is found = reads_query q n (or_left (same_tag (tag_of n) (context 1)) false is) found
    by_tag false o is found = λ q h. not_there (same_tag (tag_of n) (context 1)) is (begins_query q n h)

pub read_is : {E : Type 0} (n : Element) (r : Result (Option RpnQuery) E) → IfOk r (λ o. o ≡ query_at n) → IfOk r (IsQueryOfElement n)
read_is n (Ok o) e = subst (λ (p : Option RpnQuery). IsQueryOfElement n p) (sym e) (query_at_is n)
read_is n (Err e) h = tt

-- reading gives back the query that the element stands for
pub read_back : (q : RpnQuery) (n : Element) (o : Option RpnQuery) → WritesQuery q n → IsQueryOfElement n o → o ≡ Some q
read_back q n None h k = absurd (k q h)
read_back q n (Some r) h k = ap (λ (p : RpnQuery). Some p) (one_query r q n k h)
