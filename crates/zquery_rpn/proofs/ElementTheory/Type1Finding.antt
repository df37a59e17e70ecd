-- An element that stands for a structure or a query is read as it, and no other is.
use Rattle.std.proofs.Common.{◌≡◌, ℕ, List, [], ◌∷◌, map, Option, Some, None, Bool, true, false, cond, refl, sym, ap, subst, ◌∙◌}
use Rattle.zber.specs.AsnTags.{AsnTag, context, universal}
use Rattle.zber.specs.Elements.{Forest, end, leaf, branch, Element, Primitive, Constructed, elements, tag_of}
use Rattle.zber.specs.Tags.{same_tag, among}
use Rattle.zasn.specs.Standing.{required, ended, sequence}
use Rattle.zasn.specs.Reading.{option_map}
use Rattle.zasn.specs.Place.{Place}
use Rattle.zasn.specs.Within.{whole_of}
use Rattle.zasn_tables.proofs.Readings.{same_tag-true, or_left, one_tag}
use Rattle.zasn.specs.Places.{oid}
use Rattle.zquery_rpn.specs.Trees.{Tree, OfTerm, OfSet, OfSetAttrs, Of, OfProx, RpnQuery}
use Rattle.zquery_rpn.specs.Element.Operands.{Operand, AttrTerm, ResultSet, ResultAttr}
use Rattle.zquery_rpn.specs.declared.element.operator.Joint.TheVariants.{Logical, ProxOperator}
use Rattle.zquery_rpn.specs.declared.element.operator.Joint.{Joint}
use Rattle.zquery_rpn.specs.Element.Operators.{operator}
use Rattle.zquery_rpn.specs.Element.Type1.{first_and_rest, op, WritesTree, WritesQuery}
use Rattle.zquery_rpn.specs.Element.Type1Reading.{of_operand, of_joint, joined_tree, joined_tree_of, tree_in, trees, tree_of, tree_and_element, query_from, query_in, element_query}

pub some_is : {A : Type 0} (x y : A) (o : Option A) → o ≡ Some x → o ≡ Some y → x ≡ y
some_is x y o e f = let g : Some x ≡ Some y = sym e ∙ f in cc

-- two structures and an operator
abbrev pub AreJoinedParts : Tree → Tree → Joint → List Element → Type 0
AreJoinedParts a b o ns = first_and_rest (WritesTree a) (first_and_rest (WritesTree b) (required operator.writes o ended)) ns

-- ---- an element with a place's tags, read whole

pub whole_finds : {A : Type 0} (p : Place A) (x : A) (n : Element) → p.writes x n → whole_of p n ≡ Some x
whole_finds p x n h = rw (p.begins x n h, p.finds x n h) refl

pub whole_reads : {A : Type 0} (p : Place A) (x : A) (n : Element) → whole_of p n ≡ Some x → p.writes x n
whole_reads p x n e = by_test (among (tag_of n) p.tags) refl e
  where
    by_test : (b : Bool) → among (tag_of n) p.tags ≡ b → cond b (p.meaning n) None ≡ Some x → p.writes x n
    by_test true is e = p.reads x n is e
    by_test false is e = absurd cc

-- ---- elements beside the structures that they say

pub trees-elements : (f : Forest) → trees f ≡ map tree_and_element (elements f)
trees-elements end = refl
trees-elements (leaf t bs rest) = ap (λ (xs : List (Option Tree × Element)). (None, Primitive t bs) ∷ xs) (trees-elements rest)
trees-elements (branch t f rest) = ap (λ (xs : List (Option Tree × Element)). (tree_in t f (trees f), Constructed t f) ∷ xs) (trees-elements rest)

-- ---- what stands is found

finds_operand : (o : Operand) (n : Element) → op.writes o n → tree_of n ≡ Some (of_operand o)
finds_operand o (Primitive t bs) h = absurd h
finds_operand o (Constructed t f) h = rw (h.0, op.finds o (Constructed t f) h) refl

finds_both : (a b : Tree) (o : Joint) (ns : List Element) → ((n : Element) → WritesTree a n → tree_of n ≡ Some a) → ((n : Element) → WritesTree b n → tree_of n ≡ Some b) → AreJoinedParts a b o ns → joined_tree_of (map tree_and_element ns) ≡ Some (of_joint o a b)
finds_both a b o [] fa fb h = absurd h
finds_both a b o (x ∷ []) fa fb h = absurd h.1
finds_both a b o (x ∷ y ∷ []) fa fb h = absurd h.1.1
finds_both a b o (x ∷ y ∷ z ∷ []) fa fb h = rw (fa x h.0, fb y h.1.0, whole_finds operator o z h.1.1.0) refl
finds_both a b o (x ∷ y ∷ z ∷ w ∷ ws) fa fb h = absurd h.1.1.1

finds_joined : (a b : Tree) (o : Joint) (n : Element) → ((n : Element) → WritesTree a n → tree_of n ≡ Some a) → ((n : Element) → WritesTree b n → tree_of n ≡ Some b) → sequence (context 1) (AreJoinedParts a b o) n → tree_of n ≡ Some (of_joint o a b)
finds_joined a b o (Primitive t bs) fa fb h = absurd h
finds_joined a b o (Constructed t f) fa fb h = rw (h.0, trees-elements f) (finds_both a b o (elements f) fa fb h.1)

pub finds_tree : (q : Tree) (n : Element) → WritesTree q n → tree_of n ≡ Some q
finds_tree (OfTerm xs v) n h = finds_operand (AttrTerm (xs, v)) n h
finds_tree (OfSet name) n h = finds_operand (ResultSet name) n h
finds_tree (OfSetAttrs name xs) n h = finds_operand (ResultAttr (name, xs)) n h
finds_tree (Of o a b) n h = finds_joined a b (Logical o) n (λ m k. finds_tree a m k) (λ m k. finds_tree b m k) h
finds_tree (OfProx e a b) n h = finds_joined a b (ProxOperator e) n (λ m k. finds_tree a m k) (λ m k. finds_tree b m k) h

-- ---- what is found stands

pub writes_operand : (o : Operand) (n : Element) → op.writes o n → WritesTree (of_operand o) n
writes_operand (AttrTerm p) n h = h
writes_operand (ResultSet name) n h = h
writes_operand (ResultAttr p) n h = h

pub writes_joint : (o : Joint) (a b : Tree) (n : Element) → sequence (context 1) (AreJoinedParts a b o) n → WritesTree (of_joint o a b) n
writes_joint (Logical o) a b n h = h
writes_joint (ProxOperator m) a b n h = h

abbrev AreReadElements : List Element → Type 0
AreReadElements [] = Unit {0}
AreReadElements (n ∷ ns) = ((q : Tree) → tree_of n ≡ Some q → WritesTree q n) × AreReadElements ns

reads_operand : (q : Tree) (n : Element) (o : Option Operand) → among (tag_of n) op.tags ≡ true → op.meaning n ≡ o → option_map of_operand o ≡ Some q → WritesTree q n
reads_operand q n None there e f = absurd cc
reads_operand q n (Some o) there e f = subst (λ (p : Tree). WritesTree p n) (some_is (of_operand o) q (Some (of_operand o)) refl f) (writes_operand o n (op.reads o n there e))

-- the elements of some two structures with an operator, which make this one
record AreTreeParts (q : Tree) (ns : List Element) : Type 0 where
  left : Tree
  right : Tree
  joint : Joint
  is : of_joint joint left right ≡ q
  both : AreJoinedParts left right joint ns

reads_options : (q : Tree) (x y z : Element) (a b : Option Tree) (o : Option Joint) → AreReadElements (x ∷ y ∷ z ∷ []) → tree_of x ≡ a → tree_of y ≡ b → whole_of operator z ≡ o → joined_tree a b o ≡ Some q → AreTreeParts q (x ∷ y ∷ z ∷ [])
reads_options q x y z None b o s ea eb eo e = absurd cc
reads_options q x y z (Some a) None o s ea eb eo e = absurd cc
reads_options q x y z (Some a) (Some b) None s ea eb eo e = absurd cc
reads_options q x y z (Some a) (Some b) (Some o) s ea eb eo e =
    record {
      left = a;
      right = b;
      joint = o;
      is = some_is (of_joint o a b) q (Some (of_joint o a b)) refl e;
      both = (s.0 a ea, (s.1.0 b eb, (whole_reads operator o z eo, tt)));
    }

reads_both : (q : Tree) (ns : List Element) → AreReadElements ns → joined_tree_of (map tree_and_element ns) ≡ Some q → AreTreeParts q ns
reads_both q [] s e = absurd cc
reads_both q (x ∷ []) s e = absurd cc
reads_both q (x ∷ y ∷ []) s e = absurd cc
reads_both q (x ∷ y ∷ z ∷ []) s e = reads_options q x y z (tree_of x) (tree_of y) (whole_of operator z) s refl refl refl e
reads_both q (x ∷ y ∷ z ∷ w ∷ ws) s e = absurd cc

reads_constructed : (t : AsnTag) (f : Forest) (q : Tree) → AreReadElements (elements f) → tree_in t f (trees f) ≡ Some q → WritesTree q (Constructed t f)
reads_constructed t f q s e = by_tag (same_tag t (context 0)) (same_tag t (context 1)) refl refl (rw (trees-elements f) at e)
  where
    by_tag : (b c : Bool) → same_tag t (context 0) ≡ b → same_tag t (context 1) ≡ c → cond b (option_map of_operand (op.meaning (Constructed t f))) (cond c (joined_tree_of (map tree_and_element (elements f))) None) ≡ Some q → WritesTree q (Constructed t f)
    by_tag true c is _ e = reads_operand q (Constructed t f) (op.meaning (Constructed t f)) (or_left (same_tag t (context 0)) false is) refl e
    by_tag false true _ is e =
        let h = reads_both q (elements f) s e in
        subst (λ (p : Tree). WritesTree p (Constructed t f)) h.is (writes_joint h.joint h.left h.right (Constructed t f) (same_tag-true t (context 1) is, h.both))
    by_tag false false _ _ e = absurd cc

reads_run : (f : Forest) → AreReadElements (elements f)
reads_run end = tt
reads_run (leaf t bs rest) = ((λ q e. absurd cc), reads_run rest)
reads_run (branch t f rest) = ((λ q e. reads_constructed t f q (reads_run f) e), reads_run rest)

pub reads_tree : (q : Tree) (n : Element) → tree_of n ≡ Some q → WritesTree q n
reads_tree q (Primitive t bs) e = absurd cc
reads_tree q (Constructed t f) e = reads_constructed t f q (reads_run f) e

-- ---- queries

abbrev pub Parts : RpnQuery → List Element → Type 0
Parts q ns = required (oid (universal 6)).writes q.attr_set (required WritesTree q.root ended) ns

finds_parts : (q : RpnQuery) (ns : List Element) → Parts q ns → query_in ns ≡ Some q
finds_parts q [] h = absurd h
finds_parts q (n ∷ []) h = absurd h.1
finds_parts q (n ∷ m ∷ []) h = rw (whole_finds (oid (universal 6)) q.attr_set n h.0, finds_tree q.root m h.1.0) refl
finds_parts q (n ∷ m ∷ k ∷ ns) h = absurd h.1.1

pub finds_query : (q : RpnQuery) (n : Element) → WritesQuery q n → element_query n ≡ Some q
finds_query q (Primitive t bs) h = absurd h
finds_query q (Constructed t f) h = finds_parts q (elements f) h.1

reads_two : (q : RpnQuery) (n m : Element) (set : Option (List ℕ)) (root : Option Tree) → whole_of (oid (universal 6)) n ≡ set → tree_of m ≡ root → query_from set root ≡ Some q → Parts q (n ∷ m ∷ [])
reads_two q n m None root es er e = absurd cc
reads_two q n m (Some set) None es er e = absurd cc
reads_two q n m (Some set) (Some root) es er e =
    let made : RpnQuery = record { attr_set = set; root = root } in
    subst (λ (p : RpnQuery). Parts p (n ∷ m ∷ [])) (some_is made q (Some made) refl e) (whole_reads (oid (universal 6)) set n es, (reads_tree root m er, tt))

reads_parts : (q : RpnQuery) (ns : List Element) → query_in ns ≡ Some q → Parts q ns
reads_parts q [] e = absurd cc
reads_parts q (n ∷ []) e = absurd cc
reads_parts q (n ∷ m ∷ []) e = reads_two q n m (whole_of (oid (universal 6)) n) (tree_of m) refl refl e
reads_parts q (n ∷ m ∷ k ∷ ns) e = absurd cc

pub reads_query : (q : RpnQuery) (n : Element) → among (tag_of n) (context 1 ∷ []) ≡ true → element_query n ≡ Some q → WritesQuery q n
reads_query q (Primitive t bs) there e = absurd cc
reads_query q (Constructed t f) there e = (one_tag (context 1) (Constructed t f) there, reads_parts q (elements f) e)

pub begins_query : (q : RpnQuery) (n : Element) → WritesQuery q n → among (tag_of n) (context 1 ∷ []) ≡ true
begins_query q (Primitive t bs) h = absurd h
begins_query q (Constructed t f) h = rw h.0 refl
