-- The text of terms stands for their query.
use Rattle.std.proofs.Common.{◌≡◌, refl, sym, ◌∙◌, ap, subst, ℕ, suc, ◌+◌, ◌-◌, ◌<◌, ◌≤◌, Bool, true, false, if◌then◌else◌, List, [], ◌∷◌, ◌++◌, length, map, Some, codes, arith, append_assoc}
use Rattle.std.specs.List.{flat_map}
use Rattle.std.proofs.lemmas.Bool.{and_from, le-leb}
use Rattle.zber.proofs.OidTest.{is_oid_from_pass}
use Rattle.zquery_rpn.specs.declared.operator.Operator.TheVariants.{And}
use Rattle.zquery.specs.declared.notation.token.Token.{Token}
use Rattle.zquery.specs.InForce.{alike}
use Rattle.zquery.specs.Lawful.{AreLawfulAttrs, IsLawfulTree, IsLawfulQuery}
use Rattle.zquery.specs.Notation.Laws.{PrintedQueries}
use Rattle.zquery.specs.Notation.Printing.{plain_attrs, plain_tree, printable, tree_text, query_text}
use Rattle.zquery.specs.Notation.Printing as printing
use Rattle.zquery.specs.Notation.Sets.{bib1}
use Rattle.zquery.specs.Notation.Texts.{IsText}
use Rattle.zquery.specs.Notation.Tokens.{is_white, AllAre, IsTokenEnd, IsTokenText, IsNextToken, TokensThen, AllWhite}
use Rattle.zquery.specs.Trees.{Tree, Of, RpnQuery, height}
use Rattle.zmeta_searches.specs.declared.terms.Access.{Access}
use Rattle.zmeta_searches.specs.declared.terms.Access.TheVariants.{Title, Author, Subject, Isbn, Issn, Year, Since, Until, Any}
use Rattle.zmeta_searches.specs.Terms.{AskedTerm, use_of, relation_of, is_cut, listed, attributes_of, asked_octets}
use Rattle.zmeta_searches.specs.Texts.{attr_text, escaped, term_text, ands, joined_terms, any_blank, terms_text}
use Rattle.zmeta_searches.specs.Laws.{attr_of, operand_of, joined_tree, query_of, ReadTerms}

-- ---- a space behind a text

white : is_white 32 ≡ true
unfolding is_white
white = refl

white_more : (octets : List ℕ) → AllAre is_white true octets → AllAre is_white true (octets ++ 32 ∷ [])
white_more [] h = (white, tt)
white_more (b ∷ bs) h = (h.0, white_more bs h.1)

end_more : (after : List ℕ) → IsTokenEnd after → IsTokenEnd (after ++ 32 ∷ [])
end_more [] h = white
end_more (b ∷ bs) h = h

written_more : (quoted : Bool) (text lead after : List ℕ) → IsTokenText quoted text lead after
    → IsTokenText quoted text lead (after ++ 32 ∷ [])
written_more true text lead after h = h
written_more false text lead after h = (h.0, h.1, end_more after h.2)

next_more : (t : Token) (at : ℕ) (octets gap lead after : List ℕ) → IsNextToken t at octets gap lead after
    → IsNextToken t at (octets ++ 32 ∷ []) gap lead (after ++ 32 ∷ [])
next_more t at octets gap lead after next = record {
  white = next.white;
  place = next.place;
  written = written_more t.quoted t.text lead after next.written;
  whole = ap (λ z. z ++ 32 ∷ []) next.whole ∙ append_assoc gap (lead ++ after) (32 ∷ [])
      ∙ ap (λ z. gap ++ z) (append_assoc lead after (32 ∷ []));
}

-- the tokens stay if a space comes behind the text
tokens_more : (ts : List Token) (at : ℕ) (octets : List ℕ) → TokensThen AllWhite ts at octets
    → TokensThen AllWhite ts at (octets ++ 32 ∷ [])
tokens_more [] at octets h = white_more octets h
tokens_more (t ∷ ts) at octets (gap, (lead, (after, next, rest))) =
    let wider = next_more t at octets gap lead after next in
    (gap, (lead, (after ++ 32 ∷ [], wider, tokens_more ts _ after rest)))

text_more : (text : List ℕ) (q : RpnQuery) → IsText text q → IsText (text ++ 32 ∷ []) q
text_more text q (ts, tokens, query) = (ts, tokens_more ts 0 text tokens, query)

-- ---- the printed query

attrs_same : (xs : List (ℕ × ℕ)) → flat_map attr_text xs ≡ flat_map printing.attr_text (map attr_of xs)
attrs_same [] = refl
attrs_same (x ∷ xs) = ap (λ z. attr_text x ++ z) (attrs_same xs)

-- the text of a term is that of its operand, and a space
term_same : (t : AskedTerm) → term_text t ≡ tree_text (operand_of t) ++ 32 ∷ []
term_same t =
    let attrs = flat_map printing.attr_text (map attr_of (attributes_of t.access t.text)) in
    let octets = flat_map escaped (asked_octets t.access t.text) in
    ap (λ z. z ++ (34 ∷ (octets ++ 34 ∷ 32 ∷ []))) (attrs_same (attributes_of t.access t.text))
    ∙ sym (append_assoc attrs (34 ∷ (octets ++ 34 ∷ [])) (32 ∷ [])
    ∙ ap (λ z. attrs ++ 34 ∷ z) (append_assoc octets (34 ∷ []) (32 ∷ [])))

regrouped : (a b t s o r : List ℕ)
    → a ++ ((b ++ (t ++ (s ++ o))) ++ (s ++ r)) ≡ (a ++ b) ++ (t ++ (s ++ ((o ++ s) ++ r)))
regrouped a b t s o r = simp append_assoc refl

-- the text of the tree, and a space, is that of the terms
trees_same : (tree : Tree) (ts : List AskedTerm) → tree_text (joined_tree tree ts) ++ 32 ∷ []
    ≡ ands (length ts) ++ (tree_text tree ++ (32 ∷ flat_map term_text ts))
trees_same tree [] = refl
trees_same tree (t ∷ ts) = trees_same (Of And tree (operand_of t)) ts
    ∙ regrouped (ands (length ts)) (codes "@and ") (tree_text tree) (32 ∷ []) (tree_text (operand_of t))
    (flat_map term_text ts)
    ∙ ap (λ z. (ands (length ts) ++ codes "@and ") ++ (tree_text tree ++ (32 ∷ (z ++ flat_map term_text ts))))
    (sym (term_same t))

texts_same : (t : AskedTerm) (ts : List AskedTerm) → query_text (query_of t ts) ++ 32 ∷ [] ≡ joined_terms (t ∷ ts)
texts_same t ts =
    let less : suc (length ts) - 1 ≡ length ts = omega arith in
    trees_same (operand_of t) ts
    ∙ ap (λ z. ands (length ts) ++ z) (sym (append_assoc (tree_text (operand_of t)) (32 ∷ []) (flat_map term_text ts)))
    ∙ ap (λ z. ands (length ts) ++ (z ++ flat_map term_text ts)) (sym (term_same t))
    ∙ ap (λ n. ands n ++ (term_text t ++ flat_map term_text ts)) (sym less)

-- ---- the query can be printed

height_of : (tree : Tree) (ts : List AskedTerm) → 1 ≤ height tree
    → height (joined_tree tree ts) ≡ height tree + length ts
height_of tree [] h = omega arith
height_of tree (t ∷ ts) h =
    let one : height (Of And tree (operand_of t)) ≡ height tree + 1 = omega arith in
    let more = height_of (Of And tree (operand_of t)) ts (omega (arith, one)) in
    omega (arith, one, more)

plain_kinds : (access : Access) (b : Bool) → plain_attrs bib1
    (map attr_of ((1, use_of access) ∷ listed (if b then Some (5, 1) else relation_of access))) ≡ true
unfolding alike
plain_kinds Title true = refl
plain_kinds Title false = refl
plain_kinds Author true = refl
plain_kinds Author false = refl
plain_kinds Subject true = refl
plain_kinds Subject false = refl
plain_kinds Isbn true = refl
plain_kinds Isbn false = refl
plain_kinds Issn true = refl
plain_kinds Issn false = refl
plain_kinds Year true = refl
plain_kinds Year false = refl
plain_kinds Since true = refl
plain_kinds Since false = refl
plain_kinds Until true = refl
plain_kinds Until false = refl
plain_kinds Any true = refl
plain_kinds Any false = refl

plain_operand : (t : AskedTerm) → plain_tree bib1 (operand_of t) ≡ true
plain_operand t = and_from _ _ (plain_kinds t.access (is_cut t.access t.text)) refl

plain_joined : (tree : Tree) (ts : List AskedTerm) → plain_tree bib1 tree ≡ true
    → plain_tree bib1 (joined_tree tree ts) ≡ true
plain_joined tree [] h = h
plain_joined tree (t ∷ ts) h = plain_joined (Of And tree (operand_of t)) ts (and_from _ _ h (plain_operand t))

can_print : (t : AskedTerm) (ts : List AskedTerm) → length ts < 32 → printable (query_of t ts) ≡ true
can_print t ts few =
    let is = height_of (operand_of t) ts (omega arith) in
    and_from _ _ (le-leb _ _ (omega (arith, is))) (plain_joined (operand_of t) ts (plain_operand t))

-- ---- the query is lawful

lawful_attrs : (xs : List (ℕ × ℕ)) → AreLawfulAttrs (map attr_of xs)
lawful_attrs [] = tt
lawful_attrs (x ∷ xs) = (tt, lawful_attrs xs)

lawful_joined : (tree : Tree) (ts : List AskedTerm) → IsLawfulTree tree → IsLawfulTree (joined_tree tree ts)
lawful_joined tree [] h = h
lawful_joined tree (t ∷ ts) h =
    lawful_joined (Of And tree (operand_of t)) ts (h, (lawful_attrs (attributes_of t.access t.text), tt))

lawful : (t : AskedTerm) (ts : List AskedTerm) → IsLawfulQuery (query_of t ts)
lawful t ts = record {
  attr_set = is_oid_from_pass bib1 refl;
  root = lawful_joined (operand_of t) ts (lawful_attrs (attributes_of t.access t.text), tt);
}

-- ---- the law

whole_text : (ts : List AskedTerm) → any_blank ts ≡ false → joined_terms ts ≡ terms_text ts
unfolding terms_text
whole_text ts some = rw some refl

pub reads : PrintedQueries → ReadTerms
reads law t ts few some =
    let q = query_of t ts in
    let printed : IsText (query_text q) q = law q (lawful t ts) (can_print t ts few) in
    subst (λ text. IsText text q) (texts_same t ts ∙ whole_text (t ∷ ts) some) (text_more (query_text q) q printed)
