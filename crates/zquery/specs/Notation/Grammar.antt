-- The grammar of the notation: which tokens stand for which query (YAZ's prefix query format).
use Rattle.std.specs.Prelude.{◌≡◌, ℕ, ◌+◌, pos, List, [], ◌∷◌, ◌++◌, true, false, Option, Some, None, if◌then◌else◌, map}
use Rattle.std.specs.Str.{bytes_eq}
use Rattle.zquery.specs.declared.notation.token.Token.{Token}
use Rattle.zquery.specs.declared.notation.word.TokenKind.TheVariants.{AttrSet, Attribute, Op, NamedSet, TypeOfTerm, Plain}
use Rattle.zquery_rpn.specs.declared.operator.Operator.{Operator}
use Rattle.zquery.specs.declared.notation.word.TermKind.{TermKind}
use Rattle.zquery.specs.declared.notation.word.TermKind.TheVariants.{GeneralTerm}
use Rattle.zquery_rpn.specs.declared.query.Attr.{Attr}
use Rattle.zquery_rpn.specs.declared.query.AttrValue.TheVariants.{Number}
use Rattle.zquery_rpn.specs.declared.query.TermValue.{TermValue}
use Rattle.zquery_rpn.specs.Trees.{Tree, OfTerm, OfSet, OfSetAttrs, Of, RpnQuery}
use Rattle.zquery.specs.Notation.Words.{token_kind}
use Rattle.zquery.specs.Notation.Sets.{bib1, set_of}
use Rattle.zquery.specs.Notation.Values.{numbers_of, has_equals, term_kind_of, value_of}
use Rattle.zquery.specs.InForce.{in_force}

-- The cases of the grammar, with their tokens: a term; `@set name`; `@attr type=value q`; `@attr set type=value q`;
-- `@term type q`; and `@and q q`, `@or q q` or `@not q q`.
pub data Phrase : Type 0 where
  One : Token → Phrase
  Named : Token → Token → Phrase
  Attributed : Token → Token → Phrase → Phrase
  InSet : Token → Token → Token → Phrase → Phrase
  Typed : Token → Token → Phrase → Phrase
  Joined : Token → Phrase → Phrase → Phrase

-- a token with the level on which it is an operand or operator; 0 if it is neither
pub record PlacedToken : Type 0 where
  pub token : Token
  pub level : ℕ

-- the token on this level
abbrev pub on : ℕ → Token → PlacedToken
on n t = record { token = t; level = n }

-- the tokens of a phrase on this level, each with its level
abbrev pub placed : ℕ → Phrase → List PlacedToken
placed n (One t) = on n t ∷ []
placed n (Named t u) = on n t ∷ on 0 u ∷ []
placed n (Attributed t u p) = on 0 t ∷ on 0 u ∷ placed n p
placed n (InSet t u w p) = on 0 t ∷ on 0 u ∷ on 0 w ∷ placed n p
placed n (Typed t u p) = on 0 t ∷ on 0 u ∷ placed n p
placed n (Joined t p r) = on n t ∷ (placed (n + 1) p ++ placed (n + 1) r)

-- a result set, with the attributes in force if there are any
abbrev pub set_tree : List ℕ → List Attr → Tree
set_tree name [] = OfSet name
set_tree name (a ∷ xs) = OfSetAttrs name (a ∷ xs)

-- the set that an attribute keeps: none if it is the query's own
abbrev pub kept_set : List ℕ → List ℕ → Option (List ℕ)
kept_set own set = if bytes_eq own set then None else Some set

-- the attribute of this set, type and value
abbrev pub attr : Option (List ℕ) → ℕ × ℕ → Attr
attr set n = record { attr_set = set; kind = pos n.0; value = Number (pos n.1) }

-- The phrase stands for the tree. The query has this set; the attributes above the phrase, outermost first, and the
-- type of term are given.
abbrev pub IsPhraseOf : List ℕ → List Attr → TermKind → Phrase → Tree → Type 0
IsPhraseOf own xs k (One t) q =
    (token_kind t ≡ Plain) × ((v : TermValue) × (value_of k t.text ≡ Some v) × (q ≡ OfTerm (in_force xs) v))
IsPhraseOf own xs k (Named t u) q = (token_kind t ≡ NamedSet) × (q ≡ set_tree u.text (in_force xs))
IsPhraseOf own xs k (Attributed t u p) q =
    (token_kind t ≡ Attribute) × (has_equals u.text ≡ true)
    × ((n : ℕ × ℕ) × (numbers_of u.text ≡ Some n) × IsPhraseOf own (xs ++ attr None n ∷ []) k p q)
IsPhraseOf own xs k (InSet t u w p) q =
    (token_kind t ≡ Attribute) × (has_equals u.text ≡ false)
    × ((set : List ℕ) × (set_of u.text ≡ Some set)
    × ((n : ℕ × ℕ) × (numbers_of w.text ≡ Some n) × IsPhraseOf own (xs ++ attr (kept_set own set) n ∷ []) k p q))
IsPhraseOf own xs k (Typed t u p) q =
    (token_kind t ≡ TypeOfTerm) × ((m : TermKind) × (term_kind_of u.text ≡ Some m) × IsPhraseOf own xs m p q)
IsPhraseOf own xs k (Joined t p r) q =
    (o : Operator) × (token_kind t ≡ Op o)
    × ((a : Tree) × IsPhraseOf own xs k p a × ((b : Tree) × IsPhraseOf own xs k r b × (q ≡ Of o a b)))

-- a whole query: a phrase, or `@attrset set` and a phrase
pub data Whole : Type 0 where
  Bare : Phrase → Whole
  InAttrSet : Token → Token → Phrase → Whole

-- the tokens of a whole query, each with its level
abbrev pub whole_placed : Whole → List PlacedToken
whole_placed (Bare p) = placed 1 p
whole_placed (InAttrSet t u p) = on 0 t ∷ on 0 u ∷ placed 1 p

-- the whole query has this set and this tree
abbrev pub IsWholeOf : Whole → List ℕ → Tree → Type 0
IsWholeOf (Bare p) own q = (own ≡ bib1) × IsPhraseOf own [] GeneralTerm p q
IsWholeOf (InAttrSet t u p) own q =
    (token_kind t ≡ AttrSet) × (set_of u.text ≡ Some own) × IsPhraseOf own [] GeneralTerm p q

-- the tokens without their levels
abbrev pub tokens_in : List PlacedToken → List Token
tokens_in ps = map (λ p. p.token) ps

-- the tokens stand for the query
pub record IsQuery (ts : List Token) (q : RpnQuery) : Type 0 where
  pub whole : Whole
  pub reads : IsWholeOf whole q.attr_set q.root
  pub tokens : tokens_in (whole_placed whole) ≡ ts
