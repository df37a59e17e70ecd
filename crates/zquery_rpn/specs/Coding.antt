-- The code by which a proof distinguishes queries: a tree as the steps that build it.
use Rattle.std.specs.Prelude.{◌≡◌, ℕ, ℤ, ◌⊎◌, List, [], ◌∷◌, ◌++◌, Option, refl}
use Rattle.std.specs.Coded.{Coded, code_by, coded×, coded⊎, coded_ℕ, coded_ℤ, coded_list, coded_option}
use Rattle.std.proofs.Common.{zero, suc, inl, inr, ◌∙◌, ap}
use Rattle.zber.specs.Elements.{Element}
use Rattle.zber.specs.Coding.{coded_element}
use Rattle.zquery_rpn.specs.declared.query.Attr.{Attr}
use Rattle.zquery_rpn.specs.declared.query.AttrValue.{AttrValue}
use Rattle.zquery_rpn.specs.declared.query.AttrValue.TheVariants.{Number, Complex}
use Rattle.zquery_rpn.specs.declared.query.TermValue.{TermValue}
use Rattle.zquery_rpn.specs.declared.query.TermValue.TheVariants.{General, Numeric, Text, Other}
use Rattle.zquery_rpn.specs.declared.operator.Operator.{Operator}
use Rattle.zquery_rpn.specs.declared.operator.Operator.TheVariants.{And, Or, Not}
use Rattle.zquery_rpn.specs.Trees.{Tree, OfTerm, OfSet, OfSetAttrs, Of, OfProx, RpnQuery}

-- the code of octets, and of the arcs of an object identifier
abbrev pub coded_octets : Coded (List ℕ)
coded_octets = coded_list coded_ℕ

-- values
abbrev pub value_parts : AttrValue → ℤ ⊎ Element
value_parts (Number n) = inl n
value_parts (Complex e) = inr e

-- the attribute value that has this number or this element
abbrev pub value_at : ℤ ⊎ Element → AttrValue
value_at (inl n) = Number n
value_at (inr e) = Complex e

pub value_back : (v : AttrValue) → value_at (value_parts v) ≡ v
value_back (Number n) = refl
value_back (Complex e) = refl

-- the code of an attribute value: that of its number or its element
abbrev pub coded_value : Coded AttrValue
coded_value = code_by (ℤ ⊎ Element) (coded⊎ coded_ℤ coded_element) value_parts value_at value_back

-- the code of an attribute: those of its set, its type and its value
abbrev pub coded_attr : Coded Attr
coded_attr =
    code_by (Option (List ℕ) × (ℤ × AttrValue)) (coded× (coded_option coded_octets) (coded× coded_ℤ coded_value))
    (λ a. (a.attr_set, (a.kind, a.value))) (λ p. record { attr_set = p.0; kind = p.1.0; value = p.1.1 }) (λ _. refl)

-- terms
abbrev pub TermParts : Type 0
TermParts = List ℕ ⊎ (ℤ ⊎ (List ℕ ⊎ Element))

-- what a term has: octets, a number, a string, or the element of any other type
abbrev pub term_parts : TermValue → TermParts
term_parts (General xs) = inl xs
term_parts (Numeric n) = inr (inl n)
term_parts (Text xs) = inr (inr (inl xs))
term_parts (Other e) = inr (inr (inr e))

-- the term that has these octets, this number, this string or this element
abbrev pub term_at : TermParts → TermValue
term_at (inl xs) = General xs
term_at (inr (inl n)) = Numeric n
term_at (inr (inr (inl xs))) = Text xs
term_at (inr (inr (inr e))) = Other e

pub term_back : (v : TermValue) → term_at (term_parts v) ≡ v
term_back (General xs) = refl
term_back (Numeric n) = refl
term_back (Text xs) = refl
term_back (Other e) = refl

-- the code of a term: that of its octets, its number or its element, by its type
abbrev pub coded_term : Coded TermValue
coded_term =
    code_by TermParts (coded⊎ coded_octets (coded⊎ coded_ℤ (coded⊎ coded_octets coded_element)))
    term_parts term_at term_back

-- operators
abbrev pub operator_number : Operator → ℕ
operator_number And = 0
operator_number Or = 1
operator_number Not = 2

-- the operator of a number from 0 to 2; of any greater number it is and-not
abbrev pub operator_at : ℕ → Operator
operator_at n = elim n [ zero ↦ And | suc m ↦ (elim m [ zero ↦ Or | suc _ ↦ Not ]) ]

pub operator_back : (o : Operator) → operator_at (operator_number o) ≡ o
operator_back And = refl
operator_back Or = refl
operator_back Not = refl

-- the code of an operator: that of its number
abbrev pub coded_operator : Coded Operator
coded_operator = code_by ℕ coded_ℕ operator_number operator_at operator_back

-- one step: an operand, or an operator or proximity over the two trees on top
abbrev pub TreeStep : Type 0
TreeStep = (List Attr × TermValue) ⊎ (List ℕ ⊎ ((List ℕ × List Attr) ⊎ (Operator ⊎ Element)))

-- the steps that build a tree, in the order of reverse Polish notation: two trees, then their operator
abbrev pub steps : Tree → List TreeStep
steps (OfTerm xs v) = inl (xs, v) ∷ []
steps (OfSet name) = inr (inl name) ∷ []
steps (OfSetAttrs name xs) = inr (inr (inl (name, xs))) ∷ []
steps (Of o a b) = steps a ++ (steps b ++ inr (inr (inr (inl o))) ∷ [])
steps (OfProx e a b) = steps a ++ (steps b ++ inr (inr (inr (inr e))) ∷ [])

-- the tree that `f` makes of the two trees on top takes their place
abbrev pub with_two : (Tree → Tree → Tree) → List Tree → List Tree
with_two f [] = []
with_two f (b ∷ []) = []
with_two f (b ∷ a ∷ qs) = f a b ∷ qs

-- the trees after one step; the last tree built is on top
abbrev pub step : TreeStep → List Tree → List Tree
step (inl p) qs = OfTerm p.0 p.1 ∷ qs
step (inr (inl name)) qs = OfSet name ∷ qs
step (inr (inr (inl p))) qs = OfSetAttrs p.0 p.1 ∷ qs
step (inr (inr (inr (inl o)))) qs = with_two (Of o) qs
step (inr (inr (inr (inr e)))) qs = with_two (OfProx e) qs

-- the trees after these steps
abbrev pub built : List TreeStep → List Tree → List Tree
built [] qs = qs
built (s ∷ ss) qs = built ss (step s qs)

-- the tree on top; if there is none, the result set with an empty name
abbrev pub top : List Tree → Tree
top [] = OfSet []
top (q ∷ qs) = q

pub built-append : (a b : List TreeStep) (qs : List Tree) → built (a ++ b) qs ≡ built b (built a qs)
built-append [] b qs = refl
built-append (s ∷ a) b qs = built-append a b (step s qs)

pub built-two : (a b : Tree) (s : TreeStep) (qs : List Tree) → built (steps a) qs ≡ a ∷ qs
    → built (steps b) (a ∷ qs) ≡ b ∷ a ∷ qs
    → built (steps a ++ (steps b ++ s ∷ [])) qs ≡ step s (b ∷ a ∷ qs)
built-two a b s qs first second =
    built-append (steps a) _ qs ∙ ap (built (steps b ++ s ∷ [])) first ∙ built-append (steps b) _ (a ∷ qs)
    ∙ ap (built (s ∷ [])) second

pub built-steps : (q : Tree) (qs : List Tree) → built (steps q) qs ≡ q ∷ qs
built-steps (OfTerm xs v) qs = refl
built-steps (OfSet name) qs = refl
built-steps (OfSetAttrs name xs) qs = refl
built-steps (Of o a b) qs = built-two a b (inr (inr (inr (inl o)))) qs (built-steps a qs) (built-steps b (a ∷ qs))
built-steps (OfProx e a b) qs = built-two a b (inr (inr (inr (inr e)))) qs (built-steps a qs) (built-steps b (a ∷ qs))

-- the tree on top after these steps, where no tree stood before them
abbrev pub tree_at : List TreeStep → Tree
tree_at ss = top (built ss [])

pub tree_back : (q : Tree) → tree_at (steps q) ≡ q
tree_back q = ap top (built-steps q [])

-- the code of a step: that of its operand, its operator or its proximity
abbrev pub coded_step : Coded TreeStep
coded_step =
    coded⊎ (coded× (coded_list coded_attr) coded_term)
    (coded⊎ coded_octets (coded⊎ (coded× coded_octets (coded_list coded_attr)) (coded⊎ coded_operator coded_element)))

-- the code of a tree: that of the steps that build it
abbrev pub coded_tree : Coded Tree
coded_tree = code_by (List TreeStep) (coded_list coded_step) steps tree_at tree_back

-- the code of a query: those of its default attribute set and its tree
abbrev pub coded_query : Coded RpnQuery
coded_query =
    code_by (List ℕ × Tree) (coded× coded_octets coded_tree) (λ q. (q.attr_set, q.root))
    (λ p. record { attr_set = p.0; root = p.1 }) (λ _. refl)
