-- Tokens stand for one tree at most.
use Rattle.std.proofs.Common.{◌≡◌, sym, ◌∙◌, ap, subst, ℕ, ◌+◌, List, [], ◌∷◌, ◌++◌, Option, Some, None, Bool, true, false, append_assoc, append-nil}
use Rattle.std.proofs.lemmas.List.{map-append}
use Rattle.zquery.specs.declared.notation.token.Token.{Token}
use Rattle.zquery.specs.declared.notation.word.TokenKind.{TokenKind}
use Rattle.zquery.specs.declared.notation.word.TokenKind.TheVariants.{AttrSet, Attribute, Op, NamedSet, TypeOfTerm, Plain}
use Rattle.zquery_rpn.specs.declared.query.Attr.{Attr}
use Rattle.zquery_rpn.specs.declared.operator.Operator.{Operator}
use Rattle.zquery.specs.declared.notation.word.TermKind.{TermKind}
use Rattle.zquery.specs.declared.notation.word.TermKind.TheVariants.{GeneralTerm}
use Rattle.zquery_rpn.specs.declared.query.TermValue.{TermValue}
use Rattle.zquery_rpn.specs.Trees.{Tree, OfTerm, Of, RpnQuery}
use Rattle.zquery.specs.Notation.Words.{token_kind}
use Rattle.zquery.specs.Notation.Sets.{set_of}
use Rattle.zquery.specs.Notation.Values.{numbers_of, has_equals, term_kind_of, value_of}
use Rattle.zquery.specs.InForce.{in_force}
use Rattle.zquery.specs.Notation.Grammar.{Phrase, One, Named, Attributed, InSet, Typed, Joined, PlacedToken, IsPhraseOf, placed, tokens_in, set_tree, attr, kept_set, Whole, Bare, InAttrSet, IsWholeOf, whole_placed, IsQuery}

head-is : (t u : Token) (ts us : List Token) → t ∷ ts ≡ u ∷ us → t ≡ u
head-is t u ts us h = cc

tail-is : (t u : Token) (ts us : List Token) → t ∷ ts ≡ u ∷ us → ts ≡ us
tail-is t u ts us h = cc

some-same : {A : Type 0} (x y : A) (o : Option A) → o ≡ Some x → o ≡ Some y → x ≡ y
some-same x y o g h = cc

op-same : (x y : Operator) (w : TokenKind) → w ≡ Op x → w ≡ Op y → x ≡ y
op-same x y w g h = cc

clash : (t u : Token) (x y : TokenKind) → token_kind t ≡ x → token_kind u ≡ y → t ≡ u → (x ≡ y → ⊥) → ⊥
clash t u x y g h e never = never (sym g ∙ ap token_kind e ∙ h)

clash-equals : (t u : Token) (x y : Bool) → has_equals t.text ≡ x → has_equals u.text ≡ y → t ≡ u → (x ≡ y → ⊥) → ⊥
clash-equals t u x y g h e never = never (sym g ∙ ap (λ (v : Token). has_equals v.text) e ∙ h)

apart : (xs ys : List PlacedToken) (a : List Token) → tokens_in (xs ++ ys) ++ a ≡ tokens_in xs ++ (tokens_in ys ++ a)
apart xs ys a = ap (λ (z : List Token). z ++ a) (map-append (λ (p : PlacedToken). p.token) xs ys) ∙ append_assoc (tokens_in xs) (tokens_in ys) a

pub one-phrase : (own : List ℕ) (xs : List Attr) (k : TermKind) (p p' : Phrase) (q q' : Tree) (n : ℕ) (a b : List Token) → IsPhraseOf own xs k p q → IsPhraseOf own xs k p' q' → tokens_in (placed n p) ++ a ≡ tokens_in (placed n p') ++ b → (q ≡ q') × (a ≡ b)
one-phrase own xs k (One t) (One t') q q' n a b r z h =
    let heads : t ≡ t' = head-is t t' a b h in
    let values : r.1.0 ≡ z.1.0 = some-same r.1.0 z.1.0 (value_of k t.text) r.1.1 (ap (λ (x : Token). value_of k x.text) heads ∙ z.1.1) in
    (r.1.2 ∙ ap (λ (v : TermValue). OfTerm (in_force xs) v) values ∙ sym z.1.2, tail-is t t' a b h)
one-phrase own xs k (One t) (Named t' u') q q' n a b r z h = absurd (clash t t' Plain NamedSet r.0 z.0 (head-is t t' _ _ h) (λ e. cc))
one-phrase own xs k (One t) (Attributed t' u' p') q q' n a b r z h = absurd (clash t t' Plain Attribute r.0 z.0 (head-is t t' _ _ h) (λ e. cc))
one-phrase own xs k (One t) (InSet t' u' w' p') q q' n a b r z h = absurd (clash t t' Plain Attribute r.0 z.0 (head-is t t' _ _ h) (λ e. cc))
one-phrase own xs k (One t) (Typed t' u' p') q q' n a b r z h = absurd (clash t t' Plain TypeOfTerm r.0 z.0 (head-is t t' _ _ h) (λ e. cc))
one-phrase own xs k (One t) (Joined t' p' s') q q' n a b r z h = absurd (clash t t' Plain (Op z.0) r.0 z.1 (head-is t t' _ _ h) (λ e. cc))
one-phrase own xs k (Named t u) (One t') q q' n a b r z h = absurd (clash t t' NamedSet Plain r.0 z.0 (head-is t t' _ _ h) (λ e. cc))
one-phrase own xs k (Named t u) (Named t' u') q q' n a b r z h =
    let rest : u ∷ a ≡ u' ∷ b = tail-is t t' (u ∷ a) (u' ∷ b) h in
    (r.1 ∙ ap (λ (x : Token). set_tree x.text (in_force xs)) (head-is u u' a b rest) ∙ sym z.1, tail-is u u' a b rest)
one-phrase own xs k (Named t u) (Attributed t' u' p') q q' n a b r z h = absurd (clash t t' NamedSet Attribute r.0 z.0 (head-is t t' _ _ h) (λ e. cc))
one-phrase own xs k (Named t u) (InSet t' u' w' p') q q' n a b r z h = absurd (clash t t' NamedSet Attribute r.0 z.0 (head-is t t' _ _ h) (λ e. cc))
one-phrase own xs k (Named t u) (Typed t' u' p') q q' n a b r z h = absurd (clash t t' NamedSet TypeOfTerm r.0 z.0 (head-is t t' _ _ h) (λ e. cc))
one-phrase own xs k (Named t u) (Joined t' p' s') q q' n a b r z h = absurd (clash t t' NamedSet (Op z.0) r.0 z.1 (head-is t t' _ _ h) (λ e. cc))
one-phrase own xs k (Attributed t u p) (One t') q q' n a b r z h = absurd (clash t t' Attribute Plain r.0 z.0 (head-is t t' _ _ h) (λ e. cc))
one-phrase own xs k (Attributed t u p) (Named t' u') q q' n a b r z h = absurd (clash t t' Attribute NamedSet r.0 z.0 (head-is t t' _ _ h) (λ e. cc))
one-phrase own xs k (Attributed t u p) (Attributed t' u' p') q q' n a b r z h =
    let left : List Token = tokens_in (placed n p) ++ a in
    let right : List Token = tokens_in (placed n p') ++ b in
    let rest : u ∷ left ≡ u' ∷ right = tail-is t t' (u ∷ left) (u' ∷ right) h in
    let values : r.2.0 ≡ z.2.0 = some-same r.2.0 z.2.0 (numbers_of u.text) r.2.1 (ap (λ (x : Token). numbers_of x.text) (head-is u u' left right rest) ∙ z.2.1) in
    one-phrase own (xs ++ attr None r.2.0 ∷ []) k p p' q q' n a b r.2.2 (subst (λ (v : ℕ × ℕ). IsPhraseOf own (xs ++ attr None v ∷ []) k p' q') (sym values) z.2.2) (tail-is u u' left right rest)
one-phrase own xs k (Attributed t u p) (InSet t' u' w' p') q q' n a b r z h = absurd (clash-equals u u' true false r.1 z.1 (head-is u u' _ _ (tail-is t t' _ _ h)) (λ e. cc))
one-phrase own xs k (Attributed t u p) (Typed t' u' p') q q' n a b r z h = absurd (clash t t' Attribute TypeOfTerm r.0 z.0 (head-is t t' _ _ h) (λ e. cc))
one-phrase own xs k (Attributed t u p) (Joined t' p' s') q q' n a b r z h = absurd (clash t t' Attribute (Op z.0) r.0 z.1 (head-is t t' _ _ h) (λ e. cc))
one-phrase own xs k (InSet t u w p) (One t') q q' n a b r z h = absurd (clash t t' Attribute Plain r.0 z.0 (head-is t t' _ _ h) (λ e. cc))
one-phrase own xs k (InSet t u w p) (Named t' u') q q' n a b r z h = absurd (clash t t' Attribute NamedSet r.0 z.0 (head-is t t' _ _ h) (λ e. cc))
one-phrase own xs k (InSet t u w p) (Attributed t' u' p') q q' n a b r z h = absurd (clash-equals u u' false true r.1 z.1 (head-is u u' _ _ (tail-is t t' _ _ h)) (λ e. cc))
one-phrase own xs k (InSet t u w p) (InSet t' u' w' p') q q' n a b r z h =
    let left : List Token = tokens_in (placed n p) ++ a in
    let right : List Token = tokens_in (placed n p') ++ b in
    let rest : u ∷ w ∷ left ≡ u' ∷ w' ∷ right = tail-is t t' (u ∷ w ∷ left) (u' ∷ w' ∷ right) h in
    let more : w ∷ left ≡ w' ∷ right = tail-is u u' (w ∷ left) (w' ∷ right) rest in
    let sets : r.2.0 ≡ z.2.0 = some-same r.2.0 z.2.0 (set_of u.text) r.2.1 (ap (λ (x : Token). set_of x.text) (head-is u u' (w ∷ left) (w' ∷ right) rest) ∙ z.2.1) in
    let values : r.2.2.0 ≡ z.2.2.0 = some-same r.2.2.0 z.2.2.0 (numbers_of w.text) r.2.2.1 (ap (λ (x : Token). numbers_of x.text) (head-is w w' left right more) ∙ z.2.2.1) in
    let attrs : attr (kept_set own r.2.0) r.2.2.0 ≡ attr (kept_set own z.2.0) z.2.2.0 = ap (λ (s : List ℕ). attr (kept_set own s) r.2.2.0) sets ∙ ap (attr (kept_set own z.2.0)) values in
    one-phrase own (xs ++ attr (kept_set own r.2.0) r.2.2.0 ∷ []) k p p' q q' n a b r.2.2.2 (subst (λ (x : Attr). IsPhraseOf own (xs ++ x ∷ []) k p' q') (sym attrs) z.2.2.2) (tail-is w w' left right more)
one-phrase own xs k (InSet t u w p) (Typed t' u' p') q q' n a b r z h = absurd (clash t t' Attribute TypeOfTerm r.0 z.0 (head-is t t' _ _ h) (λ e. cc))
one-phrase own xs k (InSet t u w p) (Joined t' p' s') q q' n a b r z h = absurd (clash t t' Attribute (Op z.0) r.0 z.1 (head-is t t' _ _ h) (λ e. cc))
one-phrase own xs k (Typed t u p) (One t') q q' n a b r z h = absurd (clash t t' TypeOfTerm Plain r.0 z.0 (head-is t t' _ _ h) (λ e. cc))
one-phrase own xs k (Typed t u p) (Named t' u') q q' n a b r z h = absurd (clash t t' TypeOfTerm NamedSet r.0 z.0 (head-is t t' _ _ h) (λ e. cc))
one-phrase own xs k (Typed t u p) (Attributed t' u' p') q q' n a b r z h = absurd (clash t t' TypeOfTerm Attribute r.0 z.0 (head-is t t' _ _ h) (λ e. cc))
one-phrase own xs k (Typed t u p) (InSet t' u' w' p') q q' n a b r z h = absurd (clash t t' TypeOfTerm Attribute r.0 z.0 (head-is t t' _ _ h) (λ e. cc))
one-phrase own xs k (Typed t u p) (Typed t' u' p') q q' n a b r z h =
    let left : List Token = tokens_in (placed n p) ++ a in
    let right : List Token = tokens_in (placed n p') ++ b in
    let rest : u ∷ left ≡ u' ∷ right = tail-is t t' (u ∷ left) (u' ∷ right) h in
    let kinds : r.1.0 ≡ z.1.0 = some-same r.1.0 z.1.0 (term_kind_of u.text) r.1.1 (ap (λ (x : Token). term_kind_of x.text) (head-is u u' left right rest) ∙ z.1.1) in
    one-phrase own xs r.1.0 p p' q q' n a b r.1.2 (subst (λ (m : TermKind). IsPhraseOf own xs m p' q') (sym kinds) z.1.2) (tail-is u u' left right rest)
one-phrase own xs k (Typed t u p) (Joined t' p' s') q q' n a b r z h = absurd (clash t t' TypeOfTerm (Op z.0) r.0 z.1 (head-is t t' _ _ h) (λ e. cc))
one-phrase own xs k (Joined t p s) (One t') q q' n a b r z h = absurd (clash t t' (Op r.0) Plain r.1 z.0 (head-is t t' _ _ h) (λ e. cc))
one-phrase own xs k (Joined t p s) (Named t' u') q q' n a b r z h = absurd (clash t t' (Op r.0) NamedSet r.1 z.0 (head-is t t' _ _ h) (λ e. cc))
one-phrase own xs k (Joined t p s) (Attributed t' u' p') q q' n a b r z h = absurd (clash t t' (Op r.0) Attribute r.1 z.0 (head-is t t' _ _ h) (λ e. cc))
one-phrase own xs k (Joined t p s) (InSet t' u' w' p') q q' n a b r z h = absurd (clash t t' (Op r.0) Attribute r.1 z.0 (head-is t t' _ _ h) (λ e. cc))
one-phrase own xs k (Joined t p s) (Typed t' u' p') q q' n a b r z h = absurd (clash t t' (Op r.0) TypeOfTerm r.1 z.0 (head-is t t' _ _ h) (λ e. cc))
one-phrase own xs k (Joined t p s) (Joined t' p' s') q q' n a b r z h =
    let left : List Token = tokens_in (placed (n + 1) p ++ placed (n + 1) s) ++ a in
    let right : List Token = tokens_in (placed (n + 1) p' ++ placed (n + 1) s') ++ b in
    let rest : left ≡ right = tail-is t t' left right h in
    let parts = sym (apart (placed (n + 1) p) (placed (n + 1) s) a) ∙ rest ∙ apart (placed (n + 1) p') (placed (n + 1) s') b in
    let one = one-phrase own xs k p p' r.2.0 z.2.0 (n + 1) (tokens_in (placed (n + 1) s) ++ a) (tokens_in (placed (n + 1) s') ++ b) r.2.1 z.2.1 parts in
    let two = one-phrase own xs k s s' r.2.2.0 z.2.2.0 (n + 1) a b r.2.2.1 z.2.2.1 one.1 in
    let ops : r.0 ≡ z.0 = op-same r.0 z.0 (token_kind t) r.1 (ap token_kind (head-is t t' left right h) ∙ z.1) in
    (r.2.2.2 ∙ ap (λ (o : Operator). Of o r.2.0 r.2.2.0) ops ∙ ap (λ (x : Tree). Of z.0 x r.2.2.0) one.0 ∙ ap (Of z.0 z.2.0) two.0 ∙ sym z.2.2.2, two.1)

not-first : (own : List ℕ) (xs : List Attr) (k : TermKind) (p : Phrase) (q : Tree) (n : ℕ) (t : Token) (ts : List Token) → IsPhraseOf own xs k p q → tokens_in (placed n p) ≡ t ∷ ts → token_kind t ≡ AttrSet → ⊥
not-first own xs k (One u) q n t ts r e w = clash u t Plain AttrSet r.0 w (head-is u t _ _ e) (λ e. cc)
not-first own xs k (Named u v) q n t ts r e w = clash u t NamedSet AttrSet r.0 w (head-is u t _ _ e) (λ e. cc)
not-first own xs k (Attributed u v p) q n t ts r e w = clash u t Attribute AttrSet r.0 w (head-is u t _ _ e) (λ e. cc)
not-first own xs k (InSet u v x p) q n t ts r e w = clash u t Attribute AttrSet r.0 w (head-is u t _ _ e) (λ e. cc)
not-first own xs k (Typed u v p) q n t ts r e w = clash u t TypeOfTerm AttrSet r.0 w (head-is u t _ _ e) (λ e. cc)
not-first own xs k (Joined u p s) q n t ts r e w = clash u t (Op r.0) AttrSet r.1 w (head-is u t _ _ e) (λ e. cc)

same-below : (own : List ℕ) (p p' : Phrase) (q q' : Tree) → IsPhraseOf own [] GeneralTerm p q → IsPhraseOf own [] GeneralTerm p' q' → tokens_in (placed 1 p) ≡ tokens_in (placed 1 p') → q ≡ q'
same-below own p p' q q' r z e =
    (one-phrase own [] GeneralTerm p p' q q' 1 [] [] r z (append-nil (tokens_in (placed 1 p)) ∙ e ∙ sym (append-nil (tokens_in (placed 1 p'))))).0

one-whole : (w w' : Whole) (own own' : List ℕ) (q q' : Tree) → IsWholeOf w own q → IsWholeOf w' own' q' → tokens_in (whole_placed w) ≡ tokens_in (whole_placed w') → (own ≡ own') × (q ≡ q')
one-whole (Bare p) (Bare p') own own' q q' r z e =
    let sets : own ≡ own' = r.0 ∙ sym z.0 in
    (sets, same-below own p p' q q' r.1 (subst (λ (o : List ℕ). IsPhraseOf o [] GeneralTerm p' q') (sym sets) z.1) e)
one-whole (Bare p) (InAttrSet t u p') own own' q q' r z e = absurd (not-first own [] GeneralTerm p q 1 t _ r.1 e z.0)
one-whole (InAttrSet t u p) (Bare p') own own' q q' r z e = absurd (not-first own' [] GeneralTerm p' q' 1 t _ z.1 (sym e) r.0)
one-whole (InAttrSet t u p) (InAttrSet t' u' p') own own' q q' r z e =
    let left : List Token = tokens_in (placed 1 p) in
    let right : List Token = tokens_in (placed 1 p') in
    let rest : u ∷ left ≡ u' ∷ right = tail-is t t' (u ∷ left) (u' ∷ right) e in
    let sets : own ≡ own' = some-same own own' (set_of u.text) r.1 (ap (λ (x : Token). set_of x.text) (head-is u u' left right rest) ∙ z.1) in
    (sets, same-below own p p' q q' r.2 (subst (λ (o : List ℕ). IsPhraseOf o [] GeneralTerm p' q') (sym sets) z.2) (tail-is u u' left right rest))

same-query : (q r : RpnQuery) → (q.attr_set ≡ r.attr_set) × (q.root ≡ r.root) → q ≡ r
same-query q r h = ap (λ (s : List ℕ). record q { attr_set = s }) h.0 ∙ ap (λ (t : Tree). record r { root = t }) h.1

pub one-query : (ts : List Token) (q r : RpnQuery) → IsQuery ts q → IsQuery ts r → q ≡ r
one-query ts q r i j = same-query q r (one-whole i.whole j.whole q.attr_set r.attr_set q.root r.root i.reads j.reads (i.tokens ∙ sym j.tokens))
