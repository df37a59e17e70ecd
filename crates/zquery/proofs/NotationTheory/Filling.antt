-- The tokens of a query pass the table.
use Rattle.std.proofs.Common.{◌≡◌, refl, sym, ◌∙◌, ap, subst, ℕ, ◌+◌, ◌≤◌, ◌<◌, max, List, [], ◌∷◌, ◌++◌, Option, Some, None, Result, Ok, Bool, false, if◌then◌else◌, arith, append_assoc, append-nil, length}
use Rattle.std.proofs.lemmas.Bool.{le-ltb}
use Rattle.zquery.specs.declared.notation.token.Token.{Token}
use Rattle.zquery_rpn.specs.declared.query.Attr.{Attr}
use Rattle.zquery.specs.declared.notation.word.TermKind.{TermKind}
use Rattle.zquery.specs.declared.notation.word.TermKind.TheVariants.{GeneralTerm}
use Rattle.zquery_rpn.specs.declared.query.TermValue.{TermValue}
use Rattle.zquery.specs.declared.notation.error.PqfErrorKind.{PqfErrorKind}
use Rattle.zquery.specs.declared.notation.error.PqfErrorKind.TheVariants as kind
use Rattle.zquery_rpn.specs.Trees.{Tree, RpnQuery, height}
use Rattle.zquery.specs.Notation.Words.{token_kind}
use Rattle.zquery.specs.Notation.Sets.{set_of}
use Rattle.zquery.specs.Notation.Values.{numbers_of}
use Rattle.zquery.specs.InForce.{in_force}
use Rattle.zquery.specs.Notation.Grammar.{Phrase, One, Named, Attributed, InSet, Typed, Joined, PlacedToken, on, IsPhraseOf, placed, tokens_in, set_tree, attr, kept_set, Whole, Bare, InAttrSet, IsWholeOf, whole_placed, IsQuery}
use Rattle.zquery.specs.Notation.Table.{Expected, Operand, SetOrNumbers, Numbers, Kind, Name, unless_deep, next_if, operand, numbers, expected_after_token, after, expected_after, first_expected, fault_left, tokens_fault, below_limit}
use Rattle.zquery.specs.Notation.Fronts.{AreShallow, IsQueryFront}

-- each token may stand where it stands if its level is not too deep, and in the end nothing is to come
abbrev pub AreExpected : (ℕ → Bool) → List PlacedToken → List Expected → Type 0
AreExpected deep [] ps = ps ≡ []
AreExpected deep (x ∷ xs) [] = ⊥
AreExpected deep (x ∷ xs) (p ∷ ps) = deep x.level ≡ false → (next : List Expected) × (expected_after_token deep p x.token ≡ Ok next) × AreExpected deep xs (next ++ ps)

as_numbers : (k : TermKind) (n : ℕ) (text : List ℕ) (v : ℕ × ℕ) → numbers_of text ≡ Some v → numbers k n text ≡ Ok (Operand k n ∷ [])
as_numbers k n text v e = ap (λ (o : Option (ℕ × ℕ)). next_if kind.BadAttribute o (λ _. Ok (Operand k n ∷ []))) e

pub fills-phrase : (deep : ℕ → Bool) (own : List ℕ) (xs : List Attr) (k : TermKind) (p : Phrase) (q : Tree) (n : ℕ) → IsPhraseOf own xs k p q → (tail : List PlacedToken) (rest : List Expected) → AreExpected deep tail rest → AreExpected deep (placed n p ++ tail) (Operand k n ∷ rest)
fills-phrase deep own xs k (One t) q n r tail rest f = λ s.
    ([], ap (operand deep k n t.text) r.0 ∙ ap (λ (o : Option TermValue). next_if kind.BadNumber o (λ _. unless_deep (deep n) [])) r.1.1 ∙ ap (λ (b : Bool). unless_deep b []) s, f)
fills-phrase deep own xs k (Named t u) q n r tail rest f = λ s.
    (Name ∷ [], ap (operand deep k n t.text) r.0 ∙ ap (λ (b : Bool). unless_deep b (Name ∷ [])) s, λ _. ([], refl, f))
fills-phrase deep own xs k (Attributed t u p) q n r tail rest f = λ _. (
  SetOrNumbers k n ∷ [],
  ap (operand deep k n t.text) r.0,
  λ _. (
    Operand k n ∷ [],
    ap (λ (b : Bool). if b then numbers k n u.text else next_if kind.UnknownSet (set_of u.text) (λ _. Ok (Numbers k n ∷ []))) r.1 ∙ as_numbers k n u.text r.2.0 r.2.1,
    fills-phrase deep own (xs ++ attr None r.2.0 ∷ []) k p q n r.2.2 tail rest f,
  ),
)
fills-phrase deep own xs k (InSet t u w p) q n r tail rest f = λ _. (
  SetOrNumbers k n ∷ [],
  ap (operand deep k n t.text) r.0,
  λ _. (
    Numbers k n ∷ [],
    ap (λ (b : Bool). if b then numbers k n u.text else next_if kind.UnknownSet (set_of u.text) (λ _. Ok (Numbers k n ∷ []))) r.1
        ∙ ap (λ (o : Option (List ℕ)). next_if kind.UnknownSet o (λ _. Ok (Numbers k n ∷ []))) r.2.1,
    λ _. (Operand k n ∷ [], as_numbers k n w.text r.2.2.0 r.2.2.1, fills-phrase deep own (xs ++ attr (kept_set own r.2.0) r.2.2.0 ∷ []) k p q n r.2.2.2 tail rest f),
  ),
)
fills-phrase deep own xs k (Typed t u p) q n r tail rest f = λ _. (
  Kind n ∷ [],
  ap (operand deep k n t.text) r.0,
  λ _.
      (Operand r.1.0 n ∷ [], ap (λ (o : Option TermKind). next_if kind.BadTermType o (λ k. Ok (Operand k n ∷ []))) r.1.1, fills-phrase deep own xs r.1.0 p q n r.1.2 tail rest f),
)
fills-phrase deep own xs k (Joined t p s) q n r tail rest f = λ e. (
  Operand k (n + 1) ∷ Operand k (n + 1) ∷ [],
  ap (operand deep k n t.text) r.1 ∙ ap (λ (b : Bool). unless_deep b (Operand k (n + 1) ∷ Operand k (n + 1) ∷ [])) e,
  subst (λ (z : List PlacedToken). AreExpected deep z (Operand k (n + 1) ∷ Operand k (n + 1) ∷ rest)) (sym (append_assoc (placed (n + 1) p) (placed (n + 1) s) tail))
      (fills-phrase deep own xs k p r.2.0 (n + 1) r.2.1 (placed (n + 1) s ++ tail) (Operand k (n + 1) ∷ rest) (fills-phrase deep own xs k s r.2.2.0 (n + 1) r.2.2.1 tail rest f)),
)

-- what is to come at the beginning
abbrev pub begin : List Token → List Expected
begin [] = Operand GeneralTerm 1 ∷ []
begin (t ∷ ts) = first_expected (token_kind t)

begin-phrase : (own : List ℕ) (xs : List Attr) (k : TermKind) (p : Phrase) (q : Tree) (n : ℕ) → IsPhraseOf own xs k p q → begin (tokens_in (placed n p)) ≡ Operand GeneralTerm 1 ∷ []
begin-phrase own xs k (One t) q n r = ap first_expected r.0
begin-phrase own xs k (Named t u) q n r = ap first_expected r.0
begin-phrase own xs k (Attributed t u p) q n r = ap first_expected r.0
begin-phrase own xs k (InSet t u w p) q n r = ap first_expected r.0
begin-phrase own xs k (Typed t u p) q n r = ap first_expected r.0
begin-phrase own xs k (Joined t p s) q n r = ap first_expected r.1

pub fills-whole : (deep : ℕ → Bool) (w : Whole) (own : List ℕ) (q : Tree) → IsWholeOf w own q → AreExpected deep (whole_placed w) (begin (tokens_in (whole_placed w)))
fills-whole deep (Bare p) own q r =
    subst (λ (z : List Expected). AreExpected deep (placed 1 p) z) (sym (begin-phrase own [] GeneralTerm p q 1 r.1))
    (subst (λ (z : List PlacedToken). AreExpected deep z (Operand GeneralTerm 1 ∷ [])) (append-nil (placed 1 p)) (fills-phrase deep own [] GeneralTerm p q 1 r.1 [] [] refl))
fills-whole deep (InAttrSet t u p) own q r =
    subst (λ (z : List Expected). AreExpected deep (on 0 t ∷ on 0 u ∷ placed 1 p) z) (sym (ap first_expected r.0))
    (λ _. (
      [],
      refl,
      λ _. (
        [],
        ap (λ (o : Option (List ℕ)). next_if kind.UnknownSet o (λ _. Ok [])) r.1,
        subst (λ (z : List PlacedToken). AreExpected deep z (Operand GeneralTerm 1 ∷ [])) (append-nil (placed 1 p)) (fills-phrase deep own [] GeneralTerm p q 1 r.2 [] [] refl),
      ),
    ))

-- a shallow front passes, and the whole leaves nothing to come
pub front-passes : (deep : ℕ → Bool) (front more : List PlacedToken) (ps : List Expected) → AreExpected deep (front ++ more) ps → AreShallow deep front → (left : List Expected) × (expected_after deep (tokens_in front) ps ≡ Ok left)
front-passes deep [] more ps f s = (ps, refl)
front-passes deep (x ∷ xs) more [] f s = absurd f
front-passes deep (x ∷ xs) more (p ∷ ps) f s =
    let step = f s.0 in
    let rest = front-passes deep xs more (step.0 ++ ps) step.2 s.1 in
    (rest.0, ap (λ (r : Result (List Expected) PqfErrorKind). after x.token r (λ next. expected_after deep (tokens_in xs) (next ++ ps))) step.1 ∙ rest.1)

pub whole-passes : (deep : ℕ → Bool) (front : List PlacedToken) (ps : List Expected) → AreExpected deep front ps → AreShallow deep front → expected_after deep (tokens_in front) ps ≡ Ok []
whole-passes deep [] ps f s = ap (λ (z : List Expected). Ok z) f
whole-passes deep (x ∷ xs) [] f s = absurd f
whole-passes deep (x ∷ xs) (p ∷ ps) f s =
    let step = f s.0 in
    ap (λ (r : Result (List Expected) PqfErrorKind). after x.token r (λ next. expected_after deep (tokens_in xs) (next ++ ps))) step.1 ∙ whole-passes deep xs (step.0 ++ ps) step.2 s.1

-- a query of height 32 at most is shallow
shallow-append : (deep : ℕ → Bool) (xs ys : List PlacedToken) → AreShallow deep xs → AreShallow deep ys → AreShallow deep (xs ++ ys)
shallow-append deep [] ys s t = t
shallow-append deep (x ∷ xs) ys s t = (s.0, shallow-append deep xs ys s.1 t)

within : (n : ℕ) → n ≤ 32 → below_limit n ≡ false
within n h = le-ltb 32 n h

height-set : (name : List ℕ) (xs : List Attr) → height (set_tree name xs) ≡ 1
height-set name [] = refl
height-set name (x ∷ xs) = refl

pub shallow-phrase : (own : List ℕ) (xs : List Attr) (k : TermKind) (p : Phrase) (q : Tree) (n : ℕ) → IsPhraseOf own xs k p q → n + height q ≤ 33 → AreShallow below_limit (placed n p)
shallow-phrase own xs k (One t) q n r h = (within n (omega (arith, ap height r.1.2)), tt)
shallow-phrase own xs k (Named t u) q n r h = (within n (omega (arith, ap height r.1 ∙ height-set u.text (in_force xs))), (refl, tt))
shallow-phrase own xs k (Attributed t u p) q n r h = (refl, (refl, shallow-phrase own (xs ++ attr None r.2.0 ∷ []) k p q n r.2.2 h))
shallow-phrase own xs k (InSet t u w p) q n r h = (refl, (refl, (refl, shallow-phrase own (xs ++ attr (kept_set own r.2.0) r.2.2.0 ∷ []) k p q n r.2.2.2 h)))
shallow-phrase own xs k (Typed t u p) q n r h = (refl, (refl, shallow-phrase own xs r.1.0 p q n r.1.2 h))
shallow-phrase own xs k (Joined t p s) q n r h =
    let is : height q ≡ max (height r.2.0) (height r.2.2.0) + 1 = ap height r.2.2.2 in (
      within n (omega (arith, is)),
      shallow-append below_limit (placed (n + 1) p) (placed (n + 1) s)
          (shallow-phrase own xs k p r.2.0 (n + 1) r.2.1 (omega (arith, is))) (shallow-phrase own xs k s r.2.2.0 (n + 1) r.2.2.1 (omega (arith, is))),
    )

shallow-whole : (w : Whole) (own : List ℕ) (q : Tree) → IsWholeOf w own q → height q ≤ 32 → AreShallow below_limit (whole_placed w)
shallow-whole (Bare p) own q r h = shallow-phrase own [] GeneralTerm p q 1 r.1 (omega arith)
shallow-whole (InAttrSet t u p) own q r h = (refl, (refl, shallow-phrase own [] GeneralTerm p q 1 r.2 (omega arith)))

-- where there is a token
some-token : (len : ℕ) (ts : List Token) (ps : List PlacedToken) → tokens_in ps ≡ ts → (0 < length ps) → tokens_fault len ts ≡ fault_left len (expected_after below_limit (tokens_in ps) (begin (tokens_in ps)))
some-token len ts [] e h = absurd (omega arith)
some-token len ts (x ∷ xs) e h = ap (tokens_fault len) (sym e)

phrase-some : (n : ℕ) (p : Phrase) → 0 < length (placed n p)
phrase-some n (One t) = omega arith
phrase-some n (Named t u) = omega arith
phrase-some n (Attributed t u p) = omega arith
phrase-some n (InSet t u w p) = omega arith
phrase-some n (Typed t u p) = omega arith
phrase-some n (Joined t p s) = omega arith

whole-some : (w : Whole) → 0 < length (whole_placed w)
whole-some (Bare p) = phrase-some 1 p
whole-some (InAttrSet t u p) = omega arith

-- no query of height 32 at most is refused
pub accepted : (len : ℕ) (ts : List Token) (q : RpnQuery) → IsQuery ts q → height q.root ≤ 32 → tokens_fault len ts ≡ None
accepted len ts q i h =
    some-token len ts (whole_placed i.whole) i.tokens (whole-some i.whole)
    ∙ ap (fault_left len) (whole-passes below_limit (whole_placed i.whole) (begin (tokens_in (whole_placed i.whole))) (fills-whole below_limit i.whole q.attr_set q.root i.reads) (shallow-whole i.whole q.attr_set q.root i.reads h))

first-passes : (deep : ℕ → Bool) (front more : List PlacedToken) → AreExpected deep (front ++ more) (begin (tokens_in (front ++ more))) → AreShallow deep front → (left : List Expected) × (expected_after deep (tokens_in front) (begin (tokens_in front)) ≡ Ok left)
first-passes deep [] more f s = (Operand GeneralTerm 1 ∷ [], refl)
first-passes deep (x ∷ xs) more f s = front-passes deep (x ∷ xs) more (first_expected (token_kind x.token)) f s

-- a front passes the table
pub front-walks : (deep : ℕ → Bool) (ts : List Token) → IsQueryFront deep ts → (left : List Expected) × (expected_after deep ts (begin ts) ≡ Ok left)
front-walks deep ts i =
    let fills = subst (λ (z : List PlacedToken). AreExpected deep z (begin (tokens_in z))) i.is (fills-whole deep i.whole i.own i.tree i.reads) in
    subst (λ (z : List Token). (left : List Expected) × (expected_after deep z (begin z) ≡ Ok left)) i.tokens (first-passes deep i.front i.more fills i.shallow)
