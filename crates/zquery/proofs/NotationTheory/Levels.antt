-- A token that is refused for its level goes on with the tokens before it, but for that; and no other does.
use Rattle.std.proofs.Common.{◌≡◌, ◌↔◌, refl, sym, ◌∙◌, ap, ℕ, ◌+◌, List, [], ◌∷◌, ◌++◌, Option, Some, None, Result, Ok, Err, Bool, true, false, if◌then◌else◌, append_assoc}
use Rattle.zquery.specs.declared.notation.token.Token.{Token}
use Rattle.zquery.specs.declared.notation.word.TokenKind.{TokenKind}
use Rattle.zquery.specs.declared.notation.word.TokenKind.TheVariants.{AttrSet, Attribute, Op, NamedSet, TypeOfTerm, Unknown, Plain}
use Rattle.zquery.specs.declared.notation.word.TermKind.{TermKind}
use Rattle.zquery_rpn.specs.declared.query.TermValue.{TermValue}
use Rattle.zquery.specs.declared.notation.error.PqfError.{PqfError}
use Rattle.zquery.specs.declared.notation.error.PqfErrorKind.{PqfErrorKind}
use Rattle.zquery.specs.declared.notation.error.PqfErrorKind.TheVariants as kind
use Rattle.zquery.specs.Notation.Words.{token_kind}
use Rattle.zquery.specs.Notation.Sets.{set_of}
use Rattle.zquery.specs.Notation.Values.{numbers_of, has_equals, term_kind_of, value_of}
use Rattle.zquery.specs.Notation.Table.{Expected, Operand, SetOrNumbers, Numbers, Kind, Name, OwnSet, unless_deep, next_if, operand, numbers, expected_after_token, after, expected_after, first_expected, fault_left, tokens_fault, below_limit, error_at}
use Rattle.zquery.specs.Notation.Fronts.{any_level, IsQueryFront, IsBelowLevels}
use Rattle.zquery.proofs.NotationTheory.Filling.{begin, front-walks}
use Rattle.zquery.proofs.NotationTheory.Completing.{ok-same, after-ok}
use Rattle.zquery.proofs.NotationTheory.Refusing.{relaxed-step, relaxed, faulty, begin-same, err-same, at-faulty, walks-front}

-- ---- one token

-- the token is expected, whatever its level
abbrev IsTakenOnAnyLevel : Expected → Token → Type 0
IsTakenOnAnyLevel p t = (next : List Expected) × (expected_after_token any_level p t ≡ Ok next)

value-deep : (o : Option TermValue) (b : Bool) → next_if kind.BadNumber o (λ _. unless_deep b []) ≡ Err kind.TooDeep → next_if kind.BadNumber o (λ _. unless_deep false []) ≡ Ok []
value-deep None b h = absurd (Prim.cc h)
value-deep (Some v) b h = refl

operand-deep : (deep : ℕ → Bool) (k : TermKind) (n : ℕ) (text : List ℕ) (w : TokenKind) → operand deep k n text w ≡ Err kind.TooDeep → (next : List Expected) × (operand any_level k n text w ≡ Ok next)
operand-deep deep k n text Attribute h = absurd (Prim.cc h)
operand-deep deep k n text TypeOfTerm h = absurd (Prim.cc h)
operand-deep deep k n text (Op o) h = (Operand k (n + 1) ∷ Operand k (n + 1) ∷ [], refl)
operand-deep deep k n text NamedSet h = (Name ∷ [], refl)
operand-deep deep k n text Plain h = ([], value-deep (value_of k text) (deep n) h)
operand-deep deep k n text Unknown h = absurd (Prim.cc h)
operand-deep deep k n text AttrSet h = absurd (Prim.cc h)

no-such : {A : Type 0} (e : PqfErrorKind) (o : Option A) (go : A → List Expected) → (e ≡ kind.TooDeep → ⊥) → next_if e o (λ x. Ok (go x)) ≡ Err kind.TooDeep → ⊥
no-such e None go other h = other (cc)
no-such e (Some x) go other h = Prim.cc h

numbers-deep : (k : TermKind) (n : ℕ) (text : List ℕ) → numbers k n text ≡ Err kind.TooDeep → ⊥
numbers-deep k n text h = no-such kind.BadAttribute (numbers_of text) (λ _. Operand k n ∷ []) (λ e. cc) h

set-deep : (k : TermKind) (n : ℕ) (text : List ℕ) (b : Bool) → (if b then numbers k n text else next_if kind.UnknownSet (set_of text) (λ _. Ok (Numbers k n ∷ []))) ≡ Err kind.TooDeep → ⊥
set-deep k n text true h = numbers-deep k n text h
set-deep k n text false h = no-such kind.UnknownSet (set_of text) (λ _. Numbers k n ∷ []) (λ e. cc) h

step-deep : (deep : ℕ → Bool) (p : Expected) (t : Token) → expected_after_token deep p t ≡ Err kind.TooDeep → IsTakenOnAnyLevel p t
step-deep deep (Operand k n) t h = operand-deep deep k n t.text (token_kind t) h
step-deep deep (SetOrNumbers k n) t h = absurd (set-deep k n t.text (has_equals t.text) h)
step-deep deep (Numbers k n) t h = absurd (numbers-deep k n t.text h)
step-deep deep (Kind n) t h = absurd (no-such kind.BadTermType (term_kind_of t.text) (λ k. Operand k n ∷ []) (λ e. cc) h)
step-deep deep Name t h = absurd (Prim.cc h)
step-deep deep OwnSet t h = absurd (no-such kind.UnknownSet (set_of t.text) (λ _. []) (λ e. cc) h)

-- if a token is expected whatever its level, the only error can be `TooDeep`
unless-other : (b : Bool) (x : List Expected) (e : PqfErrorKind) → unless_deep b x ≡ Err e → e ≡ kind.TooDeep
unless-other true x e h = cc
unless-other false x e h = absurd (Prim.cc h)

same-way : (r : Result (List Expected) PqfErrorKind) (e : PqfErrorKind) (next : List Expected) → r ≡ Err e → r ≡ Ok next → ⊥
same-way r e next g h = cc

value-other : (o : Option TermValue) (b : Bool) (e : PqfErrorKind) (next : List Expected) → next_if kind.BadNumber o (λ _. unless_deep b []) ≡ Err e → next_if kind.BadNumber o (λ _. unless_deep false []) ≡ Ok next → e ≡ kind.TooDeep
value-other None b e next h g = absurd (Prim.cc g)
value-other (Some v) b e next h g = unless-other b [] e h

operand-other : (deep : ℕ → Bool) (k : TermKind) (n : ℕ) (text : List ℕ) (w : TokenKind) (e : PqfErrorKind) (next : List Expected) → operand deep k n text w ≡ Err e → operand any_level k n text w ≡ Ok next → e ≡ kind.TooDeep
operand-other deep k n text Attribute e next h g = absurd (Prim.cc h)
operand-other deep k n text TypeOfTerm e next h g = absurd (Prim.cc h)
operand-other deep k n text (Op o) e next h g = unless-other (deep n) (Operand k (n + 1) ∷ Operand k (n + 1) ∷ []) e h
operand-other deep k n text NamedSet e next h g = unless-other (deep n) (Name ∷ []) e h
operand-other deep k n text Plain e next h g = value-other (value_of k text) (deep n) e next h g
operand-other deep k n text Unknown e next h g = absurd (Prim.cc g)
operand-other deep k n text AttrSet e next h g = absurd (Prim.cc g)

step-other : (deep : ℕ → Bool) (p : Expected) (t : Token) (e : PqfErrorKind) (next : List Expected) → expected_after_token deep p t ≡ Err e → expected_after_token any_level p t ≡ Ok next → e ≡ kind.TooDeep
step-other deep (Operand k n) t e next h g = operand-other deep k n t.text (token_kind t) e next h g
step-other deep (SetOrNumbers k n) t e next h g = absurd (same-way (expected_after_token deep (SetOrNumbers k n) t) e next h g)
step-other deep (Numbers k n) t e next h g = absurd (same-way (expected_after_token deep (Numbers k n) t) e next h g)
step-other deep (Kind n) t e next h g = absurd (same-way (expected_after_token deep (Kind n) t) e next h g)
step-other deep Name t e next h g = absurd (Prim.cc h)
step-other deep OwnSet t e next h g = absurd (same-way (expected_after_token deep OwnSet t) e next h g)

-- ---- tokens

-- tokens that pass, and then others
pub expected_after-on : (deep : ℕ → Bool) (xs ys : List Token) (ps left : List Expected) → expected_after deep xs ps ≡ Ok left → expected_after deep (xs ++ ys) ps ≡ expected_after deep ys left
expected_after-on deep [] ys ps left h = ap (expected_after deep ys) (ok-same ps left (Ok ps) refl h)
expected_after-on deep (t ∷ ts) ys [] left h = absurd (Prim.cc h)
expected_after-on deep (t ∷ ts) ys (P ∷ Ps) left h =
    let step = after-ok t (expected_after_token deep P t) (λ next. expected_after deep ts (next ++ Ps)) left h in
    ap (λ (r : Result (List Expected) PqfErrorKind). after t r (λ next. expected_after deep (ts ++ ys) (next ++ Ps))) step.1 ∙ expected_after-on deep ts ys (step.0 ++ Ps) left step.2

-- tokens that do not pass, whatever follows
err-after : (deep : ℕ → Bool) (t : Token) (ts ys : List Token) (Ps : List Expected) (e : PqfError) (r : Result (List Expected) PqfErrorKind)
    → ((next : List Expected) → expected_after deep ts (next ++ Ps) ≡ Err e → expected_after deep (ts ++ ys) (next ++ Ps) ≡ Err e) → after t r (λ next. expected_after deep ts (next ++ Ps)) ≡ Err e → after t r (λ next. expected_after deep (ts ++ ys) (next ++ Ps)) ≡ Err e
err-after deep t ts ys Ps e (Ok next) more h = more next h
err-after deep t ts ys Ps e (Err k) more h = h

err-on : (deep : ℕ → Bool) (xs ys : List Token) (ps : List Expected) (e : PqfError) → expected_after deep xs ps ≡ Err e → expected_after deep (xs ++ ys) ps ≡ Err e
err-on deep [] ys ps e h = absurd (Prim.cc h)
err-on deep (t ∷ ts) ys [] e h = h
err-on deep (t ∷ ts) ys (P ∷ Ps) e h = err-after deep t ts ys Ps e (expected_after_token deep P t) (λ next. err-on deep ts ys (next ++ Ps) e) h

-- one token more, refused for its level
level-here : (deep : ℕ → Bool) (t : Token) (Ps : List Expected) (e : PqfError) (P : Expected) (r : Result (List Expected) PqfErrorKind) → expected_after_token deep P t ≡ r → after t r (λ next. expected_after deep [] (next ++ Ps)) ≡ Err e → e.kind ≡ kind.TooDeep
    → (left : List Expected) × (expected_after any_level (t ∷ []) (P ∷ Ps) ≡ Ok left)
level-here deep t Ps e P (Ok next) s h k = absurd (Prim.cc h)
level-here deep t Ps e P (Err f) s h k =
    let same : f ≡ kind.TooDeep = ap (λ (x : PqfError). x.kind) (err-same (error_at t f) e (Err (error_at t f)) refl h) ∙ k in
    let goes = step-deep deep P t (s ∙ ap (λ (x : PqfErrorKind). Err x) same) in
    (goes.0 ++ Ps, ap (λ (r : Result (List Expected) PqfErrorKind). after t r (λ next. expected_after any_level [] (next ++ Ps))) goes.1)

level-there : (deep : ℕ → Bool) (t : Token) (left : List Expected) (e : PqfError) → expected_after deep (t ∷ []) left ≡ Err e → e.kind ≡ kind.TooDeep → (more : List Expected) × (expected_after any_level (t ∷ []) left ≡ Ok more)
level-there deep t [] e h k = absurd (let same : kind.Trailing ≡ e.kind = ap (λ (x : PqfError). x.kind) (err-same (error_at t kind.Trailing) e (Err (error_at t kind.Trailing)) refl h) in cc)
level-there deep t (P ∷ Ps) e h k = level-here deep t Ps e P (expected_after_token deep P t) refl h k

-- if tokens pass whatever their levels, their only error can be `TooDeep`
after-other : (deep : ℕ → Bool) (P : Expected) (t : Token) (ts : List Token) (Ps : List Expected) (e : PqfError) (left : List Expected) (r : Result (List Expected) PqfErrorKind)
    → ((next : List Expected) → expected_after deep ts (next ++ Ps) ≡ Err e → expected_after any_level ts (next ++ Ps) ≡ Ok left → e.kind ≡ kind.TooDeep)
    → expected_after_token deep P t ≡ r → after t r (λ next. expected_after deep ts (next ++ Ps)) ≡ Err e → expected_after any_level (t ∷ ts) (P ∷ Ps) ≡ Ok left → e.kind ≡ kind.TooDeep
after-other deep P t ts Ps e left (Ok next) more s h g =
    more next h (sym (ap (λ (r : Result (List Expected) PqfErrorKind). after t r (λ next. expected_after any_level ts (next ++ Ps))) (relaxed-step deep P t next s)) ∙ g)
after-other deep P t ts Ps e left (Err f) more s h g =
    let step = after-ok t (expected_after_token any_level P t) (λ next. expected_after any_level ts (next ++ Ps)) left g in
    sym (ap (λ (x : PqfError). x.kind) (err-same (error_at t f) e (Err (error_at t f)) refl h)) ∙ step-other deep P t f step.0 s step.1

level-alone : (deep : ℕ → Bool) (ts : List Token) (ps : List Expected) (e : PqfError) (left : List Expected) → expected_after deep ts ps ≡ Err e → expected_after any_level ts ps ≡ Ok left → e.kind ≡ kind.TooDeep
level-alone deep [] ps e left h g = absurd (Prim.cc h)
level-alone deep (t ∷ ts) [] e left h g = absurd (Prim.cc g)
level-alone deep (t ∷ ts) (P ∷ Ps) e left h g = after-other deep P t ts Ps e left (expected_after_token deep P t) (λ next. level-alone deep ts (next ++ Ps) e left) refl h g

-- ---- the error of tokens

-- tokens that do not pass have an error
expected_after-fault_left : (ts : List Token) (r : Result (List Expected) PqfError) → expected_after below_limit ts (begin ts) ≡ r → ((left : List Expected) → expected_after below_limit ts (begin ts) ≡ Ok left → ⊥) → (e : PqfError) × (expected_after below_limit ts (begin ts) ≡ Err e)
expected_after-fault_left ts (Ok left) h none = absurd (none left h)
expected_after-fault_left ts (Err e) h none = (e, h)

no-front : (ts : List Token) → (IsQueryFront below_limit ts → ⊥) → (left : List Expected) → expected_after below_limit ts (begin ts) ≡ Ok left → ⊥
no-front ts none left h = none (walks-front below_limit refl ts left h)

err-of : (len : ℕ) (r : Result (List Expected) PqfError) (e f : PqfError) → fault_left len r ≡ Some e → r ≡ Err f → f ≡ e
err-of len (Ok []) e f h g = absurd (Prim.cc g)
err-of len (Ok (p ∷ ps)) e f h g = absurd (Prim.cc g)
err-of len (Err x) e f h g = cc

deep-fault_left : (len : ℕ) (r : Result (List Expected) PqfError) (e : PqfError) → fault_left len r ≡ Some e → e.kind ≡ kind.TooDeep → r ≡ Err e
deep-fault_left len (Ok []) e h k = absurd (Prim.cc h)
deep-fault_left len (Ok (p ∷ ps)) e h k = absurd (let same : Some (record { at = len; kind = kind.MissingOperand }) ≡ Some e = h in cc)
deep-fault_left len (Err x) e h k = ap (λ (y : PqfError). Err y) (let same : Some x ≡ Some e = h in cc)

-- the front goes on, where its token is refused for its level
goes-on : (ts : List Token) (e : PqfError) → expected_after below_limit ts (begin ts) ≡ Err e → e.kind ≡ kind.TooDeep → (before : List Token) (t : Token) (rest : List Token) (left : List Expected) → ts ≡ before ++ t ∷ rest
    → expected_after below_limit before (begin ts) ≡ Ok left → expected_after below_limit (before ++ t ∷ []) (begin ts) ≡ Err e → IsQueryFront any_level (before ++ t ∷ [])
goes-on ts e h k before t rest left whole passes fails =
    let last : expected_after below_limit (t ∷ []) left ≡ Err e = sym (expected_after-on below_limit before (t ∷ []) (begin ts) left passes) ∙ fails in
    let more = level-there below_limit t left e last k in
    let all : expected_after any_level (before ++ t ∷ []) (begin ts) ≡ Ok more.0 = expected_after-on any_level before (t ∷ []) (begin ts) left (relaxed below_limit before (begin ts) left passes) ∙ more.1 in
    let start : begin (before ++ t ∷ []) ≡ begin ts = sym (begin-same before t rest) ∙ ap begin (sym whole) in
    walks-front any_level refl (before ++ t ∷ []) more.0 (ap (expected_after any_level (before ++ t ∷ [])) start ∙ all)

by-level : (ts : List Token) (e : PqfError) → expected_after below_limit ts (begin ts) ≡ Err e → e.kind ≡ kind.TooDeep → IsBelowLevels ts e
by-level ts e h k =
    let f = faulty below_limit ts (begin ts) e h in
    record { first = at-faulty ts e f; front_with_token = goes-on ts e h k f.before f.token f.rest f.left f.whole f.passes f.fails }

of-level : (ts : List Token) (e : PqfError) → ((f : PqfError) → expected_after below_limit ts (begin ts) ≡ Err f → f ≡ e) → IsBelowLevels ts e → e.kind ≡ kind.TooDeep
of-level ts e only b =
    let front = b.first.before ++ b.first.token ∷ [] in
    let lined : ts ≡ front ++ b.first.after = b.first.whole ∙ sym (append_assoc b.first.before (b.first.token ∷ []) b.first.after) in
    let found = expected_after-fault_left front (expected_after below_limit front (begin front)) refl (no-front front b.first.broken) in
    let start : begin ts ≡ begin front = ap begin b.first.whole ∙ begin-same b.first.before b.first.token b.first.after in
    let whole : expected_after below_limit ts (begin ts) ≡ Err found.0 =
    ap (λ (z : List Token). expected_after below_limit z (begin ts)) lined ∙ ap (expected_after below_limit (front ++ b.first.after)) start ∙ err-on below_limit front b.first.after (begin front) found.0 found.1 in
    let free = front-walks any_level front b.front_with_token in
    sym (ap (λ (x : PqfError). x.kind) (only found.0 whole)) ∙ level-alone below_limit front (begin front) found.0 free.0 found.1 free.1

pub too-deep-alone : (len : ℕ) (ts : List Token) (e : PqfError) → tokens_fault len ts ≡ Some e → (e.kind ≡ kind.TooDeep) ↔ IsBelowLevels ts e
too-deep-alone len [] e h = (
  (λ k. absurd (let same : Some (record { at = 0; kind = kind.Empty }) ≡ Some e = h in cc)),
  (λ b. absurd (no-cut b.first.before b.first.token b.first.after b.first.whole)),
)
  where
    no-cut : (xs : List Token) (t : Token) (ys : List Token) → [] ≡ xs ++ t ∷ ys → ⊥
    no-cut [] t ys q = cc
    no-cut (x ∷ xs) t ys q = cc
too-deep-alone len (t ∷ ts) e h = (
  (λ k. by-level (t ∷ ts) e (deep-fault_left len (expected_after below_limit (t ∷ ts) (first_expected (token_kind t))) e h k) k),
  (λ b. of-level (t ∷ ts) e (λ f g. err-of len (expected_after below_limit (t ∷ ts) (first_expected (token_kind t))) e f h g) b),
)
