-- What passes the table is the beginning of a query.
use Rattle.std.proofs.Common.{◌≡◌, refl, sym, ◌∙◌, ap, subst, ℕ, ◌+◌, List, [], ◌∷◌, ◌++◌, Option, Some, None, Result, Ok, Err, ◌⊎◌, inl, inr, Bool, true, false, if◌then◌else◌, append_assoc, append-nil}
use Rattle.zquery.specs.declared.notation.token.Token.{Token}
use Rattle.zquery.specs.declared.notation.word.TokenKind.{TokenKind}
use Rattle.zquery.specs.declared.notation.word.TokenKind.TheVariants.{AttrSet, Attribute, Op, NamedSet, TypeOfTerm, Unknown, Plain}
use Rattle.zquery_rpn.specs.declared.query.Attr.{Attr}
use Rattle.zquery.specs.declared.notation.word.TermKind.{TermKind}
use Rattle.zquery.specs.declared.notation.error.PqfError.{PqfError}
use Rattle.zquery.specs.declared.notation.error.PqfErrorKind.{PqfErrorKind}
use Rattle.zquery.specs.declared.notation.error.PqfErrorKind.TheVariants as kind
use Rattle.zquery_rpn.specs.Trees.{Tree, OfTerm, Of}
use Rattle.zquery.specs.Notation.Words.{token_kind}
use Rattle.zquery.specs.Notation.Sets.{set_of}
use Rattle.zquery.specs.Notation.Values.{numbers_of, has_equals, term_kind_of, value_of}
use Rattle.zquery.specs.InForce.{in_force}
use Rattle.zquery.specs.Notation.Grammar.{Phrase, One, Named, Attributed, InSet, Typed, Joined, PlacedToken, on, IsPhraseOf, placed, tokens_in, set_tree, attr, kept_set}
use Rattle.zquery.specs.Notation.Table.{Expected, Operand, SetOrNumbers, Numbers, Kind, Name, OwnSet, unless_deep, next_if, operand, numbers, expected_after_token, after, expected_after}
use Rattle.zquery.specs.Notation.Fronts.{AreShallow}

-- the phrase stands for some tree, whatever set and attributes are above it
abbrev pub IsReadable : TermKind → Phrase → Type 0
IsReadable k p = (own : List ℕ) (xs : List Attr) → (q : Tree) × IsPhraseOf own xs k p q

pub record NumbersThen (k : TermKind) (n : ℕ) (l : List PlacedToken) : Type 0 where
  pub token : Token
  pub value : ℕ × ℕ
  pub means : numbers_of token.text ≡ Some value
  pub phrase : Phrase
  pub readable : IsReadable k phrase
  pub is : on 0 token ∷ placed n phrase ≡ l

pub record EqualsThen (k : TermKind) (n : ℕ) (l : List PlacedToken) : Type 0 where
  pub from : NumbersThen k n l
  pub equals : has_equals from.token.text ≡ true

pub record SetThen (k : TermKind) (n : ℕ) (l : List PlacedToken) : Type 0 where
  pub token : Token
  pub set : List ℕ
  pub means : set_of token.text ≡ Some set
  pub no : has_equals token.text ≡ false
  pub more : List PlacedToken
  pub rest : NumbersThen k n more
  pub is : on 0 token ∷ more ≡ l

pub record KindThen (n : ℕ) (l : List PlacedToken) : Type 0 where
  pub token : Token
  pub kind : TermKind
  pub means : term_kind_of token.text ≡ Some kind
  pub phrase : Phrase
  pub readable : IsReadable kind phrase
  pub is : on 0 token ∷ placed n phrase ≡ l

-- tokens that may stand for a place
abbrev pub AreExpectedFor : Expected → List PlacedToken → Type 0
AreExpectedFor (Operand k n) l = (p : Phrase) × IsReadable k p × (placed n p ≡ l)
AreExpectedFor (SetOrNumbers k n) l = EqualsThen k n l ⊎ SetThen k n l
AreExpectedFor (Numbers k n) l = NumbersThen k n l
AreExpectedFor (Kind n) l = KindThen n l
AreExpectedFor Name l = (u : Token) × (on 0 u ∷ [] ≡ l)
AreExpectedFor OwnSet l = (u : Token) × ((set : List ℕ) × (set_of u.text ≡ Some set) × (on 0 u ∷ [] ≡ l))

abbrev pub AreExpectedForAll : List Expected → List PlacedToken → Type 0
AreExpectedForAll [] l = l ≡ []
AreExpectedForAll (P ∷ Ps) l = (a : List PlacedToken) × ((b : List PlacedToken) × AreExpectedFor P a × AreExpectedForAll Ps b × (a ++ b ≡ l))

pub single : (P : Expected) (l : List PlacedToken) → AreExpectedForAll (P ∷ []) l → AreExpectedFor P l
single P l f =
    let e : f.0 ≡ l = sym (append-nil f.0) ∙ ap (λ (b : List PlacedToken). f.0 ++ b) (sym f.1.2) ∙ f.1.3 in
    subst (λ (z : List PlacedToken). AreExpectedFor P z) e f.1.1

split : (xs ys : List Expected) (m : List PlacedToken) → AreExpectedForAll (xs ++ ys) m → (a : List PlacedToken) × ((b : List PlacedToken) × AreExpectedForAll xs a × AreExpectedForAll ys b × (a ++ b ≡ m))
split [] ys m f = ([], (m, refl, f, refl))
split (x ∷ xs) ys m f =
    let rest = split xs ys f.1.0 f.1.2 in
    (f.0 ++ rest.0, (rest.1.0, (f.0, (rest.0, f.1.1, rest.1.1, refl)), rest.1.2, append_assoc f.0 rest.0 rest.1.0 ∙ ap (λ (z : List PlacedToken). f.0 ++ z) rest.1.3 ∙ f.1.3))

pub ok-same : {E : Type 0} (x y : List Expected) (r : Result (List Expected) E) → r ≡ Ok x → r ≡ Ok y → x ≡ y
ok-same x y r g h = cc

pub next-ok : {A : Type 0} (e : PqfErrorKind) (o : Option A) (go : A → Result (List Expected) PqfErrorKind) (y : List Expected) → next_if e o go ≡ Ok y → (x : A) × (o ≡ Some x) × (go x ≡ Ok y)
next-ok e None go y h = absurd (Prim.cc h)
next-ok e (Some x) go y h = (x, refl, h)

pub unless-ok : (b : Bool) (x y : List Expected) → unless_deep b x ≡ Ok y → (b ≡ false) × (x ≡ y)
unless-ok true x y h = absurd (Prim.cc h)
unless-ok false x y h = (refl, ok-same x y (Ok x) refl h)

pub after-ok : (t : Token) (r : Result (List Expected) PqfErrorKind) (go : List Expected → Result (List Expected) PqfError) (y : List Expected) → after t r go ≡ Ok y → (x : List Expected) × (r ≡ Ok x) × (go x ≡ Ok y)
after-ok t (Ok x) go y h = (x, refl, h)
after-ok t (Err e) go y h = absurd (Prim.cc h)

-- a token before what fills the next places
pub record TokenBefore (deep : ℕ → Bool) (P : Expected) (t : Token) (l : List PlacedToken) : Type 0 where
  pub x : PlacedToken
  pub token : x.token ≡ t
  pub shallow : deep x.level ≡ false
  pub fills : AreExpectedFor P (x ∷ l)

by-attribute : (deep : ℕ → Bool) → deep 0 ≡ false → (k : TermKind) (n : ℕ) (t : Token) (l : List PlacedToken) → token_kind t ≡ Attribute → EqualsThen k n l ⊎ SetThen k n l → TokenBefore deep (Operand k n) t l
by-attribute deep z k n t l w f = elim f [
  | inl b ↦ record {
    x = on 0 t;
    token = refl;
    shallow = z;
    fills = (
      Attributed t b.from.token b.from.phrase,
      (λ own xs. let r = b.from.readable own (xs ++ attr None b.from.value ∷ []) in (r.0, (w, b.equals, (b.from.value, b.from.means, r.1)))),
      ap (λ (m : List PlacedToken). on 0 t ∷ m) b.from.is,
    );
  }
  | inr b ↦ record {
    x = on 0 t;
    token = refl;
    shallow = z;
    fills = (
      InSet t b.token b.rest.token b.rest.phrase,
      (λ own xs. let r = b.rest.readable own (xs ++ attr (kept_set own b.set) b.rest.value ∷ []) in (r.0, (w, b.no, (b.set, b.means, (b.rest.value, b.rest.means, r.1))))),
      ap (λ (m : List PlacedToken). on 0 t ∷ m) (ap (λ (m : List PlacedToken). on 0 b.token ∷ m) b.rest.is ∙ b.is),
    );
  }
]

operand-back : (deep : ℕ → Bool) → deep 0 ≡ false → (k : TermKind) (n : ℕ) (t : Token) (w : TokenKind) → token_kind t ≡ w → (next : List Expected) (l : List PlacedToken) → operand deep k n t.text w ≡ Ok next → AreExpectedForAll next l → TokenBefore deep (Operand k n) t l
operand-back deep z k n t Attribute w next l h f =
    let same = ok-same (SetOrNumbers k n ∷ []) next (Ok (SetOrNumbers k n ∷ [])) refl h in
    by-attribute deep z k n t l w (single (SetOrNumbers k n) l (subst (λ (ps : List Expected). AreExpectedForAll ps l) (sym same) f))
operand-back deep z k n t TypeOfTerm w next l h f =
    let same = ok-same (Kind n ∷ []) next (Ok (Kind n ∷ [])) refl h in
    let b = single (Kind n) l (subst (λ (ps : List Expected). AreExpectedForAll ps l) (sym same) f) in
    record {
      x = on 0 t;
      token = refl;
      shallow = z;
      fills = (Typed t b.token b.phrase, (λ own xs. let r = b.readable own xs in (r.0, (w, (b.kind, b.means, r.1)))), ap (λ (m : List PlacedToken). on 0 t ∷ m) b.is);
    }
operand-back deep z k n t (Op o) w next l h f =
    let same = unless-ok (deep n) (Operand k (n + 1) ∷ Operand k (n + 1) ∷ []) next h in
    let g : AreExpectedForAll (Operand k (n + 1) ∷ Operand k (n + 1) ∷ []) l = subst (λ (ps : List Expected). AreExpectedForAll ps l) (sym same.1) f in
    let one : AreExpectedFor (Operand k (n + 1)) g.0 = g.1.1 in
    let two : AreExpectedFor (Operand k (n + 1)) g.1.0 = single (Operand k (n + 1)) g.1.0 g.1.2 in
    record {
      x = on n t;
      token = refl;
      shallow = same.0;
      fills = (
        Joined t one.0 two.0,
        (λ own xs. let a = one.1 own xs in let b = two.1 own xs in (Of o a.0 b.0, (o, w, (a.0, a.1, (b.0, b.1, refl))))),
        ap (λ (m : List PlacedToken). on n t ∷ m) (ap (λ (m : List PlacedToken). m ++ placed (n + 1) two.0) one.2 ∙ ap (λ (m : List PlacedToken). g.0 ++ m) two.2 ∙ g.1.3),
      );
    }
operand-back deep z k n t NamedSet w next l h f =
    let same = unless-ok (deep n) (Name ∷ []) next h in
    let b : AreExpectedFor Name l = single Name l (subst (λ (ps : List Expected). AreExpectedForAll ps l) (sym same.1) f) in
    record {
      x = on n t;
      token = refl;
      shallow = same.0;
      fills = (Named t b.0, (λ own xs. (set_tree b.0.text (in_force xs), (w, refl))), ap (λ (m : List PlacedToken). on n t ∷ m) b.1);
    }
operand-back deep z k n t Plain w next l h f =
    let found = next-ok kind.BadNumber (value_of k t.text) (λ _. unless_deep (deep n) []) next h in
    let same = unless-ok (deep n) [] next found.2 in
    let b : l ≡ [] = subst (λ (ps : List Expected). AreExpectedForAll ps l) (sym same.1) f in
    record {
      x = on n t;
      token = refl;
      shallow = same.0;
      fills = (One t, (λ own xs. (OfTerm (in_force xs) found.0, (w, (found.0, found.1, refl)))), ap (λ (m : List PlacedToken). on n t ∷ m) (sym b));
    }
operand-back deep z k n t Unknown w next l h f = absurd (Prim.cc h)
operand-back deep z k n t AttrSet w next l h f = absurd (Prim.cc h)

numbers-back : (k : TermKind) (n : ℕ) (t : Token) (next : List Expected) (l : List PlacedToken) → numbers k n t.text ≡ Ok next → AreExpectedForAll next l → (b : NumbersThen k n (on 0 t ∷ l)) × (b.token ≡ t)
numbers-back k n t next l h f =
    let found = next-ok kind.BadAttribute (numbers_of t.text) (λ _. Ok (Operand k n ∷ [])) next h in
    let same = ok-same (Operand k n ∷ []) next (Ok (Operand k n ∷ [])) refl found.2 in
    let b : AreExpectedFor (Operand k n) l = single (Operand k n) l (subst (λ (ps : List Expected). AreExpectedForAll ps l) (sym same) f) in
    (record { token = t; value = found.0; means = found.1; phrase = b.0; readable = b.1; is = ap (λ (m : List PlacedToken). on 0 t ∷ m) b.2 }, refl)

set-back : (deep : ℕ → Bool) → deep 0 ≡ false → (k : TermKind) (n : ℕ) (t : Token) (b : Bool) → has_equals t.text ≡ b → (next : List Expected) (l : List PlacedToken)
    → (if b then numbers k n t.text else next_if kind.UnknownSet (set_of t.text) (λ _. Ok (Numbers k n ∷ []))) ≡ Ok next → AreExpectedForAll next l → TokenBefore deep (SetOrNumbers k n) t l
set-back deep z k n t true e next l h f =
    let b = numbers-back k n t next l h f in
    record { x = on 0 t; token = refl; shallow = z; fills = inl (record { from = b.0; equals = ap (λ (u : Token). has_equals u.text) b.1 ∙ e }) }
set-back deep z k n t false e next l h f =
    let found = next-ok kind.UnknownSet (set_of t.text) (λ _. Ok (Numbers k n ∷ [])) next h in
    let same = ok-same (Numbers k n ∷ []) next (Ok (Numbers k n ∷ [])) refl found.2 in
    let b : AreExpectedFor (Numbers k n) l = single (Numbers k n) l (subst (λ (ps : List Expected). AreExpectedForAll ps l) (sym same) f) in
    record { x = on 0 t; token = refl; shallow = z; fills = inr (record { token = t; set = found.0; means = found.1; no = e; more = l; rest = b; is = refl }) }

step-back : (deep : ℕ → Bool) → deep 0 ≡ false → (P : Expected) (t : Token) (next : List Expected) (l : List PlacedToken) → expected_after_token deep P t ≡ Ok next → AreExpectedForAll next l → TokenBefore deep P t l
step-back deep z (Operand k n) t next l h f = operand-back deep z k n t (token_kind t) refl next l h f
step-back deep z (SetOrNumbers k n) t next l h f = set-back deep z k n t (has_equals t.text) refl next l h f
step-back deep z (Numbers k n) t next l h f = record { x = on 0 t; token = refl; shallow = z; fills = (numbers-back k n t next l h f).0 }
step-back deep z (Kind n) t next l h f =
    let found = next-ok kind.BadTermType (term_kind_of t.text) (λ k. Ok (Operand k n ∷ [])) next h in
    let same = ok-same (Operand found.0 n ∷ []) next (Ok (Operand found.0 n ∷ [])) refl found.2 in
    let b : AreExpectedFor (Operand found.0 n) l = single (Operand found.0 n) l (subst (λ (ps : List Expected). AreExpectedForAll ps l) (sym same) f) in
    record { x = on 0 t; token = refl; shallow = z; fills = record { token = t; kind = found.0; means = found.1; phrase = b.0; readable = b.1; is = ap (λ (m : List PlacedToken). on 0 t ∷ m) b.2 } }
step-back deep z Name t next l h f =
    let same = ok-same [] next (Ok []) refl h in
    let b : l ≡ [] = subst (λ (ps : List Expected). AreExpectedForAll ps l) (sym same) f in
    record { x = on 0 t; token = refl; shallow = z; fills = (t, ap (λ (m : List PlacedToken). on 0 t ∷ m) (sym b)) }
step-back deep z OwnSet t next l h f =
    let found = next-ok kind.UnknownSet (set_of t.text) (λ _. Ok []) next h in
    let same = ok-same [] next (Ok []) refl found.2 in
    let b : l ≡ [] = subst (λ (ps : List Expected). AreExpectedForAll ps l) (sym same) f in
    record { x = on 0 t; token = refl; shallow = z; fills = (t, (found.0, found.1, ap (λ (m : List PlacedToken). on 0 t ∷ m) (sym b))) }

pub all-back : (deep : ℕ → Bool) → deep 0 ≡ false → (ts : List Token) (ps left : List Expected) → expected_after deep ts ps ≡ Ok left → (l : List PlacedToken) → AreExpectedForAll left l
    → (front : List PlacedToken) × (tokens_in front ≡ ts) × AreShallow deep front × AreExpectedForAll ps (front ++ l)
all-back deep z [] ps left h l f = ([], refl, tt, subst (λ (q : List Expected). AreExpectedForAll q l) (sym (ok-same ps left (Ok ps) refl h)) f)
all-back deep z (t ∷ ts) [] left h l f = absurd (Prim.cc h)
all-back deep z (t ∷ ts) (P ∷ Ps) left h l f =
    let step = after-ok t (expected_after_token deep P t) (λ next. expected_after deep ts (next ++ Ps)) left h in
    let rest = all-back deep z ts (step.0 ++ Ps) left step.2 l f in
    let parts = split step.0 Ps (rest.0 ++ l) rest.3 in
    let b = step-back deep z P t step.0 parts.0 step.1 parts.1.1 in (
      b.x ∷ rest.0,
      ap (λ (u : Token). u ∷ tokens_in rest.0) b.token ∙ ap (λ (us : List Token). t ∷ us) rest.1,
      (b.shallow, rest.2),
      (b.x ∷ parts.0, (parts.1.0, b.fills, parts.1.2, ap (λ (m : List PlacedToken). b.x ∷ m) parts.1.3)),
    )
