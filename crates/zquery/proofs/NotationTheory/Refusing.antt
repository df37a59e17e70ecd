-- The first error of the table is at the token with which the text stops being the beginning of a query.
use Rattle.std.proofs.Common.{◌≡◌, refl, sym, ◌∙◌, ap, ℕ, ◌+◌, List, [], ◌∷◌, ◌++◌, Option, Some, Result, Ok, Err, ◌⊎◌, inl, inr, Bool, true, false, codes}
use Rattle.zquery.specs.declared.notation.token.Token.{Token}
use Rattle.zquery.specs.declared.notation.word.TokenKind.{TokenKind}
use Rattle.zquery.specs.declared.notation.word.TokenKind.TheVariants.{AttrSet, Attribute, Op, NamedSet, TypeOfTerm, Unknown, Plain}
use Rattle.zquery.specs.declared.notation.word.TermKind.{TermKind}
use Rattle.zquery.specs.declared.notation.word.TermKind.TheVariants.{GeneralTerm, NumericTerm, TextTerm}
use Rattle.zquery_rpn.specs.declared.query.TermValue.{TermValue}
use Rattle.zquery.specs.declared.notation.error.PqfError.{PqfError}
use Rattle.zquery.specs.declared.notation.error.PqfErrorKind.{PqfErrorKind}
use Rattle.zquery.specs.declared.notation.error.PqfErrorKind.TheVariants as kind
use Rattle.zquery_rpn.specs.Trees.{OfTerm}
use Rattle.zquery.specs.Notation.Words.{token_kind}
use Rattle.zquery.specs.Notation.Numbers.{number_of_text, integer_of}
use Rattle.zquery.specs.Notation.Sets.{set_of, bib1}
use Rattle.zquery.specs.Notation.Values.{numbers_of, has_equals, term_kind_of, value_of}
use Rattle.zquery.specs.InForce.{in_force}
use Rattle.zquery.specs.Notation.Grammar.{One, PlacedToken, on, placed, tokens_in, Bare, InAttrSet, whole_placed}
use Rattle.zquery.specs.Notation.Table.{Expected, Operand, SetOrNumbers, Numbers, Kind, Name, OwnSet, unless_deep, next_if, operand, expected_after_token, after, expected_after, first_expected, fault_left, tokens_fault, below_limit, error_at}
use Rattle.zquery.specs.Notation.Fronts.{AreShallow, any_level, IsQueryFront, IsAtToken, IsAtEnd, IsFirstFault}
use Rattle.zquery.proofs.NotationTheory.Filling.{begin, fills-whole, whole-passes, front-walks}
use Rattle.zquery.proofs.NotationTheory.Completing.{IsReadable, NumbersThen, AreExpectedFor, AreExpectedForAll, single, all-back, unless-ok, next-ok, after-ok}

-- samples, to complete what is to come
abbrev zero : Token
zero = record { at = 0; quoted = true; text = codes "0" }

zero-plain : token_kind zero ≡ Plain
unfolding token_kind
zero-plain = refl

zero-value : (k : TermKind) → (v : TermValue) × (value_of k (codes "0") ≡ Some v)
unfolding value_of number_of_text integer_of
zero-value GeneralTerm = (_, refl)
zero-value TextTerm = (_, refl)
zero-value NumericTerm = (_, refl)

zero-reads : (k : TermKind) → IsReadable k (One zero)
zero-reads k = λ own xs. let v = zero-value k in (OfTerm (in_force xs) v.0, (zero-plain, (v.0, v.1, refl)))

abbrev one_one : Token
one_one = record { at = 0; quoted = true; text = codes "1=1" }

one-numbers : numbers_of (codes "1=1") ≡ Some (1, 1)
unfolding numbers_of number_of_text
one-numbers = refl

one-equals : has_equals (codes "1=1") ≡ true
unfolding has_equals
one-equals = refl

sample-numbers : (k : TermKind) (n : ℕ) → NumbersThen k n (on 0 one_one ∷ on n zero ∷ [])
sample-numbers k n = record { token = one_one; value = (1, 1); means = one-numbers; phrase = One zero; readable = zero-reads k; is = refl }

general-kind : term_kind_of (codes "general") ≡ Some GeneralTerm
unfolding term_kind_of
general-kind = refl

bib-set : set_of (codes "bib-1") ≡ Some bib1
unfolding set_of
bib-set = refl

sample : (P : Expected) → (l : List PlacedToken) × AreExpectedFor P l
unfolding sample-numbers
sample (Operand k n) = (on n zero ∷ [], (One zero, zero-reads k, refl))
sample (SetOrNumbers k n) = (on 0 one_one ∷ on n zero ∷ [], inl (record { from = sample-numbers k n; equals = one-equals }))
sample (Numbers k n) = (on 0 one_one ∷ on n zero ∷ [], sample-numbers k n)
sample (Kind n) = (
  on 0 (record { at = 0; quoted = true; text = codes "general" }) ∷ on n zero ∷ [],
  record { token = record { at = 0; quoted = true; text = codes "general" }; kind = GeneralTerm; means = general-kind; phrase = One zero; readable = zero-reads GeneralTerm; is = refl },
)
sample Name = (on 0 zero ∷ [], (zero, refl))
sample OwnSet = (on 0 (record { at = 0; quoted = true; text = codes "bib-1" }) ∷ [], (record { at = 0; quoted = true; text = codes "bib-1" }, (bib1, bib-set, refl)))

samples : (ps : List Expected) → (l : List PlacedToken) × AreExpectedForAll ps l
samples [] = ([], refl)
samples (P ∷ Ps) = let a = sample P in let b = samples Ps in (a.0 ++ b.0, (a.0, (b.0, a.1, b.1, refl)))

-- a front from what fills the beginning
from-bare : (deep : ℕ → Bool) (ts : List Token) (front more : List PlacedToken) → tokens_in front ≡ ts → AreShallow deep front → AreExpectedForAll (Operand GeneralTerm 1 ∷ []) (front ++ more) → IsQueryFront deep ts
from-bare deep ts front more t s f =
    let b : AreExpectedFor (Operand GeneralTerm 1) (front ++ more) = single (Operand GeneralTerm 1) (front ++ more) f in
    let r = b.1 bib1 [] in
    record { whole = Bare b.0; own = bib1; tree = r.0; reads = (refl, r.1); front = front; more = more; is = b.2; tokens = t; shallow = s }

head-of : (x y : PlacedToken) (xs ys : List PlacedToken) → x ∷ xs ≡ y ∷ ys → x ≡ y
head-of x y xs ys h = cc

token-head : (t u : Token) (ts us : List Token) → t ∷ ts ≡ u ∷ us → t ≡ u
token-head t u ts us h = cc

from-set : (deep : ℕ → Bool) (t : Token) (ts : List Token) → token_kind t ≡ AttrSet → (front more : List PlacedToken) → tokens_in front ≡ t ∷ ts → AreShallow deep front → AreExpectedForAll (Name ∷ OwnSet ∷ Operand GeneralTerm 1 ∷ []) (front ++ more) → IsQueryFront deep (t ∷ ts)
from-set deep t ts w [] more e s f = absurd (Prim.cc e)
from-set deep t ts w (x ∷ xs) more e s f =
    let u = f.1.1.0 in
    let rest = f.1.2 in
    let v = rest.1.1.0 in
    let b : AreExpectedFor (Operand GeneralTerm 1) rest.1.0 = single (Operand GeneralTerm 1) rest.1.0 rest.1.2 in
    let set = rest.1.1.1.0 in
    let r = b.1 set [] in
    let front : on 0 u ∷ on 0 v ∷ placed 1 b.0 ≡ (x ∷ xs) ++ more =
    ap (λ (m : List PlacedToken). on 0 u ∷ on 0 v ∷ m) b.2 ∙ ap (λ (m : List PlacedToken). on 0 u ∷ (m ++ rest.1.0)) rest.1.1.1.2 ∙ ap (λ (m : List PlacedToken). on 0 u ∷ m) rest.1.3 ∙ ap (λ (m : List PlacedToken). m ++ f.1.0) f.1.1.1 ∙ f.1.3 in
    let same : u ≡ t = ap (λ (y : PlacedToken). y.token) (head-of (on 0 u) x (on 0 v ∷ placed 1 b.0) (xs ++ more) front) ∙ token-head x.token t (tokens_in xs) ts e in
    record { whole = InAttrSet u v b.0; own = set; tree = r.0; reads = (ap token_kind same ∙ w, rest.1.1.1.1, r.1); front = x ∷ xs; more = more; is = front; tokens = e; shallow = s }

from-word : (deep : ℕ → Bool) (t : Token) (ts : List Token) (w : TokenKind) → token_kind t ≡ w → (front more : List PlacedToken) → tokens_in front ≡ t ∷ ts → AreShallow deep front → AreExpectedForAll (first_expected w) (front ++ more) → IsQueryFront deep (t ∷ ts)
from-word deep t ts AttrSet w front more e s f = from-set deep t ts w front more e s f
from-word deep t ts Attribute w front more e s f = from-bare deep (t ∷ ts) front more e s f
from-word deep t ts (Op o) w front more e s f = from-bare deep (t ∷ ts) front more e s f
from-word deep t ts NamedSet w front more e s f = from-bare deep (t ∷ ts) front more e s f
from-word deep t ts TypeOfTerm w front more e s f = from-bare deep (t ∷ ts) front more e s f
from-word deep t ts Unknown w front more e s f = from-bare deep (t ∷ ts) front more e s f
from-word deep t ts Plain w front more e s f = from-bare deep (t ∷ ts) front more e s f

from-tokens : (deep : ℕ → Bool) (ts : List Token) (front more : List PlacedToken) → tokens_in front ≡ ts → AreShallow deep front → AreExpectedForAll (begin ts) (front ++ more) → IsQueryFront deep ts
from-tokens deep [] front more e s f = from-bare deep [] front more e s f
from-tokens deep (t ∷ ts) front more e s f = from-word deep t ts (token_kind t) refl front more e s f

-- what passes the table is a front
pub walks-front : (deep : ℕ → Bool) → deep 0 ≡ false → (ts : List Token) (left : List Expected) → expected_after deep ts (begin ts) ≡ Ok left → IsQueryFront deep ts
walks-front deep z ts left h =
    let l = samples left in
    let r = all-back deep z ts (begin ts) left h l.0 l.1 in
    from-tokens deep ts r.0 l.0 r.1 r.2 r.3

-- the first error of the table, with the tokens before it
pub record TableFault (deep : ℕ → Bool) (ts : List Token) (ps : List Expected) (e : PqfError) : Type 0 where
  pub before : List Token
  pub token : Token
  pub rest : List Token
  pub left : List Expected
  pub whole : ts ≡ before ++ token ∷ rest
  pub passes : expected_after deep before ps ≡ Ok left
  pub fails : expected_after deep (before ++ token ∷ []) ps ≡ Err e
  pub at : e.at ≡ token.at

pub err-same : (e f : PqfError) (r : Result (List Expected) PqfError) → r ≡ Err e → r ≡ Err f → e ≡ f
err-same e f r g h = cc

pub faulty : (deep : ℕ → Bool) (ts : List Token) (ps : List Expected) (e : PqfError) → expected_after deep ts ps ≡ Err e → TableFault deep ts ps e
faulty deep [] ps e h = absurd (Prim.cc h)
faulty deep (t ∷ ts) [] e h =
    record { before = []; token = t; rest = ts; left = []; whole = refl; passes = refl; fails = h; at = ap (λ (f : PqfError). f.at) (sym (err-same (error_at t kind.Trailing) e (Err (error_at t kind.Trailing)) refl h)) }
faulty deep (t ∷ ts) (P ∷ Ps) e h =
    let stepping : (r : Result (List Expected) PqfErrorKind) → expected_after_token deep P t ≡ r → after t r (λ next. expected_after deep ts (next ++ Ps)) ≡ Err e → TableFault deep (t ∷ ts) (P ∷ Ps) e =
    λ r. elim r as (λ r. expected_after_token deep P t ≡ r → after t r (λ next. expected_after deep ts (next ++ Ps)) ≡ Err e → TableFault deep (t ∷ ts) (P ∷ Ps) e) [
      | Ok next ↦ (λ s g.
          let f = faulty deep ts (next ++ Ps) e g in
          record {
            before = t ∷ f.before;
            token = f.token;
            rest = f.rest;
            left = f.left;
            whole = ap (λ (us : List Token). t ∷ us) f.whole;
            passes = ap (λ (r : Result (List Expected) PqfErrorKind). after t r (λ next. expected_after deep f.before (next ++ Ps))) s ∙ f.passes;
            fails = ap (λ (r : Result (List Expected) PqfErrorKind). after t r (λ next. expected_after deep (f.before ++ f.token ∷ []) (next ++ Ps))) s ∙ f.fails;
            at = f.at;
          })
      | Err k ↦ (λ s g.
          record {
            before = [];
            token = t;
            rest = ts;
            left = P ∷ Ps;
            whole = refl;
            passes = refl;
            fails = ap (λ (r : Result (List Expected) PqfErrorKind). after t r (λ next. expected_after deep [] (next ++ Ps))) s ∙ g;
            at = ap (λ (f : PqfError). f.at) (sym (err-same (error_at t k) e (Err (error_at t k)) refl g));
          })
    ] in
    stepping (expected_after_token deep P t) refl h

pub begin-same : (before : List Token) (t : Token) (rest : List Token) → begin (before ++ t ∷ rest) ≡ begin (before ++ t ∷ [])
begin-same [] t rest = refl
begin-same (u ∷ us) t rest = refl

pub begin-front : (deep : ℕ → Bool) (before : List Token) (t : Token) (rest : List Token) (left : List Expected) → expected_after deep before (begin (before ++ t ∷ rest)) ≡ Ok left → (left : List Expected) × (expected_after deep before (begin before) ≡ Ok left)
begin-front deep [] t rest left h = (Operand GeneralTerm 1 ∷ [], refl)
begin-front deep (u ∷ us) t rest left h = (left, h)

pub both-ways : (r : Result (List Expected) PqfError) (x : List Expected) (e : PqfError) → r ≡ Ok x → r ≡ Err e → ⊥
both-ways r x e g h = cc

abbrev pub at-faulty : (ts : List Token) (e : PqfError) → TableFault below_limit ts (begin ts) e → IsAtToken ts e
at-faulty ts e f =
    let b = begin-front below_limit f.before f.token f.rest f.left (ap (λ (z : List Token). expected_after below_limit f.before (begin z)) (sym f.whole) ∙ f.passes) in
    record {
      before = f.before;
      token = f.token;
      after = f.rest;
      whole = f.whole;
      continued = walks-front below_limit refl f.before b.0 b.1;
      broken = λ i.
          let w = front-walks below_limit (f.before ++ f.token ∷ []) i in
          both-ways (expected_after below_limit (f.before ++ f.token ∷ []) (begin (f.before ++ f.token ∷ []))) w.0 e w.1
          (ap (expected_after below_limit (f.before ++ f.token ∷ [])) (sym (begin-same f.before f.token f.rest) ∙ ap begin (sym f.whole)) ∙ f.fails);
      at = f.at;
    }

pub at-token : (ts : List Token) (e : PqfError) → expected_after below_limit ts (begin ts) ≡ Err e → IsAtToken ts e
at-token ts e h = at-faulty ts e (faulty below_limit ts (begin ts) e h)

-- what passes below a limit passes on any level
relaxed-word : (deep : ℕ → Bool) (k : TermKind) (n : ℕ) (text : List ℕ) (w : TokenKind) (next : List Expected) → operand deep k n text w ≡ Ok next → operand any_level k n text w ≡ Ok next
relaxed-word deep k n text Attribute next h = h
relaxed-word deep k n text TypeOfTerm next h = h
relaxed-word deep k n text (Op o) next h = ap (λ (x : List Expected). Ok x) (unless-ok (deep n) (Operand k (n + 1) ∷ Operand k (n + 1) ∷ []) next h).1
relaxed-word deep k n text NamedSet next h = ap (λ (x : List Expected). Ok x) (unless-ok (deep n) (Name ∷ []) next h).1
relaxed-word deep k n text Plain next h =
    let found = next-ok kind.BadNumber (value_of k text) (λ _. unless_deep (deep n) []) next h in
    ap (λ (o : Option TermValue). next_if kind.BadNumber o (λ _. Ok [])) found.1 ∙ ap (λ (x : List Expected). Ok x) (unless-ok (deep n) [] next found.2).1
relaxed-word deep k n text Unknown next h = h
relaxed-word deep k n text AttrSet next h = h

pub relaxed-step : (deep : ℕ → Bool) (P : Expected) (t : Token) (next : List Expected) → expected_after_token deep P t ≡ Ok next → expected_after_token any_level P t ≡ Ok next
relaxed-step deep (Operand k n) t next h = relaxed-word deep k n t.text (token_kind t) next h
relaxed-step deep (SetOrNumbers k n) t next h = h
relaxed-step deep (Numbers k n) t next h = h
relaxed-step deep (Kind n) t next h = h
relaxed-step deep Name t next h = h
relaxed-step deep OwnSet t next h = h

pub relaxed : (deep : ℕ → Bool) (ts : List Token) (ps left : List Expected) → expected_after deep ts ps ≡ Ok left → expected_after any_level ts ps ≡ Ok left
relaxed deep [] ps left h = h
relaxed deep (t ∷ ts) [] left h = absurd (Prim.cc h)
relaxed deep (t ∷ ts) (P ∷ Ps) left h =
    let step = after-ok t (expected_after_token deep P t) (λ next. expected_after deep ts (next ++ Ps)) left h in
    ap (λ (r : Result (List Expected) PqfErrorKind). after t r (λ next. expected_after any_level ts (next ++ Ps))) (relaxed-step deep P t step.0 step.1) ∙ relaxed deep ts (step.0 ++ Ps) left step.2

all-shallow : (xs : List PlacedToken) → AreShallow any_level xs
all-shallow [] = tt
all-shallow (x ∷ xs) = (refl, all-shallow xs)

two-ok : (r : Result (List Expected) PqfError) (p : Expected) (ps : List Expected) → r ≡ Ok [] → r ≡ Ok (p ∷ ps) → ⊥
two-ok r p ps g h = cc

pub at-end : (len : ℕ) (ts : List Token) (p : Expected) (ps : List Expected) (e : PqfError) → expected_after below_limit ts (begin ts) ≡ Ok (p ∷ ps) → fault_left len (Ok (p ∷ ps)) ≡ Some e → IsAtEnd len ts e
at-end len ts p ps e h f = record {
  continued = walks-front below_limit refl ts (p ∷ ps) h;
  unfinished = λ q i.
      let w = i.whole in
      let whole : expected_after any_level (tokens_in (whole_placed w)) (begin (tokens_in (whole_placed w))) ≡ Ok [] =
      whole-passes any_level (whole_placed w) (begin (tokens_in (whole_placed w))) (fills-whole any_level w q.attr_set q.root i.reads) (all-shallow (whole_placed w)) in
      two-ok (expected_after any_level ts (begin ts)) p ps (ap (λ (z : List Token). expected_after any_level z (begin z)) (sym i.tokens) ∙ whole) (relaxed below_limit ts (begin ts) (p ∷ ps) h);
  is = cc;
}

by-result : (len : ℕ) (ts : List Token) (e : PqfError) (r : Result (List Expected) PqfError) → expected_after below_limit ts (begin ts) ≡ r → fault_left len r ≡ Some e → IsAtToken ts e ⊎ IsAtEnd len ts e
by-result len ts e (Ok []) h f = absurd (Prim.cc f)
by-result len ts e (Ok (p ∷ ps)) h f = inr (at-end len ts p ps e h f)
by-result len ts e (Err x) h f = inl (at-token ts e (h ∙ cc))

pub first-fault_left : (len : ℕ) (t : Token) (ts : List Token) (e : PqfError) → tokens_fault len (t ∷ ts) ≡ Some e → IsAtToken (t ∷ ts) e ⊎ IsAtEnd len (t ∷ ts) e
first-fault_left len t ts e h = by-result len (t ∷ ts) e (expected_after below_limit (t ∷ ts) (first_expected (token_kind t))) refl h

pub first-fault_left-of : (len : ℕ) (ts : List Token) (e : PqfError) → tokens_fault len ts ≡ Some e → IsFirstFault len ts e
first-fault_left-of len [] e h = cc
first-fault_left-of len (t ∷ ts) e h = first-fault_left len t ts e h
