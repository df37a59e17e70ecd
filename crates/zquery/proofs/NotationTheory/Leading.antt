-- What the parser has read, as a phrase.
use Rattle.std.proofs.Common.{◌≡◌, refl, sym, ◌∙◌, ap, subst, ℕ, ◌+◌, ◌≤◌, List, [], ◌∷◌, ◌++◌, Option, Some, None, Result, Ok, Bool, true, false, if◌then◌else◌, append_assoc, arith}
use Rattle.std.proofs.lemmas.List.{map-append}
use Rattle.zquery.specs.declared.notation.token.Token.{Token}
use Rattle.zquery.specs.declared.notation.word.TokenKind.TheVariants.{Attribute, Op, NamedSet, TypeOfTerm, Plain}
use Rattle.zquery_rpn.specs.declared.query.Attr.{Attr}
use Rattle.zquery_rpn.specs.declared.operator.Operator.{Operator}
use Rattle.zquery.specs.declared.notation.word.TermKind.{TermKind}
use Rattle.zquery_rpn.specs.declared.query.TermValue.{TermValue}
use Rattle.zquery.specs.declared.notation.error.PqfError.{PqfError}
use Rattle.zquery.specs.declared.notation.error.PqfErrorKind.{PqfErrorKind}
use Rattle.zquery.specs.declared.notation.error.PqfErrorKind.TheVariants as kind
use Rattle.zquery_rpn.specs.Trees.{Tree, OfTerm, Of, height}
use Rattle.zquery.specs.Notation.Words.{token_kind}
use Rattle.zquery.specs.Notation.Sets.{set_of}
use Rattle.zquery.specs.Notation.Values.{numbers_of, has_equals, term_kind_of, value_of}
use Rattle.zquery.specs.InForce.{in_force}
use Rattle.zquery.specs.Notation.Grammar.{Phrase, PlacedToken, One, Named, Attributed, InSet, Typed, Joined, IsPhraseOf, placed, tokens_in, attr, kept_set, set_tree}
use Rattle.zquery.specs.Notation.Reading.{put_in, or_error, numbers_at, attribute_at, term_kind_at, ArePrefixes, IsReadPhrase}
use Rattle.zquery.proofs.InForceLemmas.{put-law}

pub or_error-ok : {A B : Type 0} (t : Token) (e : PqfErrorKind) (o : Option A) (go : A → Result B PqfError) (y : B) → or_error t e o go ≡ Ok y → (x : A) × (o ≡ Some x) × (go x ≡ Ok y)
or_error-ok t e None go y h = absurd (Prim.cc h)
or_error-ok t e (Some x) go y h = (x, refl, h)

pub ok-is : {A : Type 0} (x y : A) (r : Result A PqfError) → r ≡ Ok x → r ≡ Ok y → x ≡ y
ok-is x y r g h = cc

-- what the numbers of an attribute are read from
record NumbersFrom (set : Option (List ℕ)) (ts : List Token) (a : Attr) (new : List Token) : Type 0 where
  token : Token
  value : ℕ × ℕ
  front : ts ≡ token ∷ new
  means : numbers_of token.text ≡ Some value
  is : a ≡ attr set value

numbers-from : (len : ℕ) (set : Option (List ℕ)) (ts : List Token) (a : Attr) (new : List Token) → numbers_at len set ts ≡ Ok (a, new) → NumbersFrom set ts a new
numbers-from len set [] a new h = absurd (Prim.cc h)
numbers-from len set (w ∷ ts) a new h =
    let found = or_error-ok w kind.BadAttribute (numbers_of w.text) (λ n. Ok (attr set n, ts)) (a, new) h in
    let same : (attr set found.0, ts) ≡ (a, new) = ok-is (attr set found.0, ts) (a, new) (Ok (attr set found.0, ts)) refl found.2 in
    record { token = w; value = found.0; front = ap (λ (p : Attr × List Token). w ∷ p.1) same; means = found.1; is = sym (ap (λ (p : Attr × List Token). p.0) same) }

-- further on: a phrase after new is one after mid
lead-on : (own : List ℕ) (xs : List Attr) (k : TermKind) (old : List Token) (attrs : List Attr) (k' : TermKind) (mid : List Token) (attrs' : List Attr) (m : TermKind) (new : List Token)
    → (l : ArePrefixes own xs k old attrs k' mid) (more : List Attr) → attrs' ≡ in_force more
    → ((p : Phrase) (q : Tree) → IsPhraseOf own more m p q → (p' : Phrase) × IsPhraseOf own l.below k' p' q × ((n : ℕ) (rest : List Token) → new ≡ tokens_in (placed n p) ++ rest → mid ≡ tokens_in (placed n p') ++ rest))
    → ArePrefixes own xs k old attrs' m new
lead-on own xs k old attrs k' mid attrs' m new l more f step = record {
  below = more;
  forces = f;
  wraps = λ p q r.
      let one = step p q r in
      let two = l.wraps one.0 q one.1 in
      (two.0, two.1, λ n rest e. two.2 n rest (one.2 n rest e));
}

put-below : (below attrs : List Attr) (a : Attr) → attrs ≡ in_force below → put_in attrs a ≡ in_force (below ++ a ∷ [])
put-below below attrs a f = ap (λ (z : List Attr). put_in z a) f ∙ sym (put-law below a)

head-is : (u w : Token) (us ts : List Token) → u ∷ us ≡ w ∷ ts → u ≡ w
head-is u w us ts h = cc

lead-numbers : (own : List ℕ) (xs : List Attr) (k : TermKind) (old : List Token) (attrs : List Attr) (k' : TermKind) (t u : Token) (us : List Token) (a : Attr) (new : List Token) (len : ℕ)
    → ArePrefixes own xs k old attrs k' (t ∷ u ∷ us) → token_kind t ≡ Attribute → has_equals u.text ≡ true → numbers_at len None (u ∷ us) ≡ Ok (a, new) → ArePrefixes own xs k old (put_in attrs a) k' new
lead-numbers own xs k old attrs k' t u us a new len l w e h =
    let from = numbers-from len None (u ∷ us) a new h in
    let same : u ≡ from.token = head-is u from.token us new from.front in
    lead-on own xs k old attrs k' (t ∷ u ∷ us) (put_in attrs a) k' new l (l.below ++ a ∷ []) (put-below l.below attrs a l.forces) (λ p q r. (
      Attributed t from.token p,
      (w, ap (λ (v : Token). has_equals v.text) (sym same) ∙ e, (from.value, from.means, subst (λ (b : Attr). IsPhraseOf own (l.below ++ b ∷ []) k' p q) from.is r)),
      λ n rest f. ap (λ (ts : List Token). t ∷ ts) (from.front ∙ ap (λ (ts : List Token). from.token ∷ ts) f),
    ))

lead-in-set : (own : List ℕ) (xs : List Attr) (k : TermKind) (old : List Token) (attrs : List Attr) (k' : TermKind) (t u : Token) (us : List Token) (set : List ℕ) (a : Attr) (new : List Token) (len : ℕ)
    → ArePrefixes own xs k old attrs k' (t ∷ u ∷ us) → token_kind t ≡ Attribute → has_equals u.text ≡ false → set_of u.text ≡ Some set → numbers_at len (kept_set own set) us ≡ Ok (a, new) → ArePrefixes own xs k old (put_in attrs a) k' new
lead-in-set own xs k old attrs k' t u us set a new len l w e s h =
    let from = numbers-from len (kept_set own set) us a new h in
    lead-on own xs k old attrs k' (t ∷ u ∷ us) (put_in attrs a) k' new l (l.below ++ a ∷ []) (put-below l.below attrs a l.forces) (λ p q r. (
      InSet t u from.token p,
      (w, e, (set, s, (from.value, from.means, subst (λ (b : Attr). IsPhraseOf own (l.below ++ b ∷ []) k' p q) from.is r))),
      λ n rest f. ap (λ (ts : List Token). t ∷ u ∷ ts) (from.front ∙ ap (λ (ts : List Token). from.token ∷ ts) f),
    ))

lead-either : (own : List ℕ) (xs : List Attr) (k : TermKind) (old : List Token) (attrs : List Attr) (k' : TermKind) (t u : Token) (us : List Token) (a : Attr) (new : List Token) (len : ℕ) (b : Bool)
    → has_equals u.text ≡ b
    → ArePrefixes own xs k old attrs k' (t ∷ u ∷ us) → token_kind t ≡ Attribute
    → (if b then numbers_at len None (u ∷ us) else or_error u kind.UnknownSet (set_of u.text) (λ set. numbers_at len (kept_set own set) us)) ≡ Ok (a, new)
    → ArePrefixes own xs k old (put_in attrs a) k' new
lead-either own xs k old attrs k' t u us a new len true e l w h = lead-numbers own xs k old attrs k' t u us a new len l w e h
lead-either own xs k old attrs k' t u us a new len false e l w h =
    let found = or_error-ok u kind.UnknownSet (set_of u.text) (λ set. numbers_at len (kept_set own set) us) (a, new) h in
    lead-in-set own xs k old attrs k' t u us found.0 a new len l w e found.1 found.2

pub lead-attribute : (own : List ℕ) (xs : List Attr) (k : TermKind) (old : List Token) (attrs : List Attr) (k' : TermKind) (t : Token) (ts : List Token) (a : Attr) (new : List Token) (len : ℕ)
    → ArePrefixes own xs k old attrs k' (t ∷ ts) → token_kind t ≡ Attribute → attribute_at len own ts ≡ Ok (a, new) → ArePrefixes own xs k old (put_in attrs a) k' new
lead-attribute own xs k old attrs k' t [] a new len l w h = absurd (Prim.cc h)
lead-attribute own xs k old attrs k' t (u ∷ us) a new len l w h = lead-either own xs k old attrs k' t u us a new len (has_equals u.text) refl l w h

pub lead-kind : (own : List ℕ) (xs : List Attr) (k : TermKind) (old : List Token) (attrs : List Attr) (k' : TermKind) (t : Token) (ts : List Token) (m : TermKind) (new : List Token) (len : ℕ)
    → ArePrefixes own xs k old attrs k' (t ∷ ts) → token_kind t ≡ TypeOfTerm → term_kind_at len ts ≡ Ok (m, new) → ArePrefixes own xs k old attrs m new
lead-kind own xs k old attrs k' t [] m new len l w h = absurd (Prim.cc h)
lead-kind own xs k old attrs k' t (u ∷ us) m new len l w h =
    let found = or_error-ok u kind.BadTermType (term_kind_of u.text) (λ k. Ok (k, us)) (m, new) h in
    let same : (found.0, us) ≡ (m, new) = ok-is (found.0, us) (m, new) (Ok (found.0, us)) refl found.2 in
    lead-on own xs k old attrs k' (t ∷ u ∷ us) attrs m new l l.below l.forces (λ p q r. (
      Typed t u p,
      (w, (m, found.1 ∙ ap (λ (x : TermKind × List Token). Some x.0) same, r)),
      λ n rest f. ap (λ (ts : List Token). t ∷ u ∷ ts) (ap (λ (x : TermKind × List Token). x.1) same ∙ f),
    ))

pub read-term : (own : List ℕ) (xs : List Attr) (k : TermKind) (old : List Token) (attrs : List Attr) (k' : TermKind) (t : Token) (new mid : List Token) (n : ℕ) (v : TermValue)
    → ArePrefixes own xs k old attrs k' mid → mid ≡ t ∷ new → token_kind t ≡ Plain → value_of k' t.text ≡ Some v → n ≤ 32 → IsReadPhrase own xs k n old new (OfTerm attrs v)
read-term own xs k old attrs k' t new mid n v l m w e low =
    let two = l.wraps (One t) (OfTerm attrs v) (w, (v, e, ap (λ (z : List Attr). OfTerm z v) l.forces)) in
    record { phrase = two.0; reads = two.1; front = two.2 n new m; low = omega arith }

set-height : (name : List ℕ) (xs : List Attr) → height (set_tree name xs) ≡ 1
set-height name [] = refl
set-height name (x ∷ xs) = refl

pub read-set : (own : List ℕ) (xs : List Attr) (k : TermKind) (old : List Token) (attrs : List Attr) (k' : TermKind) (t u : Token) (new mid : List Token) (n : ℕ)
    → ArePrefixes own xs k old attrs k' mid → mid ≡ t ∷ u ∷ new → token_kind t ≡ NamedSet → n ≤ 32 → IsReadPhrase own xs k n old new (set_tree u.text attrs)
read-set own xs k old attrs k' t u new mid n l m w low =
    let two = l.wraps (Named t u) (set_tree u.text attrs) (w, ap (set_tree u.text) l.forces) in
    record { phrase = two.0; reads = two.1; front = two.2 n new m; low = omega (arith, set-height u.text attrs) }

tokens-append : (xs ys : List PlacedToken) → tokens_in (xs ++ ys) ≡ tokens_in xs ++ tokens_in ys
tokens-append xs ys = map-append (λ (p : PlacedToken). p.token) xs ys

pub read-both : (own : List ℕ) (xs : List Attr) (k : TermKind) (old : List Token) (attrs : List Attr) (k' : TermKind) (t : Token) (o : Operator) (one two new mid : List Token) (n : ℕ) (a b : Tree)
    → (l : ArePrefixes own xs k old attrs k' mid) → mid ≡ t ∷ one → token_kind t ≡ Op o → IsReadPhrase own l.below k' (n + 1) one two a → IsReadPhrase own l.below k' (n + 1) two new b → IsReadPhrase own xs k n old new (Of o a b)
read-both own xs k old attrs k' t o one two new mid n a b l m w r s =
    let got = l.wraps (Joined t r.phrase s.phrase) (Of o a b) (o, w, (a, r.reads, (b, s.reads, refl))) in
    let left : List Token = tokens_in (placed (n + 1) r.phrase) in
    let right : List Token = tokens_in (placed (n + 1) s.phrase) in
    let parts : one ≡ (left ++ right) ++ new = r.front ∙ ap (λ (ts : List Token). left ++ ts) s.front ∙ sym (append_assoc left right new) in
    let whole : mid ≡ t ∷ (tokens_in (placed (n + 1) r.phrase ++ placed (n + 1) s.phrase) ++ new) =
    m ∙ ap (λ (ts : List Token). t ∷ ts) (parts ∙ ap (λ (ts : List Token). ts ++ new) (sym (tokens-append (placed (n + 1) r.phrase) (placed (n + 1) s.phrase)))) in
    record { phrase = got.0; reads = got.1; front = got.2 n new whole; low = omega (arith, r.low, s.low) }

-- the same where the parser's steps give the tokens and the list
pub then-attribute : (own : List ℕ) (xs : List Attr) (k : TermKind) (old : List Token) (attrs : List Attr) (k' : TermKind) (mid : List Token) (t : Token) (rest ts : List Token) (a : Attr) (attrs' : List Attr) (new : List Token) (len : ℕ)
    → ArePrefixes own xs k old attrs k' mid → mid ≡ t ∷ rest → ts ≡ rest → token_kind t ≡ Attribute → attribute_at len own ts ≡ Ok (a, new) → attrs' ≡ put_in attrs a → ArePrefixes own xs k old attrs' k' new
then-attribute own xs k old attrs k' mid t rest ts a attrs' new len l m s w h p =
    let whole : mid ≡ t ∷ ts = m ∙ ap (λ (z : List Token). t ∷ z) (sym s) in
    subst (λ (z : List Attr). ArePrefixes own xs k old z k' new) (sym p)
    (lead-attribute own xs k old attrs k' t ts a new len (subst (λ (z : List Token). ArePrefixes own xs k old attrs k' z) whole l) w h)

pub then-kind : (own : List ℕ) (xs : List Attr) (k : TermKind) (old : List Token) (attrs : List Attr) (k' : TermKind) (mid : List Token) (t : Token) (rest ts : List Token) (m : TermKind) (new : List Token) (len : ℕ)
    → ArePrefixes own xs k old attrs k' mid → mid ≡ t ∷ rest → ts ≡ rest → token_kind t ≡ TypeOfTerm → term_kind_at len ts ≡ Ok (m, new) → ArePrefixes own xs k old attrs m new
then-kind own xs k old attrs k' mid t rest ts m new len l e s w h =
    let whole : mid ≡ t ∷ ts = e ∙ ap (λ (z : List Token). t ∷ z) (sym s) in
    lead-kind own xs k old attrs k' t ts m new len (subst (λ (z : List Token). ArePrefixes own xs k old attrs k' z) whole l) w h
