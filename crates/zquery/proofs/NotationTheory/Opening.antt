-- The first tokens: the query's set, where one is named.
use Rattle.std.proofs.Common.{◌≡◌, refl, sym, ◌∙◌, ap, subst, ℕ, ◌≤◌, List, [], ◌∷◌, ◌++◌, Option, Some, Result, Ok, Bool, if◌then◌else◌, arith, append-nil}
use Rattle.zquery.specs.declared.notation.token.Token.{Token}
use Rattle.zquery.specs.declared.notation.word.TokenKind.{TokenKind}
use Rattle.zquery.specs.declared.notation.word.TokenKind.TheVariants.{AttrSet, Attribute, Op, NamedSet, TypeOfTerm, Unknown, Plain}
use Rattle.zquery.specs.declared.notation.word.TermKind.TheVariants.{GeneralTerm}
use Rattle.zquery.specs.declared.notation.error.PqfError.{PqfError}
use Rattle.zquery.specs.declared.notation.error.PqfErrorKind.TheVariants as kind
use Rattle.zquery_rpn.specs.Trees.{Tree, height}
use Rattle.zquery.specs.Notation.Words.{token_kind}
use Rattle.zquery.specs.Notation.Sets.{set_of, bib1}
use Rattle.zquery.specs.InForce.{in_force}
use Rattle.zquery.specs.Notation.Grammar.{Phrase, IsPhraseOf, placed, tokens_in, Bare, InAttrSet, IsQuery}
use Rattle.zquery.specs.Notation.Reading.{own_at, query_set_at, is_attrset, IsReadPhrase}
use Rattle.zquery.specs.Notation.Table.{Operand, expected_after, first_expected, fault_left, tokens_fault, below_limit, next_if, after}
use Rattle.zquery.proofs.NotationTheory.Leading.{or_error-ok, ok-is}

pub none-force : [] ≡ in_force []
unfolding in_force
none-force = refl

-- the tokens before `new` give the query's set
pub record QueryOpening (own : List ℕ) (w : TokenKind) (all new : List Token) : Type 0 where
  pub wraps : (p : Phrase) (q : Tree) → IsPhraseOf own [] GeneralTerm p q → new ≡ tokens_in (placed 1 p) → IsQuery all (record { attr_set = own; root = q })
  pub walks : (deep : ℕ → Bool) → expected_after deep all (first_expected w) ≡ expected_after deep new (Operand GeneralTerm 1 ∷ [])

bare : (t : Token) (ts : List Token) (own : List ℕ) (new : List Token) (r : Result (List ℕ × List Token) PqfError) → r ≡ Ok (bib1, t ∷ ts) → r ≡ Ok (own, new) → (w : TokenKind) → first_expected w ≡ Operand GeneralTerm 1 ∷ [] → QueryOpening own w (t ∷ ts) new
bare t ts own new r f h w o =
    let same : (bib1, t ∷ ts) ≡ (own, new) = ok-is (bib1, t ∷ ts) (own, new) r f h in
    let P : List ℕ × List Token → Type 0 = λ x. QueryOpening x.0 w (t ∷ ts) x.1 in
    subst P same (record {
      wraps = λ p q r e. record { whole = Bare p; reads = (refl, r); tokens = sym e };
      walks = λ deep. ap (expected_after deep (t ∷ ts)) o;
    })

named : (t : Token) (ts : List Token) (own : List ℕ) (new : List Token) (len : ℕ) → token_kind t ≡ AttrSet → own_at len ts ≡ Ok (own, new) → QueryOpening own AttrSet (t ∷ ts) new
named t [] own new len w h = absurd (Prim.cc h)
named t (u ∷ us) own new len w h =
    let found = or_error-ok u kind.UnknownSet (set_of u.text) (λ set. Ok (set, us)) (own, new) h in
    let same : (found.0, us) ≡ (own, new) = ok-is (found.0, us) (own, new) (Ok (found.0, us)) refl found.2 in
    let set : set_of u.text ≡ Some own = found.1 ∙ ap (λ (x : List ℕ × List Token). Some x.0) same in
    record {
      wraps = λ p q r e. record { whole = InAttrSet t u p; reads = (w, set, r); tokens = ap (λ (ts : List Token). t ∷ u ∷ ts) (sym e ∙ sym (ap (λ (x : List ℕ × List Token). x.1) same)) };
      walks = λ deep. ap (λ (o : Option (List ℕ)). after u (next_if kind.UnknownSet o (λ _. Ok [])) (λ next. expected_after deep us (next ++ Operand GeneralTerm 1 ∷ []))) set
          ∙ ap (λ (x : List ℕ × List Token). expected_after deep x.1 (Operand GeneralTerm 1 ∷ [])) same;
    }

opened-word : (t : Token) (ts : List Token) (own : List ℕ) (new : List Token) (len : ℕ) (w : TokenKind) → token_kind t ≡ w → (if is_attrset w then own_at len ts else Ok (bib1, t ∷ ts)) ≡ Ok (own, new) → QueryOpening own w (t ∷ ts) new
opened-word t ts own new len AttrSet e h = named t ts own new len e h
opened-word t ts own new len Attribute e h = bare t ts own new (Ok (bib1, t ∷ ts)) refl h Attribute refl
opened-word t ts own new len (Op o) e h = bare t ts own new (Ok (bib1, t ∷ ts)) refl h (Op o) refl
opened-word t ts own new len NamedSet e h = bare t ts own new (Ok (bib1, t ∷ ts)) refl h NamedSet refl
opened-word t ts own new len TypeOfTerm e h = bare t ts own new (Ok (bib1, t ∷ ts)) refl h TypeOfTerm refl
opened-word t ts own new len Unknown e h = bare t ts own new (Ok (bib1, t ∷ ts)) refl h Unknown refl
opened-word t ts own new len Plain e h = bare t ts own new (Ok (bib1, t ∷ ts)) refl h Plain refl

-- the error is that of the tokens left
pub refused-on : (len : ℕ) (all : List Token) (t : Token) (ts : List Token) (own : List ℕ) (new : List Token) → all ≡ t ∷ ts → query_set_at len all ≡ Ok (own, new) → tokens_fault len all ≡ fault_left len (expected_after below_limit new (Operand GeneralTerm 1 ∷ []))
refused-on len all t ts own new e h =
    ap (tokens_fault len) e ∙ ap (fault_left len) ((opened-word t ts own new len (token_kind t) refl (sym (ap (query_set_at len) e) ∙ h)).walks below_limit)

pub read-whole : (len : ℕ) (all : List Token) (t : Token) (ts : List Token) (own : List ℕ) (new rest : List Token) (q : Tree) → all ≡ t ∷ ts → query_set_at len all ≡ Ok (own, new) → IsReadPhrase own [] GeneralTerm 1 new rest q → rest ≡ [] → IsQuery all (record { attr_set = own; root = q }) × (height q ≤ 32)
read-whole len all t ts own new rest q e h r n =
    let o = opened-word t ts own new len (token_kind t) refl (sym (ap (query_set_at len) e) ∙ h) in
    let front : new ≡ tokens_in (placed 1 r.phrase) = r.front ∙ ap (λ (z : List Token). tokens_in (placed 1 r.phrase) ++ z) n ∙ append-nil (tokens_in (placed 1 r.phrase)) in
    (subst (λ (z : List Token). IsQuery z (record { attr_set = own; root = q })) (sym e) (o.wraps r.phrase q r.reads front), omega (arith, r.low))
