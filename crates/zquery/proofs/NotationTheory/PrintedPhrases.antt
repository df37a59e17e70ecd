-- A printed text is that of its query.
use Rattle.std.proofs.Common.{◌≡◌, refl, sym, ◌∙◌, ap, subst, ℕ, ℤ, pos, negsuc, ◌+◌, ◌≤◌, List, [], ◌∷◌, ◌++◌, length, true, false, not, ◌&&◌, Option, Some, None, codes, arith, append_assoc, append-nil, length-append}
use Rattle.std.specs.Fmt.{decimal, signed_decimal}
use Rattle.std.specs.List.{flat_map, list_any}
use Rattle.std.specs.Option.{option_map}
use Rattle.std.specs.Str.{bytes_eq}
use Rattle.std.proofs.lemmas.Bool.{and_parts, not-true, leb-true, cond-false}
use Rattle.std.proofs.lemmas.List.{map-append}
use Rattle.zber.specs.Dotted.{dotted}
use Rattle.zber.specs.Oids.{IsOid}
use Rattle.zquery.specs.declared.notation.token.Token.{Token}
use Rattle.zquery.specs.declared.notation.word.TokenKind.TheVariants.{Op}
use Rattle.zquery_rpn.specs.declared.operator.Operator.{Operator}
use Rattle.zquery_rpn.specs.declared.operator.Operator.TheVariants.{And, Or, Not}
use Rattle.zquery.specs.declared.notation.word.TermKind.{TermKind}
use Rattle.zquery.specs.declared.notation.word.TermKind.TheVariants.{GeneralTerm, NumericTerm, TextTerm}
use Rattle.zquery_rpn.specs.declared.query.Attr.{Attr}
use Rattle.zquery_rpn.specs.declared.query.AttrValue.{AttrValue}
use Rattle.zquery_rpn.specs.declared.query.AttrValue.TheVariants.{Number, Complex}
use Rattle.zquery_rpn.specs.declared.query.TermValue.{TermValue}
use Rattle.zquery_rpn.specs.declared.query.TermValue.TheVariants.{General, Numeric, Text, Other}
use Rattle.zquery.specs.Notation.Words.{token_kind}
use Rattle.zquery.specs.Notation.Values.{most, term_kind_of, value_of}
use Rattle.zquery.specs.InForce.{in_force, alike}
use Rattle.zquery_rpn.specs.Trees.{Tree, OfTerm, OfSet, OfSetAttrs, Of, OfProx}
use Rattle.zquery.specs.Notation.Tokens.{IsUnquoted}
use Rattle.zquery.specs.Notation.Grammar.{Phrase, One, Named, Attributed, InSet, Typed, Joined, PlacedToken, IsPhraseOf, placed, tokens_in, attr, kept_set, set_tree}
use Rattle.zquery.specs.Notation.Printing.{in_quotes, attr_text, term_text, tree_text, is_attr_number, plain_value, is_own_set, plain_attr, plain_attrs, plain_term, plain_tree}
use Rattle.zquery.specs.Lawful.{IsLawfulSet, AreLawfulAttrs, IsLawfulTerm, IsLawfulTree}
use Rattle.zquery.proofs.InForceLemmas.{Apart}
use Rattle.zquery.proofs.InForceKept.{in_force-kept}
use Rattle.zquery.proofs.NotationTheory.PrintedNumbers.{numbers-decimal, integer-decimal}
use Rattle.zquery.proofs.NotationTheory.PrintedTokens.{HasTokens, lex-both, lex-word, lex-quoted, lex-space, word_at, quoted_at}
use Rattle.zquery.proofs.NotationTheory.PrintedWords.{word-of, numbers-word, numbers-equals, dotted-no-equals, dotted-word, dotted-set}

-- from this place on, the text has the tokens of a phrase for the tree
pub record PrintedPhrase (own : List ℕ) (xs : List Attr) (k : TermKind) (n at : ℕ) (text : List ℕ) (q : Tree) : Type 0 where
  pub phrase : Phrase
  pub reads : IsPhraseOf own xs k phrase q
  pub lexes : HasTokens at text (tokens_in (placed n phrase))

-- operands
print-plain : (own : List ℕ) (xs : List Attr) (k : TermKind) (n at : ℕ) (text : List ℕ) (v : TermValue) → value_of k text ≡ Some v → PrintedPhrase own xs k n at (in_quotes text) (OfTerm (in_force xs) v)
unfolding token_kind
print-plain own xs k n at text v e = record { phrase = One (quoted_at at text); reads = (refl, (v, e, refl)); lexes = lex-quoted at text }

print-typed : (own : List ℕ) (xs : List Attr) (k m : TermKind) (n at : ℕ) (w text : List ℕ) (q : Tree) → IsUnquoted w → term_kind_of w ≡ Some m → PrintedPhrase own xs m n ((at + 6) + length (w ++ 32 ∷ [])) text q
    → PrintedPhrase own xs k n at (codes "@term " ++ ((w ++ 32 ∷ []) ++ text)) q
unfolding token_kind
print-typed own xs k m n at w text q h e p = record {
  phrase = Typed (word_at at (codes "@term")) (word_at (at + 6) w) p.phrase;
  reads = (refl, (m, e, p.reads));
  lexes = lex-both at (codes "@term ") ((w ++ 32 ∷ []) ++ text) (word_at at (codes "@term") ∷ []) (word_at (at + 6) w ∷ tokens_in (placed n p.phrase))
      (lex-word at (codes "@term") (word-of (codes "@term") (omega arith) refl))
      (lex-both (at + 6) (w ++ 32 ∷ []) text (word_at (at + 6) w ∷ []) (tokens_in (placed n p.phrase)) (lex-word (at + 6) w h) p.lexes);
}

print-term : (own : List ℕ) (xs : List Attr) (n at : ℕ) (v : TermValue) → plain_term v ≡ true → IsLawfulTerm v → PrintedPhrase own xs GeneralTerm n at (term_text v) (OfTerm (in_force xs) v)
unfolding value_of term_kind_of
print-term own xs n at (General text) h l = print-plain own xs GeneralTerm n at text (General text) refl
print-term own xs n at (Numeric z) h l =
    print-typed own xs GeneralTerm NumericTerm n at (codes "numeric") (in_quotes (signed_decimal z)) (OfTerm (in_force xs) (Numeric z)) (word-of (codes "numeric") (omega arith) refl) refl
    (print-plain own xs NumericTerm n _ (signed_decimal z) (Numeric z) (ap (option_map Numeric) (integer-decimal z l)))
print-term own xs n at (Text text) h l =
    print-typed own xs GeneralTerm TextTerm n at (codes "string") (in_quotes text) (OfTerm (in_force xs) (Text text)) (word-of (codes "string") (omega arith) refl) refl
    (print-plain own xs TextTerm n _ text (Text text) refl)
print-term own xs n at (Other e) h l = absurd (Prim.cc h)

print-named : (own : List ℕ) (xs : List Attr) (k : TermKind) (n at : ℕ) (name : List ℕ) → PrintedPhrase own xs k n at (codes "@set " ++ in_quotes name) (set_tree name (in_force xs))
unfolding token_kind
print-named own xs k n at name = record {
  phrase = Named (word_at at (codes "@set")) (quoted_at (at + 5) name);
  reads = (refl, refl);
  lexes = lex-both at (codes "@set ") (in_quotes name) (word_at at (codes "@set") ∷ []) (quoted_at (at + 5) name ∷ [])
      (lex-word at (codes "@set") (word-of (codes "@set") (omega arith) refl)) (lex-quoted (at + 5) name);
}

-- one attribute before an operand
abbrev pair : ℕ → ℕ → List ℕ
pair i j = decimal i ++ 61 ∷ decimal j

bare-text : (i j : ℕ) → attr_text (attr None (i, j)) ≡ codes "@attr " ++ (pair i j ++ 32 ∷ [])
bare-text i j = ap (λ (z : List ℕ). codes "@attr " ++ z) (sym (append_assoc (decimal i) (61 ∷ decimal j) (32 ∷ [])))

set-text : (set : List ℕ) (i j : ℕ) → attr_text (attr (Some set) (i, j)) ≡ codes "@attr " ++ ((dotted set ++ 32 ∷ []) ++ (pair i j ++ 32 ∷ []))
set-text set i j = ap (λ (z : List ℕ). codes "@attr " ++ ((dotted set ++ 32 ∷ []) ++ z)) (sym (append_assoc (decimal i) (61 ∷ decimal j) (32 ∷ [])))

at-word : (at : ℕ) → HasTokens at (codes "@attr ") (word_at at (codes "@attr") ∷ [])
at-word at = lex-word at (codes "@attr") (word-of (codes "@attr") (omega arith) refl)

print-bare : (own : List ℕ) (xs : List Attr) (k : TermKind) (n at : ℕ) (i j : ℕ) (rest : List ℕ) (q : Tree) → i ≤ most → j ≤ most
    → PrintedPhrase own (xs ++ attr None (i, j) ∷ []) k n (at + length (attr_text (attr None (i, j)))) rest q → PrintedPhrase own xs k n at (attr_text (attr None (i, j)) ++ rest) q
unfolding token_kind
print-bare own xs k n at i j rest q h l p =
    let t = word_at at (codes "@attr") in
    let u = word_at (at + 6) (pair i j) in
    let front = lex-both at (codes "@attr ") (pair i j ++ 32 ∷ []) (t ∷ []) (u ∷ []) (at-word at) (lex-word (at + 6) (pair i j) (numbers-word i j h l)) in
    record {
      phrase = Attributed t u p.phrase;
      reads = (refl, numbers-equals (decimal i) (decimal j), ((i, j), numbers-decimal i j h l, p.reads));
      lexes = lex-both at (attr_text (attr None (i, j))) rest (t ∷ u ∷ []) (tokens_in (placed n p.phrase))
          (subst (λ (z : List ℕ). HasTokens at z (t ∷ u ∷ [])) (sym (bare-text i j)) front) p.lexes;
    }

kept-other : (own set : List ℕ) → bytes_eq own set ≡ false → kept_set own set ≡ Some set
kept-other own set h = cond-false _ _ _ h

print-in-set : (own : List ℕ) (xs : List Attr) (k : TermKind) (n at : ℕ) (set : List ℕ) (i j : ℕ) (rest : List ℕ) (q : Tree) → IsOid set → bytes_eq own set ≡ false → i ≤ most → j ≤ most
    → PrintedPhrase own (xs ++ attr (Some set) (i, j) ∷ []) k n (at + length (attr_text (attr (Some set) (i, j)))) rest q → PrintedPhrase own xs k n at (attr_text (attr (Some set) (i, j)) ++ rest) q
unfolding token_kind
print-in-set own xs k n at set i j rest q o e h l p =
    let t = word_at at (codes "@attr") in
    let s = word_at (at + 6) (dotted set) in
    let place = (at + 6) + length (dotted set ++ 32 ∷ []) in
    let u = word_at place (pair i j) in
    let front = lex-both at (codes "@attr ") ((dotted set ++ 32 ∷ []) ++ (pair i j ++ 32 ∷ [])) (t ∷ []) (s ∷ u ∷ []) (at-word at)
    (lex-both (at + 6) (dotted set ++ 32 ∷ []) (pair i j ++ 32 ∷ []) (s ∷ []) (u ∷ []) (lex-word (at + 6) (dotted set) (dotted-word set o)) (lex-word place (pair i j) (numbers-word i j h l))) in
    record {
      phrase = InSet t s u p.phrase;
      reads = (
        refl,
        dotted-no-equals set,
        (
          set,
          dotted-set set o,
          (
            (i, j),
            numbers-decimal i j h l,
            subst (λ (x : Option (List ℕ)). IsPhraseOf own (xs ++ attr x (i, j) ∷ []) k p.phrase q) (sym (kept-other own set e)) p.reads,
          ),
        ),
      );
      lexes = lex-both at (attr_text (attr (Some set) (i, j))) rest (t ∷ s ∷ u ∷ []) (tokens_in (placed n p.phrase))
          (subst (λ (z : List ℕ). HasTokens at z (t ∷ s ∷ u ∷ [])) (sym (set-text set i j)) front) p.lexes;
    }

print-either : (own : List ℕ) (xs : List Attr) (k : TermKind) (n at : ℕ) (set : Option (List ℕ)) (i j : ℕ) (rest : List ℕ) (q : Tree) → IsLawfulSet set → is_own_set own set ≡ false → i ≤ most → j ≤ most
    → PrintedPhrase own (xs ++ attr set (i, j) ∷ []) k n (at + length (attr_text (attr set (i, j)))) rest q → PrintedPhrase own xs k n at (attr_text (attr set (i, j)) ++ rest) q
print-either own xs k n at None i j rest q o e h l p = print-bare own xs k n at i j rest q h l p
print-either own xs k n at (Some set) i j rest q o e h l p = print-in-set own xs k n at set i j rest q o e h l p

-- a plain attribute has numbers
plain-number : (z : ℤ) → is_attr_number z ≡ true → (i : ℕ) × (z ≡ pos i) × (i ≤ most)
plain-number (pos i) h = (i, refl, leb-true i most h)
plain-number (negsuc i) h = absurd (Prim.cc h)

plain-numbers : (v : AttrValue) → plain_value v ≡ true → (i : ℕ) × (v ≡ Number (pos i)) × (i ≤ most)
plain-numbers (Number z) h = let p = plain-number z h in (p.0, ap (λ (y : ℤ). Number y) p.1, p.2)
plain-numbers (Complex e) h = absurd (Prim.cc h)

same-attr : (a : Attr) (i j : ℕ) → a.kind ≡ pos i → a.value ≡ Number (pos j) → a ≡ attr a.attr_set (i, j)
same-attr a i j e f = ap (λ (z : ℤ). record a { kind = z }) e ∙ ap (λ (v : AttrValue). record a { kind = pos i; value = v }) f

print-attr : (own : List ℕ) (xs : List Attr) (k : TermKind) (n at : ℕ) (a : Attr) (rest : List ℕ) (q : Tree) → IsLawfulSet a.attr_set → plain_attr own a ≡ true
    → PrintedPhrase own (xs ++ a ∷ []) k n (at + length (attr_text a)) rest q → PrintedPhrase own xs k n at (attr_text a ++ rest) q
print-attr own xs k n at a rest q o h p =
    let parts = and_parts (not (is_own_set own a.attr_set)) (is_attr_number a.kind && plain_value a.value) h in
    let more = and_parts (is_attr_number a.kind) (plain_value a.value) parts.1 in
    let kind = plain-number a.kind more.0 in
    let value = plain-numbers a.value more.1 in
    let same = same-attr a kind.0 value.0 kind.1 value.1 in
    let inner = subst (λ (b : Attr). PrintedPhrase own (xs ++ b ∷ []) k n (at + length (attr_text b)) rest q) same p in
    subst (λ (b : Attr). PrintedPhrase own xs k n at (attr_text b ++ rest) q) (sym same)
    (print-either own xs k n at a.attr_set kind.0 value.0 rest q o (not-true (is_own_set own a.attr_set) parts.0) kind.2 value.2 inner)

print-attrs : (own : List ℕ) (xs : List Attr) (k : TermKind) (n at : ℕ) (ys : List Attr) (rest : List ℕ) (q : Tree) → AreLawfulAttrs ys → plain_attrs own ys ≡ true
    → PrintedPhrase own (xs ++ ys) k n (at + length (flat_map attr_text ys)) rest q → PrintedPhrase own xs k n at (flat_map attr_text ys ++ rest) q
print-attrs own xs k n at [] rest q o h p =
    subst (λ (m : ℕ). PrintedPhrase own xs k n m rest q) (omega arith) (subst (λ (zs : List Attr). PrintedPhrase own zs k n (at + 0) rest q) (append-nil xs) p)
print-attrs own xs k n at (y ∷ ys) rest q o h p =
    let parts = and_parts (plain_attr own y) (not (list_any (alike y) ys) && plain_attrs own ys) h in
    let others = and_parts (not (list_any (alike y) ys)) (plain_attrs own ys) parts.1 in
    let place : at + length (flat_map attr_text (y ∷ ys)) ≡ (at + length (attr_text y)) + length (flat_map attr_text ys) = omega (arith, length-append (attr_text y) (flat_map attr_text ys)) in
    let moved = subst (λ (m : ℕ). PrintedPhrase own (xs ++ y ∷ ys) k n m rest q) place p in
    let listed = subst (λ (zs : List Attr). PrintedPhrase own zs k n ((at + length (attr_text y)) + length (flat_map attr_text ys)) rest q) (sym (append_assoc xs (y ∷ []) ys)) moved in
    subst (λ (z : List ℕ). PrintedPhrase own xs k n at z q) (sym (append_assoc (attr_text y) (flat_map attr_text ys) rest))
    (print-attr own xs k n at y (flat_map attr_text ys ++ rest) q o.0 parts.0 (print-attrs own (xs ++ y ∷ []) k n (at + length (attr_text y)) ys rest q o.1 others.1 listed))

apart-plain : (own : List ℕ) (xs : List Attr) → plain_attrs own xs ≡ true → Apart xs
apart-plain own [] h = tt
apart-plain own (x ∷ xs) h =
    let parts = and_parts (plain_attr own x) (not (list_any (alike x) xs) && plain_attrs own xs) h in
    let others = and_parts (not (list_any (alike x) xs)) (plain_attrs own xs) parts.1 in
    (not-true (list_any (alike x) xs) others.0, apart-plain own xs others.1)

kept-plain : (own : List ℕ) (xs : List Attr) → plain_attrs own xs ≡ true → in_force xs ≡ xs
kept-plain own xs h = in_force-kept xs (apart-plain own xs h)

-- operators
tokens-append : (xs ys : List PlacedToken) → tokens_in (xs ++ ys) ≡ tokens_in xs ++ tokens_in ys
tokens-append xs ys = map-append (λ (p : PlacedToken). p.token) xs ys

print-joined : (own : List ℕ) (k : TermKind) (n at : ℕ) (o : Operator) (w : List ℕ) (a b : Tree) (x y : List ℕ) → IsUnquoted w → token_kind (word_at at w) ≡ Op o
    → PrintedPhrase own [] k (n + 1) (at + length (w ++ 32 ∷ [])) x a → PrintedPhrase own [] k (n + 1) (((at + length (w ++ 32 ∷ [])) + length x) + 1) y b
    → PrintedPhrase own [] k n at ((w ++ 32 ∷ []) ++ (x ++ (32 ∷ y))) (Of o a b)
print-joined own k n at o w a b x y h e p r =
    let t = word_at at w in
    let start = at + length (w ++ 32 ∷ []) in
    let left = tokens_in (placed (n + 1) p.phrase) in
    let right = tokens_in (placed (n + 1) r.phrase) in
    let second = lex-both (start + length x) (32 ∷ []) y [] right (lex-space (start + length x)) r.lexes in
    let both = lex-both start x (32 ∷ y) left right p.lexes second in
    record {
      phrase = Joined t p.phrase r.phrase;
      reads = (o, e, (a, p.reads, (b, r.reads, refl)));
      lexes = subst (λ (z : List Token). HasTokens at ((w ++ 32 ∷ []) ++ (x ++ (32 ∷ y))) (t ∷ z)) (sym (tokens-append (placed (n + 1) p.phrase) (placed (n + 1) r.phrase)))
          (lex-both at (w ++ 32 ∷ []) (x ++ (32 ∷ y)) (t ∷ []) (left ++ right) (lex-word at w h) both);
    }

pub print-tree : (own : List ℕ) (q : Tree) (n at : ℕ) → plain_tree own q ≡ true → IsLawfulTree q → PrintedPhrase own [] GeneralTerm n at (tree_text q) q
unfolding token_kind
print-tree own (OfTerm xs v) n at h l =
    let parts = and_parts (plain_attrs own xs) (plain_term v) h in
    let term = print-term own xs n (at + length (flat_map attr_text xs)) v parts.1 l.1 in
    let kept = subst (λ (zs : List Attr). PrintedPhrase own xs GeneralTerm n (at + length (flat_map attr_text xs)) (term_text v) (OfTerm zs v)) (kept-plain own xs parts.0) term in
    print-attrs own [] GeneralTerm n at xs (term_text v) (OfTerm xs v) l.0 parts.0 kept
print-tree own (OfSet name) n at h l =
    subst (λ (zs : List Attr). PrintedPhrase own [] GeneralTerm n at (codes "@set " ++ in_quotes name) (set_tree name zs)) (in_force-kept [] tt) (print-named own [] GeneralTerm n at name)
print-tree own (OfSetAttrs name []) n at h l = absurd (Prim.cc h)
print-tree own (OfSetAttrs name (a ∷ xs)) n at h l =
    let place = at + length (flat_map attr_text (a ∷ xs)) in
    let kept = subst (λ (zs : List Attr). PrintedPhrase own (a ∷ xs) GeneralTerm n place (codes "@set " ++ in_quotes name) (set_tree name zs)) (kept-plain own (a ∷ xs) h) (print-named own (a ∷ xs) GeneralTerm n place name) in
    print-attrs own [] GeneralTerm n at (a ∷ xs) (codes "@set " ++ in_quotes name) (OfSetAttrs name (a ∷ xs)) l h kept
print-tree own (Of And a b) n at h l =
    let parts = and_parts (plain_tree own a) (plain_tree own b) h in
    print-joined own GeneralTerm n at And (codes "@and") a b (tree_text a) (tree_text b) (word-of (codes "@and") (omega arith) refl) refl
    (print-tree own a (n + 1) (at + 5) parts.0 l.0) (print-tree own b (n + 1) (((at + 5) + length (tree_text a)) + 1) parts.1 l.1)
print-tree own (Of Or a b) n at h l =
    let parts = and_parts (plain_tree own a) (plain_tree own b) h in
    print-joined own GeneralTerm n at Or (codes "@or") a b (tree_text a) (tree_text b) (word-of (codes "@or") (omega arith) refl) refl
    (print-tree own a (n + 1) (at + 4) parts.0 l.0) (print-tree own b (n + 1) (((at + 4) + length (tree_text a)) + 1) parts.1 l.1)
print-tree own (Of Not a b) n at h l =
    let parts = and_parts (plain_tree own a) (plain_tree own b) h in
    print-joined own GeneralTerm n at Not (codes "@not") a b (tree_text a) (tree_text b) (word-of (codes "@not") (omega arith) refl) refl
    (print-tree own a (n + 1) (at + 5) parts.0 l.0) (print-tree own b (n + 1) (((at + 5) + length (tree_text a)) + 1) parts.1 l.1)
print-tree own (OfProx e a b) n at h l = absurd (Prim.cc h)
