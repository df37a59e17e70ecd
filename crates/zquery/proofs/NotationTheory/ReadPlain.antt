-- A query that is read can be printed, and its sets and numbers are lawful.
use Rattle.std.proofs.Common.{◌≡◌, refl, sym, ◌∙◌, ap, subst, ℕ, zero, suc, ◌-◌, ◌^◌, ◌<◌, ◌≤◌, ℤ, List, [], ◌∷◌, ◌++◌, drop, Bool, true, false, not, ◌&&◌, ◌||◌, inl, inr, Option, Some, None, arith, if◌then◌else◌, nat_le}
use Rattle.std.specs.Int.RustNames.{FitsSigned}
use Rattle.std.specs.Int.{w64}
use Rattle.std.specs.List.{list_any, before_first, after_first}
use Rattle.std.specs.Option.{option_map}
use Rattle.std.specs.Str.{bytes_eq}
use Rattle.std.specs.Str.Parse.{digits_value}
use Rattle.std.proofs.lemmas.Bool.{and_parts, and_from, or_parts, or_from, not-true, leb-true, le-leb}
use Rattle.zber.specs.Oids.{IsOid}
use Rattle.zquery.specs.declared.notation.word.TermKind.{TermKind}
use Rattle.zquery.specs.declared.notation.word.TermKind.TheVariants.{GeneralTerm, NumericTerm, TextTerm}
use Rattle.zquery_rpn.specs.declared.query.Attr.{Attr}
use Rattle.zquery_rpn.specs.declared.query.AttrValue.{AttrValue}
use Rattle.zquery_rpn.specs.declared.query.TermValue.{TermValue}
use Rattle.zquery_rpn.specs.declared.query.TermValue.TheVariants.{General, Numeric, Text}
use Rattle.zquery.specs.Notation.Numbers.{is_numeral, number_of_text, plus, minus, has_minus, integer_of}
use Rattle.zquery.specs.Notation.Values.{is_equals, most, pair_of, numbers_of, value_of}
use Rattle.zquery.specs.Notation.Sets.{bib1, set_of}
use Rattle.zquery.specs.InForce.{alike, in_force}
use Rattle.zquery.specs.Notation.Reading.{put_in}
use Rattle.zquery_rpn.specs.Trees.{Tree}
use Rattle.zquery.specs.Notation.Grammar.{Phrase, One, Named, Attributed, InSet, Typed, Joined, IsPhraseOf, attr, kept_set, set_tree, Whole, Bare, InAttrSet, IsWholeOf}
use Rattle.zquery.specs.Notation.Printing.{is_attr_number, is_own_set, plain_value, plain_attr, plain_attrs, plain_term, plain_tree}
use Rattle.zquery.specs.Lawful.{IsLawfulSet, AreLawfulAttrs, IsLawfulTerm, IsLawfulTree}
use Rattle.zquery.proofs.InForceLemmas.{put-law}
use Rattle.zber.proofs.OidTest.{is_oid_from_pass}
use Rattle.zquery.proofs.NotationTheory.PrintedWords.{set-is_own_set}

-- numbers
by-most : (max n m : ℕ) (b c : Bool) → nat_le n max ≡ c → (if b && c then Some n else None) ≡ Some m → m ≤ max
by-most max n m true true l e = let same : n ≡ m = cc in omega (arith, leb-true n max l)
by-most max n m true false l e = absurd (Prim.cc e)
by-most max n m false c l e = absurd (Prim.cc e)

number-most : (max : ℕ) (text : List ℕ) (n : ℕ) → number_of_text max text ≡ Some n → n ≤ max
unfolding number_of_text
number-most max text n e = by-most max (digits_value 10 text) n (is_numeral text) (nat_le (digits_value 10 text) max) refl e

pair-parts : (a b : Option ℕ) (n : ℕ × ℕ) → pair_of a b ≡ Some n → (a ≡ Some n.0) × (b ≡ Some n.1)
pair-parts (Some i) (Some j) n e = let same : (i, j) ≡ n = cc in (ap (λ (p : ℕ × ℕ). Some p.0) same, ap (λ (p : ℕ × ℕ). Some p.1) same)
pair-parts (Some i) None n e = absurd (Prim.cc e)
pair-parts None b n e = absurd (Prim.cc e)

numbers-most : (text : List ℕ) (n : ℕ × ℕ) → numbers_of text ≡ Some n → (n.0 ≤ most) × (n.1 ≤ most)
unfolding numbers_of
numbers-most text n e =
    let parts = pair-parts (number_of_text most (before_first is_equals text)) (number_of_text most (after_first is_equals text)) n e in
    (number-most most (before_first is_equals text) n.0 parts.0, number-most most (after_first is_equals text) n.1 parts.1)

-- terms
mapped : {A B : Type 0} (f : A → B) (o : Option A) (z : B) → option_map f o ≡ Some z → (x : A) × (o ≡ Some x) × (f x ≡ z)
mapped f None z e = absurd (Prim.cc e)
mapped f (Some x) z e = (x, refl, cc)

negative-fits : (n : ℕ) → n ≤ 2 ^ 63 → FitsSigned w64 (minus n)
negative-fits zero h = let small : 0 < 2 ^ 63 = omega arith in record { sfits = small }
negative-fits (suc n) h = let small : n < 2 ^ 63 = omega (arith, h) in record { sfits = small }

by-sign : (text : List ℕ) (b : Bool) (z : ℤ) → (if b then option_map minus (number_of_text (2 ^ 63) (drop 1 text)) else option_map plus (number_of_text (2 ^ 63 - 1) text)) ≡ Some z → FitsSigned w64 z
by-sign text true z e =
    let m = mapped minus (number_of_text (2 ^ 63) (drop 1 text)) z e in
    subst (λ (x : ℤ). FitsSigned w64 x) m.2 (negative-fits m.0 (number-most (2 ^ 63) (drop 1 text) m.0 m.1))
by-sign text false z e =
    let m = mapped plus (number_of_text (2 ^ 63 - 1) text) z e in
    let low : m.0 ≤ 2 ^ 63 - 1 = number-most (2 ^ 63 - 1) text m.0 m.1 in
    let small : m.0 < 2 ^ 63 = omega (arith, low) in
    let fits : FitsSigned w64 (plus m.0) = record { sfits = small } in
    subst (λ (x : ℤ). FitsSigned w64 x) m.2 fits

integer-fits : (text : List ℕ) (z : ℤ) → integer_of text ≡ Some z → FitsSigned w64 z
unfolding integer_of
integer-fits text z e = by-sign text (has_minus text) z e

abbrev IsPlainTerm : TermValue → Type 0
IsPlainTerm v = (plain_term v ≡ true) × IsLawfulTerm v

term-read : (k : TermKind) (text : List ℕ) (v : TermValue) → value_of k text ≡ Some v → IsPlainTerm v
unfolding value_of
term-read GeneralTerm text v e = let same : General text ≡ v = cc in subst IsPlainTerm same (refl, tt)
term-read TextTerm text v e = let same : Text text ≡ v = cc in subst IsPlainTerm same (refl, tt)
term-read NumericTerm text v e = let m = mapped Numeric (integer_of text) v e in subst IsPlainTerm m.2 (refl, integer-fits text m.0 m.1)

-- sets
set-read : (text set : List ℕ) → set_of text ≡ Some set → IsOid set
set-read text set e = elim ((set-is_own_set text set).0 e) [
  | inl p ↦ subst IsOid (sym p.1) (is_oid_from_pass bib1 refl)
  | inr p ↦ p.1
]

-- attributes in force
abbrev ArePlainAttrs : List ℕ → List Attr → Type 0
ArePlainAttrs own xs = (plain_attrs own xs ≡ true) × AreLawfulAttrs xs

abbrev IsPlainAttr : List ℕ → Attr → Type 0
IsPlainAttr own a = (plain_attr own a ≡ true) × IsLawfulSet a.attr_set

attr-read : (own : List ℕ) (set : Option (List ℕ)) (n : ℕ × ℕ) → not (is_own_set own set) ≡ true → (n.0 ≤ most) × (n.1 ≤ most) → plain_attr own (attr set n) ≡ true
attr-read own set n h l = and_from _ _ h (and_from _ _ (le-leb n.0 most l.0) (le-leb n.1 most l.1))

by-own : (own set : List ℕ) (b : Bool) → bytes_eq own set ≡ b → IsOid set → (not (is_own_set own (if b then None else Some set)) ≡ true) × IsLawfulSet (if b then None else Some set)
by-own own set true e h = (refl, tt)
by-own own set false e h = (ap not e, h)

kept-read : (own set : List ℕ) → IsOid set → (not (is_own_set own (kept_set own set)) ≡ true) × IsLawfulSet (kept_set own set)
kept-read own set h = by-own own set (bytes_eq own set) refl h

none-put : (b a : Attr) (bs : List Attr) → alike b a ≡ false → list_any (alike b) bs ≡ false → list_any (alike b) (put_in bs a) ≡ false
unfolding alike
none-put b a [] u h = or_from _ _ u refl
none-put b a (c ∷ bs) u h =
    let parts = or_parts (alike b c) (list_any (alike b) bs) h in
    let either : (v : Bool) → list_any (alike b) (if v then record c { value = a.value } ∷ bs else c ∷ put_in bs a) ≡ false =
    λ v. elim v as (λ v. list_any (alike b) (if v then record c { value = a.value } ∷ bs else c ∷ put_in bs a) ≡ false) [
      | true ↦ h
      | false ↦ or_from _ _ parts.0 (none-put b a bs u parts.1)
    ] in
    either (alike c a)

any-valued : (b : Attr) (v : AttrValue) (bs : List Attr) → list_any (alike (record b { value = v })) bs ≡ list_any (alike b) bs
unfolding alike
any-valued b v [] = refl
any-valued b v (c ∷ bs) = ap (λ (r : Bool). alike b c || r) (any-valued b v bs)

put-plain : (own : List ℕ) (a : Attr) (bs : List Attr) → plain_attr own a ≡ true → plain_attrs own bs ≡ true → plain_attrs own (put_in bs a) ≡ true
unfolding alike
put-plain own a [] h k = and_from _ _ h refl
put-plain own a (b ∷ bs) h k =
    let new = and_parts (is_attr_number a.kind) (plain_value a.value) (and_parts (not (is_own_set own a.attr_set)) _ h).1 in
    let one = and_parts (plain_attr own b) _ k in
    let old = and_parts (not (is_own_set own b.attr_set)) _ one.0 in
    let rest = and_parts (not (list_any (alike b) bs)) (plain_attrs own bs) one.1 in
    let either : (v : Bool) → alike b a ≡ v → plain_attrs own (if v then record b { value = a.value } ∷ bs else b ∷ put_in bs a) ≡ true =
    λ v. elim v as (λ v. alike b a ≡ v → plain_attrs own (if v then record b { value = a.value } ∷ bs else b ∷ put_in bs a) ≡ true) [
      | true ↦ (λ e. and_from _ _ (and_from _ _ old.0 (and_from _ _ (and_parts (is_attr_number b.kind) (plain_value b.value) old.1).0 new.1)) (and_from _ _ (ap not (any-valued b a.value bs ∙ not-true (list_any (alike b) bs) rest.0)) rest.1))
      | false ↦ (λ e. and_from _ _ one.0 (and_from _ _ (ap not (none-put b a bs e (not-true (list_any (alike b) bs) rest.0))) (put-plain own a bs h rest.1)))
    ] in
    either (alike b a) refl

put-lawful : (a : Attr) (bs : List Attr) → IsLawfulSet a.attr_set → AreLawfulAttrs bs → AreLawfulAttrs (put_in bs a)
put-lawful a [] h k = (h, tt)
put-lawful a (b ∷ bs) h k =
    let either : (v : Bool) → AreLawfulAttrs (if v then record b { value = a.value } ∷ bs else b ∷ put_in bs a) =
    λ v. elim v as (λ v. AreLawfulAttrs (if v then record b { value = a.value } ∷ bs else b ∷ put_in bs a)) [ true ↦ k | false ↦ (k.0, put-lawful a bs h k.1) ] in
    either (alike b a)

more-plain : (own : List ℕ) (xs : List Attr) (a : Attr) → IsPlainAttr own a → ArePlainAttrs own (in_force xs) → ArePlainAttrs own (in_force (xs ++ a ∷ []))
more-plain own xs a h k = subst (ArePlainAttrs own) (sym (put-law xs a)) (put-plain own a (in_force xs) h.0 k.0, put-lawful a (in_force xs) h.1 k.1)

none-plain : (own : List ℕ) → ArePlainAttrs own (in_force [])
unfolding in_force
none-plain own = (refl, tt)

-- phrases
abbrev pub IsPlainTree : List ℕ → Tree → Type 0
IsPlainTree own q = (plain_tree own q ≡ true) × IsLawfulTree q

set-plain : (own name : List ℕ) (xs : List Attr) → ArePlainAttrs own xs → IsPlainTree own (set_tree name xs)
set-plain own name [] h = (refl, tt)
set-plain own name (a ∷ xs) h = h

phrase-plain : (own : List ℕ) (xs : List Attr) (k : TermKind) (p : Phrase) (q : Tree) → ArePlainAttrs own (in_force xs) → IsPhraseOf own xs k p q → IsPlainTree own q
phrase-plain own xs k (One t) q g (w, (v, e, is)) =
    let term = term-read k t.text v e in
    subst (IsPlainTree own) (sym is) (and_from _ _ g.0 term.0, (g.1, term.1))
phrase-plain own xs k (Named t u) q g (w, is) = subst (IsPlainTree own) (sym is) (set-plain own u.text (in_force xs) g)
phrase-plain own xs k (Attributed t u p) q g (w, e, (n, i, h)) =
    phrase-plain own (xs ++ attr None n ∷ []) k p q (more-plain own xs (attr None n) (attr-read own None n refl (numbers-most u.text n i), tt) g) h
phrase-plain own xs k (InSet t u w p) q g (i, e, (set, s, (n, m, h))) =
    let kept = kept-read own set (set-read u.text set s) in
    phrase-plain own (xs ++ attr (kept_set own set) n ∷ []) k p q
    (more-plain own xs (attr (kept_set own set) n) (attr-read own (kept_set own set) n kept.0 (numbers-most w.text n m), kept.1) g) h
phrase-plain own xs k (Typed t u p) q g (w, (m, e, h)) = phrase-plain own xs m p q g h
phrase-plain own xs k (Joined t p r) q g (o, w, (a, h, (b, i, is))) =
    let left = phrase-plain own xs k p a g h in
    let right = phrase-plain own xs k r b g i in
    subst (IsPlainTree own) (sym is) (and_from _ _ left.0 right.0, (left.1, right.1))

-- queries
pub whole-plain : (w : Whole) (own : List ℕ) (q : Tree) → IsWholeOf w own q → IsOid own × IsPlainTree own q
whole-plain (Bare p) own q (e, h) = (subst IsOid (sym e) (is_oid_from_pass bib1 refl), phrase-plain own [] GeneralTerm p q (none-plain own) h)
whole-plain (InAttrSet t u p) own q (w, e, h) = (set-read u.text own e, phrase-plain own [] GeneralTerm p q (none-plain own) h)
