-- Which object identifier a text is of.
use Rattle.std.proofs.Common.{◌≡◌, refl, sym, ◌∙◌, ap, subst, ℕ, ◌^◌, ◌<◌, ◌≤◌, List, [], ◌∷◌, ◌++◌, length, Bool, true, false, ◌==◌, ◌&&◌, ◌||◌, inl, inr, Option, Some, None, Err, map, cond, if◌then◌else◌, nat_lt, arith, append-nil, get_or}
use Rattle.std.specs.List.{list_all, slice_split, onto_first, flat_map, All, Any}
use Rattle.std.specs.Str.{bytes_eq}
use Rattle.std.specs.Str.Parse.{digits_value}
use Rattle.std.proofs.lemmas.Bool.{and_parts, and_from, or_cases, or_left, or_right, ltb-true, lt-ltb, eqb-true, eq-eqb, ne_eqb, cond-true, cases_lt}
use Rattle.std.proofs.lemmas.List.Elements.{All-nil, All-cons, All-head, All-tail}
use Rattle.std.proofs.lemmas.Slice.Eq.{bytes_eq-Decides}
use Rattle.std.proofs.lemmas.Fmt.{decimal_is_IsNumeral}
use Rattle.zber.specs.declared.oid.OidError.{OidError}
use Rattle.zber.specs.declared.oid.OidError.TheVariants.{OidText, OidArc, OidTooShort, OidFirst, Memory}
use Rattle.zber.specs.Dotted.{numeral, dotted}
use Rattle.zber.specs.Oids.{IsOid, HasRoot, is_oid}
use Rattle.zber.specs.OidResults.{DottedResult, HasNoRoot}
use Rattle.zber.proofs.DottedLemmas.{printed}
use Rattle.zber.proofs.DottedReading.{dotted_apart, IsPlain, plain_digits}
use Rattle.zber.proofs.NumeralLemmas.{numeral_is}
use Rattle.zber.proofs.OidTest.{is_oid_pass, is_oid_from_pass}
use Rattle.zquery.specs.Notation.Sets.{is_dot, dotted_numbers, oid_of_text}

abbrev IsSmall : ℕ → Type 0
IsSmall n = n < 2 ^ 32

-- the numbers between the dots of a text of arcs are the arcs
no-dot : (b : ℕ) → (b ≡ 46 → ⊥) → is_dot b ≡ false
no-dot b h = ne_eqb b 46 h

split-plain : (xs : List ℕ) → IsPlain xs → slice_split is_dot xs ≡ xs ∷ []
split-plain [] h = refl
split-plain (x ∷ xs) h =
    ap (λ (v : Bool). cond v ([] ∷ slice_split is_dot xs) (onto_first x (slice_split is_dot xs))) (no-dot x h.0) ∙ ap (onto_first x) (split-plain xs h.1)

split-front : (xs rest : List ℕ) → IsPlain xs → slice_split is_dot (xs ++ 46 ∷ rest) ≡ xs ∷ slice_split is_dot rest
split-front [] rest h = refl
split-front (x ∷ xs) rest h =
    ap (λ (v : Bool). cond v ([] ∷ slice_split is_dot (xs ++ 46 ∷ rest)) (onto_first x (slice_split is_dot (xs ++ 46 ∷ rest)))) (no-dot x h.0) ∙ ap (onto_first x) (split-front xs rest h.1)

plain-numeral : (n : ℕ) → IsPlain (numeral n)
plain-numeral n = plain_digits (numeral n) (numeral_is n).digits

pieces : (ns xs : List ℕ) → IsPlain xs → slice_split is_dot (xs ++ flat_map (λ m. 46 ∷ numeral m) ns) ≡ xs ∷ map numeral ns
pieces [] xs h = ap (slice_split is_dot) (append-nil xs) ∙ split-plain xs h
pieces (n ∷ ns) xs h =
    split-front xs (numeral n ++ flat_map (λ m. 46 ∷ numeral m) ns) h ∙ ap (λ (zs : List (List ℕ)). xs ∷ zs) (pieces ns (numeral n) (plain-numeral n))

value-numeral : (n : ℕ) → n < 2 ^ 32 → digits_value 10 (numeral n) ≡ n
value-numeral n h = ap (digits_value 10) (sym (printed n (omega arith))) ∙ (decimal_is_IsNumeral n (omega arith)).1

values : (ns : List ℕ) → All (λ n. n < 2 ^ 32) ns → map (digits_value 10) (map numeral ns) ≡ ns
values [] h = refl
values (n ∷ ns) h = ap (λ (m : ℕ). m ∷ map (digits_value 10) (map numeral ns)) (value-numeral n (All-head IsSmall n ns h)) ∙ ap (λ (ms : List ℕ). n ∷ ms) (values ns (All-tail IsSmall n ns h))

arcs-back : (ns : List ℕ) → IsOid ns → dotted_numbers (dotted ns) ≡ ns
arcs-back [] h = absurd h.root
arcs-back (n ∷ ns) h = ap (map (digits_value 10)) (pieces ns (numeral n) (plain-numeral n)) ∙ values (n ∷ ns) h.fits

-- what a text is of
pub oid-found : (text o : List ℕ) → text ≡ dotted o → IsOid o → oid_of_text text ≡ Some o
unfolding oid_of_text
oid-found text o e h =
    let arcs : dotted_numbers text ≡ o = ap dotted_numbers e ∙ arcs-back o h in
    let test : (is_oid (dotted_numbers text) && bytes_eq (dotted (dotted_numbers text)) text) ≡ true =
    and_from _ _ (ap is_oid arcs ∙ is_oid_pass o h) ((bytes_eq-Decides (dotted (dotted_numbers text)) text).1 (ap dotted arcs ∙ sym e)) in
    cond-true _ _ _ test ∙ ap (λ (ns : List ℕ). Some ns) arcs

by-test : (text ns o : List ℕ) (b c : Bool) → is_oid ns ≡ b → bytes_eq (dotted ns) text ≡ c → (if b && c then Some ns else None) ≡ Some o → (text ≡ dotted o) × IsOid o
by-test text ns o true true g h e =
    let same : ns ≡ o = cc in
    (sym ((bytes_eq-Decides (dotted ns) text).0 h) ∙ ap dotted same, is_oid_from_pass o (ap is_oid (sym same) ∙ g))
by-test text ns o true false g h e = absurd (Prim.cc e)
by-test text ns o false c g h e = absurd (Prim.cc e)

pub oid-named : (text o : List ℕ) → oid_of_text text ≡ Some o → (text ≡ dotted o) × IsOid o
unfolding oid_of_text
oid-named text o e = by-test text (dotted_numbers text) o (is_oid (dotted_numbers text)) (bytes_eq (dotted (dotted_numbers text)) text) refl refl e

none-when : (text : List ℕ) (r : Option (List ℕ)) → oid_of_text text ≡ r → ((o : List ℕ) → text ≡ dotted o → IsOid o → ⊥) → r ≡ None
none-when text None e h = refl
none-when text (Some o) e h = let n = oid-named text o e in absurd (h o n.0 n.1)

some-arc : (o : List ℕ) → IsOid o → 0 < length o
some-arc [] h = absurd h.root
some-arc (a ∷ ns) h = omega arith

low-high : (ns : List ℕ) → All (λ n. n < 2 ^ 32) ns → Any (λ n. 2 ^ 32 ≤ n) ns → ⊥
low-high ns h (k, x, l, e, p) = let low : get_or ns k x < 2 ^ 32 = h k x l in omega arith

no-root : (ns : List ℕ) → HasRoot ns → HasNoRoot ns → ⊥
no-root [] h n = h
no-root (a ∷ []) h n = h
no-root (a ∷ b ∷ ns) h (inl g) = omega (arith, h.0)
no-root (a ∷ b ∷ ns) h (inr p) = let low : b < 40 = h.1 p.0 in omega (arith, p.1)

-- if reading returns an error, and memory was found, the text is that of no object identifier
pub no-oid : (text : List ℕ) (e : OidError) → (e ≡ Memory → ⊥) → DottedResult text (Err e) → oid_of_text text ≡ None
no-oid text OidText m f = none-when text (oid_of_text text) refl (λ o e h. f o (some-arc o h) e)
no-oid text OidArc m (ns, e, any) = none-when text (oid_of_text text) refl (λ o d h. low-high ns (subst (λ (z : List ℕ). All (λ n. n < 2 ^ 32) z) (dotted_apart o ns (sym d ∙ e)) h.fits) any)
no-oid text OidTooShort m (n, i) = none-when text (oid_of_text text) refl (λ o d h. let r : HasRoot (n ∷ []) = subst HasRoot (dotted_apart o (n ∷ []) (sym d ∙ i.0)) h.root in r)
no-oid text OidFirst m (ns, i, r) = none-when text (oid_of_text text) refl (λ o d h. no-root ns (subst HasRoot (dotted_apart o ns (sym d ∙ i.0)) h.root) r)
no-oid text Memory m f = absurd (m refl)
