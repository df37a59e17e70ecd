-- The tokens without quotes of a printed text.
use Rattle.std.proofs.Common.{◌≡◌, refl, sym, ◌∙◌, ap, if◌then◌else◌, ℕ, ◌<◌, ◌≤◌, List, [], ◌∷◌, ◌++◌, length, Bool, true, false, ◌||◌, ◌⊎◌, inl, inr, Some, nat_lt, arith, length-append}
use Rattle.std.specs.Char.{is_ascii_digit, to_ascii_lowercase}
use Rattle.std.specs.Fmt.{decimal}
use Rattle.std.specs.List.{list_all, list_any, All}
use Rattle.std.proofs.lemmas.Bool.{and_parts, and_left, or_from, leb-true, ltb-true, ne_eqb, cond-true, cond-false}
use Rattle.std.proofs.lemmas.Bool.Decides.{nat_tests}
use Rattle.std.proofs.lemmas.List.Elements.{All-head, All-tail}
use Rattle.std.proofs.lemmas.List.Folds.{list_any-append}
use Rattle.zber.specs.Dotted.{numeral, dotted, behind}
use Rattle.zber.specs.Oids.{IsOid}
use Rattle.zber.proofs.DottedReading.{dotted_plain, dotted_cons, others}
use Rattle.zber.proofs.NumeralLemmas.{numeral_is}
use Rattle.zquery.specs.Notation.Tokens.{is_white, AllAre, IsUnquoted}
use Rattle.zquery.specs.Notation.Sets.{bib1, is_bib1, oid_of_text, set_of}
use Rattle.zquery.specs.Notation.Values.{is_equals, has_equals, most}
use Rattle.zquery.proofs.NotationTheory.PrintedNumbers.{decimal-digits}
use Rattle.zquery.proofs.NotationTheory.SetLemmas.{oid-found, oid-named}
use Rattle.zquery.specs.Notation.Laws.{SetNames}

-- all octets are above 34
abbrev pub AllAbove : List ℕ → Type 0
AllAbove [] = Unit {0}
AllAbove (b ∷ bs) = (34 < b) × AllAbove bs

black-above : (b : ℕ) → 34 < b → is_white b ≡ false
unfolding is_white
black-above b h =
    or_from _ _
    (or_from _ _ (or_from _ _ (ne_eqb b 32 (λ e. omega arith)) (ne_eqb b 9 (λ e. omega arith))) (ne_eqb b 10 (λ e. omega arith)))
    (ne_eqb b 13 (λ e. omega arith))

all-black : (bs : List ℕ) → AllAbove bs → AllAre is_white false bs
all-black [] h = tt
all-black (b ∷ bs) h = (black-above b h.0, all-black bs h.1)

pub word-above : (bs : List ℕ) → 0 < length bs → AllAbove bs → IsUnquoted bs
word-above [] s h = absurd (omega arith)
word-above (b ∷ bs) s h = (ne_eqb b 34 (λ e. omega (arith, h.0)), all-black (b ∷ bs) h)

above-of : (w : List ℕ) → list_all (λ b. nat_lt 34 b) w ≡ true → AllAbove w
above-of [] h = tt
above-of (b ∷ bs) h = let parts = and_parts (nat_lt 34 b) (list_all (λ b. nat_lt 34 b) bs) h in (ltb-true 34 b parts.0, above-of bs parts.1)

-- a token without quotes, given octet by octet
pub word-of : (w : List ℕ) → 0 < length w → list_all (λ b. nat_lt 34 b) w ≡ true → IsUnquoted w
word-of w s h = word-above w s (above-of w h)

pub above-append : (xs ys : List ℕ) → AllAbove xs → AllAbove ys → AllAbove (xs ++ ys)
above-append [] ys h k = k
above-append (x ∷ xs) ys h k = (h.0, above-append xs ys h.1 k)

pub above-digits : (ds : List ℕ) → list_all is_ascii_digit ds ≡ true → AllAbove ds
above-digits [] h = tt
above-digits (d ∷ ds) h =
    let parts = and_parts (is_ascii_digit d) (list_all is_ascii_digit ds) h in
    (omega (arith, leb-true 48 d (and_parts _ _ parts.0).0), above-digits ds parts.1)

-- the numbers of an attribute
pub numbers-word : (m n : ℕ) → m ≤ most → n ≤ most → IsUnquoted (decimal m ++ 61 ∷ decimal n)
numbers-word m n h k =
    let a = decimal-digits m (omega arith) in
    let b = decimal-digits n (omega arith) in
    word-above (decimal m ++ 61 ∷ decimal n) (omega (arith, a.1, length-append (decimal m) (61 ∷ decimal n)))
    (above-append (decimal m) (61 ∷ decimal n) (above-digits (decimal m) a.0) (omega arith, above-digits (decimal n) b.0))

pub numbers-equals : (xs ys : List ℕ) → has_equals (xs ++ 61 ∷ ys) ≡ true
unfolding has_equals
numbers-equals xs ys = list_any-append is_equals xs (61 ∷ ys) ∙ or-true (list_any is_equals xs) where
  or-true : (v : Bool) → (v || true) ≡ true
  or-true true = refl
  or-true false = refl

-- the name of a set
abbrev IsDigitOrDot : ℕ → Type 0
IsDigitOrDot x = (x ≡ 46) ⊎ ((48 ≤ x) × (x ≤ 57))

above-one : (x : ℕ) → IsDigitOrDot x → (34 < x) × (x ≤ 57)
above-one x (inl e) = (omega arith, omega arith)
above-one x (inr p) = (omega (arith, p.0), p.1)

above-dotted : (xs : List ℕ) → All IsDigitOrDot xs → AllAbove xs
above-dotted [] h = tt
above-dotted (x ∷ xs) h = ((above-one x (All-head IsDigitOrDot x xs h)).0, above-dotted xs (All-tail IsDigitOrDot x xs h))

no-equals : (xs : List ℕ) → All IsDigitOrDot xs → list_any is_equals xs ≡ false
no-equals [] h = refl
no-equals (x ∷ xs) h =
    let low = above-one x (All-head IsDigitOrDot x xs h) in
    let plain : is_equals x ≡ false = ne_eqb x 61 (λ e. omega (arith, low.1)) in
    ap (λ (v : Bool). v || list_any is_equals xs) plain ∙ no-equals xs (All-tail IsDigitOrDot x xs h)

pub dotted-no-equals : (ns : List ℕ) → has_equals (dotted ns) ≡ false
unfolding has_equals
dotted-no-equals ns = no-equals (dotted ns) (dotted_plain ns)

some-dotted : (ns : List ℕ) → IsOid ns → 0 < length (dotted ns)
some-dotted [] h = absurd h.root
some-dotted (n ∷ ns) h = omega (arith, (numeral_is n).some, ap length (dotted_cons n ns), length-append (numeral n) (behind (others ns)))

pub dotted-word : (ns : List ℕ) → IsOid ns → IsUnquoted (dotted ns)
dotted-word ns h = word-above (dotted ns) (some-dotted ns h) (above-dotted (dotted ns) (dotted_plain ns))

lower-low : (x : ℕ) → x ≤ 57 → to_ascii_lowercase x ≤ 57
lower-low x h = grind (arith, nat_tests)

not-bib1 : (xs : List ℕ) → 0 < length xs → All IsDigitOrDot xs → is_bib1 xs ≡ false
not-bib1 [] s h = absurd (omega arith)
not-bib1 (x ∷ xs) s h =
    let low : x ≤ 57 = (above-one x (All-head IsDigitOrDot x xs h)).1 in
    and_left _ _ (ne_eqb (to_ascii_lowercase x) 98 (λ e. let k : to_ascii_lowercase x ≤ 57 = lower-low x low in omega arith))

pub dotted-set : (ns : List ℕ) → IsOid ns → set_of (dotted ns) ≡ Some ns
unfolding set_of
dotted-set ns h = cond-false _ _ _ (not-bib1 (dotted ns) (some-dotted ns h) (dotted_plain ns)) ∙ oid-found (dotted ns) ns refl h

-- which set has this name
some-is : (x y : List ℕ) → Some x ≡ Some y → x ≡ y
some-is x y h = cc

named-by : (text set : List ℕ) (b : Bool) → is_bib1 text ≡ b → (if b then Some bib1 else oid_of_text text) ≡ Some set → ((is_bib1 text ≡ true) × (set ≡ bib1)) ⊎ ((text ≡ dotted set) × IsOid set)
named-by text set true e h = let same : bib1 ≡ set = some-is bib1 set h in inl (e, sym same)
named-by text set false e h = inr (oid-named text set h)

pub set-is_own_set : SetNames
unfolding set_of
set-is_own_set text set = (
  (λ h. named-by text set (is_bib1 text) refl h),
  (λ h. elim h [
    | inl p ↦ cond-true _ _ _ p.0 ∙ ap (λ (s : List ℕ). Some s) (sym p.1)
    | inr p ↦ ap set_of p.0 ∙ dotted-set set p.1
  ]),
)
