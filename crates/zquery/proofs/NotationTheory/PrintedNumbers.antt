-- A number that is printed is read again.
use Rattle.std.proofs.Common.{◌≡◌, refl, sym, ◌∙◌, ap, ℕ, suc, ◌+◌, ◌-◌, ◌^◌, ◌<◌, ◌≤◌, ℤ, pos, negsuc, List, [], ◌∷◌, ◌++◌, length, take, drop, Bool, true, false, not, ◌==◌, cond, Option, Some, arith, rules}
use Rattle.std.specs.Char.{is_ascii_digit}
use Rattle.std.specs.Fmt.{decimal, signed_decimal}
use Rattle.std.specs.Int.RustNames.{FitsSigned}
use Rattle.std.specs.Int.{w64}
use Rattle.std.specs.List.{list_all, position_or_len, before_first, after_first}
use Rattle.std.specs.Option.{option_map}
use Rattle.std.specs.Str.Parse.{digits_value}
use Rattle.std.proofs.lemmas.Bool.{and_parts, and_from, cond-false, true≢false, ne_eqb}
use Rattle.std.proofs.lemmas.Int.{ints}
use Rattle.std.proofs.Math.Seq.{take-append_seam, drop-append-add}
use Rattle.std.proofs.lemmas.Fmt.{decimal_is_IsNumeral}
use Rattle.zquery.specs.Notation.Numbers.{is_numeral, number_of_text, integer_of, has_minus, plus, minus}
use Rattle.zquery.specs.Notation.Values.{is_equals, most, pair_of, numbers_of}
use Rattle.zquery.proofs.NotationTheory.NumberLemmas.{own, some-number}

-- digits, one or more
pub decimal-digits : (n : ℕ) → n < 2 ^ 64 → (list_all is_ascii_digit (decimal n) ≡ true) × (0 < length (decimal n)) × (digits_value 10 (decimal n) ≡ n)
decimal-digits n h = let d = decimal_is_IsNumeral n h in (own.from (decimal n) d.0.1, d.0.0, d.1)

numeral-from : (ds : List ℕ) → list_all is_ascii_digit ds ≡ true → 0 < length ds → is_numeral ds ≡ true
numeral-from [] h k = absurd (omega arith)
numeral-from (d ∷ ds) h k = and_from _ _ (search rules) h

pub number-decimal : (max n : ℕ) → n < 2 ^ 64 → n ≤ max → number_of_text max (decimal n) ≡ Some n
number-decimal max n h l =
    let d = decimal-digits n h in
    some-number max (decimal n) (numeral-from (decimal n) d.0 d.1) (omega (arith, d.2)) ∙ ap (λ (k : ℕ). Some k) d.2

digit-no-minus : (ds : List ℕ) → list_all is_ascii_digit ds ≡ true → has_minus ds ≡ false
digit-no-minus [] h = refl
digit-no-minus (d ∷ ds) h =
    let digit = (and_parts _ _ h).0 in
    ne_eqb d 45 (λ e. let z : false ≡ true = sym (ap is_ascii_digit e) ∙ digit in true≢false (sym z))

pub integer-decimal : (z : ℤ) → FitsSigned w64 z → integer_of (signed_decimal z) ≡ Some z
unfolding integer_of
integer-decimal (pos n) h =
    let small : n < 2 ^ 63 = omega (arith, ints, h) in
    let d = decimal-digits n (omega arith) in
    cond-false _ _ _ (digit-no-minus (decimal n) d.0) ∙ ap (option_map plus) (number-decimal (2 ^ 63 - 1) n (omega arith) (omega arith))
integer-decimal (negsuc n) h =
    let small : n < 2 ^ 63 = omega (arith, ints, h) in
    ap (option_map minus) (number-decimal (2 ^ 63) (suc n) (omega arith) (omega arith))

-- digits have no equals sign
digit-no-equals : (ds more : List ℕ) → list_all is_ascii_digit ds ≡ true → position_or_len is_equals (ds ++ 61 ∷ more) ≡ length ds
digit-no-equals [] more h = refl
digit-no-equals (d ∷ ds) more h =
    let parts = and_parts _ _ h in
    let plain : (d == 61) ≡ false = ne_eqb d 61 (λ e. let z : false ≡ true = sym (ap is_ascii_digit e) ∙ parts.0 in true≢false (sym z)) in
    let rest : position_or_len is_equals (ds ++ 61 ∷ more) ≡ length ds = digit-no-equals ds more parts.1 in
    ap (λ (v : Bool). cond (not v) (1 + position_or_len is_equals (ds ++ 61 ∷ more)) 0) plain ∙ omega (arith, rest)

pub numbers-decimal : (a b : ℕ) → a ≤ most → b ≤ most → numbers_of (decimal a ++ 61 ∷ decimal b) ≡ Some (a, b)
unfolding numbers_of
numbers-decimal a b h k =
    let d = decimal-digits a (omega arith) in
    let at : position_or_len is_equals (decimal a ++ 61 ∷ decimal b) ≡ length (decimal a) = digit-no-equals (decimal a) (decimal b) d.0 in
    let front : before_first is_equals (decimal a ++ 61 ∷ decimal b) ≡ decimal a = ap (λ (n : ℕ). take n (decimal a ++ 61 ∷ decimal b)) at ∙ take-append_seam (decimal a) (61 ∷ decimal b) in
    let back : after_first is_equals (decimal a ++ 61 ∷ decimal b) ≡ decimal b = ap (λ (n : ℕ). drop (n + 1) (decimal a ++ 61 ∷ decimal b)) at ∙ drop-append-add (decimal a) (61 ∷ decimal b) 1 in
    ap (λ (xs : List ℕ). pair_of (number_of_text most xs) (number_of_text most (after_first is_equals (decimal a ++ 61 ∷ decimal b)))) front
    ∙ ap (λ (xs : List ℕ). pair_of (number_of_text most (decimal a)) (number_of_text most xs)) back
    ∙ ap (λ (o : Option ℕ). pair_of o (number_of_text most (decimal b))) (number-decimal most a (omega arith) h)
    ∙ ap (λ (o : Option ℕ). pair_of (Some a) o) (number-decimal most b (omega arith) k)
