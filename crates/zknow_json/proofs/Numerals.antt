-- Numbers in decimal are numbers of JSON, and those that the code writes.
use Rattle.std.proofs.Common.{◌≡◌, false, ℕ, zero, suc, ◌+◌, ◌^◌, ◌<◌, ◌≤◌, cond, List, [], ◌∷◌, length, drop, get_or, Some, refl, ap, ◌∙◌, arith, ℤ, pos, negsuc}
use Rattle.std.specs.Prelude.{◌==◌, All, map}
use Rattle.std.specs.Option.{option_and_then}
use lib.Signed.{mag}
use Rattle.std.specs.Char.{is_ascii_digit}
use Rattle.std.specs.Fmt.{decimal, signed_decimal}
use Rattle.std.specs.Int.Digits.{digits_of}
use Rattle.std.specs.List.{prefix_len}
use Rattle.std.specs.Str.{IsAscii}
use Rattle.std.proofs.lemmas.Bool.{ne_eqb, le-leb, and_from}
use Rattle.std.proofs.lemmas.Fmt.{decimal_digit, decimal-digits_of}
use Rattle.std.proofs.lemmas.Int.Digits.{all_below_base_digits_of, first_digits_of}
use Rattle.std.proofs.lemmas.List.{drop_all}
use Rattle.std.proofs.lemmas.List.Elements.{All-nil, All-cons, All-head, All-tail, All-map, All-weaker, All-from_recursion}
use Rattle.std.proofs.lemmas.Str.Ascii.{IsAscii-from_all}
use Rattle.json.specs.Word.{head, after_whole, after_fraction, after_exponent, after_number}
use Rattle.json.specs.Print.{IsNumber}
use Rattle.zber.specs.Dotted.{numeral}
use Rattle.zknow_json.specs.Members.{signed_numeral}

-- ---- digits

record IsDigit (x : ℕ) : Type 0 where
  pub least : 48 ≤ x
  pub most : x ≤ 57

digit : (d : ℕ) → d < 10 → IsDigit (48 + d)
digit d h = record { least = omega arith; most = omega arith }

-- the digits of a number above 0
abbrev glyphs : ℕ → List ℕ
glyphs n = map (λ d. 48 + d) (digits_of 10 n)

glyphs_digits : (n : ℕ) → All IsDigit (glyphs n)
glyphs_digits n =
    let ds = digits_of 10 n in
    let below = All-from_recursion (λ d. d < 10) ds (all_below_base_digits_of 10 n (omega arith)) in
    All-map IsDigit (λ d. 48 + d) ds (All-weaker (λ d. d < 10) (λ d. IsDigit (48 + d)) digit ds below)

numeral_digits : (n : ℕ) → All IsDigit (numeral n)
numeral_digits zero =
    All-cons IsDigit 48 [] (record { least = omega arith; most = omega arith }) (All-nil IsDigit)
numeral_digits (suc n) = glyphs_digits (suc n)

first_glyph : (ds : List ℕ) → 0 < get_or ds 0 0 → 48 < get_or (map (λ d. 48 + d) ds) 0 0
first_glyph [] h = absurd (omega arith)
first_glyph (d ∷ ds) h = omega arith

-- ---- numbers of JSON

all_digits : (xs : List ℕ) → All IsDigit xs → prefix_len is_ascii_digit xs ≡ length xs
all_digits [] h = refl
all_digits (x ∷ xs) h =
    let first = All-head IsDigit x xs h in
    let rest = all_digits xs (All-tail IsDigit x xs h) in
    ap (λ b. cond b (1 + prefix_len is_ascii_digit xs) 0)
    (and_from _ _ (le-leb 48 x first.least) (le-leb x 57 first.most)) ∙ omega arith

-- what is read of a text at its front: the whole of it as the digits before a dot, and no minus
record IsWhole (xs : List ℕ) : Type 0 where
  pub whole : after_whole xs ≡ Some []
  pub no_minus : (head xs == 45) ≡ false

digits_whole : (xs : List ℕ) → 48 < get_or xs 0 0 → prefix_len is_ascii_digit xs ≡ length xs → IsWhole xs
digits_whole [] first all = absurd (omega arith)
digits_whole (x ∷ xs) first all = record {
  whole = rw (ne_eqb x 48 (λ e. omega arith), all, ne_eqb (suc (length xs)) 0 (λ e. omega arith))
      (ap Some (drop_all (length (x ∷ xs)) (x ∷ xs) (omega arith)));
  no_minus = ne_eqb x 45 (λ e. omega arith);
}

numeral_whole : (n : ℕ) → IsWhole (numeral n)
numeral_whole zero = record { whole = refl; no_minus = refl }
numeral_whole (suc n) =
    digits_whole (glyphs (suc n)) (first_glyph (digits_of 10 (suc n)) (first_digits_of 10 (suc n) (omega arith)
    (omega arith))) (all_digits (glyphs (suc n)) (glyphs_digits (suc n)))

pub numeral_number : (n : ℕ) → IsNumber (numeral n)
unfolding after_number
numeral_number n =
    let w = numeral_whole n in
    ap (λ o. option_and_then after_exponent (option_and_then after_fraction o))
    (ap (λ b. after_whole (cond b (drop 1 (numeral n)) (numeral n))) w.no_minus ∙ w.whole)

negative_number : (n : ℕ) → IsNumber (45 ∷ numeral n)
unfolding after_number
negative_number n =
    ap (λ o. option_and_then after_exponent (option_and_then after_fraction o)) (numeral_whole n).whole

pub signed_number : (z : ℤ) → IsNumber (signed_numeral z)
signed_number (pos n) = numeral_number n
signed_number (negsuc n) = negative_number (suc n)

-- ---- octets

above_controls : (x : ℕ) → IsDigit x → 0x20 ≤ x
above_controls x d = omega (arith, d.least)

below_128 : (x : ℕ) → IsDigit x → x < 128
below_128 x d = omega (arith, d.most)

pub numeral_plain : (n : ℕ) → All (λ x. 0x20 ≤ x) (numeral n)
numeral_plain n = All-weaker IsDigit (λ x. 0x20 ≤ x) above_controls (numeral n) (numeral_digits n)

pub signed_plain : (z : ℤ) → All (λ x. 0x20 ≤ x) (signed_numeral z)
signed_plain (pos n) = numeral_plain n
signed_plain (negsuc n) = All-cons (λ x. 0x20 ≤ x) 45 (numeral (suc n)) (omega arith) (numeral_plain (suc n))

numeral_low : (n : ℕ) → All (λ x. x < 128) (numeral n)
numeral_low n = All-weaker IsDigit (λ x. x < 128) below_128 (numeral n) (numeral_digits n)

pub numeral_ascii : (n : ℕ) → IsAscii (numeral n)
numeral_ascii n = IsAscii-from_all (numeral n) (numeral_low n)

pub signed_ascii : (z : ℤ) → IsAscii (signed_numeral z)
signed_ascii (pos n) = numeral_ascii n
signed_ascii (negsuc n) =
    IsAscii-from_all (45 ∷ numeral (suc n))
    (All-cons (λ x. x < 128) 45 (numeral (suc n)) (omega arith) (numeral_low (suc n)))

-- ---- what the code writes

pub decimal_is_numeral : (n : ℕ) → n < 2 ^ 64 → decimal n ≡ numeral n
decimal_is_numeral zero h = decimal_digit 0 (omega arith)
decimal_is_numeral (suc n) h = decimal-digits_of (suc n) (omega arith) h

pub signed_is_numeral : (z : ℤ) → mag z < 2 ^ 63 → signed_decimal z ≡ signed_numeral z
signed_is_numeral (pos n) h = decimal_is_numeral n (omega arith)
signed_is_numeral (negsuc n) h = ap (λ ds. 45 ∷ ds) (decimal_is_numeral (suc n) (omega arith))
