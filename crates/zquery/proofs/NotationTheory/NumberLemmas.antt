-- What `parse` gives, as the number that digits write.
use Rattle.std.proofs.Common.{◌≡◌, ℕ, ◌^◌, ◌<◌, ◌≤◌, List, [], ◌∷◌, length, true, false, Some, None, Result, Ok, Err, inl, inr, arith, rules}
use Rattle.std.specs.Char.{is_ascii_digit}
use Rattle.std.specs.List.{list_all}
use Rattle.std.specs.Str.{IsUtf8}
use Rattle.std.specs.Str.Parse.{digits_value, ParsesUnsigned}
use Rattle.std.proofs.lemmas.Str.{IsUtf8-from_ascii}
use Rattle.std.proofs.lemmas.Fmt.{IsAscii-from_digits}
use Rattle.std.proofs.lemmas.Str.Parse.{IsNumeralModel, numerals_by_value, parse_digits}
use Rattle.std.proofs.lemmas.Bool.{le-leb, lt-leb, and_left, and_right, and_from, and_parts, cond-true, cond-false, cases_lt}
use Rattle.zquery.specs.Notation.Numbers.{is_numeral, number_of_text}

pub own : IsNumeralModel (λ ds. list_all is_ascii_digit ds ≡ true) (digits_value 10)
own = numerals_by_value _ (search rules)

digits-numeral : (text : List ℕ) → is_numeral text ≡ true → (list_all is_ascii_digit text ≡ true) × (0 < length text)
digits-numeral [] h = absurd (Prim.cc h)
digits-numeral (b ∷ bs) h = ((and_parts _ _ h).1, omega arith)

pub utf8-numeral : (text : List ℕ) → is_numeral text ≡ true → IsUtf8 text
utf8-numeral text h = IsUtf8-from_ascii text (IsAscii-from_digits text (own.to text (digits-numeral text h).0))

pub no-number : (most : ℕ) (text : List ℕ) → is_numeral text ≡ false → number_of_text most text ≡ None
unfolding number_of_text
no-number most text h = cond-false _ _ _ (and_left _ _ h)

pub some-number : (most : ℕ) (text : List ℕ) → is_numeral text ≡ true → digits_value 10 text ≤ most → number_of_text most text ≡ Some (digits_value 10 text)
unfolding number_of_text
some-number most text h l = cond-true _ _ _ (and_from _ _ h (le-leb (digits_value 10 text) most l))

pub large-number : (most : ℕ) (text : List ℕ) → most < digits_value 10 text → number_of_text most text ≡ None
unfolding number_of_text
large-number most text l = cond-false _ _ _ (and_right _ _ (lt-leb (digits_value 10 text) most l))

pub parsed : {E : Type 0} (text : List ℕ) (n : ℕ) (r : Result ℕ E) → is_numeral text ≡ true → ParsesUnsigned 64 10 text r → r ≡ Ok n → n ≡ digits_value 10 text
parsed {E} text n r h p e =
    let q : ParsesUnsigned {E = E} 64 10 text (Ok n) = rw e at p in
    (parse_digits own {E = E} 64 text (Ok n) q (digits-numeral text h).0).1

pub not-parsed : {E : Type 0} (text : List ℕ) (most : ℕ) (e : E) (r : Result ℕ E) → most < 2 ^ 64 → is_numeral text ≡ true → ParsesUnsigned 64 10 text r → r ≡ Err e → number_of_text most text ≡ None
not-parsed {E} text most e r l h p i =
    let q : ParsesUnsigned {E = E} 64 10 text (Err e) = rw i at p in
    let d = digits-numeral text h in
    let no : ((0 < length text) × (digits_value 10 text < 2 ^ 64)) → ⊥ = parse_digits own {E = E} 64 text (Err e) q d.0 in
    elim (cases_lt (digits_value 10 text) (2 ^ 64)) [ inl b ↦ absurd (no (d.1, b)) | inr b ↦ large-number most text (omega arith) ]
