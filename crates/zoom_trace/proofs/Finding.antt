-- Texts that are cut at octets, and the words and numbers that are found so.
use Rattle.std.proofs.Common.{◌≡◌, ◌≢◌, refl, sym, ◌∙◌, ap, ℕ, suc, ◌+◌, ◌-◌, ◌^◌, ◌<◌, ◌≤◌, List, [], ◌∷◌, ◌++◌, length, take, drop, Bool, true, false, not, ◌==◌, cond, Option, Some, None, nat_lt, arith, length-append}
use Rattle.std.specs.Char.{is_ascii_digit}
use Rattle.std.specs.Fmt.{decimal}
use Rattle.std.specs.List.{list_all, prefix_len, position}
use Rattle.std.specs.Option.{option_map, option_and_then}
use Rattle.std.proofs.lemmas.Bool.{and_parts, and_from, true≢false, ne_eqb, eq-eqb, cond-true, lt-ltb}
use Rattle.std.proofs.Math.Seq.{take-append_seam, drop-append-add}
use Rattle.zquery.specs.Notation.Numbers.{number_of_text}
use Rattle.zquery.proofs.NotationTheory.PrintedNumbers.{decimal-digits, number-decimal}
use Rattle.zoom_trace.specs.Reading.{around, before, cut, word, number_and, number_in}

-- the octet does not occur
abbrev pub is_free : ℕ → List ℕ → Bool
is_free mark xs = list_all (λ x. not (x == mark)) xs

marked : (mark : ℕ) (xs more : List ℕ) → is_free mark xs ≡ true
    → prefix_len (λ x. not (x == mark)) (xs ++ mark ∷ more) ≡ length xs
marked mark [] more h =
    ap (λ (b : Bool). cond (not b) (1 + prefix_len (λ x. not (x == mark)) more) 0) (eq-eqb mark mark refl)
marked mark (x ∷ xs) more h =
    let parts = and_parts _ _ h in
    let rest = marked mark xs more parts.1 in
    ap (λ (b : Bool). cond b (1 + prefix_len (λ x. not (x == mark)) (xs ++ mark ∷ more)) 0) parts.0
    ∙ omega (arith, rest)

place : (mark : ℕ) (xs more : List ℕ) → is_free mark xs ≡ true
    → position (λ x. x == mark) (xs ++ mark ∷ more) ≡ Some (length xs)
place mark xs more h =
    let at = marked mark xs more h in
    let within : length xs < length (xs ++ mark ∷ more) = omega (arith, length-append xs (mark ∷ more)) in
    ap (λ (n : ℕ). cond (nat_lt n (length (xs ++ mark ∷ more))) (Some n) None) at
    ∙ cond-true _ _ _ (lt-ltb _ _ within)

-- two texts
abbrev two : List ℕ → List ℕ → List ℕ × List ℕ
two a b = (a, b)

one_pair : (xs ys more others : List ℕ) → xs ≡ ys → more ≡ others → two xs more ≡ two ys others
one_pair xs ys more others e f = ap (λ (a : List ℕ). two a more) e ∙ ap (λ (b : List ℕ). two ys b) f

-- the text is cut at the mark that it has
pub cut_at : (mark : ℕ) (xs more : List ℕ) → is_free mark xs ≡ true → cut mark (xs ++ mark ∷ more) ≡ Some (xs, more)
cut_at mark xs more h =
    let text : List ℕ = xs ++ mark ∷ more in
    ap (option_map (around text)) (place mark xs more h)
    ∙ ap (λ (p : List ℕ × List ℕ). Some p)
    (one_pair (take (length xs) text) xs (drop (length xs + 1) text) more
    (take-append_seam xs (mark ∷ more)) (drop-append-add xs (mark ∷ more) 1))

-- a word between quotation marks
pub word_at : (front text more : List ℕ) → is_free 34 front ≡ true → is_free 34 text ≡ true
    → word (front ++ 34 ∷ (text ++ 34 ∷ more)) ≡ Some (text, more)
word_at front text more g h =
    ap (option_and_then (λ (p : List ℕ × List ℕ). cut 34 p.1)) (cut_at 34 front (text ++ 34 ∷ more) g)
    ∙ cut_at 34 text more h

-- digits have no other octet
pub digits_free : (mark : ℕ) (ds : List ℕ) → is_ascii_digit mark ≡ false → list_all is_ascii_digit ds ≡ true
    → is_free mark ds ≡ true
digits_free mark [] g h = refl
digits_free mark (d ∷ ds) g h =
    let parts = and_parts _ _ h in
    let other : (d == mark) ≡ false =
    ne_eqb d mark (λ e. let z : false ≡ true = sym g ∙ sym (ap is_ascii_digit e) ∙ parts.0 in true≢false (sym z)) in
    and_from _ _ (ap not other) (digits_free mark ds g parts.1)

-- a number behind a colon, before a mark
pub number_at : (front : List ℕ) (mark most n : ℕ) (more : List ℕ) → is_free 58 front ≡ true
    → is_ascii_digit mark ≡ false → n < 2 ^ 64 → n ≤ most
    → number_in mark most (front ++ 58 ∷ (decimal n ++ mark ∷ more)) ≡ Some (n, more)
number_at front mark most n more f g h l =
    let digits = decimal-digits n h in
    ap (λ (o : Option (List ℕ × List ℕ)).
    option_and_then (number_and most) (option_and_then (λ (p : List ℕ × List ℕ). cut mark p.1) o))
    (cut_at 58 front (decimal n ++ mark ∷ more) f)
    ∙ ap (option_and_then (number_and most)) (cut_at mark (decimal n) more (digits_free mark (decimal n) g digits.0))
    ∙ ap (option_map (before more)) (number-decimal most n h l)
