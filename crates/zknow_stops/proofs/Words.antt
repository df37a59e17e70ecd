-- The words are printable ASCII.
use Rattle.std.proofs.Common.{◌≡◌, ℕ, zero, suc, ◌+◌, ◌/◌, ◌%◌, ◌<◌, ◌≤◌, Bool, true, false, List, [], ◌∷◌, ◌++◌, leb, ltb, eqb, refl, arith}
use Rattle.std.specs.Prelude.{◌&&◌, All, codes}
use Rattle.std.specs.Fmt.{digit_glyph, digits_onto, digits, decimal}
use Rattle.std.specs.List.{list_all}
use Rattle.std.proofs.lemmas.Bool.{and_parts, leb-true, ltb-true, lt-ltb, cond_both}
use Rattle.std.proofs.lemmas.List.Elements.{All-nil, All-cons, All-append, All-weaker}
use Rattle.std.proofs.lemmas.List.Sums.{AllPass-from_list_all}
use Rattle.zknow_stops.specs.declared.detail.Detail.{Detail}
use Rattle.zknow_stops.specs.declared.detail.Detail.TheVariants.{NoPort, NoName, NoFamily, Refused, NoRoute, NoAnswer, Silent, HungUp, Reset, NotZ3950, Unfit, TooMany, NoMemory}
use Rattle.zknow_stops.specs.Details.{in_seconds, detail_words}
use Rattle.zknow_stops.specs.Laws.{IsPrintable}

-- ---- fixed words

abbrev is_printable : ℕ → Bool
is_printable x = leb 0x20 x && ltb x 0x7F

printable_from : (x : ℕ) → is_printable x ≡ true → IsPrintable x
printable_from x h = let both = and_parts (leb 0x20 x) (ltb x 0x7F) h in
    (leb-true 0x20 x both.0, ltb-true x 0x7F both.1)

literal : (xs : List ℕ) → list_all is_printable xs ≡ true → All IsPrintable xs
literal xs h =
    All-weaker (λ x. is_printable x ≡ true) IsPrintable printable_from xs (AllPass-from_list_all is_printable xs h)

-- ---- numbers

glyph : (n : ℕ) → IsPrintable (digit_glyph false (n % 10))
glyph n =
    let below : n % 10 < 10 = omega arith in
    rw (lt-ltb (n % 10) 10 below) (omega arith, omega arith)

digits_below : (k n : ℕ) (acc : List ℕ) → All IsPrintable acc → All IsPrintable (digits_onto k 10 false n acc)
digits_below zero n acc h = h
digits_below (suc k) n acc h =
    let more = All-cons IsPrintable (digit_glyph false (n % 10)) acc (glyph n) h in
    cond_both (eqb (n / 10) 0) _ _ (All IsPrintable) (λ _. more)
    (λ _. digits_below k (n / 10) (digit_glyph false (n % 10) ∷ acc) more)

number : (n : ℕ) → All IsPrintable (decimal n)
unfolding digits
number n = digits_below 64 n [] (All-nil IsPrintable)

seconds : (n : ℕ) → All IsPrintable (in_seconds n)
seconds n = All-append IsPrintable (decimal n) (codes " s") (number n) (literal (codes " s") refl)

-- ---- all words

pub words_printable : (d : Detail) → All IsPrintable (detail_words d)
words_printable NoPort = literal (detail_words NoPort) refl
words_printable NoName = literal (detail_words NoName) refl
words_printable NoFamily = literal (detail_words NoFamily) refl
words_printable Refused = literal (detail_words Refused) refl
words_printable NoRoute = literal (detail_words NoRoute) refl
words_printable (NoAnswer n) =
    All-append IsPrintable (codes "no answer in ") (in_seconds n) (literal (codes "no answer in ") refl) (seconds n)
words_printable (Silent n) =
    All-append IsPrintable (codes "silent for ") (in_seconds n) (literal (codes "silent for ") refl) (seconds n)
words_printable HungUp = literal (detail_words HungUp) refl
words_printable Reset = literal (detail_words Reset) refl
words_printable NotZ3950 = literal (detail_words NotZ3950) refl
words_printable Unfit = literal (detail_words Unfit) refl
words_printable TooMany = literal (detail_words TooMany) refl
words_printable NoMemory = literal (detail_words NoMemory) refl
