-- Texts that are safe to print on a terminal.
use Rattle.std.proofs.Common.{◌≡◌, ℕ, zero, suc, ◌+◌, ◌/◌, ◌%◌, ◌<◌, ◌≤◌, Bool, true, false, cond, List, [], ◌∷◌, ◌++◌, leb, ltb, eqb, refl, sym, ap, subst, ◌∙◌, arith, ℤ, pos, negsuc}
use lib.Utf8.{scalar, scalars, encode, encodes, next}
use Rattle.std.specs.Prelude.{◌&&◌, All, map}
use Rattle.std.specs.Fmt.{digit_glyph, digits_onto, digits, decimal, signed_decimal}
use Rattle.std.specs.Int.Digits.{digits_of}
use Rattle.std.specs.List.{flat_map, list_all}
use Rattle.std.specs.Str.{chars}
use Rattle.std.proofs.lemmas.Bool.{and_from, and_parts, leb-true, ltb-true, lt-ltb, cond_both}
use Rattle.std.proofs.lemmas.Int.Digits.{all_below_base_digits_of}
use Rattle.std.proofs.lemmas.List.Elements.{All-nil, All-cons, All-head, All-tail, All-append, All-map, All-weaker, All-replicate, All-from_recursion}
use Rattle.std.proofs.lemmas.List.Sums.{AllPass-from_list_all}
use Rattle.std.proofs.lemmas.Str.{encodes-append, chars-encodes, IsUtf8-append}
use Rattle.zber.specs.Dotted.{numeral, dotted}
use Rattle.zmarc.specs.declared.charset.Charset.TheVariants.{Utf8}
use Rattle.zmarc.specs.Laws.{IsPrintable}
use Rattle.zmarc.specs.Shown.{shown_text, IsSafe, IsSafeOctet, IsSafeText}
use Rattle.zmarc.proofs.LawTheory.{ascii_stands}
use Rattle.zmarc.proofs.SafeTheory.{text_is_safe, shown_is_safe}
use Rattle.zknow_titles.specs.Columns.{ellipsis, spaces}

-- ---- characters

high : (b : ℕ) → 128 ≤ b → IsSafeOctet b
high b h = record { no_control = omega arith; no_delete = λ e. omega arith }

low : (c : ℕ) → IsSafe c → c < 128 → IsSafeOctet c
low c s h = record { no_control = s.no_control; no_delete = λ e. s.no_later_control (omega arith) (omega arith) }

encode_safe : (c : ℕ) → IsSafe c → All IsSafeOctet (encode c)
unfolding encode
encode_safe c s =
    let none = All-nil IsSafeOctet in
    let one = λ (b : ℕ) (h : 128 ≤ b). All-cons IsSafeOctet b [] (high b h) none in
    let more = λ (b : ℕ) (bs : List ℕ) (h : 128 ≤ b) (k : All IsSafeOctet bs). All-cons IsSafeOctet b bs (high b h) k in
    let last : All IsSafeOctet (next c ∷ []) = one (next c) (omega arith) in
    let last_two : All IsSafeOctet (next (c / 64) ∷ next c ∷ []) =
    more (next (c / 64)) (next c ∷ []) (omega arith) last in
    let last_three : All IsSafeOctet (next (c / 4096) ∷ next (c / 64) ∷ next c ∷ []) =
    more (next (c / 4096)) (next (c / 64) ∷ next c ∷ []) (omega arith) last_two in
    cond_both (ltb c 128) (c ∷ []) _ (All IsSafeOctet)
    (λ h. All-cons IsSafeOctet c [] (low c s (ltb-true c 128 h)) none)
    (λ _. cond_both (ltb c 2048) _ _ (All IsSafeOctet)
    (λ _. more (192 + c / 64) (next c ∷ []) (omega arith) last)
    (λ _. cond_both (ltb c 65536) _ _ (All IsSafeOctet)
    (λ _. more (224 + c / 4096) (next (c / 64) ∷ next c ∷ []) (omega arith) last_two)
    (λ _. more (240 + c / 262144) (next (c / 4096) ∷ next (c / 64) ∷ next c ∷ []) (omega arith) last_three)))

octets_safe : (cs : List ℕ) → All IsSafe cs → All IsSafeOctet (encodes cs)
octets_safe [] h = All-nil IsSafeOctet
octets_safe (c ∷ cs) h =
    All-append IsSafeOctet (encode c) (encodes cs) (encode_safe c (All-head IsSafe c cs h))
    (octets_safe cs (All-tail IsSafe c cs h))

scalars_safe : (cs : List ℕ) → All IsSafe cs → scalars cs ≡ true
scalars_safe [] h = refl
scalars_safe (c ∷ cs) h =
    and_from (scalar c) (scalars cs) (All-head IsSafe c cs h).scalar_value (scalars_safe cs (All-tail IsSafe c cs h))

pub characters_safe : (cs : List ℕ) → All IsSafe cs → IsSafeText (encodes cs)
characters_safe cs h = record {
  characters = cs;
  spelled = refl;
  safe = h;
  utf8 = (cs, (scalars_safe cs h, refl));
  plain = octets_safe cs h;
}

-- the characters of a safe text are safe
pub safe_characters : {t : List ℕ} → IsSafeText t → All IsSafe (chars t)
safe_characters s =
    let same = ap chars (sym s.spelled) ∙ chars-encodes s.characters (scalars_safe s.characters s.safe) in
    subst (All IsSafe) (sym same) s.safe

pub space_safe : IsSafe 0x20
space_safe = record {
  scalar_value = refl;
  no_control = omega arith;
  no_later_control = λ a b. omega arith;
  no_separator_or_embedding = λ a b. omega arith;
  no_isolate = λ a b. omega arith;
  no_arabic_letter_mark = λ e. omega arith;
  no_directional_mark = (λ e. omega arith, λ e. omega arith);
  no_zero_width_space = λ e. omega arith;
  no_byte_order_mark = λ e. omega arith;
}

-- ---- texts behind one another

pub nothing_safe : IsSafeText []
nothing_safe = characters_safe [] (All-nil IsSafe)

pub both_safe : {a b : List ℕ} → IsSafeText a → IsSafeText b → IsSafeText (a ++ b)
both_safe {a} {b} first then = record {
  characters = first.characters ++ then.characters;
  spelled = encodes-append first.characters then.characters ∙ ap (λ l. l ++ encodes then.characters) first.spelled
      ∙ ap (λ l. a ++ l) then.spelled;
  safe = All-append IsSafe first.characters then.characters first.safe then.safe;
  utf8 = IsUtf8-append a b first.utf8 then.utf8;
  plain = All-append IsSafeOctet a b first.plain then.plain;
}

pub flat_safe : {X : Type 0} (f : X → List ℕ) → ((x : X) → IsSafeText (f x)) → (xs : List X)
    → IsSafeText (flat_map f xs)
flat_safe f each [] = nothing_safe
flat_safe f each (x ∷ xs) = both_safe (each x) (flat_safe f each xs)

pub either_safe : (b : Bool) {x y : List ℕ} → IsSafeText x → IsSafeText y → IsSafeText (cond b x y)
either_safe true first then = first
either_safe false first then = then

-- ---- printable ASCII

pub printable_safe : (xs : List ℕ) → All IsPrintable xs → IsSafeText xs
printable_safe xs h = subst IsSafeText (ascii_stands Utf8 xs h) (text_is_safe Utf8 xs)

abbrev pub is_printable : ℕ → Bool
is_printable x = leb 0x20 x && ltb x 0x7F

printable_from : (x : ℕ) → is_printable x ≡ true → IsPrintable x
printable_from x h = let both = and_parts (leb 0x20 x) (ltb x 0x7F) h in
    (leb-true 0x20 x both.0, ltb-true x 0x7F both.1)

pub literal_safe : (xs : List ℕ) → list_all is_printable xs ≡ true → IsSafeText xs
literal_safe xs h =
    printable_safe xs (All-weaker (λ x. is_printable x ≡ true) IsPrintable printable_from xs
    (AllPass-from_list_all is_printable xs h))

pub spaces_safe : (n : ℕ) → IsSafeText (spaces n)
spaces_safe n = printable_safe (spaces n) (All-replicate IsPrintable n 0x20 (omega arith, omega arith))

pub ellipsis_safe : IsSafeText ellipsis
unfolding shown_text encode
ellipsis_safe = shown_is_safe (0x2026 ∷ [])

-- ---- numbers

glyph_printable : (n : ℕ) → IsPrintable (digit_glyph false (n % 10))
glyph_printable n =
    let below : n % 10 < 10 = omega arith in
    rw (lt-ltb (n % 10) 10 below) (omega arith, omega arith)

digits_printable : (k n : ℕ) (acc : List ℕ) → All IsPrintable acc → All IsPrintable (digits_onto k 10 false n acc)
digits_printable zero n acc h = h
digits_printable (suc k) n acc h =
    let more = All-cons IsPrintable (digit_glyph false (n % 10)) acc (glyph_printable n) h in
    cond_both (eqb (n / 10) 0) _ _ (All IsPrintable) (λ _. more)
    (λ _. digits_printable k (n / 10) (digit_glyph false (n % 10) ∷ acc) more)

pub decimal_safe : (n : ℕ) → IsSafeText (decimal n)
unfolding digits
decimal_safe n = printable_safe (decimal n) (digits_printable 64 n [] (All-nil IsPrintable))

pub signed_safe : (z : ℤ) → IsSafeText (signed_decimal z)
signed_safe (pos n) = decimal_safe n
signed_safe (negsuc n) = both_safe (literal_safe (45 ∷ []) refl) (decimal_safe (suc n))

digit_printable : (d : ℕ) → d < 10 → IsPrintable (48 + d)
digit_printable d h = (omega arith, omega arith)

numeral_safe : (n : ℕ) → IsSafeText (numeral n)
numeral_safe zero = literal_safe (48 ∷ []) refl
numeral_safe (suc n) =
    let ds = digits_of 10 (suc n) in
    let below = All-from_recursion (λ d. d < 10) ds (all_below_base_digits_of 10 (suc n) (omega arith)) in
    printable_safe (map (λ d. 48 + d) ds)
    (All-map IsPrintable (λ d. 48 + d) ds (All-weaker (λ d. d < 10) (λ d. IsPrintable (48 + d)) digit_printable ds
    below))

pub dotted_safe : (arcs : List ℕ) → IsSafeText (dotted arcs)
dotted_safe [] = nothing_safe
dotted_safe (x ∷ xs) =
    both_safe (numeral_safe x)
    (flat_safe (λ y. 46 ∷ [] ++ numeral y) (λ y. both_safe (literal_safe (46 ∷ []) refl) (numeral_safe y)) xs)

-- ---- lists of texts

pub none_safe : All IsSafeText []
none_safe = All-nil IsSafeText

pub one_safe : {t : List ℕ} → IsSafeText t → All IsSafeText (t ∷ [])
one_safe {t} s = All-cons IsSafeText t [] s none_safe

pub all_either : (b : Bool) (xs ys : List (List ℕ)) → All IsSafeText xs → All IsSafeText ys
    → All IsSafeText (cond b xs ys)
all_either true xs ys first then = first
all_either false xs ys first then = then

pub all_map : {X : Type 0} (f : X → List ℕ) → ((x : X) → IsSafeText (f x)) → (xs : List X) → All IsSafeText (map f xs)
all_map f each [] = none_safe
all_map f each (x ∷ xs) = All-cons IsSafeText (f x) (map f xs) (each x) (all_map f each xs)

pub all_flat : {X : Type 0} (f : X → List (List ℕ)) → ((x : X) → All IsSafeText (f x)) → (xs : List X)
    → All IsSafeText (flat_map f xs)
all_flat f each [] = none_safe
all_flat f each (x ∷ xs) = All-append IsSafeText (f x) (flat_map f xs) (each x) (all_flat f each xs)
