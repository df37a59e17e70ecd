-- What stands in words is printable ASCII.
use Rattle.std.proofs.Common.{◌≡◌, ◌∙◌, ℕ, zero, suc, ◌+◌, ◌/◌, ◌%◌, ◌<◌, ◌≤◌, Bool, true, false, List, [], ◌∷◌, ◌++◌, leb, ltb, eqb, refl, arith, length, take, drop}
use Rattle.std.specs.Prelude.{◌&&◌, ◌||◌, ◌==◌, nat_le, All, codes, slice_index}
use Rattle.std.specs.Char.{is_ascii_alphanumeric}
use Rattle.std.specs.Int.{is_in_range}
use Rattle.std.specs.Fmt.{digit_glyph, digits_onto, digits, decimal}
use Rattle.std.specs.List.{list_all, flat_map}
use Rattle.std.proofs.lemmas.Bool.{and_parts, and_from, le-leb, leb-true, ltb-true, eqb-true, lt-ltb, cond_both}
use Rattle.std.proofs.lemmas.List.Elements.{All-nil, All-cons, All-head, All-tail, All-append, All-weaker, All-take}
use Rattle.std.proofs.lemmas.List.Sums.{AllPass-from_list_all, list_all-from_AllPass}
use Rattle.std.proofs.lemmas.List.Folds.{list_all-append}
use Rattle.hex.specs.Hex.{encode_with, encode_lower, lower_digits}
use Rattle.zapdu.specs.Text.{quoted_octet, quoted}
use Rattle.zmeta_explain.specs.Laws.{IsPrintable, IsOctet}
use Rattle.zmeta_explain.specs.Ranges.{is_down, has_zero, want_advice}
use Rattle.zmeta_explain.specs.Shown.{shown_text, is_bare_octet, is_bare, name_text}

-- ---- fixed words

abbrev pub is_printable : ℕ → Bool
is_printable x = leb 0x20 x && ltb x 0x7F

printable_from : (x : ℕ) → is_printable x ≡ true → IsPrintable x
printable_from x h = let both = and_parts (leb 0x20 x) (ltb x 0x7F) h in
    (leb-true 0x20 x both.0, ltb-true x 0x7F both.1)

pub literal : (xs : List ℕ) → list_all is_printable xs ≡ true → All IsPrintable xs
literal xs h =
    All-weaker (λ x. is_printable x ≡ true) IsPrintable printable_from xs (AllPass-from_list_all is_printable xs h)

-- as a test: fixed words at the front compute
abbrev pub Passes : List ℕ → Type 0
Passes xs = list_all is_printable xs ≡ true

passes : (xs : List ℕ) → All IsPrintable xs → Passes xs
passes xs h =
    list_all-from_AllPass is_printable xs (All-weaker IsPrintable (λ x. is_printable x ≡ true)
    (λ x p. and_from (leb 0x20 x) (ltb x 0x7F) (le-leb 0x20 x p.0) (lt-ltb x 0x7F p.1)) xs h)

pub behind : (m a : List ℕ) → All IsPrintable m → Passes a → Passes (m ++ a)
behind m a hm ha =
    list_all-append is_printable m a ∙ and_from (list_all is_printable m) (list_all is_printable a) (passes m hm) ha

pub ended : (m b n : List ℕ) → All IsPrintable m → Passes b → Passes n → Passes (m ++ b ++ n)
ended m b n hm hb hn =
    list_all-append is_printable (m ++ b) n
    ∙ and_from (list_all is_printable (m ++ b)) (list_all is_printable n) (behind m b hm hb) hn

pub between : (m b n c : List ℕ) → All IsPrintable m → Passes b → All IsPrintable n → Passes c
    → Passes (m ++ b ++ n ++ c)
between m b n c hm hb hn hc =
    let front = behind m b hm hb in
    let more : Passes (m ++ b ++ n) =
    list_all-append is_printable (m ++ b) n
    ∙ and_from (list_all is_printable (m ++ b)) (list_all is_printable n) front (passes n hn) in
    list_all-append is_printable (m ++ b ++ n) c
    ∙ and_from (list_all is_printable (m ++ b ++ n)) (list_all is_printable c) more hc

-- words around one text
pub one : (b m a : List ℕ) → list_all is_printable b ≡ true → All IsPrintable m → list_all is_printable a ≡ true
    → All IsPrintable (b ++ m ++ a)
one b m a hb hm ha =
    All-append IsPrintable (b ++ m) a (All-append IsPrintable b m (literal b hb) hm) (literal a ha)

-- words around two texts
pub two : (b m a n z : List ℕ) → list_all is_printable b ≡ true → All IsPrintable m → list_all is_printable a ≡ true
    → All IsPrintable n → list_all is_printable z ≡ true → All IsPrintable (b ++ m ++ a ++ n ++ z)
two b m a n z hb hm ha hn hz =
    All-append IsPrintable (b ++ m ++ a ++ n) z (All-append IsPrintable (b ++ m ++ a) n (one b m a hb hm ha) hn)
    (literal z hz)

-- ---- numbers

glyph : (n : ℕ) → IsPrintable (digit_glyph false (n % 10))
glyph n =
    let below : n % 10 < 10 = omega arith in
    rw (lt-ltb (n % 10) 10 below) (omega arith, omega arith)

digits_below : (k n : ℕ) (acc : List ℕ) → All IsPrintable acc → All IsPrintable (digits_onto k 10 false n acc)
digits_below zero n acc h = h
digits_below (suc k) n acc h =
    let more = All-cons IsPrintable (digit_glyph false (n % 10)) acc (glyph n) h in
    cond_both (eqb (n / 10) 0) _ _ (All IsPrintable) (λ _. more)
    (λ _. digits_below k (n / 10) (digit_glyph false (n % 10) ∷ acc) more)

pub number : (n : ℕ) → All IsPrintable (decimal n)
unfolding digits
number n = digits_below 64 n [] (All-nil IsPrintable)

-- ---- texts

hex_digit : (i : ℕ) → i < 16 → IsPrintable (slice_index lower_digits i)
hex_digit i lt = literal lower_digits refl i 0 lt

hex_pair : (x : ℕ) → IsOctet x → All IsPrintable (encode_lower (x ∷ []))
unfolding encode_with
hex_pair x h =
    let high = slice_index lower_digits (x / 16) in
    let low = slice_index lower_digits (x % 16) in
    All-cons IsPrintable high (low ∷ []) (hex_digit (x / 16) (omega arith))
    (All-cons IsPrintable low [] (hex_digit (x % 16) (omega arith)) (All-nil IsPrintable))

marked : (x : ℕ) (a b : Bool) → eqb x 34 ≡ a → eqb x 92 ≡ b → (a || b) ≡ true → IsPrintable x
marked x true b is_a is_b h = rw (eqb-true x 34 is_a) (omega arith, omega arith)
marked x false true is_a is_b h = rw (eqb-true x 92 is_b) (omega arith, omega arith)
marked x false false is_a is_b h = absurd (cc)

plain : (x : ℕ) → (leb 32 x && leb x 126) ≡ true → IsPrintable x
plain x h = let both = and_parts (leb 32 x) (leb x 126) h in
    let low = leb-true 32 x both.0 in
    let high = leb-true x 126 both.1 in
    (low, omega arith)

octet : (x : ℕ) → IsOctet x → All IsPrintable (quoted_octet x)
unfolding quoted_octet
octet x h =
    cond_both (eqb x 34 || eqb x 92) (92 ∷ x ∷ []) _ (All IsPrintable)
    (λ e. All-cons IsPrintable 92 (x ∷ []) (omega arith, omega arith)
    (All-cons IsPrintable x [] (marked x (eqb x 34) (eqb x 92) refl refl e) (All-nil IsPrintable)))
    (λ _. cond_both (leb 32 x && leb x 126) (x ∷ []) _ (All IsPrintable)
    (λ e. All-cons IsPrintable x [] (plain x e) (All-nil IsPrintable))
    (λ _. All-append IsPrintable (codes "\\x") (encode_lower (x ∷ [])) (literal (codes "\\x") refl) (hex_pair x h)))

octets : (xs : List ℕ) → All IsOctet xs → All IsPrintable (flat_map quoted_octet xs)
octets [] h = All-nil IsPrintable
octets (x ∷ xs) h =
    All-append IsPrintable (quoted_octet x) (flat_map quoted_octet xs) (octet x (All-head IsOctet x xs h))
    (octets xs (All-tail IsOctet x xs h))

in_quotes : (xs : List ℕ) → All IsOctet xs → All IsPrintable (quoted xs)
in_quotes xs h = one (34 ∷ []) (flat_map quoted_octet xs) (34 ∷ []) refl (octets xs h) refl

pub shown : (xs : List ℕ) → All IsOctet xs → All IsPrintable (shown_text xs)
shown xs h =
    cond_both (leb (length xs) 40) (quoted xs) (quoted (take 40 xs) ++ codes "..") (All IsPrintable)
    (λ _. in_quotes xs h)
    (λ _. All-append IsPrintable (quoted (take 40 xs)) (codes "..") (in_quotes (take 40 xs) (All-take IsOctet 40 xs h))
    (literal (codes "..") refl))

either : (a b : Bool) (P : Type 0) → (a ≡ true → P) → (b ≡ true → P) → (a || b) ≡ true → P
either true b P f g h = f refl
either false b P f g h = g h

mark : (n x : ℕ) → (x == n) ≡ true → 0x20 ≤ n → n < 0x7F → IsPrintable x
mark n x h low high = rw (eqb-true x n h) (low, high)

within : (low high x : ℕ) → is_in_range low high x ≡ true → 0x20 ≤ low → high < 0x7F → IsPrintable x
within low high x h least most =
    let both = and_parts (nat_le low x) (nat_le x high) h in
    let a = leb-true low x both.0 in
    let b = leb-true x high both.1 in
    (omega arith, omega arith)

letter_or_digit : (x : ℕ) → is_ascii_alphanumeric x ≡ true → IsPrintable x
letter_or_digit x =
    either (is_in_range 48 57 x || is_in_range 65 90 x) (is_in_range 97 122 x) (IsPrintable x)
    (either (is_in_range 48 57 x) (is_in_range 65 90 x) (IsPrintable x)
    (λ h. within 48 57 x h (omega arith) (omega arith)) (λ h. within 65 90 x h (omega arith) (omega arith)))
    (λ h. within 97 122 x h (omega arith) (omega arith))

bare_octet : (x : ℕ) → is_bare_octet x ≡ true → IsPrintable x
bare_octet x =
    let word = is_ascii_alphanumeric x in
    either (word || x == 0x2E || x == 0x2D || x == 0x5F || x == 0x2F) (x == 0x3A) (IsPrintable x)
    (either (word || x == 0x2E || x == 0x2D || x == 0x5F) (x == 0x2F) (IsPrintable x)
    (either (word || x == 0x2E || x == 0x2D) (x == 0x5F) (IsPrintable x)
    (either (word || x == 0x2E) (x == 0x2D) (IsPrintable x)
    (either word (x == 0x2E) (IsPrintable x) (letter_or_digit x)
    (λ h. mark 0x2E x h (omega arith) (omega arith)))
    (λ h. mark 0x2D x h (omega arith) (omega arith)))
    (λ h. mark 0x5F x h (omega arith) (omega arith)))
    (λ h. mark 0x2F x h (omega arith) (omega arith)))
    (λ h. mark 0x3A x h (omega arith) (omega arith))

bare : (xs : List ℕ) → is_bare xs ≡ true → All IsPrintable xs
bare xs h =
    let both = and_parts _ (list_all is_bare_octet xs) h in
    All-weaker (λ x. is_bare_octet x ≡ true) IsPrintable bare_octet xs (AllPass-from_list_all is_bare_octet xs both.1)

pub named : (xs : List ℕ) → All IsOctet xs → All IsPrintable (name_text xs)
named xs h =
    cond_both (is_bare xs) xs (shown_text xs) (All IsPrintable) (λ e. bare xs e) (λ _. shown xs h)

-- ---- advice

advice : (xs : List ℕ) → Passes (want_advice xs)
advice xs =
    cond_both (is_down xs) _ _ Passes (λ _. refl) (λ _. cond_both (has_zero xs) _ _ Passes (λ _. refl) (λ _. refl))

pub advised : (xs : List ℕ) → All IsPrintable (want_advice xs)
advised xs = literal (want_advice xs) (advice xs)
