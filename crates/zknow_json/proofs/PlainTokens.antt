-- What is printed of tokens is UTF-8 and has no octet below 20, if the keys and strings are UTF-8 and the numbers are
-- numbers.
use Rattle.std.proofs.Common.{◌≡◌, ℕ, ◌/◌, ◌%◌, ◌<◌, ◌≤◌, Bool, true, false, List, [], ◌∷◌, ◌++◌, leb, ltb, eqb, refl, arith}
use Rattle.std.specs.Prelude.{⊤, ◌+◌, ◌&&◌, ◌||◌, All}
use Rattle.std.specs.Char.{digit_char}
use Rattle.std.specs.List.{list_all}
use Rattle.std.specs.Str.{IsUtf8, IsAscii}
use Rattle.std.proofs.lemmas.Bool.{leb-true, ltb-true, ltb-false, eqb-true, cond_both}
use Rattle.std.proofs.lemmas.List.Elements.{All-nil, All-cons, All-head, All-tail, All-append, All-weaker}
use Rattle.std.proofs.lemmas.List.Sums.{AllPass-from_list_all}
use Rattle.std.proofs.lemmas.Str.{IsUtf8-nil, IsUtf8-append, IsUtf8-from_ascii}
use Rattle.json.specs.Token.{Token, begin_object, end_object, begin_array, end_array, key, string, number, boolean, null, bad}
use Rattle.json.specs.Print.{escape_letter, escape_byte, escape, quoted, token_text, separator, ends, begins, print_from, print, IsNumber}
use Rattle.json.proofs.Printed.Utf8.{IsUtf8-are_ascii, IsUtf8-quoted, IsUtf8-key, IsUtf8-boolean, IsUtf8-separator}

abbrev pub IsPlain : ℕ → Type 0
IsPlain x = 0x20 ≤ x

-- ---- octets

pub both_plain : (xs ys : List ℕ) → All IsPlain xs → All IsPlain ys → All IsPlain (xs ++ ys)
both_plain xs ys h k = All-append IsPlain xs ys h k

one_plain : (x : ℕ) (xs : List ℕ) → 0x20 ≤ x → All IsPlain xs → All IsPlain (x ∷ xs)
one_plain x xs h k = All-cons IsPlain x xs h k

none_plain : All IsPlain []
none_plain = All-nil IsPlain

digit_plain : (d : ℕ) → 0x20 ≤ digit_char d
digit_plain d = cond_both (ltb d 10) (48 + d) (87 + d) IsPlain (λ _. omega arith) (λ _. omega arith)

-- ---- escapes

letters_plain : (xs : List ℕ) → list_all (leb 0x20) xs ≡ true → All IsPlain xs
letters_plain xs h =
    All-weaker (λ x. leb 0x20 x ≡ true) IsPlain (λ x e. leb-true 0x20 x e) xs (AllPass-from_list_all (leb 0x20) xs h)

quote_or_backslash : (x : ℕ) (a b : Bool) → eqb x 34 ≡ a → eqb x 92 ≡ b → (a || b) ≡ true → 0x20 ≤ x
quote_or_backslash x true b is_a is_b h = omega (arith, eqb-true x 34 is_a)
quote_or_backslash x false true is_a is_b h = omega (arith, eqb-true x 92 is_b)
quote_or_backslash x false false is_a is_b h = absurd (cc)

letter_plain : (x : ℕ) → 0 < escape_letter x → 0x20 ≤ escape_letter x
letter_plain x =
    let P = λ (y : ℕ). 0 < y → 0x20 ≤ y in
    cond_both (eqb x 34 || eqb x 92) x _ P (λ e h. quote_or_backslash x (eqb x 34) (eqb x 92) refl refl e)
    (λ _. cond_both (eqb x 8) 98 _ P (λ _ h. omega arith)
    (λ _. cond_both (eqb x 12) 102 _ P (λ _ h. omega arith)
    (λ _. cond_both (eqb x 10) 110 _ P (λ _ h. omega arith)
    (λ _. cond_both (eqb x 13) 114 _ P (λ _ h. omega arith)
    (λ _. cond_both (eqb x 9) 116 0 P (λ _ h. omega arith) (λ _ h. absurd (omega arith)))))))

escaped_plain : (x : ℕ) → All IsPlain (escape_byte x)
unfolding escape_byte
escaped_plain x =
    let high = digit_char (x / 16) in
    let low = digit_char (x % 16) in
    let letter = escape_letter x in
    let digits = one_plain high (low ∷ []) (digit_plain (x / 16)) (one_plain low [] (digit_plain (x % 16)) none_plain) in
    cond_both (ltb 0 letter) (92 ∷ letter ∷ []) _ (All IsPlain)
    (λ e. one_plain 92 (letter ∷ []) (omega arith) (one_plain letter [] (letter_plain x (ltb-true 0 letter e)) none_plain))
    (λ _. cond_both (ltb x 32) (92 ∷ 117 ∷ 48 ∷ 48 ∷ high ∷ low ∷ []) (x ∷ []) (All IsPlain)
    (λ _. both_plain (92 ∷ 117 ∷ 48 ∷ 48 ∷ []) (high ∷ low ∷ []) (letters_plain (92 ∷ 117 ∷ 48 ∷ 48 ∷ []) refl) digits)
    (λ e. one_plain x [] (ltb-false x 32 e) none_plain))

escape_plain : (xs : List ℕ) → All IsPlain (escape xs)
escape_plain [] = none_plain
escape_plain (x ∷ xs) = both_plain (escape_byte x) (escape xs) (escaped_plain x) (escape_plain xs)

quoted_plain : (xs : List ℕ) → All IsPlain (quoted xs)
quoted_plain xs =
    one_plain 34 (escape xs ++ 34 ∷ []) (omega arith) (both_plain (escape xs) (34 ∷ []) (escape_plain xs)
    (one_plain 34 [] (omega arith) none_plain))

-- ---- tokens

-- a number of JSON, of octets that are neither below 20 nor above 7F
pub record IsPlainNumber (s : List ℕ) : Type 0 where
  pub number : IsNumber s
  pub plain : All IsPlain s
  pub ascii : IsAscii s

-- keys and strings are UTF-8, and numbers are numbers
abbrev pub IsPlainToken : Token → Type 0
IsPlainToken begin_object = ⊤
IsPlainToken end_object = ⊤
IsPlainToken begin_array = ⊤
IsPlainToken end_array = ⊤
IsPlainToken (key s) = IsUtf8 s
IsPlainToken (string s) = IsUtf8 s
IsPlainToken (number s) = IsPlainNumber s
IsPlainToken (boolean b) = ⊤
IsPlainToken null = ⊤
IsPlainToken bad = ⊤

token_plain : (t : Token) → IsPlainToken t → All IsPlain (token_text t)
token_plain begin_object h = letters_plain (123 ∷ []) refl
token_plain end_object h = letters_plain (125 ∷ []) refl
token_plain begin_array h = letters_plain (91 ∷ []) refl
token_plain end_array h = letters_plain (93 ∷ []) refl
token_plain (key s) h = both_plain (quoted s) (58 ∷ []) (quoted_plain s) (letters_plain (58 ∷ []) refl)
token_plain (string s) h = quoted_plain s
token_plain (number s) h = h.plain
token_plain (boolean true) h = letters_plain (116 ∷ 114 ∷ 117 ∷ 101 ∷ []) refl
token_plain (boolean false) h = letters_plain (102 ∷ 97 ∷ 108 ∷ 115 ∷ 101 ∷ []) refl
token_plain null h = letters_plain (110 ∷ 117 ∷ 108 ∷ 108 ∷ []) refl
token_plain bad h = none_plain

token_utf8 : (t : Token) → IsPlainToken t → IsUtf8 (token_text t)
token_utf8 begin_object h = IsUtf8-are_ascii (123 ∷ []) refl
token_utf8 end_object h = IsUtf8-are_ascii (125 ∷ []) refl
token_utf8 begin_array h = IsUtf8-are_ascii (91 ∷ []) refl
token_utf8 end_array h = IsUtf8-are_ascii (93 ∷ []) refl
token_utf8 (key s) h = IsUtf8-key s h
token_utf8 (string s) h = IsUtf8-quoted s h
token_utf8 (number s) h = IsUtf8-from_ascii s h.ascii
token_utf8 (boolean b) h = IsUtf8-boolean b
token_utf8 null h = IsUtf8-are_ascii (110 ∷ 117 ∷ 108 ∷ 108 ∷ []) refl
token_utf8 bad h = IsUtf8-nil

separator_plain : (b : Bool) (t : Token) → All IsPlain (separator b t)
separator_plain b t = cond_both (b && begins t) (44 ∷ []) [] (All IsPlain) (λ _. letters_plain (44 ∷ []) refl)
    (λ _. none_plain)

from_plain : (b : Bool) (ts : List Token) → All IsPlainToken ts → All IsPlain (print_from b ts)
unfolding print_from
from_plain b [] h = none_plain
from_plain b (t ∷ ts) h =
    both_plain (separator b t) (token_text t ++ print_from (ends t) ts) (separator_plain b t)
    (both_plain (token_text t) (print_from (ends t) ts) (token_plain t (All-head IsPlainToken t ts h))
    (from_plain (ends t) ts (All-tail IsPlainToken t ts h)))

pub print_plain : (ts : List Token) → All IsPlainToken ts → All IsPlain (print ts)
print_plain ts h = from_plain false ts h

from_utf8 : (b : Bool) (ts : List Token) → All IsPlainToken ts → IsUtf8 (print_from b ts)
unfolding print_from
from_utf8 b [] h = IsUtf8-nil
from_utf8 b (t ∷ ts) h =
    IsUtf8-append (separator b t) (token_text t ++ print_from (ends t) ts) (IsUtf8-separator b t)
    (IsUtf8-append (token_text t) (print_from (ends t) ts) (token_utf8 t (All-head IsPlainToken t ts h))
    (from_utf8 (ends t) ts (All-tail IsPlainToken t ts h)))

pub print_utf8 : (ts : List Token) → All IsPlainToken ts → IsUtf8 (print ts)
print_utf8 ts h = from_utf8 false ts h
