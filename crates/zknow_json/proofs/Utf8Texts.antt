-- Texts that are UTF-8, whatever they are made of.
use Rattle.std.proofs.Common.{ℕ, zero, suc, ◌≤◌, List, [], ◌∷◌, ◌++◌, eqb, refl, subst, arith, length, take}
use Rattle.std.specs.List.{flat_map}
use lib.Utf8.{encode}
use Rattle.std.specs.Str.{IsUtf8, is_utf8, chars}
use Rattle.std.specs.Str.Lossy.{valid_len_up_to, utf8_valid_len, after_first_chunk, replacement_bytes, utf8_lossy_within, utf8_lossy}
use Rattle.std.proofs.lemmas.Bool.{cond_both, eqb-true, eqb-false}
use Rattle.std.proofs.lemmas.List.{take_all}
use Rattle.std.proofs.str.Lossy.{length-after_first_chunk}
use Rattle.std.proofs.lemmas.Str.{IsUtf8-nil, IsUtf8-append, IsUtf8-from_ascii, IsUtf8-from_is_utf8}
use Rattle.json.proofs.Printed.Utf8.{IsUtf8-are_ascii}
use Rattle.zber.specs.Dotted.{numeral, dotted}
use Rattle.zknow_json.proofs.Numerals.{numeral_ascii}

-- ---- object identifiers

numeral_utf8 : (n : ℕ) → IsUtf8 (numeral n)
numeral_utf8 n = IsUtf8-from_ascii (numeral n) (numeral_ascii n)

behind_dots : (xs : List ℕ) → IsUtf8 (flat_map (λ y. 46 ∷ [] ++ numeral y) xs)
behind_dots [] = IsUtf8-nil
behind_dots (x ∷ xs) =
    IsUtf8-append (46 ∷ numeral x) (flat_map (λ y. 46 ∷ [] ++ numeral y) xs)
    (IsUtf8-append (46 ∷ []) (numeral x) (IsUtf8-are_ascii (46 ∷ []) refl) (numeral_utf8 x)) (behind_dots xs)

pub dotted_utf8 : (arcs : List ℕ) → IsUtf8 (dotted arcs)
dotted_utf8 [] = IsUtf8-nil
dotted_utf8 (x ∷ xs) =
    IsUtf8-append (numeral x) (flat_map (λ y. 46 ∷ [] ++ numeral y) xs) (numeral_utf8 x) (behind_dots xs)

-- ---- octets with U+FFFD in place of what is not UTF-8

front_utf8 : (octets : List ℕ) (n : ℕ) → IsUtf8 (take (valid_len_up_to octets n) octets)
front_utf8 octets zero = IsUtf8-nil
front_utf8 octets (suc n) =
    cond_both (is_utf8 (take (suc n) octets)) (suc n) (valid_len_up_to octets n) (λ k. IsUtf8 (take k octets))
    (λ h. IsUtf8-from_is_utf8 (take (suc n) octets) h) (λ _. front_utf8 octets n)

valid_utf8 : (octets : List ℕ) → IsUtf8 (take (utf8_valid_len octets) octets)
unfolding utf8_valid_len
valid_utf8 octets = front_utf8 octets (length octets)

replacement_utf8 : IsUtf8 replacement_bytes
unfolding is_utf8 chars encode
replacement_utf8 = IsUtf8-from_is_utf8 replacement_bytes refl

within_utf8 : (k : ℕ) (octets : List ℕ) → length octets ≤ k → IsUtf8 (utf8_lossy_within k octets)
within_utf8 zero [] h = IsUtf8-nil
within_utf8 zero (x ∷ xs) h = absurd (omega arith)
within_utf8 (suc k) octets h =
    let valid = utf8_valid_len octets in
    let size = length octets in
    let front = valid_utf8 octets in
    let rest = after_first_chunk octets in
    cond_both (eqb valid size) octets _ IsUtf8
    (λ e. subst IsUtf8 (take_all valid octets (omega (arith, eqb-true valid size e))) front)
    (λ e. IsUtf8-append (take valid octets) (replacement_bytes ++ utf8_lossy_within k rest) front
    (IsUtf8-append replacement_bytes (utf8_lossy_within k rest) replacement_utf8
    (within_utf8 k rest (omega (arith, length-after_first_chunk octets (eqb-false valid size e))))))

pub lossy_utf8 : (octets : List ℕ) → IsUtf8 (utf8_lossy octets)
unfolding utf8_lossy
lossy_utf8 octets = within_utf8 (length octets) octets (omega arith)
