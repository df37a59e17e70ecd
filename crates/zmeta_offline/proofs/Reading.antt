-- Octets are read from the front of a text, two digits at a time.
use Rattle.std.proofs.Common.{◌≡◌, ℕ, ◌+◌, ◌-◌, ◌*◌, ◌<◌, ◌≤◌, List, [], ◌∷◌, ◌++◌, length, length-drop, take, drop, get_or, Bool, true, false, if◌then◌else◌, Option, Some, None, unwrap_or, is_some, Result, Ok, Err, map, refl, ap, sym, ◌∙◌, subst, arith}
use Rattle.std.specs.Char.{is_ascii_whitespace}
use Rattle.std.proofs.lemmas.List.FromFn.{get_or-map-range_with_len}
use Rattle.std.specs.List.{range_with_len}
use Rattle.std.proofs.lemmas.List.{append_assoc, append-nil, take_all}
use Rattle.std.proofs.lemmas.List.Elements.{All-head, All-tail}
use Rattle.hex.specs.Hex.{hex_digit_value, is_hex_digit, pair_value, decode_pairs}
use Rattle.hex.specs.declared.error.FromHexError.{FromHexError}
use Rattle.hex.proofs.Pairs.{prepend, cons_byte, decode_pairs-ok_pair}
use Rattle.hex.proofs.HexLemmas.{decode_pairs-ok, decode_of-even}
use Rattle.zmeta_offline.specs.declared.digits.TheConstants.{VALUES}
use Rattle.zmeta_offline.specs.Digits.{digits, octets_of, digit_value, IsOctetOf, HasNoSpaceFirst, HasOctetFirst, HasNoOctets}

-- the table has the value of each octet
table_is : VALUES ≡ map digit_value (range_with_len 0 256)
unfolding digit_value
table_is = refl

pub value_at : (c : ℕ) → c < 256 → get_or VALUES c 0 ≡ digit_value c
value_at c h = ap (λ t. get_or t c 0) table_is ∙ get_or-map-range_with_len digit_value 0 256 c c 0 h (omega arith)

-- what the value of an octet says about the octet
value_some : (o : Option ℕ) (w : Bool) (v : ℕ) → v ≡ unwrap_or o (if w then 16 else 17) → v < 16 → o ≡ Some v
value_some (Some x) w v e lt = ap Some (sym e)
value_some None true v e lt = absurd (omega arith)
value_some None false v e lt = absurd (omega arith)

pub digit_some : (c v : ℕ) → v ≡ digit_value c → v < 16 → hex_digit_value c ≡ Some v
unfolding digit_value
digit_some c v e lt = value_some (hex_digit_value c) (is_ascii_whitespace c) v e lt

small : (c v : ℕ) → hex_digit_value c ≡ Some v → v < 16
small c v h = grind (arith)

value_of : (o : Option ℕ) (w : Bool) (v : ℕ) → o ≡ Some v → unwrap_or o (if w then 16 else 17) ≡ v
value_of o w v h = rw h refl

pub digit_small : (c v : ℕ) → hex_digit_value c ≡ Some v → digit_value c < 16
unfolding digit_value
digit_small c v h = let e = value_of (hex_digit_value c) (is_ascii_whitespace c) v h in let lt = small c v h in omega (arith, e, lt)

pub octet_is : (high low first second octet : ℕ) → first ≡ digit_value high → second ≡ digit_value low → first < 16 → second < 16 → octet ≡ first * 16 + second → IsOctetOf high low octet
octet_is high low first second octet p q m n e = record { first = first; second = second; high_is = digit_some high first p m; low_is = digit_some low second q n; octet_is = e }

pub no_high : (high low first octet : ℕ) → first ≡ digit_value high → 16 ≤ first → IsOctetOf high low octet → ⊥
no_high high low first octet p m s = let lt = digit_small high s.first s.high_is in omega (arith, lt, p)

pub no_low : (high low second octet : ℕ) → second ≡ digit_value low → 16 ≤ second → IsOctetOf high low octet → ⊥
no_low high low second octet p m s = let lt = digit_small low s.second s.low_is in omega (arith, lt, p)

-- white space is left out, and other octets are kept
pub kept : (x : ℕ) (xs : List ℕ) → is_ascii_whitespace x ≡ false → digits (x ∷ xs) ≡ x ∷ digits xs
kept x xs h = rw h refl

-- texts that write no octets
some_value : (o : Option ℕ) → is_some o ≡ true → (v : ℕ) × (o ≡ Some v)
some_value (Some v) h = (v, refl)
some_value None h = cc h

abbrev digit_holds : ℕ → Type 0
digit_holds c = is_hex_digit c ≡ true

no_pair : (high low : ℕ) (ds : List ℕ) → ((octet : ℕ) → IsOctetOf high low octet → ⊥) → (i : ℕ) (xs : List ℕ) → decode_pairs i (high ∷ low ∷ ds) ≡ Ok xs → ⊥
no_pair high low ds none i xs h =
    let all = (decode_pairs-ok i (high ∷ low ∷ ds) xs h).0 in
    let first = some_value (hex_digit_value high) (All-head digit_holds high (low ∷ ds) all) in
    let second = some_value (hex_digit_value low) (All-head digit_holds low ds (All-tail digit_holds high (low ∷ ds) all)) in
    none (first.0 * 16 + second.0) (record { first = first.0; second = second.0; high_is = first.1; low_is = second.1; octet_is = refl })

one_digit : (high i : ℕ) (xs : List ℕ) → decode_pairs i (high ∷ []) ≡ Ok xs → ⊥
one_digit high i xs h = let len = (decode_pairs-ok i (high ∷ []) xs h).1 in omega (arith, len)

stands_for_none : (text ds : List ℕ) → digits text ≡ ds → ((i : ℕ) (xs : List ℕ) → decode_pairs i ds ≡ Ok xs → ⊥) → HasNoOctets text
stands_for_none text ds e none i xs h = none i xs (sym (ap (decode_pairs i) e) ∙ h)

pub none_alone : (text behind : List ℕ) (high : ℕ) → digits (high ∷ behind) ≡ digits text → HasNoSpaceFirst (high ∷ behind) → [] ≡ digits behind → HasNoOctets text
none_alone text behind high p f q = stands_for_none text (high ∷ []) (sym p ∙ kept high behind f ∙ ap (λ z. high ∷ z) (sym q)) (one_digit high)

pub none_apart : (text behind rest : List ℕ) (high low : ℕ) → digits (high ∷ behind) ≡ digits text → HasNoSpaceFirst (high ∷ behind) → digits (low ∷ rest) ≡ digits behind → HasNoSpaceFirst (low ∷ rest)
    → ((octet : ℕ) → IsOctetOf high low octet → ⊥) → HasNoOctets text
none_apart text behind rest high low p f q g none =
    stands_for_none text (high ∷ low ∷ digits rest) (sym p ∙ kept high behind f ∙ ap (λ z. high ∷ z) (sym q ∙ kept low rest g)) (no_pair high low (digits rest) none)

front_is : (xs : List ℕ) → 1 ≤ length xs → xs ≡ get_or xs 0 0 ∷ drop 1 xs
front_is [] h = absurd (omega arith)
front_is (x ∷ xs) h = refl

nil_is : (xs : List ℕ) → length xs < 1 → xs ≡ []
nil_is [] h = refl
nil_is (x ∷ xs) h = absurd (omega arith)

rest_is : (xs : List ℕ) → take (length xs - 1) (drop 1 xs) ≡ drop 1 xs
rest_is xs = take_all (length xs - 1) (drop 1 xs) (omega (arith, length-drop 1 xs))

-- the same for the texts in the code
pub refused_alone : (text xs ys : List ℕ) → digits xs ≡ digits text → HasNoSpaceFirst xs → 1 ≤ length xs → digits ys ≡ digits (take (length xs - 1) (drop 1 xs)) → length ys < 1 → HasNoOctets text
refused_alone text xs ys p f m q short =
    none_alone text (drop 1 xs) (get_or xs 0 0) (ap digits (sym (front_is xs m)) ∙ p) (subst HasNoSpaceFirst (front_is xs m) f)
    (ap digits (sym (nil_is ys short)) ∙ q ∙ ap digits (rest_is xs))

pub refused_apart : (text xs ys : List ℕ) → digits xs ≡ digits text → HasNoSpaceFirst xs → 1 ≤ length xs → digits ys ≡ digits (take (length xs - 1) (drop 1 xs)) → HasNoSpaceFirst ys → 1 ≤ length ys
    → ((octet : ℕ) → IsOctetOf (get_or xs 0 0) (get_or ys 0 0) octet → ⊥) → HasNoOctets text
refused_apart text xs ys p f m q g n none =
    none_apart text (drop 1 xs) (drop 1 ys) (get_or xs 0 0) (get_or ys 0 0) (ap digits (sym (front_is xs m)) ∙ p) (subst HasNoSpaceFirst (front_is xs m) f)
    (ap digits (sym (front_is ys n)) ∙ q ∙ ap digits (rest_is xs)) (subst HasNoSpaceFirst (front_is ys n) g) none

-- the octets read so far come before those of the rest
pub record IsRead (text octets rest : List ℕ) : Type 0 where
  pub at : ℕ
  pub same : decode_pairs 0 (digits text) ≡ prepend octets (decode_pairs at (digits rest))

prepend_more : (xs : List ℕ) (x : ℕ) (r : Result (List ℕ) FromHexError) → prepend xs (cons_byte x r) ≡ prepend (xs ++ x ∷ []) r
prepend_more xs x (Ok ys) = ap Ok (sym (append_assoc xs (x ∷ []) ys))
prepend_more xs x (Err e) = refl

pair_is : (high low octet i : ℕ) → IsOctetOf high low octet → pair_value high low i ≡ Ok octet
pair_is high low octet i s = rw (s.high_is, s.low_is) (ap Ok (sym s.octet_is))

pub read_more : (text octets rest behind : List ℕ) (octet : ℕ) → IsRead text octets rest → HasOctetFirst rest octet behind → IsRead text (octets ++ octet ∷ []) behind
read_more text octets rest behind octet h b = record {
  at = h.at + 2;
  same = h.same ∙ ap (λ z. prepend octets (decode_pairs h.at z)) b.cut
      ∙ ap (prepend octets) (decode_pairs-ok_pair h.at b.high b.low octet (digits behind) (pair_is b.high b.low octet h.at b.spell))
      ∙ prepend_more octets octet (decode_pairs (h.at + 2) (digits behind));
}

all_read : (octets : List ℕ) (i : ℕ) (ds : List ℕ) → ds ≡ [] → prepend octets (decode_pairs i ds) ≡ Ok octets
unfolding decode_pairs
all_read octets i ds e = rw e (ap Ok (append-nil octets))

pub read_all : (text octets rest : List ℕ) → IsRead text octets rest → digits rest ≡ [] → octets_of text ≡ Ok octets
read_all text octets rest h e =
    let whole = h.same ∙ all_read octets h.at (digits rest) e in
    let len = (decode_pairs-ok 0 (digits text) octets whole).1 in
    decode_of-even (digits text) (omega (arith, len)) ∙ whole
