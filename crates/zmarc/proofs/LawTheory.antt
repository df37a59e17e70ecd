-- What is shown as it stands, and the subfields that a field was made of.
use Rattle.std.proofs.Common.{◌≡◌, ◌≢◌, ℕ, ◌≤◌, true, false, not, List, [], ◌∷◌, ◌++◌, length, get_or, leb, eqb, refl, sym, ap, ◌∙◌, drop, arith, lit<, ⊎_elim}
use lib.Utf8.{scalar, scalars, encodes}
use Rattle.std.specs.Prelude.{All, map, filter}
use Rattle.std.specs.Char.{IsScalar}
use Rattle.std.specs.Int.{is_in_range}
use Rattle.std.specs.List.{flat_map, filter_map, slice_split}
use Rattle.std.specs.Str.{IsUtf8, IsAscii, chars}
use Rattle.std.specs.Str.Lossy.{utf8_lossy}
use Rattle.std.proofs.lemmas.Bool.{and_from, cases_lt, not_from_false, false_from_ne_true, leb-true, le-leb, lt-leb, ne_eqb, lt-ltb, or_from, and_parts}
use Rattle.std.proofs.lemmas.List.{append-nil, get_or_past}
use Rattle.std.proofs.lemmas.List.Elements.{All-head, All-tail}
use Rattle.std.proofs.lemmas.List.Splits.{slice_split_none, slice_split_at}
use Rattle.std.proofs.lemmas.Str.{chars-encodes, utf8_lossy-IsUtf8, encodes-IsAscii}
use Rattle.unicode_normalization.specs.Forms.{nfc, Nfc}
use Rattle.unicode_normalization.proofs.FormsLemmas.{normalize-ascii}
use Rattle.zmarc.specs.declared.charset.Charset.{Charset}
use Rattle.zmarc.specs.declared.charset.Charset.TheVariants.{Utf8, Marc8, Ascii, Latin1}
use Rattle.zmarc.specs.declared.marc8.Mode.TheVariants.{Plain, Foreign}
use Rattle.zmarc.specs.declared.marc8.Step.TheVariants.{Mark, Letter}
use Rattle.zmarc.specs.Shown.{is_sort_mark, is_white, is_invisible, is_safe, shown, shown_text, IsSafe}
use Rattle.zmarc.specs.Charsets.{latin1, characters, text}
use Rattle.zmarc.specs.Marc8.{ascii, meaning, marc8, marc8_from}
use Rattle.zmarc.specs.Subfields.{Subfield, is_delimiter, parts, subfield_of, subfields}
use Rattle.zmarc.specs.Laws.{IsPrintable, NoDelimiter, subfield_octets}

-- ---- safe characters

not_in_range : (lo hi c : ℕ) → (lo ≤ c → c ≤ hi → ⊥) → not (is_in_range lo hi c) ≡ true
not_in_range lo hi c h =
    not_from_false (is_in_range lo hi c) (false_from_ne_true (is_in_range lo hi c) (λ e.
    let both = and_parts (leb lo c) (leb c hi) e in h (leb-true lo c both.0) (leb-true c hi both.1)))

visible : (c : ℕ) → IsSafe c → is_invisible c ≡ false
visible c s =
    or_from _ _ (or_from _ _ (or_from _ _ (or_from _ _ (ne_eqb c 0x061C s.no_arabic_letter_mark)
    (ne_eqb c 0x200B s.no_zero_width_space)) (ne_eqb c 0x200E s.no_directional_mark.0))
    (ne_eqb c 0x200F s.no_directional_mark.1)) (ne_eqb c 0xFEFF s.no_byte_order_mark)

is_safe_from : (c : ℕ) → IsSafe c → is_safe c ≡ true
is_safe_from c s =
    and_from _ _ (and_from _ _ (and_from _ _ (and_from _ _ (and_from _ _ s.scalar_value (le-leb 0x20 c s.no_control))
    (not_in_range 0x7F 0x9F c s.no_later_control)) (not_in_range 0x2028 0x202E c s.no_separator_or_embedding))
    (not_in_range 0x2066 0x2069 c s.no_isolate)) (not_from_false (is_invisible c) (visible c s))

not_white : (c : ℕ) → 0x20 ≤ c → is_white c ≡ false
not_white c h =
    or_from _ _ (or_from _ _ (ne_eqb c 0x09 (λ e. omega arith)) (ne_eqb c 0x0A (λ e. omega arith)))
    (ne_eqb c 0x0D (λ e. omega arith))

same_shown : (c : ℕ) → IsSafe c → shown c ≡ c
same_shown c s = rw (not_white c s.no_control) (rw (is_safe_from c s) refl)

all_same : (cs : List ℕ) → All IsSafe cs → map shown cs ≡ cs
all_same [] h = refl
all_same (c ∷ cs) h =
    ap (λ x. x ∷ map shown cs) (same_shown c (All-head IsSafe c cs h)) ∙ ap (λ l. c ∷ l) (all_same cs (All-tail IsSafe c cs h))

no_mark : (c : ℕ) → IsSafe c → is_sort_mark c ≡ false
no_mark c s =
    or_from (eqb c 0x98) (eqb c 0x9C) (ne_eqb c 0x98 (λ e. s.no_later_control (omega arith) (omega arith)))
    (ne_eqb c 0x9C (λ e. s.no_later_control (omega arith) (omega arith)))

all_kept : (cs : List ℕ) → All IsSafe cs → filter (λ c. not (is_sort_mark c)) cs ≡ cs
all_kept [] h = refl
all_kept (c ∷ cs) h =
    rw (no_mark c (All-head IsSafe c cs h)) (ap (λ l. c ∷ l) (all_kept cs (All-tail IsSafe c cs h)))

-- safe characters are shown as they stand
shown_as_is : (cs : List ℕ) → All IsSafe cs → shown_text cs ≡ encodes cs
unfolding shown_text
shown_as_is cs h = ap (λ l. encodes (map shown l)) (all_kept cs h) ∙ ap encodes (all_same cs h)

all_scalars : (cs : List ℕ) → All IsScalar cs → scalars cs ≡ true
all_scalars [] h = refl
all_scalars (c ∷ cs) h =
    and_from (scalar c) (scalars cs) (All-head IsScalar c cs h) (all_scalars cs (All-tail IsScalar c cs h))

-- characters are read as they stand
read_back : (cs : List ℕ) → All IsScalar cs → chars (utf8_lossy (encodes cs)) ≡ cs
read_back cs h =
    let s = all_scalars cs h in
    let u : IsUtf8 (encodes cs) = (cs, (s, refl)) in
    ap chars (utf8_lossy-IsUtf8 (encodes cs) u) ∙ chars-encodes cs s

pub stands : (cs : List ℕ) → All IsScalar cs → All IsSafe (nfc cs) → text Utf8 (encodes cs) ≡ encodes (nfc cs)
unfolding text
stands cs scalar safe = ap (λ l. shown_text (nfc l)) (read_back cs scalar) ∙ shown_as_is (nfc cs) safe

-- ---- ISO 8859-1

-- an octet of a character that is safe is its number
latin1_one : (x : ℕ) → IsSafe x → latin1 x ≡ x
latin1_one x s =
    rw (ne_eqb x 0x88 (λ e. s.no_later_control (omega arith) (omega arith)))
    (rw (ne_eqb x 0x89 (λ e. s.no_later_control (omega arith) (omega arith))) refl)

latin1_same : (xs : List ℕ) → All IsSafe xs → map latin1 xs ≡ xs
latin1_same [] h = refl
latin1_same (x ∷ xs) h =
    ap (λ y. y ∷ map latin1 xs) (latin1_one x (All-head IsSafe x xs h))
    ∙ ap (λ l. x ∷ l) (latin1_same xs (All-tail IsSafe x xs h))

pub latin1_stands : (octets : List ℕ) → All IsSafe octets → All IsSafe (nfc octets)
    → text Latin1 octets ≡ encodes (nfc octets)
unfolding text
latin1_stands octets plain safe =
    ap (λ l. shown_text (nfc l)) (latin1_same octets plain) ∙ shown_as_is (nfc octets) safe

-- ---- printable ASCII

safe_from : (x : ℕ) → IsPrintable x → IsSafe x
safe_from x p = record {
  scalar_value = rw (lt-ltb x 55296 (omega arith)) refl;
  no_control = p.0;
  no_later_control = λ a b. omega arith;
  no_separator_or_embedding = λ a b. omega arith;
  no_isolate = λ a b. omega arith;
  no_arabic_letter_mark = λ e. omega arith;
  no_directional_mark = (λ e. omega arith, λ e. omega arith);
  no_zero_width_space = λ e. omega arith;
  no_byte_order_mark = λ e. omega arith;
}

all_safe : (xs : List ℕ) → All IsPrintable xs → All IsSafe xs
all_safe xs h = λ k d inside. safe_from (get_or xs k d) (h k d inside)

is_ascii : (xs : List ℕ) → All IsPrintable xs → IsAscii xs
is_ascii xs h = λ i. ⊎_elim (λ inside. let p = h i 0 inside in omega (arith, p.1))
    (λ past. rw (get_or_past xs i 0 past) (lit< tt)) (cases_lt i (length xs))

ascii_same : (xs : List ℕ) → All IsPrintable xs → map ascii xs ≡ xs
ascii_same [] h = refl
ascii_same (x ∷ xs) h =
    let first = All-head IsPrintable x xs h in
    let same : ascii x ≡ x = rw (lt-ltb x 0x80 (omega (arith, first))) refl in
    ap (λ y. y ∷ map ascii xs) same ∙ ap (λ l. x ∷ l) (ascii_same xs (All-tail IsPrintable x xs h))

plain_letter : (x : ℕ) → IsPrintable x → meaning Plain x ≡ Letter x Plain
plain_letter x p =
    rw (ne_eqb x 0x1B (λ e. omega arith))
    (rw (ne_eqb x 0xEC (λ e. omega arith)) (rw (ne_eqb x 0xFB (λ e. omega arith))
    (rw (lt-leb 0xE0 x (omega arith)) (rw (lt-ltb x 0xA0 (omega arith)) (rw (lt-ltb x 0x80 (omega arith)) refl)))))

marc8_same : (xs : List ℕ) → All IsPrintable xs → marc8_from Plain [] xs ≡ xs
marc8_same [] h = refl
marc8_same (x ∷ xs) h =
    rw (plain_letter x (All-head IsPrintable x xs h)) (ap (λ l. x ∷ l) (marc8_same xs (All-tail IsPrintable x xs h)))

-- they are composed as they stand
composed : (xs : List ℕ) → All IsPrintable xs → nfc xs ≡ xs
composed xs h = normalize-ascii Nfc xs (λ k d inside. let p = h k d inside in omega (arith, p.1))

shown_stands : (xs : List ℕ) → All IsPrintable xs → shown_text (nfc xs) ≡ xs
shown_stands xs h = ap shown_text (composed xs h) ∙ shown_as_is xs (all_safe xs h) ∙ encodes-IsAscii xs (is_ascii xs h)

-- they are read as they stand
read_stands : (set : Charset) (xs : List ℕ) → All IsPrintable xs → characters set xs ≡ xs
unfolding marc8
read_stands Utf8 xs h =
    ap (λ l. chars (utf8_lossy l)) (sym (encodes-IsAscii xs (is_ascii xs h)))
    ∙ read_back xs (λ k d inside. (safe_from (get_or xs k d) (h k d inside)).scalar_value)
read_stands Marc8 xs h = marc8_same xs h
read_stands Ascii xs h = ascii_same xs h
read_stands Latin1 xs h = latin1_same xs (all_safe xs h)

pub ascii_stands : (set : Charset) (octets : List ℕ) → All IsPrintable octets → text set octets ≡ octets
unfolding text
ascii_stands set octets h = ap (λ l. shown_text (nfc l)) (read_stands set octets h) ∙ shown_stands octets h

-- ---- MARC-8

pub mark_behind : (x y m c : ℕ) (octets : List ℕ) → meaning Plain x ≡ Mark m → meaning Plain y ≡ Letter c Plain
    → marc8 (x ∷ y ∷ octets) ≡ c ∷ m ∷ marc8 octets
unfolding marc8
mark_behind x y m c octets first then = rw first (rw then refl)

stays : (there rest : List ℕ) → All (λ x. x ≢ 0x1B) there
    → marc8_from Foreign [] (there ++ rest) ≡ marc8_from Foreign [] rest
stays [] rest h = refl
stays (x ∷ there) rest h =
    rw (ne_eqb x 0x1B (All-head (λ x. x ≢ 0x1B) x there h)) (stays there rest (All-tail (λ x. x ≢ 0x1B) x there h))

pub foreign : (set : ℕ) (there octets : List ℕ) → set ≢ 0x42 → All (λ x. x ≢ 0x1B) there
    → marc8 (0x1B ∷ 0x28 ∷ set ∷ there ++ 0x1B ∷ 0x28 ∷ 0x42 ∷ octets) ≡ 0xFFFD ∷ marc8 octets
unfolding marc8
foreign set there octets other none =
    rw (ne_eqb set 0x42 other) (ap (λ l. 0xFFFD ∷ l) (stays there (0x1B ∷ 0x28 ∷ 0x42 ∷ octets) none))

-- ---- subfields

pub none_is : (xs : List ℕ) → NoDelimiter xs → All (λ x. is_delimiter x ≡ false) xs
none_is xs h = λ k d inside. ne_eqb (get_or xs k d) 0x1F (h k d inside)

abbrev IsMade : Subfield → Type 0
IsMade s = NoDelimiter (s.code ∷ s.octets)

split_made : (piece : List ℕ) (made : List Subfield) → NoDelimiter piece → All IsMade made
    → slice_split is_delimiter (piece ++ flat_map subfield_octets made) ≡ piece ∷ map (λ s. s.code ∷ s.octets) made
split_made piece [] plain h =
    ap (slice_split is_delimiter) (append-nil piece) ∙ slice_split_none is_delimiter piece (none_is piece plain)
split_made piece (s ∷ made) plain h =
    slice_split_at is_delimiter piece 0x1F ((s.code ∷ s.octets) ++ flat_map subfield_octets made) (none_is piece plain) refl
    ∙ ap (λ l. piece ∷ l) (split_made (s.code ∷ s.octets) made (All-head IsMade s made h) (All-tail IsMade s made h))

read_made : (made : List Subfield) → filter_map subfield_of (map (λ s. s.code ∷ s.octets) made) ≡ made
read_made [] = refl
read_made (s ∷ made) = ap (λ l. s ∷ l) (read_made made)

pub subfields_made : (indicators : List ℕ) (made : List Subfield) → NoDelimiter indicators → All IsMade made
    → subfields (indicators ++ flat_map subfield_octets made) ≡ made
unfolding parts
subfields_made indicators made plain h =
    ap (λ l. filter_map subfield_of (drop 1 l)) (split_made indicators made plain h) ∙ read_made made
