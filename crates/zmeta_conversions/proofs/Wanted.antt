-- The text of wanted positions is read as these positions, and that of a record syntax as this syntax.
use Rattle.std.proofs.Common.{◌≡◌, refl, sym, ◌∙◌, ap, subst, ℕ, ◌+◌, ◌-◌, ◌^◌, ◌<◌, ◌≤◌, ◌==◌, ℤ, pos, negsuc, List, [], ◌∷◌, ◌++◌, map, length, Bool, true, false, nat_le, if◌then◌else◌, Option, Some, None, inl, inr, arith, append_assoc, append-nil, length-append}
use Rattle.std.specs.Char.{is_ascii_digit}
use Rattle.std.specs.Fmt.{decimal}
use Rattle.std.specs.List.{slice_split, onto_first, list_any, list_all, flat_map, All}
use Rattle.std.specs.Option.{option_map, option_and_then, option_or}
use Rattle.std.specs.Prelude.{codes}
use Rattle.std.specs.Str.{bytes_eq}
use Rattle.std.proofs.lemmas.Bool.{and_parts, and_left, and_right, or_parts, or_from, cond-true, cond-false, le-leb, leb-true, ne_eqb, eq-eqb, false_from_ne_true}
use Rattle.std.proofs.lemmas.Fmt.{decimal_digit}
use Rattle.std.proofs.lemmas.List.FromFn.{length-range_with_len}
use Rattle.std.proofs.lemmas.List.Splits.{slice_split-cons_yes, slice_split-cons_no}
use Rattle.std.proofs.lemmas.Slice.Eq.{bytes_eq-Decides}
use Rattle.zber.specs.Dotted.{dotted}
use Rattle.zber.specs.Oids.{IsOid}
use Rattle.zber.proofs.DottedReading.{dotted_plain, IsDigitOrDot}
use Rattle.zquery.specs.Notation.Numbers.{is_numeral}
use Rattle.zquery.specs.Notation.Sets.{oid_of_text}
use Rattle.zquery.specs.Notation.Tokens.{IsUnquoted}
use Rattle.zquery.proofs.NotationTheory.NumberLemmas.{no-number}
use Rattle.zquery.proofs.NotationTheory.PrintedNumbers.{decimal-digits, number-decimal}
use Rattle.zquery.proofs.NotationTheory.PrintedWords.{AllAbove, word-above, word-of, above-append, above-digits, dotted-word}
use Rattle.zquery.proofs.NotationTheory.SetLemmas.{oid-found}
use Rattle.zplan.specs.Ranges.{natural, span_of, positions, positions_of, IsApart, IsBounded, AreWanted}
use Rattle.zplan.specs.declared.range.Range.{Range}
use Rattle.zoom_questions.specs.Askable.{HasFewArcs}
use Rattle.zmeta_world.specs.WorldLines.{syntax_of, short}
use Rattle.zmeta_world.specs.WorldWants.{number_in, is_comma, is_hyphen, highest, most_wanted, two, ends_of, ends_in, count, range, ranges_in, firsts, wanted_of}
use Rattle.zmeta_conversions.specs.Worlds.{last_of, range_text, next_range, wanted_text, syntax_text}

-- ---- octets that are not among others

pub lacks_append : (p : ℕ → Bool) (xs ys : List ℕ) → list_any p xs ≡ false → list_any p ys ≡ false
    → list_any p (xs ++ ys) ≡ false
lacks_append p [] ys h k = k
lacks_append p (x ∷ xs) ys h k = let parts = or_parts (p x) (list_any p xs) h in or_from _ _ parts.0
    (lacks_append p xs ys parts.1 k)

digit_bounds : (d : ℕ) → is_ascii_digit d ≡ true → 48 ≤ d
digit_bounds d h = leb-true 48 d (and_parts _ _ h).0

digits_lack : (c : ℕ) (ds : List ℕ) → c < 48 → list_all is_ascii_digit ds ≡ true → list_any (λ b. b == c) ds ≡ false
digits_lack c [] l h = refl
digits_lack c (d ∷ ds) l h =
    let parts = and_parts (is_ascii_digit d) (list_all is_ascii_digit ds) h in
    or_from _ _ (ne_eqb d c (λ e. omega (arith, digit_bounds d parts.0, e))) (digits_lack c ds l parts.1)

-- ---- texts that are split at an octet

pub split_at : (c : ℕ) (xs ys : List ℕ) → list_any (λ b. b == c) xs ≡ false
    → slice_split (λ b. b == c) (xs ++ c ∷ ys) ≡ xs ∷ slice_split (λ b. b == c) ys
split_at c [] ys h = slice_split-cons_yes (λ b. b == c) c ys (eq-eqb c c refl)
split_at c (x ∷ xs) ys h =
    let parts = or_parts (x == c) (list_any (λ b. b == c) xs) h in
    slice_split-cons_no (λ b. b == c) x (xs ++ c ∷ ys) parts.0 ∙ ap (onto_first x) (split_at c xs ys parts.1)

pub split_end : (c : ℕ) (xs : List ℕ) → list_any (λ b. b == c) xs ≡ false → slice_split (λ b. b == c) xs ≡ xs ∷ []
split_end c [] h = refl
split_end c (x ∷ xs) h =
    let parts = or_parts (x == c) (list_any (λ b. b == c) xs) h in
    slice_split-cons_no (λ b. b == c) x xs parts.0 ∙ ap (onto_first x) (split_end c xs parts.1)

-- ---- numbers

pub in_range : (least most n : ℕ) → n < 2 ^ 64 → least ≤ n → n ≤ most → number_in least most (decimal n) ≡ Some n
in_range least most n s l m =
    ap (option_and_then (λ k. if nat_le least k then Some k else None)) (number-decimal most n s m)
    ∙ cond-true (nat_le least n) (Some n) None (le-leb least n l)

pub decimal_word : (n : ℕ) → n < 2 ^ 64 → IsUnquoted (decimal n)
decimal_word n s = let d = decimal-digits n s in word-above (decimal n) d.1 (above-digits (decimal n) d.0)

pub decimal_lacks : (c n : ℕ) → c < 48 → n < 2 ^ 64 → list_any (λ b. b == c) (decimal n) ≡ false
decimal_lacks c n l s = digits_lack c (decimal n) l (decimal-digits n s).0

all_fails : (xs ys : List ℕ) (y : ℕ) → is_ascii_digit y ≡ false → list_all is_ascii_digit (xs ++ y ∷ ys) ≡ false
all_fails [] ys y h = and_left _ _ h
all_fails (x ∷ xs) ys y h = and_right _ _ (all_fails xs ys y h)

-- a text with a hyphen is no number
no_numeral : (xs ys : List ℕ) → is_numeral (xs ++ 45 ∷ ys) ≡ false
no_numeral xs ys = and_right _ _ (all_fails xs ys 45 refl)

-- ---- one range

-- the range has positions, from 1 on and up to the highest that can be named
pub record IsSmall (r : Range) : Type 0 where
  pub first : 1 ≤ natural r.start
  pub some : 1 ≤ natural r.n
  pub high : natural r.start + natural r.n ≤ 2 ^ 31

pub range_lacks : (c : ℕ) (r : Range) → c < 45 → IsSmall r → list_any (λ b. b == c) (range_text r) ≡ false
range_lacks c r l s =
    lacks_append (λ b. b == c) (decimal (natural r.start)) (45 ∷ decimal (last_of r))
    (decimal_lacks c (natural r.start) (omega arith) (omega (arith, s.high)))
    (or_from _ _ (ne_eqb 45 c (λ e. omega (arith, e)))
    (decimal_lacks c (last_of r) (omega arith) (omega (arith, s.high))))

range_parts : (r : Range) → IsSmall r
    → slice_split is_hyphen (range_text r) ≡ decimal (natural r.start) ∷ decimal (last_of r) ∷ []
range_parts r s =
    split_at 45 (decimal (natural r.start)) (decimal (last_of r))
    (decimal_lacks 45 (natural r.start) (omega arith) (omega (arith, s.high)))
    ∙ ap (λ z. decimal (natural r.start) ∷ z)
    (split_end 45 (decimal (last_of r)) (decimal_lacks 45 (last_of r) (omega arith) (omega (arith, s.high))))

ends_read : (low : ℕ) (r : Range) → IsSmall r → low ≤ natural r.start
    → ends_of low (decimal (natural r.start), decimal (last_of r)) ≡ Some (natural r.start, last_of r)
ends_read low r s l =
    ap (option_and_then (λ first. option_map (λ last. (first, last)) (number_in first highest (decimal (last_of r)))))
    (in_range low highest (natural r.start) (omega (arith, s.high)) l (omega (arith, s.high, s.some)))
    ∙ ap (option_map (λ last. (natural r.start, last)))
    (in_range (natural r.start) highest (last_of r) (omega (arith, s.high)) (omega (arith, s.some))
    (omega (arith, s.high, s.some)))

count_is : (r : Range) → IsSmall r → count (natural r.start, last_of r) ≡ natural r.n
count_is r s = omega (arith, s.first, s.some)

one_read : (low room : ℕ) (r : Range) → IsSmall r → low ≤ natural r.start → natural r.n ≤ room
    → ends_in low room (range_text r) ≡ Some (natural r.start, last_of r)
unfolding ends_in
one_read low room r s l m =
    ap (λ z. option_and_then (λ ends. if nat_le (count ends) room then Some ends else None)
    (option_and_then (ends_of low) (two z))) (range_parts r s)
    ∙ ap (option_and_then (λ ends. if nat_le (count ends) room then Some ends else None)) (ends_read low r s l)
    ∙ cond-true (nat_le (count (natural r.start, last_of r)) room) (Some (natural r.start, last_of r)) None
    (le-leb (count (natural r.start, last_of r)) room (omega (arith, count_is r s, m)))

pos_natural : (z : ℤ) → 1 ≤ natural z → pos (natural z) ≡ z
pos_natural (pos n) h = refl
pos_natural (negsuc n) h = absurd (omega (arith, h))

range_at : ℤ → ℤ → Range
range_at start n = record { start = start; n = n }

range_is : (r : Range) → IsSmall r → range (natural r.start, last_of r) ≡ r
unfolding range_at
range_is r s =
    ap (range_at (pos (natural r.start))) (ap pos (count_is r s))
    ∙ ap (λ (z : ℤ). range_at z (pos (natural r.n))) (pos_natural r.start s.first)
    ∙ ap (range_at r.start) (pos_natural r.n s.some)

-- ---- ranges

abbrev pub AreSmall : List Range → Type 0
AreSmall [] = Unit {0}
AreSmall (r ∷ rs) = IsSmall r × AreSmall rs

small : (low : ℕ) (rs : List Range) → 1 ≤ low → IsApart low (map span_of rs) → IsBounded (map span_of rs) → AreSmall rs
small low [] l a b = tt
small low (r ∷ rs) l a b = (
  record { first = omega (arith, l, a.0); some = a.1; high = b.0 },
  small (natural r.start + natural r.n + 1) rs
      (omega arith) a.2 b.1,
)

split_ranges : (r : Range) (rs : List Range) → IsSmall r → AreSmall rs
    → slice_split is_comma (range_text r ++ flat_map next_range rs) ≡ map range_text (r ∷ rs)
split_ranges r [] s h = ap (slice_split is_comma) (append-nil (range_text r))
    ∙ split_end 44 (range_text r) (range_lacks 44 r (omega arith) s)
split_ranges r (q ∷ rs) s h =
    split_at 44 (range_text r) (range_text q ++ flat_map next_range rs) (range_lacks 44 r (omega arith) s)
    ∙ ap (λ z. range_text r ∷ z) (split_ranges q rs h.0 h.1)

ranges_read : (low room : ℕ) (rs : List Range) → AreSmall rs → IsApart low (map span_of rs)
    → length (positions rs) ≤ room → ranges_in low room (map range_text rs) ≡ Some rs
ranges_read low room [] s a m = refl
ranges_read low room (r ∷ rs) s a m =
    let counted : natural r.n + length (positions rs) ≤ room =
    omega (
      arith,
      m,
      length-append (positions_of r) (positions rs),
      length-range_with_len (natural r.start)
          (natural r.n),
    ) in
    let low_is : natural r.start + natural r.n + 1 ≡ last_of r + 2 = omega (arith, s.0.some) in
    let rest : ranges_in (last_of r + 2) (room - count (natural r.start, last_of r)) (map range_text rs) ≡ Some rs =
    ranges_read (last_of r + 2) (room - count (natural r.start, last_of r)) rs s.1
    (subst (λ z. IsApart z (map span_of rs)) low_is a.2) (omega (arith, counted, count_is r s.0)) in
    ap (option_and_then (λ ends. option_map (λ ranges. range ends ∷ ranges)
    (ranges_in (ends.1 + 2) (room - count ends) (map range_text rs))))
    (one_read low room r s.0 a.0 (omega (arith, counted)))
    ∙ ap (option_map (λ ranges. range (natural r.start, last_of r) ∷ ranges)) rest
    ∙ ap (λ z. Some (z ∷ rs)) (range_is r s.0)

append_front : (q : Range) (qs : List Range)
    → range_text q ++ flat_map next_range qs ≡ decimal
    (natural q.start) ++ 45 ∷ (decimal (last_of q) ++ flat_map next_range qs)
append_front q qs = append_assoc (decimal (natural q.start)) (45 ∷ decimal (last_of q)) (flat_map next_range qs)

zero_read : number_in 0 most_wanted (48 ∷ []) ≡ Some 0
zero_read = ap (number_in 0 most_wanted) (sym (decimal_digit 0 (omega arith)))
    ∙ in_range 0 most_wanted 0 (omega arith) (omega arith) (omega arith)

-- the text of wanted positions is read as these
pub wanted_read : (rs : List Range) → AreWanted rs → length (positions rs) ≤ most_wanted
    → wanted_of (wanted_text rs) ≡ Some rs
unfolding wanted_of
wanted_read [] w m = ap (λ z. option_or (option_map firsts z)
    (ranges_in 1 most_wanted (slice_split is_comma (48 ∷ [])))) zero_read
wanted_read (r ∷ rs) w m =
    let s = small 1 (r ∷ rs) (omega arith) w.apart w.bounded in
    let text : List ℕ = range_text r ++ flat_map next_range rs in
    let none : number_in 0 most_wanted text ≡ None =
    ap (λ z. number_in 0 most_wanted z) (append_front r rs)
    ∙ ap (option_and_then (λ n. if nat_le 0 n then Some n else None))
    (no-number most_wanted (decimal (natural r.start) ++ 45 ∷ (decimal (last_of r) ++ flat_map next_range rs))
    (no_numeral (decimal (natural r.start)) (decimal (last_of r) ++ flat_map next_range rs))) in
    ap (λ z. option_or (option_map firsts z) (ranges_in 1 most_wanted (slice_split is_comma text))) none
    ∙ ap (ranges_in 1 most_wanted) (split_ranges r rs s.0 s.1)
    ∙ ranges_read 1 most_wanted (r ∷ rs) s w.apart m

-- it is one token without quotes
range_above : (r : Range) → IsSmall r → AllAbove (range_text r)
range_above r s =
    above-append (decimal (natural r.start)) (45 ∷ decimal (last_of r))
    (above-digits (decimal (natural r.start)) (decimal-digits (natural r.start) (omega (arith, s.high))).0)
    (omega arith, above-digits (decimal (last_of r)) (decimal-digits (last_of r) (omega (arith, s.high))).0)

next_above : (rs : List Range) → AreSmall rs → AllAbove (flat_map next_range rs)
next_above [] s = tt
next_above (r ∷ rs) s = (
  omega arith,
  above-append (range_text r) (flat_map next_range rs) (range_above r s.0)
      (next_above rs s.1),
)

pub wanted_word : (rs : List Range) → AreWanted rs → IsUnquoted (wanted_text rs)
wanted_word [] w = word-of (48 ∷ []) (omega arith) refl
wanted_word (r ∷ rs) w =
    let s = small 1 (r ∷ rs) (omega arith) w.apart w.bounded in
    let d = decimal-digits (natural r.start) (omega (arith, s.0.high)) in
    word-above (range_text r ++ flat_map next_range rs)
    (omega (
      arith,
      d.1,
      length-append (range_text r) (flat_map next_range rs),
      length-append
          (decimal (natural r.start)) (45 ∷ decimal (last_of r)),
    ))
    (above-append (range_text r) (flat_map next_range rs) (range_above r s.0) (next_above rs s.1))

-- ---- a record syntax

not_hyphen : (oid : List ℕ) → dotted oid ≡ 45 ∷ [] → ⊥
not_hyphen oid e =
    let h : All IsDigitOrDot (45 ∷ []) = subst (All IsDigitOrDot) e (dotted_plain oid) in
    elim (h 0 45 (omega arith)) [ inl d ↦ omega (arith, d) | inr d ↦ omega (arith, d.0) ]

pub syntax_read : (syntax : Option (List ℕ)) → ((oid : List ℕ) → syntax ≡ Some oid → IsOid oid) → HasFewArcs syntax
    → syntax_of (syntax_text syntax) ≡ Some syntax
unfolding syntax_of
syntax_read None o f = refl
syntax_read (Some oid) o f =
    cond-false (bytes_eq (dotted oid) (codes "-")) (Some None) (option_and_then short (oid_of_text (dotted oid)))
    (false_from_ne_true (bytes_eq (dotted oid) (codes "-"))
    (λ e. not_hyphen oid ((bytes_eq-Decides (dotted oid) (codes "-")).0 e)))
    ∙ ap (option_and_then short) (oid-found (dotted oid) oid refl (o oid refl))
    ∙ cond-true (nat_le (length oid) 1000) (Some (Some oid)) None (le-leb (length oid) 1000 f)

pub syntax_word : (syntax : Option (List ℕ)) → ((oid : List ℕ) → syntax ≡ Some oid → IsOid oid)
    → IsUnquoted (syntax_text syntax)
syntax_word None o = word-of (45 ∷ []) (omega arith) refl
syntax_word (Some oid) o = dotted-word oid (o oid refl)
