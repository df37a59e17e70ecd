-- The positions that a question of a world file wants can be wanted.
use Rattle.std.proofs.Common.{◌≡◌, ap, subst, refl, ℕ, pos, ◌+◌, ◌-◌, ◌≤◌, nat_le, Bool, true, false, ◌&&◌, ◌==◌, if◌then◌else◌, List, [], ◌∷◌, length, map, Option, Some, None, inl, inr, ◌⊎◌, arith, length-append}
use Rattle.std.specs.List.{slice_split}
use Rattle.std.specs.Option.{option_map, option_and_then, option_or}
use Rattle.std.specs.Str.Parse.{digits_value}
use Rattle.std.proofs.lemmas.Bool.{and_parts, leb-true}
use Rattle.std.proofs.lemmas.Bool.Decides.{nat_tests}
use Rattle.std.proofs.lemmas.List.FromFn.{length-range_with_len}
use Rattle.zquery.specs.Notation.Numbers.{number_of_text, is_numeral}
use Rattle.std.specs.Str.{bytes_eq}
use Rattle.std.specs.Prelude.{codes}
use Rattle.zquery.specs.Notation.Sets.{oid_of_text}
use Rattle.zplan.specs.Ranges.{IsApart, IsBounded, span_of, positions, positions_of}
use Rattle.zplan.specs.declared.range.Range.{Range}
use Rattle.zoom_questions.specs.Askable.{HasFewArcs}
use Rattle.zmeta_world.specs.WorldLines.{syntax_of, short}
use Rattle.zmeta_world.specs.WorldWants.{number_in, ends_of, ends_in, count, range, ranges_in, firsts, wanted_of, highest, most_wanted, two, is_hyphen, is_comma}
use Rattle.zmeta_world.proofs.WorldParsing.{none_some, some_same}

-- ---- parts of an option

pub record Mapped {A B : Type 0} (f : A → B) (o : Option A) (y : B) : Type 0 where
  pub from : A
  pub is : o ≡ Some from
  pub gives : f from ≡ y

pub mapped : {A B : Type 0} (f : A → B) (o : Option A) (y : B) → option_map f o ≡ Some y → Mapped f o y
mapped f None y e = absurd (none_some e)
mapped f (Some x) y e = record { from = x; is = refl; gives = some_same (f x) y e }

pub record Chained {A B : Type 0} (f : A → Option B) (o : Option A) (y : B) : Type 0 where
  pub from : A
  pub is : o ≡ Some from
  pub gives : f from ≡ Some y

pub chained : {A B : Type 0} (f : A → Option B) (o : Option A) (y : B) → option_and_then f o ≡ Some y → Chained f o y
chained f None y e = absurd (none_some e)
chained f (Some x) y e = record { from = x; is = refl; gives = e }

-- a value that passed the test
pub tested : {A : Type 0} (b : Bool) (x y : A) → (if b then Some x else None) ≡ Some y → (b ≡ true) × (x ≡ y)
tested true x y e = (refl, some_same x y e)
tested false x y e = absurd (none_some e)

-- ---- numbers

most_number : (most n : ℕ) (text : List ℕ) → number_of_text most text ≡ Some n → n ≤ most
unfolding number_of_text
most_number most n text e =
    let t = tested (is_numeral text && nat_le (digits_value 10 text) most) (digits_value 10 text) n e in
    let p = and_parts (is_numeral text) (nat_le (digits_value 10 text) most) t.0 in
    let l : digits_value 10 text ≤ most = leb-true (digits_value 10 text) most p.1 in
    omega (arith, l, t.1)

pub number_within : (least most n : ℕ) (text : List ℕ) → number_in least most text ≡ Some n → (least ≤ n) × (n ≤ most)
number_within least most n text e =
    let c = chained (λ n. if nat_le least n then Some n else None) (number_of_text most text) n e in
    let t = tested (nat_le least c.from) c.from n c.gives in
    let l : least ≤ c.from = leb-true least c.from t.0 in
    let m : c.from ≤ most = most_number most c.from text c.is in
    (omega (arith, l, t.1), omega (arith, m, t.1))

-- ---- a range

record AreEnds (low room : ℕ) (ends : ℕ × ℕ) : Type 0 where
  least : low ≤ ends.0
  order : ends.0 ≤ ends.1
  high : ends.1 ≤ 2147483647
  fits : count ends ≤ room

ends_order : (low : ℕ) (texts : List ℕ × List ℕ) (ends : ℕ × ℕ) → ends_of low texts ≡ Some ends → (low ≤ ends.0) × (ends.0 ≤ ends.1) × (ends.1 ≤ 2147483647)
ends_order low texts ends e =
    let c = chained (λ first. option_map (λ last. (first, last)) (number_in first highest texts.1)) (number_in low highest texts.0) ends e in
    let m = mapped (λ last. (c.from, last)) (number_in c.from highest texts.1) ends c.gives in
    let one = number_within low highest c.from texts.0 c.is in
    let two = number_within c.from highest m.from texts.1 m.is in
    let first : c.from ≡ ends.0 = ap (λ z. z.0) m.gives in
    let last : m.from ≡ ends.1 = ap (λ z. z.1) m.gives in
    (omega (arith, one.0, first), omega (arith, two.0, first, last), omega (arith, two.1, last))

ends_fit : (low room : ℕ) (text : List ℕ) (ends : ℕ × ℕ) → ends_in low room text ≡ Some ends → AreEnds low room ends
unfolding ends_in
ends_fit low room text ends e =
    let c = chained (λ ends. if nat_le (count ends) room then Some ends else None) (option_and_then (ends_of low) (two (slice_split is_hyphen text))) ends e in
    let t = tested (nat_le (count c.from) room) c.from ends c.gives in
    let d = chained (ends_of low) (two (slice_split is_hyphen text)) c.from c.is in
    let o = ends_order low d.from c.from d.gives in
    let l : count c.from ≤ room = leb-true (count c.from) room t.0 in
    let P : ℕ × ℕ → Type 0 = AreEnds low room in
    subst P t.1 (record { least = o.0; order = o.1; high = o.2; fits = l })

-- ---- ranges

pub record Fits (low room : ℕ) (ranges : List Range) : Type 0 where
  pub apart : IsApart low (map span_of ranges)
  pub bounded : IsBounded (map span_of ranges)
  pub some : length (positions ranges) ≤ room

more_positions : (r : Range) (rs : List Range) → length (positions (r ∷ rs)) ≡ length (positions_of r) + length (positions rs)
more_positions r rs = length-append (positions_of r) (positions rs)

one_more : (low room : ℕ) (ends : ℕ × ℕ) (rs : List Range) → AreEnds low room ends → Fits (ends.1 + 2) (room - count ends) rs → Fits low room (range ends ∷ rs)
one_more low room ends rs a f =
    let next : ends.1 + 2 ≡ ends.0 + count ends + 1 = omega (arith, a.order) in
    let some : length (positions_of (range ends)) ≡ count ends = length-range_with_len ends.0 (count ends) in
    record {
      apart = (a.least, omega (arith, a.order), subst (λ z. IsApart z (map span_of rs)) next f.apart);
      bounded = (omega (arith, a.order, a.high), f.bounded);
      some = omega (arith, more_positions (range ends) rs, some, f.some, a.fits);
    }

ranges_fit : (low room : ℕ) (texts : List (List ℕ)) (ranges : List Range) → ranges_in low room texts ≡ Some ranges → Fits low room ranges
ranges_fit low room [] ranges e = subst (Fits low room) (some_same [] ranges e) (record { apart = tt; bounded = tt; some = omega arith })
ranges_fit low room (text ∷ texts) ranges e =
    let c = chained (λ ends. option_map (λ ranges. range ends ∷ ranges) (ranges_in (ends.1 + 2) (room - count ends) texts)) (ends_in low room text) ranges e in
    let m = mapped (λ ranges. range c.from ∷ ranges) (ranges_in (c.from.1 + 2) (room - count c.from) texts) ranges c.gives in
    let f = ranges_fit (c.from.1 + 2) (room - count c.from) texts m.from m.is in
    subst (Fits low room) m.gives (one_more low room c.from m.from (ends_fit low room text c.from c.is) f)

-- ---- the positions from 1 on

firsts_at : (n : ℕ) (b : Bool) → (n == 0) ≡ b → n ≤ 1000000 → Fits 1 1000000 (if b then [] else record { start = pos 1; n = pos n } ∷ [])
firsts_at n true e h = record { apart = tt; bounded = tt; some = omega arith }
firsts_at n false e h =
    let some : length (positions_of (record { start = pos 1; n = pos n })) ≡ n = length-range_with_len 1 n in
    let more = more_positions (record { start = pos 1; n = pos n }) [] in
    record { apart = (omega arith, grind (arith, nat_tests), tt); bounded = (omega (arith, h), tt); some = omega (arith, some, more, h) }

either : {A : Type 0} (a b : Option A) (y : A) → option_or a b ≡ Some y → (a ≡ Some y) ⊎ (b ≡ Some y)
either None b y e = inr e
either (Some x) b y e = inl e

-- the positions of a text can be wanted, and are no more than 1,000,000
pub wanted_fits : (text : List ℕ) (ranges : List Range) → wanted_of text ≡ Some ranges → Fits 1 1000000 ranges
unfolding wanted_of
wanted_fits text ranges e =
    elim (either (option_map firsts (number_in 0 most_wanted text)) (ranges_in 1 most_wanted (slice_split is_comma text)) ranges e) [
      | inl f ↦ (let m = mapped firsts (number_in 0 most_wanted text) ranges f in
          subst (Fits 1 1000000) m.gives (firsts_at m.from (m.from == 0) refl (number_within 0 most_wanted m.from text m.is).1))
      | inr r ↦ ranges_fit 1 most_wanted (slice_split is_comma text) ranges r
    ]

-- ---- the record syntax

branched : {A : Type 0} (b : Bool) (x y : Option A) (z : A) → (if b then x else y) ≡ Some z → (x ≡ Some z) ⊎ (y ≡ Some z)
branched true x y z e = inl e
branched false x y z e = inr e

pub syntax_fits : (text : List ℕ) (syntax : Option (List ℕ)) → syntax_of text ≡ Some syntax → HasFewArcs syntax
unfolding syntax_of
syntax_fits text syntax e =
    elim (branched (bytes_eq text (codes "-")) (Some None) (option_and_then short (oid_of_text text)) syntax e) [
      | inl n ↦ subst HasFewArcs (some_same None syntax n) tt
      | inr o ↦ (let c = chained short (oid_of_text text) syntax o in
          let t = tested (nat_le (length c.from) 1000) (Some c.from) syntax c.gives in
          let l : length c.from ≤ 1000 = leb-true (length c.from) 1000 t.0 in
          subst HasFewArcs t.1 l)
    ]
