-- The next part of ranges.
use Rattle.std.proofs.Common.{◌≡◌, inl, inr, ℕ, zero, suc, ◌+◌, ◌-◌, ◌^◌, ◌<◌, ◌≤◌, false, List, [], ◌∷◌, ◌++◌, length, drop, get_or, refl, sym, ap, subst, ◌∙◌, arith, append_assoc}
use Rattle.std.proofs.Math.Seq.{drop-cons}
use Rattle.std.proofs.lemmas.Bool.Decides.{nat_tests}
use Rattle.std.specs.List.{range_with_len}
use Rattle.zplan.specs.declared.span.Span.{Span}
use Rattle.zplan.specs.declared.part.Place.{Place}
use Rattle.zplan.specs.Positions.{is_followed, IsFrom}
use Rattle.zplan.specs.Ranges.{places, IsApart, IsBounded}
use Rattle.zplan.specs.Cutting.{left_at, IsWithinFirst, IsReadingPlace, IsNextPart}
use Rattle.zplan.proofs.Cuts.{places_ascend, from_less}

pub drop_range : (a b s : ℕ) (ps : List ℕ) → drop a (range_with_len s (a + b) ++ ps) ≡ range_with_len (s + a) b ++ ps
drop_range zero b s ps =
    let e : 0 + b ≡ b = omega arith in let f : s ≡ s + 0 = omega arith in
    ap (λ n. range_with_len s n ++ ps) e ∙ ap (λ t. range_with_len t b ++ ps) f
drop_range (suc a) b s ps =
    let e : suc a + b ≡ suc (a + b) = omega arith in let f : s + 1 + a ≡ s + suc a = omega arith in
    ap (λ n. drop (suc a) (range_with_len s n ++ ps)) e ∙ drop_range a b (s + 1) ps ∙ ap (λ t. range_with_len t b ++ ps) f

range_split : (a b s : ℕ) → range_with_len s (a + b) ≡ range_with_len s a ++ range_with_len (s + a) b
range_split zero b s = let e : 0 + b ≡ b = omega arith in let f : s ≡ s + 0 = omega arith in ap (range_with_len s) e ∙ ap (λ t. range_with_len t b) f
range_split (suc a) b s =
    let e : suc a + b ≡ suc (a + b) = omega arith in let f : s + 1 + a ≡ s + suc a = omega arith in
    ap (range_with_len s) e ∙ ap (λ l. s ∷ l) (range_split a b (s + 1) ∙ ap (λ t. range_with_len (s + 1) a ++ range_with_len t b) f)

pub follows_far : (p low : ℕ) (ps : List ℕ) → IsFrom low ps → p + 1 < low → is_followed p ps ≡ false
follows_far p low [] h lt = refl
follows_far p low (q ∷ qs) h lt = let n : p + 1 < q = omega (arith, h.0) in grind (arith, nat_tests)

apart_drop : (at low : ℕ) (rs : List Span) → IsApart low rs → (more : ℕ) × IsApart more (drop at rs)
apart_drop zero low rs h = (low, h)
apart_drop (suc at) low [] h = (low, tt)
apart_drop (suc at) low (r ∷ rs) h = apart_drop at (r.start + r.n + 1) rs h.2

from_drop : (low k : ℕ) (ps : List ℕ) → IsFrom low ps → IsFrom low (drop k ps)
from_drop low zero ps h = h
from_drop low (suc k) [] h = tt
from_drop low (suc k) (p ∷ ps) h = from_drop low k ps h.1

from_at : (at low : ℕ) (rs : List Span) → IsApart low rs → IsFrom low (places (drop at rs))
from_at zero low rs h = (places_ascend low rs h).0
from_at (suc at) low [] h = tt
from_at (suc at) low (r ∷ rs) h = from_less low (r.start + r.n + 1) (places (drop at rs)) (omega (arith, h.0)) (from_at at (r.start + r.n + 1) rs h.2)

-- what stands at a place and after it begins where the ranges may begin
pub left_from : (ranges : List Span) (place : Place) → IsApart 1 ranges → IsFrom 1 (left_at ranges place)
left_from ranges place w = from_drop 1 place.used (places (drop place.at ranges)) (from_at place.at 1 ranges w)

-- the first of them is where the next range begins
pub begins_from : (low s n : ℕ) (ps : List ℕ) → 0 < n → IsFrom low (range_with_len s n ++ ps) → low ≤ s
begins_from low s zero ps pos h = absurd (omega arith)
begins_from low s (suc n) ps pos h = h.0

pub bounded_drop : (at : ℕ) (rs : List Span) → IsBounded rs → IsBounded (drop at rs)
bounded_drop zero rs h = h
bounded_drop (suc at) [] h = tt
bounded_drop (suc at) (r ∷ rs) h = bounded_drop at rs h.1

pub used_none : (low : ℕ) (rs : List Span) → IsApart low rs → IsWithinFirst 0 rs
used_none low [] h = tt
used_none low (r ∷ rs) h = h.1

-- what is known at a place
pub record Here (ranges : List Span) (place : Place) (r : Span) : Type 0 where
  pub stands : drop place.at ranges ≡ r ∷ drop (place.at + 1) ranges
  pub used : place.used < r.n
  pub bound : r.start + r.n ≤ 2 ^ 31
  pub far : IsFrom (r.start + r.n + 1) (places (drop (place.at + 1) ranges))
  pub unused : IsWithinFirst 0 (drop (place.at + 1) ranges)

pub here : (ranges : List Span) (place : Place) (d : Span) → IsApart 1 ranges → IsBounded ranges → IsReadingPlace ranges place → place.at < length ranges → Here ranges place (get_or ranges place.at d)
here ranges place d w b p lt =
    let e : drop place.at ranges ≡ get_or ranges place.at d ∷ drop (place.at + 1) ranges = drop-cons ranges place.at d lt ∙ ap (λ k. get_or ranges place.at d ∷ drop k ranges) (let s : suc place.at ≡ place.at + 1 = omega arith in s) in
    let a = apart_drop place.at 1 ranges w in
    let x = subst (IsApart a.0) e a.1 in
    let y = subst IsBounded e (bounded_drop place.at ranges b) in
    record { stands = e; used = subst (IsWithinFirst place.used) e p; bound = y.0; far = (places_ascend _ (drop (place.at + 1) ranges) x.2).0; unused = used_none _ (drop (place.at + 1) ranges) x.2 }

pub taken : (used : ℕ) (r : Span) (rs : List Span) → used < r.n → drop used (places (r ∷ rs)) ≡ range_with_len (r.start + used) (r.n - used) ++ places rs
taken used r rs lt =
    let e : r.n ≡ used + (r.n - used) = omega arith in
    ap (λ n. drop used (range_with_len r.start n ++ places rs)) e ∙ drop_range used (r.n - used) r.start (places rs)

pub part_whole : (ranges : List Span) (place : Place) (room : ℕ) (r : Span) → Here ranges place r → r.n - place.used ≤ room
    → IsNextPart ranges place room (record { range = record { start = r.start + place.used; n = r.n - place.used }; next = record { at = place.at + 1; used = 0 } })
part_whole ranges place room r h fits = record {
  comes = ap (λ l. drop place.used (places l)) h.stands ∙ taken place.used r (drop (place.at + 1) ranges) h.used;
  some = let u = h.used in omega arith;
  fits = fits;
  ends = inr (subst (λ low. IsFrom low (places (drop (place.at + 1) ranges))) (let u = h.used in let e : r.start + r.n + 1 ≡ r.start + place.used + (r.n - place.used) + 1 = omega arith in e) h.far);
  stays = h.unused;
  bounded = let u = h.used in let b = h.bound in omega (arith, u, b);
}

pub part_cut : (ranges : List Span) (place : Place) (room : ℕ) (r : Span) → Here ranges place r → 0 < room → room < r.n - place.used
    → IsNextPart ranges place room (record { range = record { start = r.start + place.used; n = room }; next = record { at = place.at; used = place.used + room } })
part_cut ranges place room r h pos lt =
    let rs : List Span = drop (place.at + 1) ranges in
    let e : r.n - place.used ≡ room + (r.n - (place.used + room)) = omega arith in
    let first = taken place.used r rs h.used in
    let second = taken (place.used + room) r rs (omega arith) in
    let split = range_split room (r.n - (place.used + room)) (r.start + place.used) in
    let s : r.start + place.used + room ≡ r.start + (place.used + room) = omega arith in
    record {
      comes = ap (λ l. drop place.used (places l)) h.stands ∙ first
          ∙ ap (λ n. range_with_len (r.start + place.used) n ++ places rs) e ∙ ap (λ l. l ++ places rs) split
          ∙ append_assoc (range_with_len (r.start + place.used) room) (range_with_len (r.start + place.used + room) (r.n - (place.used + room))) (places rs)
          ∙ ap (λ l. range_with_len (r.start + place.used) room ++ l) (ap (λ t. range_with_len t (r.n - (place.used + room)) ++ places rs) s ∙ sym second)
          ∙ ap (λ l. range_with_len (r.start + place.used) room ++ drop (place.used + room) (places l)) (sym h.stands);
      some = pos;
      fits = omega arith;
      ends = inl refl;
      stays = subst (IsWithinFirst (place.used + room)) (sym h.stands) (let z : place.used + room < r.n = omega arith in z);
      bounded = let b = h.bound in omega (arith, b, lt);
    }
