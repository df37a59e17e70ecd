-- Runs and lists out of parts.
use Rattle.std.proofs.Common.{◌≡◌, ◌⊎◌, inl, inr, ℕ, suc, ◌+◌, ◌-◌, ◌^◌, ◌<◌, ◌≤◌, true, false, List, [], ◌∷◌, ◌++◌, length, refl, sym, ap, subst, ◌∙◌, arith, append_assoc, length-append, append-nil}
use Rattle.std.proofs.lemmas.Grind.{flat_map-append}
use Rattle.std.proofs.lemmas.List.FromFn.{length-range_with_len}
use Rattle.std.specs.List.{range_with_len}
use Rattle.zplan.specs.declared.span.Span.{Span}
use Rattle.zplan.specs.declared.part.Place.{Place}
use Rattle.zplan.specs.declared.part.Part.{Part}
use Rattle.zplan.specs.Positions.{is_followed, IsFrom}
use Rattle.zplan.specs.Ranges.{places, places_of, IsApart, AreNonempty, IsBounded}
use Rattle.zplan.specs.Cutting.{deal, left_at, IsReadingPlace, IsNextPart, IsNextRun, IsNextList}
use Rattle.zplan.proofs.Fronts.{deal_run, deal_list}
use Rattle.zplan.proofs.Parts.{follows_far, left_from, begins_from}

pub run_of : (ranges : List Span) (place : Place) (room step left : ℕ) (p : Part) → IsNextPart ranges place room p → 0 < step
    → ((p.range.n ≡ room) × (left ≡ step)) ⊎ ((p.range.n < room) × (left ≡ room - p.range.n))
    → IsNextRun ranges place room step (record { range = p.range; next = p.next; room = left })
run_of ranges place room step left p h pos c =
    let m : ℕ = p.range.n - 1 in
    let rest : List ℕ = left_at ranges p.next in
    let some = h.some in
    let e : p.range.n ≡ suc m = omega arith in
    let cases : ((m ≡ room - 1) × (left - 1 ≡ step - 1)) ⊎ ((left - 1 + suc m ≡ room - 1) × (is_followed (p.range.start + m) rest ≡ false)) = elim c [
      | inl g ↦ inl (omega (arith, g.0), omega (arith, g.1))
      | inr g ↦ elim h.ends [ inl f ↦ absurd (omega (arith, g.0, f)) | inr f ↦ inr (omega (arith, g.0, g.1), follows_far (p.range.start + m) (p.range.start + p.range.n + 1) rest f (omega (arith, e))) ]
    ] in
    record {
      comes = h.comes;
      first = ap (deal false (step - 1) (room - 1)) h.comes
          ∙ ap (λ n. deal false (step - 1) (room - 1) (range_with_len p.range.start n ++ rest)) e
          ∙ deal_run (step - 1) (room - 1) p.range.start m (left - 1) rest cases
          ∙ ap (λ n. range_with_len p.range.start n ∷ deal false (step - 1) (left - 1) rest) (sym e);
      stays = h.stays;
      room_left = elim c [ inl g ↦ omega (arith, g.1) | inr g ↦ omega (arith, g.0, g.1) ];
      some = h.some;
      bounded = h.bounded;
    }

-- where another range may begin after these, so that a gap is between
abbrev pub low_after : ℕ → List Span → ℕ
low_after low [] = low
low_after low (s ∷ ss) = low_after (s.start + s.n + 1) ss

-- what a loop has gathered
pub record IsGathering (ranges : List Span) (from : Place) (step : ℕ) (list : List Span) (place : Place) (room : ℕ) : Type 0 where
  pub comes : left_at ranges from ≡ places list ++ left_at ranges place
  pub some : length list ≤ length (places list)
  pub have : AreNonempty list
  pub gaps : IsApart 1 list
  pub room_left : (room ≡ 0) ⊎ IsFrom (low_after 1 list) (left_at ranges place)
  pub size : length (places list) + room ≡ step
  pub bounded : IsBounded list
  pub stays : IsReadingPlace ranges place

pub positions_more : (list : List Span) (r : Span) → places (list ++ r ∷ []) ≡ places list ++ places_of r
positions_more list r = flat_map-append places_of list (r ∷ []) ∙ ap (λ l. places list ++ l) (append-nil (places_of r))

pub have_more : (list : List Span) (r : Span) → AreNonempty list → 0 < r.n → AreNonempty (list ++ r ∷ [])
have_more [] r h pos = (pos, tt)
have_more (x ∷ list) r h pos = (h.0, have_more list r h.1 pos)

pub bounded_more : (list : List Span) (r : Span) → IsBounded list → r.start + r.n ≤ 2 ^ 31 → IsBounded (list ++ r ∷ [])
bounded_more [] r h b = (b, tt)
bounded_more (x ∷ list) r h b = (h.0, bounded_more list r h.1 b)

apart_more : (low : ℕ) (list : List Span) (r : Span) → IsApart low list → low_after low list ≤ r.start → 0 < r.n → IsApart low (list ++ r ∷ [])
apart_more low [] r h le pos = (le, pos, tt)
apart_more low (x ∷ list) r h le pos = (h.0, h.1, apart_more (x.start + x.n + 1) list r h.2 le pos)

after_more : (low : ℕ) (list : List Span) (r : Span) → low_after low (list ++ r ∷ []) ≡ r.start + r.n + 1
after_more low [] r = refl
after_more low (x ∷ list) r = after_more (x.start + x.n + 1) list r

pub gather_none : (ranges : List Span) (from : Place) (step : ℕ) (list : List Span) → IsApart 1 ranges → IsReadingPlace ranges from → list ≡ [] → IsGathering ranges from step list from step
gather_none ranges from step list w p e = subst (λ l. IsGathering ranges from step l from step) (sym e) (record {
  comes = refl;
  some = omega arith;
  have = tt;
  gaps = tt;
  room_left = inr (left_from ranges from w);
  size = omega arith;
  bounded = tt;
  stays = p;
})

pub gather_more : (ranges : List Span) (from : Place) (step : ℕ) (list : List Span) (place : Place) (room : ℕ) (p : Part) → IsGathering ranges from step list place room → IsNextPart ranges place room p
    → IsGathering ranges from step (list ++ p.range ∷ []) p.next (room - p.range.n)
gather_more ranges from step list place room p g h =
    let more = positions_more list p.range in
    let n : length (places (list ++ p.range ∷ [])) ≡ length (places list) + p.range.n =
    ap length more ∙ length-append (places list) (places_of p.range) ∙ ap (λ k. length (places list) + k) (length-range_with_len p.range.start p.range.n) in
    let k : length (list ++ p.range ∷ []) ≡ length list + 1 = length-append list (p.range ∷ []) in
    let s = g.size in let f = h.fits in let o = g.some in let t = h.some in
    record {
      some = omega (arith, n, k, o, t);
      have = have_more list p.range g.have h.some;
      gaps = apart_more 1 list p.range g.gaps (elim g.room_left [
        | inl z ↦ absurd (omega (arith, z, f, t))
        | inr l ↦ begins_from (low_after 1 list) p.range.start p.range.n (left_at ranges p.next) h.some (subst (IsFrom (low_after 1 list)) h.comes l)
      ]) h.some;
      room_left = elim h.ends [
        | inl e ↦ inl (omega (arith, e))
        | inr l ↦ inr (subst (λ low. IsFrom low (left_at ranges p.next)) (sym (after_more 1 list p.range)) l)
      ];
      bounded = bounded_more list p.range g.bounded h.bounded;
      comes = g.comes ∙ ap (λ l. places list ++ l) h.comes ∙ sym (append_assoc (places list) (places_of p.range) (left_at ranges p.next)) ∙ ap (λ l. l ++ left_at ranges p.next) (sym more);
      size = omega (arith, n, s, f);
      stays = h.stays;
    }

pub list_first : (ranges : List Span) (place next : Place) (step : ℕ) (list : List Span) → IsNextList ranges place step list next → 0 < step → 0 < length list
    → deal true (step - 1) (step - 1) (left_at ranges place) ≡ places list ∷ deal true (step - 1) (step - 1) (left_at ranges next)
list_first ranges place next step list h pos some =
    ap (deal true (step - 1) (step - 1)) h.comes ∙ go (places list) (let o = h.some in omega (arith, o)) h.size
  where
    go : (ps : List ℕ) → 0 < length ps → (length ps ≡ step) ⊎ ((length ps ≤ step) × (left_at ranges next ≡ []))
        → deal true (step - 1) (step - 1) (ps ++ left_at ranges next) ≡ ps ∷ deal true (step - 1) (step - 1) (left_at ranges next)
    go [] n s = absurd (omega arith)
    go (p ∷ l) n s = deal_list (step - 1) (step - 1) p l (left_at ranges next) (elim s [ inl e ↦ inl (omega (arith, e)) | inr g ↦ inr (omega (arith, g.0), g.1) ])
