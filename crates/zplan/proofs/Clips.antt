-- Ranges up to a count have the places up to it.
use Rattle.std.proofs.Common.{◌≡◌, ◌⊎◌, inl, inr, ℕ, zero, suc, ◌+◌, ◌-◌, ◌^◌, ◌<◌, ◌≤◌, true, false, cond, List, [], ◌∷◌, ◌++◌, refl, sym, ap, ◌∙◌, arith}
use Rattle.std.proofs.lemmas.Bool.Decides.{nat_tests}
use Rattle.std.specs.Prelude.{nat_le, filter, map, length, slice_index_or}
use Rattle.std.specs.List.{range_with_len}
use Rattle.zplan.specs.declared.span.Span.{Span}
use Rattle.zplan.specs.Positions.{up_to}
use Rattle.zplan.specs.Ranges.{natural, span_of, places, clip, IsApart, IsBounded}
use Rattle.zplan.specs.declared.range.Range.{Range}

pub apart_less : (low more : ℕ) (rs : List Span) → low ≤ more → IsApart more rs → IsApart low rs
apart_less low more [] le h = tt
apart_less low more (r ∷ rs) le h = (omega (arith, h.0), h.1, h.2)

-- as many of n places from start on as the count has
abbrev most : ℕ → Span → ℕ
most count r = cond (nat_le r.n (count - r.start)) r.n (count - r.start + 1)

most_some : (count : ℕ) (r : Span) → 0 < r.n → (0 < most count r) × (most count r ≤ r.n)
most_some count r pos = elim (nat_le r.n (count - r.start)) as (λ b. nat_le r.n (count - r.start) ≡ b → (0 < cond b r.n (count - r.start + 1)) × (cond b r.n (count - r.start + 1) ≤ r.n)) [
  | true ↦ λ e. (pos, omega arith)
  | false ↦ λ e. let n : count - r.start < r.n = grind (arith, nat_tests) in (omega arith, omega (arith, n))
] refl

pub clip_apart : (count low : ℕ) (rs : List Span) → IsApart low rs → IsApart low (clip count rs)
clip_apart count low [] h = tt
clip_apart count low (r ∷ rs) h =
    let later = clip_apart count (r.start + r.n + 1) rs h.2 in
    let m = most_some count r h.1 in
    let a = m.0 in let b = m.1 in
    let one : IsApart (r.start + most count r + 1) (clip count rs) = apart_less (r.start + most count r + 1) (r.start + r.n + 1) (clip count rs) (omega (arith, b)) later in
    let two : IsApart low (clip count rs) = apart_less low (r.start + r.n + 1) (clip count rs) (let x = h.0 in omega (arith, x)) later in
    elim (nat_le r.start count) as (λ t. IsApart low (cond t (record { start = r.start; n = most count r } ∷ clip count rs) (clip count rs))) [ true ↦ (h.0, a, one) | false ↦ two ]

pub clip_bounded : (count : ℕ) (low : ℕ) (rs : List Span) → IsApart low rs → IsBounded rs → IsBounded (clip count rs)
clip_bounded count low [] h b = tt
clip_bounded count low (r ∷ rs) h b =
    let later = clip_bounded count (r.start + r.n + 1) rs h.2 b.1 in
    let m = (most_some count r h.1).1 in let x = b.0 in
    let one : r.start + most count r ≤ 2 ^ 31 = omega (arith, m, x) in
    elim (nat_le r.start count) as (λ t. IsBounded (cond t (record { start = r.start; n = most count r } ∷ clip count rs) (clip count rs))) [ true ↦ (one, later) | false ↦ later ]

filter_none : (count n s : ℕ) (ps : List ℕ) → count < s → filter (λ p. nat_le p count) (range_with_len s n ++ ps) ≡ filter (λ p. nat_le p count) ps
filter_none count zero s ps h = refl
filter_none count (suc n) s ps h =
    let e : nat_le s count ≡ false = grind (arith, nat_tests) in
    ap (λ b. cond b (s ∷ filter (λ p. nat_le p count) (range_with_len (s + 1) n ++ ps)) (filter (λ p. nat_le p count) (range_with_len (s + 1) n ++ ps))) e ∙ filter_none count n (s + 1) ps (omega arith)

-- m of the n places are no more than the count
filter_some : (count n m s : ℕ) (ps : List ℕ) → m ≤ n → ((m ≡ n) × (s + n ≤ count + 1)) ⊎ (s + m ≡ count + 1) → filter (λ p. nat_le p count) (range_with_len s n ++ ps) ≡ range_with_len s m ++ filter (λ p. nat_le p count) ps
filter_some count zero zero s ps le h = refl
filter_some count zero (suc m) s ps le h = absurd (omega arith)
filter_some count (suc n) zero s ps le h =
    let lt : count < s = elim h [ inl g ↦ absurd (omega (arith, g.0)) | inr g ↦ omega (arith, g) ] in filter_none count (suc n) s ps lt
filter_some count (suc n) (suc m) s ps le h =
    let fits : s ≤ count = elim h [ inl g ↦ omega (arith, g.1) | inr g ↦ omega (arith, g) ] in
    let e : nat_le s count ≡ true = grind (arith, nat_tests) in
    let next : ((m ≡ n) × (s + 1 + n ≤ count + 1)) ⊎ (s + 1 + m ≡ count + 1) = elim h [ inl g ↦ inl (omega (arith, g.0), omega (arith, g.1)) | inr g ↦ inr (omega (arith, g)) ] in
    ap (λ b. cond b (s ∷ filter (λ p. nat_le p count) (range_with_len (s + 1) n ++ ps)) (filter (λ p. nat_le p count) (range_with_len (s + 1) n ++ ps))) e
    ∙ ap (λ l. s ∷ l) (filter_some count n m (s + 1) ps (omega arith) next)

pub clip_positions : (count low : ℕ) (rs : List Span) → IsApart low rs → places (clip count rs) ≡ up_to count (places rs)
clip_positions count low [] h = refl
clip_positions count low (r ∷ rs) h =
    let later = clip_positions count (r.start + r.n + 1) rs h.2 in
    let m = (most_some count r h.1).1 in
    let how : r.start ≤ count → ((most count r ≡ r.n) × (r.start + r.n ≤ count + 1)) ⊎ (r.start + most count r ≡ count + 1) = λ fits.
    elim (nat_le r.n (count - r.start)) as (λ b. nat_le r.n (count - r.start) ≡ b → ((cond b r.n (count - r.start + 1) ≡ r.n) × (r.start + r.n ≤ count + 1)) ⊎ (r.start + cond b r.n (count - r.start + 1) ≡ count + 1)) [
      | true ↦ λ e. let n : r.n ≤ count - r.start = grind (arith, nat_tests) in inl (refl, omega (arith, n, fits))
      | false ↦ λ e. inr (omega (arith, fits))
    ] refl in
    elim (nat_le r.start count) as (λ t. nat_le r.start count ≡ t → places (cond t (record { start = r.start; n = most count r } ∷ clip count rs) (clip count rs)) ≡ up_to count (places (r ∷ rs))) [
      | true ↦ λ e. let fits : r.start ≤ count = grind (arith, nat_tests) in
          ap (λ l. range_with_len r.start (most count r) ++ l) later ∙ sym (filter_some count r.n (most count r) r.start (places rs) m (how fits))
      | false ↦ λ e. let past : count < r.start = grind (arith, nat_tests) in later ∙ sym (filter_none count r.n r.start (places rs) past)
    ] refl

pub bounded_at : (wanted : List Range) (i : ℕ) (d : Range) → IsBounded (map span_of wanted) → i < length wanted
    → natural (slice_index_or wanted i d).start + natural (slice_index_or wanted i d).n ≤ 2 ^ 31
bounded_at [] i d b lt = absurd (omega arith)
bounded_at (r ∷ rs) zero d b lt = b.0
bounded_at (r ∷ rs) (suc i) d b lt = bounded_at rs i d b.1 (omega arith)
