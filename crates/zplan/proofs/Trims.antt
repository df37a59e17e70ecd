-- A list loses its first positions.
use Rattle.std.proofs.Common.{subst, ◌≡◌, ℕ, zero, suc, ◌+◌, ◌-◌, ◌^◌, ◌<◌, ◌≤◌, List, [], ◌∷◌, ◌++◌, length, drop, sym, ap, ◌∙◌, arith}
use Rattle.std.specs.List.{range_with_len, remove}
use Rattle.std.specs.Prelude.{slice_index_or, slice_set}
use Rattle.zplan.specs.declared.span.Span.{Span}
use Rattle.zplan.specs.Ranges.{places, AreNonempty, IsApart, IsBounded}
use Rattle.zplan.proofs.Parts.{taken}
use Rattle.zplan.proofs.Clips.{apart_less}

-- what a loop has still to drop
pub record IsTrimming (old : List Span) (k : ℕ) (list : List Span) (skip : ℕ) : Type 0 where
  pub left : drop skip (places list) ≡ drop k (places old)
  pub have : AreNonempty list
  pub gaps : IsApart 1 list
  pub bounded : IsBounded list
  pub fewer : length list ≤ length old

pub drop_past : (n skip s : ℕ) (ps : List ℕ) → n ≤ skip → drop skip (range_with_len s n ++ ps) ≡ drop (skip - n) ps
drop_past zero skip s ps h = ap (λ k. drop k ps) (let e : skip ≡ skip - 0 = omega arith in e)
drop_past (suc n) zero s ps h = absurd (omega arith)
drop_past (suc n) (suc skip) s ps h = drop_past n skip (s + 1) ps (omega arith) ∙ ap (λ k. drop k ps) (let e : skip - n ≡ suc skip - suc n = omega arith in e)

-- the first range goes
pub trim_past : (old : List Span) (k : ℕ) (r : Span) (rs : List Span) (skip : ℕ) → IsTrimming old k (r ∷ rs) skip → r.n ≤ skip
    → IsTrimming old k rs (skip - r.n)
trim_past old k r rs skip h le =
    let f = h.fewer in
    record {
      left = sym (drop_past r.n skip r.start (places rs) le) ∙ h.left;
      have = h.have.1;
      gaps = apart_less 1 (r.start + r.n + 1) rs (omega arith) h.gaps.2;
      bounded = h.bounded.1;
      fewer = omega (arith, f);
    }

-- the first range is cut
pub trim_cut : (old : List Span) (k : ℕ) (r : Span) (rs : List Span) (skip : ℕ) → IsTrimming old k (r ∷ rs) skip → skip < r.n
    → IsTrimming old k (record { start = r.start + skip; n = r.n - skip } ∷ rs) 0
trim_cut old k r rs skip h lt =
    let f = h.fewer in
    let b = h.bounded.0 in
    record {
      left = sym (taken skip r rs lt) ∙ h.left;
      have = ((let z : 0 < r.n - skip = omega arith in z), h.have.1);
      gaps = (
        let a = h.gaps.0 in let z : 1 ≤ r.start + skip = omega (arith, a) in z,
        let z : 0 < r.n - skip = omega arith in z,
        apart_less (r.start + skip + (r.n - skip) + 1) (r.start + r.n + 1) rs (omega arith) h.gaps.2,
      );
      bounded = ((let z : r.start + skip + (r.n - skip) ≤ 2 ^ 31 = omega (arith, b) in z), h.bounded.1);
      fewer = omega (arith, f);
    }

-- the same at the list's first place
pub past_at : (old : List Span) (k : ℕ) (list : List Span) (skip : ℕ) (f : Span) → IsTrimming old k list skip → 0 < length list
    → f ≡ slice_index_or list 0 f → f.n ≤ skip → IsTrimming old k (remove list 0) (skip - f.n)
past_at old k [] skip f h some e le = absurd (omega (arith, some))
past_at old k (r ∷ rs) skip f h some e le =
    subst (λ x. IsTrimming old k rs (skip - x.n)) (sym e) (trim_past old k r rs skip h (subst (λ x. x.n ≤ skip) e le))

pub cut_at : (old : List Span) (k : ℕ) (list : List Span) (skip : ℕ) (f : Span) → IsTrimming old k list skip → 0 < length list
    → f ≡ slice_index_or list 0 f → skip < f.n
    → IsTrimming old k (slice_set list 0 (record { start = f.start + skip; n = f.n - skip })) 0
cut_at old k [] skip f h some e lt = absurd (omega (arith, some))
cut_at old k (r ∷ rs) skip f h some e lt =
    subst (λ x. IsTrimming old k (record { start = x.start + skip; n = x.n - skip } ∷ rs) 0) (sym e)
    (trim_cut old k r rs skip h (subst (λ x. skip < x.n) e lt))
