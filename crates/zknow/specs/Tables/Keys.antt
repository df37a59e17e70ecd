-- The orders of the keys of the tables, and marks.
use Rattle.std.specs.Prelude.{◌≡◌, ◌↔◌, ℕ, ℤ, Bool, true, false, ⊤, IsTrue}
use Rattle.std.proofs.Common.{ap, refl}
use mathlib.Core.Bool.{false≢true}
use Rattle.std.specs.declared.cmp.Ordering.{Ordering}
use Rattle.std.specs.declared.cmp.Ordering.TheVariants.{Equal}
use Rattle.std.specs.Cmp.{IsTotalOrder}
use Rattle.std.specs.Ordering.{nat_cmp, int_cmp, ordering_then}
use Rattle.std.proofs.lemmas.Cmp.{on_total, then_total, nat_cmp_total, int_cmp_total}
use Rattle.std.proofs.lemmas.Map.Lookups.{exact_pairs, exact_unsigned, exact_signed}
use Rattle.zknow.specs.declared.tables.keys.Mark.{Mark}
use Rattle.zknow.specs.declared.tables.keys.SetKey.{SetKey}
use Rattle.zknow.specs.declared.tables.keys.RowKey.{RowKey}

-- by target, then set
abbrev pub set_cmp : SetKey → SetKey → Ordering
set_cmp a b = ordering_then (nat_cmp a.target b.target) (nat_cmp a.set b.set)

pub set_exact : (a b : SetKey) → set_cmp a b ≡ Equal → a ≡ b
set_exact a b h =
    ap (λ (p : ℕ × ℕ). record { target = p.0; set = p.1 })
    (exact_pairs nat_cmp nat_cmp exact_unsigned exact_unsigned (a.target, a.set) (b.target, b.set) h)

pub set_total : IsTotalOrder set_cmp
set_total = then_total (on_total (λ s. s.target) nat_cmp_total) (on_total (λ s. s.set) nat_cmp_total)

-- by position, then target, then set
abbrev pub row_cmp : RowKey → RowKey → Ordering
row_cmp a b =
    ordering_then (int_cmp a.position b.position) (ordering_then (nat_cmp a.target b.target) (nat_cmp a.set b.set))

pub row_exact : (a b : RowKey) → row_cmp a b ≡ Equal → a ≡ b
row_exact a b h = ap (λ (p : ℤ × (ℕ × ℕ)). record { position = p.0; target = p.1.0; set = p.1.1 })
    (exact_pairs int_cmp (λ (x y : ℕ × ℕ). ordering_then (nat_cmp x.0 y.0) (nat_cmp x.1 y.1)) exact_signed
    (exact_pairs nat_cmp nat_cmp exact_unsigned exact_unsigned)
    (a.position, (a.target, a.set)) (b.position, (b.target, b.set)) h)

pub row_total : IsTotalOrder row_cmp
row_total =
    then_total (on_total (λ s. s.position) int_cmp_total)
    (then_total (on_total (λ s. s.target) nat_cmp_total) (on_total (λ s. s.set) nat_cmp_total))

-- the mark has its one item
abbrev pub IsMarked : Mark → Unit {0} → Type 0
IsMarked m x = IsTrue m.is_set

-- each mark is lawful
abbrev pub IsAnyMark : Mark → Type 0
IsAnyMark m = ⊤

same_bools : (a b : Bool) → (IsTrue a ↔ IsTrue b) → a ≡ b
same_bools true true h = refl
same_bools true false h = absurd (false≢true (h.0 refl))
same_bools false true h = absurd (false≢true (h.1 refl))
same_bools false false h = refl

pub same_marks : (a b : Mark) → IsAnyMark a → IsAnyMark b → ((x : Unit {0}) → IsMarked a x ↔ IsMarked b x) → a ≡ b
same_marks a b la lb h = ap (λ (v : Bool). record { is_set = v }) (same_bools a.is_set b.is_set (h tt))
