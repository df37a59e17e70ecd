-- A choice by a test, and what a test tells.
use Rattle.std.proofs.Common.{◌≡◌, ℕ, ◌<◌, ◌≤◌, ◌==◌, Bool, true, false, cond, ◌||◌, not, nat_le, inl, inr, refl, arith}
use Rattle.std.proofs.lemmas.Bool.Decides.{nat_tests, eqb_tells}

-- what holds of both holds of the one that a test chooses
pub at_either : {A : Type 0} (P : A → Type 0) (b : Bool) (u v : A) → (b ≡ true → P u) → (b ≡ false → P v)
    → P (cond b u v)
at_either P true u v on off = on refl
at_either P false u v on off = off refl

-- tests that are joined and turned round
pub or_true : (b c : Bool) → c ≡ true → (b || c) ≡ true
or_true true c h = refl
or_true false c h = h

pub not_true : (b : Bool) → b ≡ false → not b ≡ true
not_true true h = cc
not_true false h = refl

pub from_not_true : (b : Bool) → not b ≡ true → b ≡ false
from_not_true true h = cc
from_not_true false h = refl

pub from_not_false : (b : Bool) → not b ≡ false → b ≡ true
from_not_false true h = refl
from_not_false false h = cc

-- what the tests of times tell
pub comes : (t now : ℕ) → nat_le t now ≡ true → t ≤ now
comes t now h = grind (arith, nat_tests)

pub comes_not : (t now : ℕ) → nat_le t now ≡ false → now < t
comes_not t now h = grind (arith, nat_tests)

pub has_come : (t now : ℕ) → t ≤ now → nat_le t now ≡ true
has_come t now h = grind (arith, nat_tests)

pub has_not_come : (t now : ℕ) → now < t → nat_le t now ≡ false
has_not_come t now h = grind (arith, nat_tests)

-- what a test of two numbers tells
pub same_number : (k m : ℕ) → (k == m) ≡ true → k ≡ m
same_number k m h = elim (eqb_tells k m) [ inl e ↦ e.1 | inr e ↦ let f : (k == m) ≡ false = e.0 in cc ]

pub other_number : (k m : ℕ) → (k == m) ≡ false → k ≡ m → ⊥
other_number k m h e = elim (eqb_tells k m) [ inl s ↦ let f : (k == m) ≡ true = s.0 in cc | inr o ↦ o.1 e ]
