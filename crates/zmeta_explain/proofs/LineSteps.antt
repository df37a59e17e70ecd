-- Lines, one after the other.
use Rattle.std.proofs.Common.{◌≡◌, refl, ℕ, zero, suc, ◌-◌, ◌<◌, Bool, true, false, List, [], ◌∷◌, length, arith}
use Rattle.std.specs.Prelude.{◌||◌}
use Rattle.std.specs.List.{before_first}
use Rattle.std.proofs.lemmas.Bool.{or_left}
use Rattle.zmeta_explain.specs.Places.{is_feed}
use Rattle.zmeta_explain.specs.Lines.{defines, behind_line, defined_in, lines_from}

or_false : (a b : Bool) → a ≡ false → (a || b) ≡ b
or_false a b h = rw h refl

pub next_lines : (n : ℕ) (w : List ℕ) → 0 < n → lines_from n w ≡ lines_from (n - 1) (behind_line w)
next_lines zero w h = absurd (omega arith)
next_lines (suc n) w h = let e : suc n - 1 ≡ n = omega arith in rw e refl

pub no_lines : (n : ℕ) (w : List ℕ) → length w ≡ 0 → lines_from n w ≡ []
no_lines zero [] h = refl
no_lines (suc n) [] h = no_lines n [] refl
no_lines n (x ∷ w) h = absurd (omega (arith, h))

pub next_defined : (n : ℕ) (w name : List ℕ) → 0 < n → defines (before_first is_feed w) name ≡ false
    → defined_in n w name ≡ defined_in (n - 1) (behind_line w) name
next_defined zero w name h fails = absurd (omega arith)
next_defined (suc n) w name h fails = let e : suc n - 1 ≡ n = omega arith in rw e (or_false (defines (before_first is_feed w) name) (defined_in n (behind_line w) name) fails)

pub found : (n : ℕ) (w name : List ℕ) → 0 < n → defines (before_first is_feed w) name ≡ true
    → defined_in n w name ≡ true
found zero w name h holds = absurd (omega arith)
found (suc n) w name h holds =
    or_left (defines (before_first is_feed w) name) (defined_in n (behind_line w) name) holds

pub none_defined : (n : ℕ) (w name : List ℕ) → length w ≡ 0 → defined_in n w name ≡ false
none_defined zero w name h = refl
none_defined (suc n) [] name h = none_defined n [] name refl
none_defined (suc n) (x ∷ w) name h = absurd (omega (arith, h))
