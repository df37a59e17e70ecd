-- What stands before, and from, the first place at which a test passes.
use Rattle.std.proofs.Common.{◌≡◌, ◌∙◌, sym, ap, refl, ℕ, ◌<◌, ◌≤◌, Bool, true, false, ltb, cond, Option, Some, None, List, [], length, take, drop, arith}
use Rattle.std.specs.List.{position, position_or_len, before_first}
use Rattle.zmeta_explain.specs.Places.{from_first}
use Rattle.std.proofs.lemmas.Bool.{ltb-false}
use Rattle.std.proofs.lemmas.List.{take_all, drop_all}

place : (b : Bool) (n i : ℕ) → Some i ≡ cond b (Some n) None → i ≡ n
place true n i e = cc
place false n i e = cc

none : (b : Bool) (n : ℕ) → None ≡ cond b (Some n) None → b ≡ false
none true n e = cc
none false n e = refl

pub before_place : (p : ℕ → Bool) (xs : List ℕ) (r : Option ℕ) (i : ℕ) → r ≡ position p xs → r ≡ Some i
    → take i xs ≡ before_first p xs
before_place p xs r i e is =
    ap (λ n. take n xs) (place (ltb (position_or_len p xs) (length xs)) (position_or_len p xs) i (sym is ∙ e))

pub before_none : (p : ℕ → Bool) (xs : List ℕ) (r : Option ℕ) → r ≡ position p xs → r ≡ None
    → xs ≡ before_first p xs
before_none p xs r e is =
    sym (take_all (position_or_len p xs) xs (ltb-false _ _ (none (ltb (position_or_len p xs) (length xs)) (position_or_len p xs) (sym is ∙ e))))

pub from_place : (p : ℕ → Bool) (xs : List ℕ) (r : Option ℕ) (i : ℕ) → r ≡ position p xs → r ≡ Some i
    → drop i xs ≡ from_first p xs
from_place p xs r i e is =
    ap (λ n. drop n xs) (place (ltb (position_or_len p xs) (length xs)) (position_or_len p xs) i (sym is ∙ e))

pub from_none : (p : ℕ → Bool) (xs : List ℕ) (r : Option ℕ) → r ≡ position p xs → r ≡ None
    → [] ≡ from_first p xs
from_none p xs r e is =
    sym (drop_all (position_or_len p xs) xs (ltb-false _ _ (none (ltb (position_or_len p xs) (length xs)) (position_or_len p xs) (sym is ∙ e))))
