-- A type and a value, before and behind an equals sign.
use Rattle.std.proofs.Common.{◌≡◌, refl, sym, ◌∙◌, ap, ℕ, ◌+◌, ◌-◌, List, [], length, take, drop, Option, Some, None, arith}
use Rattle.std.proofs.Math.ListN.{drop_of_length-le}
use Rattle.std.proofs.lemmas.List.{length-drop, take_all}
use Rattle.std.specs.List.{position, before_first, after_first}
use Rattle.zquery.specs.Notation.Numbers.{number_of_text}
use Rattle.zquery.specs.Notation.Values.{is_equals, most, pair_of, numbers_of}
use Rattle.zquery.proofs.PutLemmas.{position-is, position-none}

pair-none : (o : Option ℕ) → pair_of o None ≡ None
pair-none None = refl
pair-none (Some n) = refl

empty-number : number_of_text most [] ≡ None
unfolding number_of_text
empty-number = refl

pub no-pair : (text : List ℕ) → position is_equals text ≡ None → numbers_of text ≡ None
unfolding numbers_of
no-pair text h =
    let nothing : after_first is_equals text ≡ [] = drop_of_length-le text (omega (arith, position-none is_equals text h)) in
    ap (λ (xs : List ℕ). pair_of (number_of_text most (before_first is_equals text)) (number_of_text most xs)) nothing
    ∙ ap (pair_of (number_of_text most (before_first is_equals text))) empty-number ∙ pair-none (number_of_text most (before_first is_equals text))

-- the numbers are read before and behind the place
pub pair-at : (text : List ℕ) (at : ℕ) → position is_equals text ≡ Some at → numbers_of text ≡ pair_of (number_of_text most (take at text)) (number_of_text most (take (length text - (at + 1)) (drop (at + 1) text)))
unfolding numbers_of
pair-at text at h =
    ap (λ (i : ℕ). pair_of (number_of_text most (take i text)) (number_of_text most (drop (i + 1) text))) (position-is is_equals text at h).0
    ∙ ap (λ (xs : List ℕ). pair_of (number_of_text most (take at text)) (number_of_text most xs)) (sym (take_all (length text - (at + 1)) (drop (at + 1) text) (omega (arith, length-drop (at + 1) text))))

pub some-pair : (a b : Option ℕ) (m n : ℕ) → a ≡ Some m → b ≡ Some n → pair_of a b ≡ Some (m, n)
some-pair a b m n g h = ap (λ (x : Option ℕ). pair_of x b) g ∙ ap (λ (y : Option ℕ). pair_of (Some m) y) h

pub first-missing : (a b : Option ℕ) → a ≡ None → pair_of a b ≡ None
first-missing a b g = ap (λ (x : Option ℕ). pair_of x b) g

pub second-missing : (a b : Option ℕ) → b ≡ None → pair_of a b ≡ None
second-missing a b h = ap (pair_of a) h ∙ pair-none a
