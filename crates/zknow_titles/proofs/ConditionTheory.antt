-- The code's tables of conditions are the standard's.
use Rattle.std.proofs.Common.{◌≡◌, ℕ, ℤ, pos, Bool, true, false, cond, Bor, List, [], ◌∷◌, ◌++◌, map, Option, Some, None, refl, sym, ap, ap₂, ◌∙◌}
use Rattle.std.specs.Option.{option_copied, option_or}
use Rattle.std.specs.Ordering.{int_eq}
use Rattle.zknow_titles.specs.declared.conditions.TheConstants.{FROM_1, FROM_100, FROM_201, FROM_1001, FROM_1040}
use Rattle.zknow_titles.specs.ConditionTable.{conditions}
use Rattle.zknow_titles.specs.Conditions.{words_in, condition_words}

abbrev Entries : Type 0
Entries = List (ℕ × List ℕ)

-- ---- the tables

abbrev from_1 : Entries
from_1 = map (λ e. (e.0, e.1.now)) FROM_1

abbrev from_100 : Entries
from_100 = map (λ e. (e.0, e.1.now)) FROM_100

abbrev from_201 : Entries
from_201 = map (λ e. (e.0, e.1.now)) FROM_201

abbrev from_1001 : Entries
from_1001 = map (λ e. (e.0, e.1.now)) FROM_1001

abbrev from_1040 : Entries
from_1040 = map (λ e. (e.0, e.1.now)) FROM_1040

same_tables : (((from_1 ++ from_100) ++ from_201) ++ from_1001) ++ from_1040 ≡ conditions
unfolding conditions
same_tables = refl

-- ---- one table after another

found_or : (b : Bool) (w : List ℕ) (p q : Option (List ℕ))
    → cond b (Some w) (option_or p q) ≡ option_or (cond b (Some w) p) q
found_or true w p q = refl
found_or false w p q = refl

words_in-append : (xs ys : Entries) (n : ℤ) → words_in (xs ++ ys) n ≡ option_or (words_in xs n) (words_in ys n)
words_in-append [] ys n = refl
words_in-append (e ∷ es) ys n =
    ap (λ p. cond (int_eq (pos e.0) n) (Some e.1) p) (words_in-append es ys n)
    ∙ found_or (int_eq (pos e.0) n) e.1 (words_in es n) (words_in ys n)

copied_or : (p q : Option (Bor (List ℕ)))
    → option_copied (option_or p q) ≡ option_or (option_copied p) (option_copied q)
copied_or None q = refl
copied_or (Some w) q = refl

-- what two tables have, each in turn
pub more_words : (xs ys : Entries) (n : ℤ) (r p q : Option (Bor (List ℕ))) → r ≡ option_or p q
    → option_copied p ≡ words_in xs n → option_copied q ≡ words_in ys n → option_copied r ≡ words_in (xs ++ ys) n
more_words xs ys n r p q e h k =
    ap option_copied e ∙ copied_or p q ∙ ap₂ option_or h k ∙ sym (words_in-append xs ys n)

-- what all tables have
pub all_words : (n : ℤ) (a b c d : Option (Bor (List ℕ))) (p q r s t : Option (Bor (List ℕ)))
    → a ≡ option_or p q → b ≡ option_or a r → c ≡ option_or b s → d ≡ option_or c t
    → option_copied p ≡ words_in from_1 n → option_copied q ≡ words_in from_100 n
    → option_copied r ≡ words_in from_201 n
    → option_copied s ≡ words_in from_1001 n → option_copied t ≡ words_in from_1040 n
    → option_copied d ≡ condition_words n
unfolding condition_words
all_words n a b c d p q r s t ea eb ec ed ep eq er es et =
    let two = more_words from_1 from_100 n a p q ea ep eq in
    let three = more_words (from_1 ++ from_100) from_201 n b a r eb two er in
    let four = more_words ((from_1 ++ from_100) ++ from_201) from_1001 n c b s ec three es in
    let five = more_words (((from_1 ++ from_100) ++ from_201) ++ from_1001) from_1040 n d c t ed four et in
    five ∙ ap (λ table. words_in table n) same_tables
