-- How lines, and the parts of descriptions, are compared.
use Rattle.std.proofs.Common.{◌≡◌, ℕ, Bool, List, [], ◌∷◌, ◌&&◌, ◌||◌, ◌+◌, zero, suc, drop, true, false, not, map, None, Some, String, string_bytes, string_eq, refl, ap, sym, ◌∙◌}
use Rattle.std.specs.List.{slice_get}
use native.Mathlib.Numerals.{unary_clauses}
use Rattle.std.specs.Cmp.Lexicographic.{pointwise}
use Rattle.std.specs.Str.{bytes_eq}
use Rattle.zknow_html.specs.declared.differences.Differences.{Differences}
use Rattle.zknow_html.specs.Differences.{DescriptionTexts, differences, united}

pub lines_equal : {A : Type 0} (xs ys : List (String A)) (r : Bool) → r ≡ pointwise string_eq xs ys
    → r ≡ pointwise bytes_eq (map string_bytes xs) (map string_bytes ys)
lines_equal [] [] r h = h
lines_equal [] (y ∷ ys) r h = h
lines_equal (x ∷ xs) [] r h = h
lines_equal (x ∷ xs) (y ∷ ys) r h =
    h ∙ ap (λ b. bytes_eq (string_bytes x) (string_bytes y) && b) (lines_equal xs ys _ refl)

or_none : (a : Bool) → (a || false) ≡ a
or_none true = refl
or_none false = refl

or_step : (a b c : Bool) → ((a || (b || false)) || c) ≡ (a || (b || c))
or_step true b c = refl
or_step false true c = refl
or_step false false c = refl

-- the first of the others, and then the rest of them
pub united_step : (a : Differences) (first d : DescriptionTexts) (rest : List DescriptionTexts)
    → united (united a (differences first (d ∷ []))) (differences first rest)
    ≡ united a (differences first (d ∷ rest))
united_step a first d rest = λ i. record {
  year = or_step a.year (not (bytes_eq first.year d.year)) (differences first rest).year i;
  title = or_step a.title (not (bytes_eq first.title d.title)) (differences first rest).title i;
  author = or_step a.author (not (bytes_eq first.author d.author)) (differences first rest).author i;
  isbn = or_step a.isbn (not (bytes_eq first.isbn d.isbn)) (differences first rest).isbn i;
  copies = or_step a.copies (not (pointwise bytes_eq first.copies d.copies)) (differences first rest).copies i;
  lines = or_step a.lines (not (pointwise bytes_eq first.lines d.lines)) (differences first rest).lines i;
}

-- the one at an index, and then those behind it
pub step_at : (a : Differences) (first d : DescriptionTexts) (others : List DescriptionTexts) (k : ℕ)
    → slice_get others k ≡ Some d
    → united (united a (differences first (d ∷ []))) (differences first (drop (k + 1) others))
    ≡ united a (differences first (drop k others))
step_at a first d [] k is = absurd (let no : None ≡ Some d = is in cc)
step_at a first d (x ∷ xs) zero is =
    let same : x ≡ d = cc in
    united_step a first d xs ∙ ap (λ y. united a (differences first (y ∷ xs))) (sym same)
step_at a first d (x ∷ xs) (suc k) is = simp unary_clauses (simp unary_clauses at (step_at a first d xs k is))

-- none of the others
pub united_none : (a : Differences) (first : DescriptionTexts) → united a (differences first []) ≡ a
united_none a first = λ i. record {
  year = or_none a.year i;
  title = or_none a.title i;
  author = or_none a.author i;
  isbn = or_none a.isbn i;
  copies = or_none a.copies i;
  lines = or_none a.lines i;
}
