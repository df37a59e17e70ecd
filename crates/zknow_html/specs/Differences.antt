-- Where the descriptions of the records at one position differ.
use Rattle.std.specs.Prelude.{ℕ, ◌||◌, Bool, false, not, if◌then◌else◌, List, [], ◌∷◌, ◌++◌, codes}
use Rattle.std.specs.Cmp.Lexicographic.{pointwise}
use Rattle.std.specs.List.{list_any}
use Rattle.std.specs.Str.{bytes_eq}
use Rattle.zknow_html.specs.declared.differences.Differences.{Differences}

-- what is shown of a record: texts, the lines of its copies, and those of all its fields
pub record DescriptionTexts : Type 0 where
  pub year : List ℕ
  pub title : List ℕ
  pub author : List ℕ
  pub isbn : List ℕ
  pub copies : List (List ℕ)
  pub lines : List (List ℕ)

-- no part differs
abbrev pub no_differences : Differences
no_differences =
    record { year = false; title = false; author = false; isbn = false; copies = false; lines = false }

-- not each of the others has the text of the first
abbrev pub is_other_text : (DescriptionTexts → List ℕ) → DescriptionTexts → List DescriptionTexts → Bool
is_other_text part first others = list_any (λ d. not (bytes_eq (part first) (part d))) others

-- not each of the others has the lines of the first
abbrev pub are_other_lines : (DescriptionTexts → List (List ℕ)) → DescriptionTexts → List DescriptionTexts → Bool
are_other_lines part first others = list_any (λ d. not (pointwise bytes_eq (part first) (part d))) others

-- the parts that not all have alike
abbrev pub differences : DescriptionTexts → List DescriptionTexts → Differences
differences first others = record {
  year = is_other_text (λ d. d.year) first others;
  title = is_other_text (λ d. d.title) first others;
  author = is_other_text (λ d. d.author) first others;
  isbn = is_other_text (λ d. d.isbn) first others;
  copies = are_other_lines (λ d. d.copies) first others;
  lines = are_other_lines (λ d. d.lines) first others;
}

-- parts that are among these or those
abbrev pub united : Differences → Differences → Differences
united a b = record {
  year = a.year || b.year;
  title = a.title || b.title;
  author = a.author || b.author;
  isbn = a.isbn || b.isbn;
  copies = a.copies || b.copies;
  lines = a.lines || b.lines;
}

-- ---- in words

-- the name of a part, if it differs
abbrev pub name_if : Bool → List ℕ → List (List ℕ)
name_if other name = if other then name ∷ [] else []

-- the names of the parts that differ
unfoldable pub difference_names : Differences → List (List ℕ)
difference_names d =
    name_if d.year (codes "year") ++ name_if d.title (codes "title") ++ name_if d.author (codes "author")
    ++ name_if d.isbn (codes "ISBN") ++ name_if d.copies (codes "copies") ++ name_if d.lines (codes "fields")
