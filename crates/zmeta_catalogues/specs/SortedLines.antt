-- The lines of a file in the order of what they begin with.
use Rattle.std.specs.Prelude.{◌≡◌, ℕ, ◌+◌, ◌<◌, ◌≤◌, Bool, true, false, List, [], length, take, drop, slice_index_or, nat_le, if◌then◌else◌, Option, Some, None, IsPermutation}
use Rattle.std.specs.List.{AllWithin}
use Rattle.std.specs.List.Sorted.{IsSortedBy}
use Rattle.std.specs.Cmp.Lexicographic.{slice_cmp}
use Rattle.std.specs.Ordering.{nat_cmp, is_lt}
use Rattle.std.specs.declared.cmp.Ordering.{Ordering}
use Rattle.zmeta_catalogues.specs.Lines.{behind_front, ends_key, lines_of}
use Rattle.zmeta_catalogues.specs.declared.sorted_lines.Line.{Line}
use Rattle.zmeta_catalogues.specs.declared.sorted_lines.Source.{Source}

-- the line at this place has this front and number
pub record IsNumbered (lines : List (List ℕ)) (at : ℕ) (l : Line) : Type 0 where
  pub number : l.number ≡ at + 1
  pub rest : l.rest.now ≡ behind_front (slice_index_or lines at [])

-- these are the lines, numbered from 1
pub record AreNumbered (lines : List (List ℕ)) (ls : List Line) : Type 0 where
  pub as_many : length ls ≡ length lines
  pub are : (at : ℕ) (d : Line) → at < length ls → IsNumbered lines at (slice_index_or ls at d)

-- no line comes before one that it is less than
abbrev pub AreInOrder : List Line → Type 0
AreInOrder ls = IsSortedBy (λ a b. is_lt (slice_cmp nat_cmp a.rest.now b.rest.now)) ls

-- these are the lines of the text, in order
pub record AreSorted (text : List ℕ) (ls : List Line) : Type 0 where
  pub numbered : List Line
  pub are : AreNumbered (lines_of text) numbered
  pub same : IsPermutation numbered ls
  pub order : AreInOrder ls

-- the lines are those of the text
abbrev pub IsSource : Source → Type 0
IsSource s = AreSorted s.text.now s.lines.items

-- how a line, up to the length of the name, compares with the name
abbrev pub order_to : List ℕ → Line → Ordering
order_to name l = slice_cmp nat_cmp (take (length name) l.rest.now) name

-- no octet of a bare key follows the first octets of the line, as many as these
abbrev pub ends_name : ℕ → Line → Bool
ends_name len l = ends_key (drop len l.rest.now)

-- the lesser of the numbers
abbrev pub lesser : Option ℕ → ℕ → ℕ
lesser None number = number
lesser (Some n) number = if nat_le n number then n else number

-- a line in this range passes the test, and has this number; no other that passes it has a lesser one
pub record IsLeastNumber (test : Line → Bool) (ls : List Line) (from to n : ℕ) : Type 0 where
  pub at : ℕ
  pub low : from ≤ at
  pub high : at < to
  pub passes : (d : Line) → test (slice_index_or ls at d) ≡ true
  pub number : (d : Line) → (slice_index_or ls at d).number ≡ n
  pub least : AllWithin (λ l. test l ≡ true → n ≤ l.number) ls from to

-- the least number of the lines in this range that pass the test
abbrev pub IsLeast : (Line → Bool) → List Line → ℕ → ℕ → Option ℕ → Type 0
IsLeast test ls from to None = AllWithin (λ l. test l ≡ false) ls from to
IsLeast test ls from to (Some n) = IsLeastNumber test ls from to n
