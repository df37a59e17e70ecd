-- The words for the conditions of the diagnostic set bib-1 (Z39.50-2003, Appendix DIAG).
use Rattle.std.specs.Prelude.{ℕ, ℤ, pos, if◌then◌else◌, Option, Some, None, List, [], ◌∷◌}
use Rattle.std.specs.Ordering.{int_eq}
use Rattle.zknow_titles.specs.ConditionTable.{conditions}

-- the words of the first entry of this number
abbrev pub words_in : List (ℕ × List ℕ) → ℤ → Option (List ℕ)
words_in [] n = None
words_in (e ∷ es) n = if int_eq (pos e.0) n then Some e.1 else words_in es n

-- the words for a condition, by its number, where the standard has it
unfoldable pub condition_words : ℤ → Option (List ℕ)
condition_words = words_in conditions
