-- The head of the view: the lines of each target's sets, and why its connection stopped.
use Rattle.std.specs.Prelude.{ℕ, ◌+◌, ◌==◌, ◌||◌, if◌then◌else◌, Option, Some, None, List, [], ◌∷◌, ◌++◌, codes, length, map, take, drop, slice_get}
use Rattle.zknow.specs.declared.fact.Fact.{Fact}
use Rattle.zknow.specs.declared.tables.keys.SetKey.{SetKey}
use Rattle.zknow_stops.specs.declared.detail.Detail.{Detail}
use Rattle.zknow_stops.specs.declared.stop.Stop.{Stop}
use Rattle.zknow_stops.specs.Details.{detail_words, is_unreached}
use Rattle.zknow_titles.specs.Blocks.{block_line, filled_in}
use Rattle.zknow_titles.specs.Names.{name_or_number}

-- ---- one target

-- `not reached (no such name)`, `silent for 30 s`
abbrev pub stop_words : Detail → List ℕ
stop_words d = if is_unreached d then codes "not reached (" ++ detail_words d ++ codes ")" else detail_words d

-- why the connection of a target stopped, as a line of its own
abbrev pub stop_line : List (List ℕ) → ℕ → Detail → List ℕ
stop_line shown target d = name_or_number target (slice_get shown target) ++ codes ": " ++ stop_words d

-- why it stopped, behind the line of a set
abbrev pub then_words : Detail → List ℕ
then_words d = codes "; then " ++ detail_words d

-- words, if no set is left
abbrev pub if_last : List ℕ → List SetKey → List ℕ
if_last words [] = words
if_last words (b ∷ bs) = []

-- The lines of sets, with words behind the last. `filled` says at how many positions of each set a record is shown.
abbrev pub lines_then : (SetKey → ℕ) → List (List ℕ) → List Fact → List ℕ → List SetKey → List (List ℕ)
lines_then filled shown facts words [] = []
lines_then filled shown facts words (b ∷ bs) =
    (block_line filled shown facts b ++ if_last words bs) ∷ lines_then filled shown facts words bs

-- The lines of a target that stopped: those of its sets, and why it stopped. If the target was reached and has a set,
-- that stands behind the last line, else in a line of its own.
abbrev pub stopped_lines_with : (SetKey → ℕ) → List (List ℕ) → List Fact → ℕ → Detail → List SetKey → List (List ℕ)
stopped_lines_with filled shown facts target d sets =
    if is_unreached d || length sets == 0 then map (block_line filled shown facts) sets ++ stop_line shown target d ∷ []
    else lines_then filled shown facts (then_words d) sets

-- the lines of a target with these sets, which stopped or did not
abbrev pub target_lines_with : (SetKey → ℕ) → List (List ℕ) → List Fact → ℕ → Option Stop → List SetKey
    → List (List ℕ)
target_lines_with filled shown facts target None sets = map (block_line filled shown facts) sets
target_lines_with filled shown facts target (Some s) sets =
    stopped_lines_with filled shown facts target s.detail sets

-- ---- all targets

-- how many sets in front are of this target
abbrev pub front_count : ℕ → List SetKey → ℕ
front_count target [] = 0
front_count target (b ∷ bs) = if b.target == target then front_count target bs + 1 else 0

-- The lines of this target and those after it, with their stops and their sets. Sets are by target: those of this
-- target stand in front.
abbrev pub head_lines_with : (SetKey → ℕ) → List (List ℕ) → List Fact → ℕ → List (Option Stop) → List SetKey
    → List (List ℕ)
head_lines_with filled shown facts target [] sets = map (block_line filled shown facts) sets
head_lines_with filled shown facts target (s ∷ stops) sets =
    target_lines_with filled shown facts target s (take (front_count target sets) sets)
    ++ head_lines_with filled shown facts (target + 1) stops (drop (front_count target sets) sets)

-- ---- the records of the facts are shown

abbrev pub stopped_lines : List (List ℕ) → List Fact → ℕ → Detail → List SetKey → List (List ℕ)
stopped_lines shown facts target d sets = stopped_lines_with (filled_in facts) shown facts target d sets

abbrev pub target_lines : List (List ℕ) → List Fact → ℕ → Option Stop → List SetKey → List (List ℕ)
target_lines shown facts target s sets = target_lines_with (filled_in facts) shown facts target s sets

abbrev pub head_lines : List (List ℕ) → List Fact → ℕ → List (Option Stop) → List SetKey → List (List ℕ)
head_lines shown facts target stops sets = head_lines_with (filled_in facts) shown facts target stops sets
