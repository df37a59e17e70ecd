-- Lines of a text.
use Rattle.std.specs.Prelude.{ℕ, List, ◌++◌, codes}
use Rattle.std.specs.List.{flat_map}

-- a line with its line feed
abbrev pub ended_line : List ℕ → List ℕ
ended_line line = line ++ codes "\n"

-- lines, each with its line feed
abbrev pub ended : List (List ℕ) → List ℕ
ended lines = flat_map ended_line lines
