-- the lines of the databases so far
use Rattle.std.proofs.Common.{◌≡◌, ◌++◌, take}
use Rattle.zapdu_lines.specs.Searches.{searched_database_lines}
use Rattle.zapdu_lines.proofs.search.put_databases.Given as goal

abbrev pub invariant-loop-name : goal.invariant-loop-name
invariant-loop-name l = l.text.items ≡ l.initial.text.items ++ searched_database_lines (take l.name-index l.names)
