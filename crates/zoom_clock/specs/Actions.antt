-- What is to be done for which connection.
use Rattle.std.specs.Prelude.{◌≡◌, ℕ, List, ◌++◌, map}
use Rattle.zoom_clock.specs.declared.action.Action.{Action}
use Rattle.zoom_clock.specs.declared.action.Task.{Task}

-- the task is for connection c
abbrev pub for_connection : ℕ → Task → Action
for_connection c task = record { c = c; task = task }

-- these tasks are for connection c
abbrev pub all_for : ℕ → List Task → List Action
all_for c tasks = map (for_connection c) tasks

-- these tasks were added for connection c, behind all others
abbrev pub AreAdded : ℕ → List Task → List Action → List Action → Type 0
AreAdded c tasks old new = new ≡ old ++ all_for c tasks
