-- A world file that is printed says the world, but for the numbers of lines.
use Rattle.std.specs.Prelude.{◌≡◌, ℕ, false, List, [], ◌∷◌, ◌++◌, map, Some, None}
use Rattle.zmeta_world.specs.declared.world.World.{World}
use Rattle.zmeta_world.specs.declared.world.NamedHost.{NamedHost}
use Rattle.zmeta_world.specs.declared.world.AskedQuestion.{AskedQuestion}
use Rattle.zmeta_world.specs.InMemoryRuns.{IsFit}
use Rattle.zmeta_world.specs.Worlds.{is_among, host_names, asked_names, end_of, IsWorld}
use Rattle.zmeta_conversions.specs.Worlds.{unsaid, world_text, AreReadable}

-- none of the names is among those before it
abbrev pub AreNew : List (List ℕ) → List (List ℕ) → Type 0
AreNew before [] = Unit {0}
AreNew before (name ∷ names) = (is_among name before ≡ false) × AreNew (before ++ name ∷ []) names

-- each question goes to the host of its name
abbrev pub AreAtHosts : List NamedHost → List AskedQuestion → Type 0
AreAtHosts hosts [] = Unit {0}
AreAtHosts hosts (q ∷ qs) = (end_of q.name [] hosts ≡ Some q.end) × AreAtHosts hosts qs

-- a world of hosts alone, whose names differ, with questions to them, one each
pub record IsOfHosts (w : World) : Type 0 where
  pub targets : w.targets ≡ []
  pub moves : w.moves ≡ []
  pub hosts : AreNew [] (host_names w.hosts)
  pub asked : AreNew [] (asked_names w.questions)
  pub ends : AreAtHosts w.hosts w.questions

-- the question, on no line
abbrev pub unlined : AskedQuestion → AskedQuestion
unlined q = record q { line = 0 }

-- the worlds are the same, but for the lines of questions
pub record IsSameButLines (w v : World) : Type 0 where
  pub step : v.step ≡ w.step
  pub window : v.window ≡ w.window
  pub targets : v.targets ≡ w.targets
  pub hosts : v.hosts ≡ w.hosts
  pub questions : map unlined v.questions ≡ map unlined w.questions
  pub moves : v.moves ≡ w.moves

-- the text is a world file that says this world
pub record SaysWorld (w : World) (text : List ℕ) : Type 0 where
  pub world : World
  pub reads : IsWorld text world
  pub same : IsSameButLines w world

-- the world file of a world says this world, if it can be said
abbrev pub ReadAgain : Type 0
ReadAgain =
    (w : World) → IsFit w → IsOfHosts w → AreReadable w.questions → unsaid w ≡ None → SaysWorld w (world_text w)
