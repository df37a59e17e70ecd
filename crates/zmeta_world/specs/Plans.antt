-- A world file, with one search put to its questions, has one network plan.
use Rattle.std.specs.Prelude.{◌≡◌, ℕ, List}
use Rattle.zmeta_world.specs.declared.world.World.{World}
use Rattle.zmeta_world.specs.declared.network.NetworkRun.{NetworkRun}
use Rattle.zmeta_world.specs.NetworkRuns.{IsNetworkRun}
use Rattle.zmeta_world.specs.Search.{SearchTexts, IsWorldWith}
use Rattle.zmeta_world.specs.Worlds.{IsWorld}

-- the plan of a world file, by an origin of this name, once the search is put to its questions
pub record IsPlanOf (name : List ℕ) (search : SearchTexts) (file : List ℕ) (e : NetworkRun) : Type 0 where
  pub said : World
  pub put : World
  pub world : IsWorld file said
  pub searched : IsWorldWith search said put
  pub plan : IsNetworkRun name put e

abbrev pub PlanLaw : Type 0
PlanLaw =
    (name : List ℕ) (search : SearchTexts) (file : List ℕ) (d e : NetworkRun)
    → IsPlanOf name search file d → IsPlanOf name search file e → d ≡ e
