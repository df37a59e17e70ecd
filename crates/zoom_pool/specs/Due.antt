-- The origin admits the calls that are due (Z39.50-2003, 3.2.1.1, 3.2.2.1, 3.2.3.1 and 3.2.11.1).
use Rattle.std.specs.Prelude.{◌≡◌, ◌≤◌, Bool, true, false, List, length, None, Some}
use Rattle.zorigin.specs.declared.settings.Settings.{Settings}
use Rattle.zorigin.specs.declared.refusal.CallRefused.{CallRefused}
use Rattle.zplan.specs.declared.range.Range.{Range}
use Rattle.zorigin.specs.Standings.{Call, Search, Present, is_ready}
use Rattle.zorigin.specs.Ranges.{are_ranges}
use Rattle.zorigin.specs.Calls.{refusal}
use Rattle.zorigin.specs.Log.{Log, Past, past, standing, state_of, opening, force_after}
use Rattle.zoom_pool.specs.declared.phase.Phase.TheVariants as phases
use Rattle.zoom_pool.specs.Steering.{Errand, IsNextCall, is_skip}
use Rattle.zoom_pool.specs.Drivers.{DriverState, IsDriver}

-- a Present can ask for these ranges: at most 1,000, and one range if version 3 is not in force
pub record CanAskFor (three : Bool) (ranges : List Range) : Type 0 where
  pub ascend : are_ranges ranges ≡ true
  pub few : length ranges ≤ 1000
  pub single : three ≡ false → length ranges ≡ 1

-- the ranges of a Present can be asked for; any other call can be made
abbrev pub CanBeCalled : Past → Call → Type 0
CanBeCalled p (Present op set ranges) = CanAskFor (force_after (opening p)).v3 ranges
CanBeCalled p _ = Unit {0}

-- What holds of a connection that is driven for an errand.
pub record DueLaws : Type 0 where
  -- the origin admits a call that is next
  pub admits : (e : Errand) (settings : Settings) (log : Log) (d : DriverState) (call : Call)
      → IsDriver e settings log d → IsNextCall e settings log call → CanBeCalled (past settings log) call
      → refusal (standing (past settings log)) call ≡ None
  -- once the association was accepted, the origin refuses the search only if it is not offered or cannot be sent
  pub skips : (e : Errand) (settings : Settings) (log : Log) (d : DriverState) (present three : Bool)
      (reason : CallRefused)
      → IsDriver e settings log d → d.phase ≡ phases.Opened present three
      → is_ready (state_of (past settings log)) ≡ true
      → refusal (standing (past settings log)) (Search 1 1 e.ask) ≡ Some reason
      → is_skip (Some reason) (Search 1 1 e.ask) ≡ true
