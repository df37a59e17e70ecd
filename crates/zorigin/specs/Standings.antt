-- The calls, and what the tables of calls and replies use of an origin (Z39.50-2003, 3.2 and 3.4).
use Rattle.std.specs.Prelude.{ℕ, nat_eq, Bool, true, false, List, Option, Some}
use Rattle.std.specs.Map.{lookup}
use Rattle.zorigin.specs.declared.settings.Settings.{Settings}
use Rattle.zorigin.specs.declared.settings.Ask.{Ask}
use Rattle.zplan.specs.declared.range.Range.{Range}
use Rattle.zorigin.specs.declared.answer.Asked.{Asked}
use Rattle.zorigin.specs.declared.state.State.{State}
use Rattle.zorigin.specs.declared.state.State.TheVariants as states
use Rattle.zorigin.specs.declared.state.InForce.{InForce}
use Rattle.zorigin.specs.declared.state.Outcome.{Outcome}
use Rattle.zorigin.specs.declared.state.Outcome.TheVariants as outcomes
use Rattle.zorigin.specs.declared.state.Searched.{Searched}

-- a call: a search has its operation, its set and what it asks for; a Present has its operation, its set and the ranges
-- of its positions
pub data Call : Type 0 where
  Init : Call
  Search : ℕ → ℕ → Ask → Call
  Present : ℕ → ℕ → List Range → Call
  Close : Call

-- the value of an origin, as contracts see it
pub record Standing : Type 0 where
  pub settings : Settings
  pub state : State
  pub force : InForce
  -- the numbers of the operations that were admitted
  pub used : List ℕ
  -- the searches that were admitted, by set, in the order of their calls, each with its outcome
  pub searches : List (ℕ × Searched)
  -- the operations that are admitted and unanswered, by number, in the order of their calls
  pub outstanding : List (ℕ × Asked)

-- no Init was admitted yet, and no other call can be
abbrev pub is_fresh : State → Bool
is_fresh states.Fresh = true
is_fresh _ = false

-- the association was accepted, no Close was admitted or taken, and no reply was refused
abbrev pub is_ready : State → Bool
is_ready (states.Ready v3 concurrent named) = true
is_ready _ = false

-- the origin takes replies
abbrev pub is_open : State → Bool
is_open states.Initialising = true
is_open (states.Ready v3 concurrent named) = true
is_open states.Closing = true
is_open _ = false

-- neither an option nor version 3 is in force, which is so unless the association was accepted
abbrev pub nothing_in_force : InForce
nothing_in_force = record { search = false; present = false; v3 = false; concurrent = false; named = false }

-- the state Ready, with what it shows of the options and the version in force
abbrev pub ready : InForce → State
ready force = states.Ready force.v3 force.concurrent force.named

-- the search that made the set
abbrev pub search_of : List (ℕ × Searched) → ℕ → Option Searched
search_of searches set = lookup (nat_eq set) searches

-- the search was answered, and its searchStatus was true
abbrev pub is_found : Option Outcome → Bool
is_found (Some (outcomes.Found count)) = true
is_found _ = false
