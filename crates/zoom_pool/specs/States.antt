-- The state of a connection.
use Rattle.std.specs.Prelude.{Bool, true, false, not, Option, Some, None}
use Rattle.zorigin.specs.declared.state.State.{State as OriginState}
use Rattle.zorigin.specs.declared.state.State.TheVariants as origins
use Rattle.zoom_pool.specs.declared.state.State.{State}
use Rattle.zoom_pool.specs.declared.state.State.TheVariants as states
use Rattle.zoom_pool.specs.declared.state.Reason.TheVariants as reasons

-- the state of a connection that nothing stopped, by its origin's state
abbrev pub state_as : OriginState → State
state_as origins.Fresh = states.Fresh
state_as origins.Initialising = states.Initialising
state_as (origins.Ready v3 concurrent named) = states.Ready v3 concurrent named
state_as origins.Closing = states.Closing
state_as origins.Closed = states.Closed
state_as (origins.Failed reason) = states.Failed (reasons.Refused reason)

-- what stopped the connection, if anything did; otherwise the origin's state
abbrev pub or_else : State → Option State → State
or_else other None = other
or_else other (Some stopped) = stopped

-- the connection is Closed or Failed, and takes no more
abbrev pub is_stopped : State → Bool
is_stopped states.Closed = true
is_stopped (states.Failed reason) = true
is_stopped _ = false

-- the connection is Closing
abbrev pub is_closing : State → Bool
is_closing states.Closing = true
is_closing _ = false

-- nothing stopped the connection
abbrev pub is_going : Option State → Bool
is_going None = true
is_going (Some state) = not (is_stopped state)
