-- A connection and a pool, as contracts see them.
use Rattle.std.specs.Prelude.{◌≡◌, ℕ, ◌==◌, Bool, false, List, [], length, Option, Some, None, slice_get}
use Rattle.zber.specs.Elements.{Element}
use Rattle.zber.specs.Stream.{Stream}
use Rattle.zknow.specs.declared.fact.Fact.{Fact}
use Rattle.zorigin.specs.Standings.{Standing}
use Rattle.zoom_pool.specs.declared.state.State.{State}

-- A connection: its origin; the octets that came and were not yet given out in a message; and a message kept
-- because no memory was found. Then the octets that wait to go out, whether the input ended, and what stopped it.
pub record Link : Type 0 where
  pub origin : Standing
  pub framer : Stream
  pub held : Option Element
  pub waiting : List ℕ
  pub ended : Bool
  pub stop : Option State

-- A pool: its connections by number, and the facts known, in fact order.
pub record Links : Type 0 where
  pub connections : List Link
  pub knowledge : List Fact

-- the octets that wait to go out on a connection; none if there is no connection
abbrev pub waiting_in : Option Link → List ℕ
waiting_in None = []
waiting_in (Some link) = link.waiting

-- the octets that wait to go out on connection `c`
abbrev pub waiting_at : Links → ℕ → List ℕ
waiting_at pool c = waiting_in (slice_get pool.connections c)

-- what stopped a connection; none if there is no connection
abbrev pub stop_in : Option Link → Option State
stop_in None = None
stop_in (Some link) = link.stop

-- what stopped connection `c`
abbrev pub stop_at : Links → ℕ → Option State
stop_at pool c = stop_in (slice_get pool.connections c)

-- if something stopped connection `c`, this is what
abbrev pub IsStopAt : ℕ → Links → State → Type 0
IsStopAt c pool state = (stopped : State) → stop_at pool c ≡ Some stopped → state ≡ stopped

-- all connections other than `c`, and the number of connections, are unchanged
pub record SameOthers (c : ℕ) (old new : Links) : Type 0 where
  pub size : length new.connections ≡ length old.connections
  pub others : (i : ℕ) → (c == i) ≡ false → slice_get new.connections i ≡ slice_get old.connections i

-- all but connection `c` is unchanged: what is known, the other connections, and their number
pub record SameElse (c : ℕ) (old new : Links) : Type 0 where
  pub known : new.knowledge ≡ old.knowledge
  pub size : length new.connections ≡ length old.connections
  pub others : (i : ℕ) → (c == i) ≡ false → slice_get new.connections i ≡ slice_get old.connections i
