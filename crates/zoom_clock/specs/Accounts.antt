-- What a history tells of a connection, by what was told and when alone. Histories are newest first.
use Rattle.std.specs.Prelude.{◌≡◌, ◌⊎◌, ℕ, ◌+◌, ◌==◌, ◌<◌, ◌≤◌, max, min, Bool, true, false, List, [], ◌∷◌, Option, Some, None, is_some}
use Rattle.std.specs.List.{filter_map}
use Rattle.zoom_clock.specs.declared.action.Task.{Task}
use Rattle.zoom_clock.specs.declared.action.Task.TheVariants.{Connect, Leave}
use Rattle.zoom_clock.specs.declared.limits.Limits.{Limits}
use Rattle.zoom_clock.specs.declared.signal.Signal.{Signal}
use Rattle.zoom_clock.specs.declared.signal.Signal.TheVariants as signals
use Rattle.zoom_clock.specs.Times.{total_end}
use Rattle.zoom_clock.specs.Attempts.{either}
use Rattle.zoom_clock.specs.Courses.{Event}

-- this was told
abbrev pub WasTold : Signal → List Event → Type 0
WasTold what [] = ⊥
WasTold what (e ∷ es) = (e.what ≡ what) ⊎ WasTold what es

-- how many addresses a name has, if this tells it
abbrev pub resolved_by : Signal → Option ℕ
resolved_by (signals.Resolved addresses) = Some addresses
resolved_by _ = None

-- how many addresses the name has, by what was told first
abbrev pub addresses_in : List Event → Option ℕ
addresses_in [] = None
addresses_in (e ∷ es) = either (addresses_in es) (resolved_by e.what)

-- the name was resolved, and each attempt to connect to an address of it was told to have failed
abbrev pub AllFailed : List Event → Type 0
AllFailed es =
    (n : ℕ) × (addresses_in es ≡ Some n) × ((k : ℕ) → k < n → WasTold (signals.Unreachable k) es)

-- the latest time, or the start
abbrev pub latest_in : ℕ → List Event → ℕ
latest_in start [] = start
latest_in start (e ∷ es) = max (latest_in start es) e.at

-- The name was resolved at this time, by what was told first. That counts as of a time that is not before it was told,
-- and not after the latest time till then.
abbrev pub WasResolvedAt : ℕ → ℕ → List Event → Type 0
WasResolvedAt start t [] = ⊥
WasResolvedAt start t (e ∷ es) =
    ((addresses_in es ≡ None) × (is_some (resolved_by e.what) ≡ true) × (e.at ≤ t) × (t ≤ latest_in start (e ∷ es)))
    ⊎ WasResolvedAt start t es

-- at this time the total was over, or the time to connect, since the name was resolved
abbrev pub IsConnectOver : Limits → ℕ → List Event → ℕ → Type 0
IsConnectOver limits start es now =
    (total_end limits.total start ≤ now) ⊎ ((t : ℕ) × WasResolvedAt start t es × (t + limits.connect ≤ now))

-- a tick came when the total was over, or the time to connect
abbrev pub WasLate : Limits → ℕ → List Event → Type 0
WasLate limits start [] = ⊥
WasLate limits start (e ∷ es) =
    ((e.what ≡ signals.Tick) × IsConnectOver limits start es (latest_in start (e ∷ es))) ⊎ WasLate limits start es

-- octets came or were taken: a sign of life
abbrev pub is_sign : Signal → Bool
is_sign (signals.Octets condition) = true
is_sign signals.Taken = true
is_sign _ = false

-- a sign of life, or that from now on signs are waited for: it has connected, or its turn has come
abbrev pub is_start : Signal → Bool
is_start (signals.Connected k) = true
is_start signals.Turn = true
is_start what = is_sign what

-- Silence counts from this time: then a sign of life came, or the first was waited for, and no sign came since. What
-- was told counts as of a time that is not before it was told, and not after the latest time till then.
abbrev pub IsSilentSince : ℕ → ℕ → List Event → Type 0
IsSilentSince start t [] = ⊥
IsSilentSince start t (e ∷ es) =
    ((is_start e.what ≡ true) × (e.at ≤ t) × (t ≤ latest_in start (e ∷ es)))
    ⊎ ((is_sign e.what ≡ false) × IsSilentSince start t es)

-- a tick came when the patience was over since silence counts, or the total was over
abbrev pub WasSilent : Limits → ℕ → List Event → Type 0
WasSilent limits start [] = ⊥
WasSilent limits start (e ∷ es) =
    ((e.what ≡ signals.Tick) × (t : ℕ) × IsSilentSince start t es
    × (min (t + limits.patience) (total_end limits.total start) ≤ latest_in start (e ∷ es)))
    ⊎ WasSilent limits start es

-- how many pieces of octets came
abbrev pub is_octets : Signal → Bool
is_octets (signals.Octets condition) = true
is_octets _ = false

-- the attempt that had no socket
abbrev pub is_no_socket : ℕ → Signal → Bool
is_no_socket k (signals.NoSocket j) = k == j
is_no_socket k _ = false

-- ---- tasks

-- the number of the attempt that is begun
abbrev pub begun_by : Task → Option ℕ
begun_by (Connect k) = Some k
begun_by _ = None

-- the attempts that are begun, in order
abbrev pub begun_in : List Task → List ℕ
begun_in tasks = filter_map begun_by tasks

-- the number of the attempt that is left
abbrev pub left_by : Task → Option ℕ
left_by (Leave k) = Some k
left_by _ = None

-- the attempts that are left, in order
abbrev pub left_in : List Task → List ℕ
left_in tasks = filter_map left_by tasks
