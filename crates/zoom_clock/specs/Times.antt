-- Times, in nanoseconds.
use Rattle.std.specs.Prelude.{◌≡◌, ℕ, ◌+◌, ◌^◌, ◌<◌, ◌≤◌, Option, None, Some}

-- the option has the time, or nothing if no clock of 64 bits gets there
abbrev pub IsTime : ℕ → Option ℕ → Type 0
IsTime t None = 2 ^ 64 ≤ t
IsTime t (Some u) = (u ≡ t) × (u < 2 ^ 64)

-- a time that no clock of 64 bits gets to
abbrev pub never : ℕ
never = 2 ^ 64

-- when the total that began at `start` is over, if there is one
abbrev pub total_end : Option ℕ → ℕ → ℕ
total_end None start = never
total_end (Some total) start = start + total
