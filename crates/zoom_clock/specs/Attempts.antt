-- Attempts to connect to the addresses of one host (RFC 8305, 5).
use Rattle.std.specs.Prelude.{ℕ, ◌+◌, Bool, true, false, if◌then◌else◌, List, [], ◌∷◌, map, replicate, slice_index_or, slice_set, position, is_some, Option, None, Some}
use Rattle.zoom_clock.specs.declared.action.Task.{Task}
use Rattle.zoom_clock.specs.declared.action.Task.TheVariants.{Leave}
use Rattle.zoom_clock.specs.declared.attempt.Attempt.{Attempt}
use Rattle.zoom_clock.specs.declared.attempt.Attempt.TheVariants.{Ahead, Open, Waiting, Failed}
use Rattle.zoom_clock.specs.declared.attempts.TheConstants.{ATTEMPT_DELAY}
use Rattle.zoom_clock.specs.declared.attempts.Attempts.{Attempts}
use Rattle.zoom_clock.specs.Times.{never}

abbrev pub is_ahead : Attempt → Bool
is_ahead Ahead = true
is_ahead _ = false

abbrev pub is_begun : Attempt → Bool
is_begun Open = true
is_begun _ = false

abbrev pub is_waiting : Attempt → Bool
is_waiting Waiting = true
is_waiting _ = false

abbrev pub has_failed : Attempt → Bool
has_failed Failed = true
has_failed _ = false

-- attempt k is open: it was begun, and neither succeeded nor failed
abbrev pub is_open : ℕ → List Attempt → Bool
is_open k xs = is_begun (slice_index_or xs k Failed)

-- the first of two options that has something
abbrev pub either : Option ℕ → Option ℕ → Option ℕ
either (Some k) other = Some k
either None other = other

-- the attempt to begin next: the first that waits for a socket, or else the first that was not begun
abbrev pub next_of : List Attempt → Option ℕ
next_of xs = either (position is_waiting xs) (position is_ahead xs)

-- the numbers of the open attempts, if the first in the list has number i
abbrev pub open_from : ℕ → List Attempt → List ℕ
open_from i [] = []
open_from i (Open ∷ xs) = i ∷ open_from (i + 1) xs
open_from i (Ahead ∷ xs) = open_from (i + 1) xs
open_from i (Waiting ∷ xs) = open_from (i + 1) xs
open_from i (Failed ∷ xs) = open_from (i + 1) xs

-- each open attempt is left
abbrev pub leaves : List Attempt → List Task
leaves xs = map Leave (open_from 0 xs)

-- the first of so many attempts is open, and the others were not begun
abbrev pub one_open : ℕ → List Attempt
one_open addresses = slice_set (replicate addresses Ahead) 0 Open

-- the first attempt is begun
abbrev pub first_attempts : ℕ → ℕ → Attempts
first_attempts addresses now = record { began = now; last = 0; since = now; states = one_open addresses }

-- attempt k is begun at this time
abbrev pub with_begun : ℕ → ℕ → Attempts → Attempts
with_begun now k a = record a { last = k; since = now; states = slice_set a.states k Open }

-- attempt k has failed
abbrev pub with_failed : ℕ → Attempts → Attempts
with_failed k a = record a { states = slice_set a.states k Failed }

-- attempt k waits for a socket since this time
abbrev pub with_waiting : ℕ → ℕ → Attempts → Attempts
with_waiting now k a = record a { since = now; states = slice_set a.states k Waiting }

-- when the next attempt is due, if the last does not fail before
abbrev pub next_at : Attempts → ℕ
next_at a = if is_some (next_of a.states) then a.since + ATTEMPT_DELAY else never
