-- What a history tells of the addresses of a host stays so.
use Rattle.std.proofs.Common.{◌≡◌, inl, inr, ℕ, ◌≤◌, true, List, [], ◌∷◌, None, Some, refl, ap, ◌∙◌, arith}
use Rattle.std.proofs.lemmas.Bool.Decides.{leb_tells}
use Rattle.zoom_clock.specs.declared.action.Task.{Task}
use Rattle.zoom_clock.specs.declared.limits.Limits.{Limits}
use Rattle.zoom_clock.specs.declared.signal.Signal.{Signal}
use Rattle.zoom_clock.specs.declared.signal.Signal.TheVariants as signals
use Rattle.zoom_clock.specs.declared.stage.Stage.{Stage}
use Rattle.zoom_clock.specs.declared.stage.Stage.TheVariants.{NotChosen, Resolving, Connecting, Talking, Over}
use Rattle.zoom_clock.specs.Attempts.{either}
use Rattle.zoom_clock.specs.Courses.{Event, event, is_tick}
use Rattle.zoom_clock.specs.Stages.{connect_end}
use Rattle.zoom_clock.specs.Times.{total_end}
use Rattle.zoom_clock.specs.Accounts.{resolved_by, addresses_in, latest_in, WasResolvedAt, WasLate, begun_in}
use Rattle.zoom_clock.proofs.Histories.{IsIdle}

-- a number of addresses that was told stays so
pub known_still : (n : ℕ) (e : Event) (es : List Event) → addresses_in es ≡ Some n → addresses_in (e ∷ es) ≡ Some n
known_still n e es h = ap (λ o. either o (resolved_by e.what)) h

-- if none was told, the newest signal may tell one
pub known_now : (e : Event) (es : List Event) → addresses_in es ≡ None → addresses_in (e ∷ es) ≡ resolved_by e.what
known_now e es h = ap (λ o. either o (resolved_by e.what)) h

-- it tells no number of addresses to a connection that waits for one
abbrev pub IsQuiet : Event → Stage → Type 0
IsQuiet e NotChosen = Unit {0}
IsQuiet e Resolving = resolved_by e.what ≡ None
IsQuiet e (Connecting a) = Unit {0}
IsQuiet e (Talking t) = Unit {0}
IsQuiet e (Over ending) = Unit {0}

tick_tells_none : (what : Signal) → is_tick what ≡ true → resolved_by what ≡ None
tick_tells_none signals.Tick h = refl
tick_tells_none what h = cc

pub idle_quiet : (e : Event) (s : Stage) → IsIdle e s → IsQuiet e s
idle_quiet e NotChosen idle = tt
idle_quiet e Resolving idle = tick_tells_none e.what idle
idle_quiet e (Connecting a) idle = tt
idle_quiet e (Talking t) idle = tt
idle_quiet e (Over ending) idle = tt

-- a tick came when the time to connect was over, or the total
pub late_connect : (limits : Limits) (start at began : ℕ) (es : List Event) → WasResolvedAt start began es
    → connect_end limits start began ≤ latest_in start (event at signals.Tick ∷ es)
    → WasLate limits start (event at signals.Tick ∷ es)
late_connect limits start at began es resolved late =
    elim (leb_tells (total_end limits.total start) (latest_in start (event at signals.Tick ∷ es))) [
      | inl le ↦ inl (refl, inl le.1)
      | inr less ↦ inl (refl, inr (began, resolved, let n = less.1 in omega arith))
    ]

-- no number of addresses was told, and no address tried
pub record IsUntried (es : List Event) (ts : List Task) : Type 0 where
  pub unknown : addresses_in es ≡ None
  pub none : begun_in ts ≡ []

pub untried_still : (e : Event) (es : List Event) (ts : List Task) → resolved_by e.what ≡ None → IsUntried es ts
    → IsUntried (e ∷ es) ts
untried_still e es ts quiet h = record { unknown = known_now e es h.unknown ∙ quiet; none = h.none }
