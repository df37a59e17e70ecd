-- What is printed depends on what is told of why connections stopped, and on nothing else of it.
use Rattle.std.specs.Prelude.{◌≡◌, ℕ, List, [], ◌∷◌, Option, Some, None}
use Rattle.zmarc.specs.declared.charset.Charset.{Charset}
use Rattle.zknow.specs.declared.fact.Fact.{Fact}
use Rattle.zknow_stops.specs.declared.stop.Stop.{Stop}
use Rattle.zmeta_args.specs.declared.arguments.View.{View}
use Rattle.zmeta_offline.specs.Views.{printed}

-- the same is told of both: the name of the reason, and the detail
pub record IsSameStop (one other : Stop) : Type 0 where
  pub reason : one.reason.now ≡ other.reason.now
  pub detail : one.detail ≡ other.detail

-- the same, or neither stopped
abbrev pub IsSameStopIf : Option Stop → Option Stop → Type 0
IsSameStopIf None None = Unit {0}
IsSameStopIf (Some one) (Some other) = IsSameStop one other
IsSameStopIf None (Some other) = ⊥
IsSameStopIf (Some one) None = ⊥

-- the same of each connection
abbrev pub AreSameStops : List (Option Stop) → List (Option Stop) → Type 0
AreSameStops [] [] = Unit {0}
AreSameStops (one ∷ ones) (other ∷ others) = IsSameStopIf one other × AreSameStops ones others
AreSameStops [] (other ∷ others) = ⊥
AreSameStops (one ∷ ones) [] = ⊥

-- if the same is told of each connection, the same is printed
abbrev pub SameViewLaw : Type 0
SameViewLaw =
    (names : List (List ℕ)) (view : View) (charsets : List (Option Charset)) (one other : List (Option Stop))
    (facts : List Fact) → AreSameStops one other
    → printed names view charsets one facts ≡ printed names view charsets other facts
