-- Results and texts that the parsers of a line share.
use Rattle.std.specs.Prelude.{◌≡◌, ℕ, ◌==◌, List, [], ◌∷◌, Option, Some, None, Result, Ok, Err}
use Rattle.std.specs.List.{slice_split}
use Rattle.zmeta_world.specs.declared.world.fault.LineFault.{LineFault}
use Rattle.zmeta_world.specs.declared.world.fault.LineFault.TheVariants as faults

-- the result is the expected value; or the line is refused if there is none
abbrev pub LineResult : {A : Type 0} → Option A → Result A LineFault → Type 0
LineResult due (Ok value) = due ≡ Some value
LineResult due (Err faults.Refused) = due ≡ None
LineResult due (Err faults.Memory) = Unit {0}

-- the pieces of the text that is left
abbrev pub pieces : ℕ → Option (List ℕ) → List (List ℕ)
pieces at None = []
pieces at (Some rest) = slice_split (λ b. b == at) rest

-- an octet and the text behind it
abbrev pub behind : ℕ → Option (List ℕ) → List ℕ
behind at None = []
behind at (Some rest) = at ∷ rest
