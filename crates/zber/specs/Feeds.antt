-- The octets that a framer holds: a whole message that is cut off, and the octets after it.
use Rattle.std.specs.Prelude.{◌≡◌, ℕ, ◌⊎◌, ◌<◌, ◌≤◌, List, [], ◌++◌, length, ◌^◌, ◌+◌, ◌-◌, Option, None}
use Rattle.zber.specs.declared.fault.FaultKind.{FaultKind}
use Rattle.zber.specs.declared.scan.Scan.{Scan}
use Rattle.zber.specs.declared.scan.Reading.TheVariants.{Whole}
use Rattle.zber.specs.declared.scan.Found.{Found}
use Rattle.zber.specs.declared.scan.Found.TheVariants.{Message, Front, Fault}
use Rattle.zber.specs.Shown.{HasFault}
use Rattle.zber.specs.Unfinished.{IsUnfinished}
use Rattle.zber.specs.Scans.{IsScanned}
use Rattle.zber.specs.Moves.{pos}

-- The scan covers these octets. Either nothing is cut off, or the message is whole and cut off where the scan is.
pub record IsFed (limit : ℕ) (message octets : List ℕ) (s : Scan) : Type 0 where
  pub holds : IsScanned limit (message ++ octets) s
  pub cut : (message ≡ []) ⊎ ((s.reading ≡ Whole) × (s.at ≡ length message))

-- the message is whole, and cut off where the scan is
abbrev pub IsCut : ℕ → List ℕ → List ℕ → Scan → Type 0
IsCut limit message octets s = IsFed limit message octets s × (s.reading ≡ Whole) × (s.at ≡ length message)

-- what was found at the front of the message and the octets after it
abbrev pub IsFound : ℕ → List ℕ → List ℕ → Scan → Found → Type 0
IsFound limit message octets s Message = IsCut limit message octets s
IsFound limit message octets s Front = IsFed limit message octets s × IsUnfinished limit (message ++ octets)
IsFound limit message octets s (Fault k) = HasFault limit (message ++ octets) k s.at

-- The counts of a framer that holds `size` octets. They add up unless there is a fault or `fed` has stopped.
pub record IsCounted (size : ℕ) (s : Scan) (fault : Option (FaultKind × ℕ)) (examined fed skipped : ℕ) : Type 0 where
  pub fits : fed < 2 ^ 64
  pub most : examined ≤ fed
  pub upper : fault ≡ None → fed < 2 ^ 64 - 1 → examined + size + s.contents ≤ fed + pos s
  pub lower : fault ≡ None → fed < 2 ^ 64 - 1 → fed + pos s ≤ examined + skipped + size + s.contents

-- the invariant of a framer's parts
pub record IsFramer (limit : ℕ) (message octets : List ℕ) (s : Scan) (fault : Option (FaultKind × ℕ))
    (examined taken skipped : ℕ) : Type 0 where
  pub small : limit < 2 ^ 32
  pub fed : fault ≡ None → IsFed limit message octets s
  pub counted : IsCounted (length (message ++ octets)) s fault examined taken skipped
