-- The names of the kinds of faults.
use Rattle.std.specs.Prelude.{ℕ, List, codes}
use Rattle.zber.specs.declared.fault.FaultKind.{FaultKind}
use Rattle.zber.specs.declared.fault.FaultKind.TheVariants as kind

-- the name that reports print for a kind of fault, as character codes
abbrev pub fault_kind_name : FaultKind → List ℕ
fault_kind_name kind.TagForm = codes "TagForm"
fault_kind_name kind.TagTooLarge = codes "TagTooLarge"
fault_kind_name kind.StrayEnd = codes "StrayEnd"
fault_kind_name kind.LengthForm = codes "LengthForm"
fault_kind_name kind.IndefinitePrimitive = codes "IndefinitePrimitive"
fault_kind_name kind.Overrun = codes "Overrun"
fault_kind_name kind.TooLong = codes "TooLong"
fault_kind_name kind.TooDeep = codes "TooDeep"
fault_kind_name kind.Truncated = codes "Truncated"
