-- The names of the variants of errors, in ASCII codes.
use Rattle.std.specs.Prelude.{ℕ, List, codes}
use Rattle.ztarget.specs.declared.error.TargetError.{TargetError}
use Rattle.ztarget.specs.declared.error.TargetError.TheVariants as refusals
use Rattle.ztarget.specs.declared.error.MatchError.{MatchError}
use Rattle.ztarget.specs.declared.error.MatchError.TheVariants as matching

-- of the refusal of an APDU
abbrev pub target_error_name : TargetError → List ℕ
target_error_name refusals.NotRequest = codes "NotRequest"
target_error_name refusals.WrongState = codes "WrongState"
target_error_name refusals.Memory = codes "Memory"

-- of the refusal of a query
abbrev pub match_error_name : MatchError → List ℕ
match_error_name (matching.Code code info) = codes "Code"
match_error_name matching.Memory = codes "Memory"
