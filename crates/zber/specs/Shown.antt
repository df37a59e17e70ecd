-- The fault that octets show.
use Rattle.std.specs.Prelude.{◌≡◌, ◌≢◌, ℕ, ◌<◌, List, ◌++◌, length, take}
use Rattle.zber.specs.declared.fault.FaultKind.{FaultKind}
use Rattle.zber.specs.declared.fault.HeaderPlace.{HeaderPlace}
use Rattle.zber.specs.Headers.{HasHeaderFault}
use Rattle.zber.specs.Paths.{IsPathTo, IsHere}

-- The octets show the fault at the header that comes after `at` octets. A path leads there. The header shows it by the
-- octets up to the end of the innermost open element of definite length. If no such element is open, by those up to the
-- limit.
pub record HasFault (limit : ℕ) (xs : List ℕ) (k : FaultKind) (at : ℕ) : Type 0 where
  pub front : List ℕ
  pub rest : List ℕ
  pub place : HeaderPlace
  pub some : 0 < length xs
  pub cut : xs ≡ front ++ rest
  pub at_is : at ≡ length front
  pub reached : IsPathTo limit front place
  pub here : at ≢ 0 → IsHere place
  pub shown : HasHeaderFault place (take place.size rest) k
