-- nothing is in the windows so far
use Rattle.std.proofs.Common.{ℕ, List, Option}
use Rattle.std.specs.List.{AllByRecursion}
use Rattle.zmeta_offline.specs.Rows.{IsWindow}
use Rattle.zmeta_offline.proofs.rows.Reader.new.Given as goal

abbrev pub invariant-loop : goal.invariant-loop
invariant-loop l =
    (octets : List ℕ → Option (List ℕ)) (paths : List (List ℕ)) → AllByRecursion (IsWindow octets paths) l.windows.items
