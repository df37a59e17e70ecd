use Rattle.std.proofs.Common.{◌≡◌, ◌++◌, take}
use Rattle.std.specs.List.{flat_map}
use Rattle.zmeta_conversions.specs.Catalogues.{database_line}
use Rattle.zmeta_conversions.proofs.catalogues.put_databases.Given as goal

abbrev pub invariant-loop-name : goal.invariant-loop-name
invariant-loop-name l = l.out.items ≡ l.fn.out.items ++ flat_map database_line (take l.name-index l.names)
