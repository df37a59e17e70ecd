use Rattle.std.proofs.Common.{◌≡◌, ◌++◌, take}
use Rattle.std.specs.List.{flat_map}
use Rattle.zmeta_catalogue_files.specs.Lines.{database_part}
use Rattle.zmeta_catalogue_files.proofs.lines.put_databases.Given as goal

abbrev pub invariant-loop-name : goal.invariant-loop-name
invariant-loop-name l = l.out.items ≡ l.fn.out.items ++ flat_map database_part (take l.name-index l.names)
