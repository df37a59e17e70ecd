use Rattle.std.proofs.Common.{take}
use Rattle.zmeta_commands.specs.CatalogueFiles.{AreOwnWaits}
use Rattle.zmeta_commands.proofs.catalogue_files.own_waits.Given as goal

abbrev pub invariant-loop-each : goal.invariant-loop-each
invariant-loop-each l = AreOwnWaits l.given (take l.each-index l.said) l.waits.items
