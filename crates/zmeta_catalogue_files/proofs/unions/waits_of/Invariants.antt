use Rattle.std.proofs.Common.{◌≡◌, map, take}
use Rattle.zmeta_catalogue_files.specs.Unions.{waits_of}
use Rattle.zmeta_catalogue_files.proofs.unions.waits_of.Given as goal

abbrev pub invariant-loop-catalogue : goal.invariant-loop-catalogue
invariant-loop-catalogue l = l.waits.items ≡ map waits_of (take l.catalogue-index l.catalogues)
