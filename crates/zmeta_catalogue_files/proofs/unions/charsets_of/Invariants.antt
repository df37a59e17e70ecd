use Rattle.std.proofs.Common.{◌≡◌, map, take}
use Rattle.zmeta_catalogue_files.specs.Unions.{charset_of}
use Rattle.zmeta_catalogue_files.proofs.unions.charsets_of.Given as goal

abbrev pub invariant-loop-catalogue : goal.invariant-loop-catalogue
invariant-loop-catalogue l = l.charsets.items ≡ map charset_of (take l.catalogue-index l.catalogues)
