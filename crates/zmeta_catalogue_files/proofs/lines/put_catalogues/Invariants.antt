use Rattle.std.proofs.Common.{◌≡◌, ◌++◌, take}
use Rattle.zmeta_catalogue_files.specs.Lines.{catalogue_lines}
use Rattle.zmeta_catalogue_files.proofs.lines.put_catalogues.Given as goal

abbrev pub invariant-loop-catalogue : goal.invariant-loop-catalogue
invariant-loop-catalogue l =
    l.out.items ≡ l.fn.out.items ++ catalogue_lines (take l.catalogue-index l.catalogues)
