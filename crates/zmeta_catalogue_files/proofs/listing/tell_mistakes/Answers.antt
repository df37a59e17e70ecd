use Rattle.std.proofs.Common.{refl, sym, subst, List, length}
use Rattle.zmeta_catalogues.specs.declared.error.CatalogueError.{CatalogueError}
use Rattle.zmeta_devices.specs.Devices.{output_device}
use Rattle.zmeta_catalogue_files.specs.Listing.{AreToldOf}
use Rattle.zmeta_catalogue_files.proofs.ErrorLines.{errors_told}
use Rattle.zmeta_catalogue_files.proofs.listing.tell_mistakes.Goals as goal

pub returns : goal.returns
returns g c = (
  refl,
  errors_told c.args.path.now c.args.octets.now c.new-lines.result.items c.put_errors.new.lines.items
      c.as_slice-2.result.now (length c.as_slice.result.now) (output_device g.E.Write.contents c.args.errors.now)
      (output_device g.E.Write.contents c.put_lines.new.self) c.new-lines.ensures.items c.in_ok-put_errors.ensures
      (subst (λ (es : List CatalogueError). AreToldOf c.args.octets.now (length es)) (sym c.as_slice.ensures.value)
      c.in_ok-all.ensures) c.as_slice-2.ensures.value c.put_lines.ensures,
)
