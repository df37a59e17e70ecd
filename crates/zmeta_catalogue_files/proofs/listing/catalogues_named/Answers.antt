use Rattle.zmeta_devices.specs.Devices.{output_device}
use Rattle.zmeta_catalogue_files.proofs.listing.catalogues_named.Goals as goal

pub returns : goal.returns
returns g c = (
  c.list_file-answer.result,
  output_device g.E.Write.contents c.list_file-answer.new.errors,
  c.list_file-answer.ensures.says,
  c.list_file-answer.ensures.fault,
  c.end.ensures,
)
