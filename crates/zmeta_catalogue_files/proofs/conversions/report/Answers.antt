use Rattle.std.proofs.Common.{sym, subst}
use Rattle.zmeta_devices.specs.Devices.{output_device}
use Rattle.zmeta_catalogue_files.specs.declared.conversions.ConversionFault.{ConversionFault}
use Rattle.zmeta_catalogue_files.specs.Conversions.{AfterConversionFault}
use Rattle.zmeta_catalogue_files.proofs.conversions.report.Goals as goal

pub returns-in-Unsaid : goal.returns-in-Unsaid
returns-in-Unsaid g c =
    subst (λ (fault : ConversionFault).
    AfterConversionFault c.args.path.now fault (output_device g.E.Write.contents c.args.errors.now)
    (output_device g.E.Write.contents c.report_unsaid.new.errors) c.report_unsaid.result) (sym c.in-Unsaid.is)
    c.report_unsaid.ensures
