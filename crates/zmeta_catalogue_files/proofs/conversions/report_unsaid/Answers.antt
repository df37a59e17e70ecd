use Rattle.zmeta_catalogue_files.specs.Conversions.{unsaid_text}
use Rattle.zmeta_catalogue_files.proofs.Converted.{made_told}
use Rattle.zmeta_catalogue_files.proofs.conversions.report_unsaid.Goals as goal

pub returns-in-Ok : goal.returns-in-Ok
returns-in-Ok g c =
    made_told c.args.path.now c.as_slice.result.now c.in-Ok.text.items (unsaid_text c.args.name.now c.args.reason) _ _ _
    c.in-Ok.ensures c.as_slice.ensures.value c.tell_text.ensures
