use Rattle.std.proofs.Common.{◌∙◌}
use Rattle.toml.specs.View.{table_view}
use Rattle.zmeta_catalogues.proofs.Told.{document_errors}
use Rattle.zmeta_catalogues.proofs.mistakes.table_mistakes.Goals as goal

pub returns : goal.returns
returns c =
    document_errors c.args.source.now.text.now (table_view c.args.top.now) c.as_slice.result.now
    c.new-found.result.items c.put_for_all.new.found.items c.put_members.new.found.items c.new-found.ensures.items
    (c.as_slice.ensures.value ∙ c.in_ok-faults.ensures) c.in_ok-put_for_all.ensures c.in_ok-put_members.ensures
