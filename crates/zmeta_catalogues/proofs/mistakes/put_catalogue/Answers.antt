use Rattle.toml.specs.View.{table_view}
use Rattle.zmeta_catalogues.proofs.Told.{catalogue_put, own_faults_of}
use Rattle.zmeta_catalogues.proofs.mistakes.put_catalogue.Goals as goal

pub returns : goal.returns
returns c =
    catalogue_put (table_view c.args.top.now) c.args.site.now.name (table_view c.args.own.now) c.as_slice.result.now
    c.put_faults.result c.args.found.now.items c.put_unknown.new.found.items c.put_unknown_terms.new.found.items
    c.put_faults.new.found.items c.in_ok-put_unknown.ensures c.in_ok-put_unknown_terms.ensures
    (own_faults_of (table_view c.args.own.now) (table_view c.args.top.now) c.in_ok-faults.faults.items
    c.as_slice.result.now c.as_slice.ensures.value c.in_ok-faults.ensures)
    c.put_faults.ensures
