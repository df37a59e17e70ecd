use Rattle.toml.specs.Data.{as_table}
use Rattle.toml.specs.View.{view, table_view}
use Rattle.zmeta_catalogues.proofs.Told.{stray_put, catalogue_told}
use Rattle.zmeta_catalogues.proofs.mistakes.put_value.Goals as goal

pub returns-in-Some : goal.returns-in-Some
returns-in-Some c =
    catalogue_told c.args.source.now.text.now (table_view c.args.top.now) c.args.name.now
    (as_table (view c.args.value.now)) (table_view c.in-Some.own.now) c.put_table.result c.args.found.now.items
    c.put_table.new.found.items c.in-Some.ensures c.put_table.ensures

pub returns-in-None : goal.returns-in-None
returns-in-None c =
    stray_put c.args.source.now.text.now (table_view c.args.top.now) c.args.name.now (as_table (view c.args.value.now))
    c.top_error.result c.put.result c.args.found.now.items c.put.new.found.items c.in-None.ensures c.top_error.ensures
    c.put.ensures.added c.put.ensures.own
