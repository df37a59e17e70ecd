use Rattle.std.proofs.Common.{◌∙◌, sym}
use Rattle.toml.specs.View.{table_view}
use Rattle.zmeta_catalogues.proofs.Told.{unnamed_put, named_put}
use Rattle.zmeta_catalogues.proofs.mistakes.put_table.Goals as goal

pub returns-then-is_empty : goal.returns-then-is_empty
returns-then-is_empty c =
    unnamed_put c.args.source.now.text.now (table_view c.args.top.now) c.args.name.now (table_view c.args.own.now)
    c.put.result c.args.found.now.items c.put.new.found.items (sym c.is_empty.ensures ∙ c.if-is_empty.true)
    c.put.ensures.added c.put.ensures.own

pub returns : goal.returns
returns c =
    named_put c.args.source.now.text.now (table_view c.args.top.now) c.args.name.now c.in_ok-site.site.name
    (table_view c.args.own.now) c.put_catalogue.result c.args.found.now.items c.put_catalogue.new.found.items
    (sym c.is_empty.ensures ∙ c.if-is_empty.false) c.in_ok-site.ensures c.put_catalogue.ensures
