use Rattle.std.proofs.Common.{refl}
use Rattle.toml.specs.View.{table_view}
use Rattle.zmeta_catalogues.proofs.Told.{no_term_keys, term_keys_put}
use Rattle.zmeta_catalogues.proofs.mistakes.put_unknown_terms.Goals as goal

pub returns-in-Some : goal.returns-in-Some
returns-in-Some c =
    term_keys_put c.args.site.now.name (table_view c.args.own.now) (table_view c.in-Some.terms.now) c.put_unknown.result
    c.args.found.now.items c.put_unknown.new.found.items c.in-Some.ensures c.put_unknown.ensures

pub returns-in-None : goal.returns-in-None
returns-in-None c =
    no_term_keys c.args.site.now.name (table_view c.args.own.now) c.args.found.now.items c.args.found.now.items
    c.in-None.ensures refl
