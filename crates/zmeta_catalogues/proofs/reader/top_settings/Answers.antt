use Rattle.toml.specs.View.{table_view}
use Rattle.zmeta_catalogues.proofs.ForAll.{are_for_all}
use Rattle.zmeta_catalogues.proofs.reader.top_settings.Goals as goal

pub returns-in-Ok-clause-for_all : goal.returns-in-Ok-clause-for_all
returns-in-Ok-clause-for_all c = are_for_all (table_view c.args.top.now) c.in-Ok.for_all c.in-Ok.ensures
