use Rattle.toml.specs.View.{table_view}
use Rattle.zmeta_catalogues.proofs.Told.{listed_put}
use Rattle.zmeta_catalogues.proofs.mistakes.refused_mistakes.Goals as goal

pub returns-clause-all : goal.returns-clause-all
returns-clause-all c =
    listed_put c.one_answer.ensures c.args.source.now.text.now (table_view c.args.top.now) c.args.error
    c.in_ok-first.first c.in_ok-found.found.items c.sorted.result c.in_ok-first.ensures.same c.in_ok-first.ensures.own
    c.requires.error c.in_ok-found.ensures c.sorted.ensures.sorted
