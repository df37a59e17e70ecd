use Rattle.std.proofs.Common.{length, ap, arith}
use Rattle.toml.specs.View.{table_view}
use Rattle.zmeta_catalogues.specs.Files.{IsReadable}
use Rattle.zmeta_catalogues.proofs.FileErrors.{refused_document}
use Rattle.zmeta_catalogues.proofs.NoMistakes.{none_listed}
use Rattle.zmeta_catalogues.proofs.Told.{not_none, refused_put}
use Rattle.zmeta_catalogues.proofs.mistakes.document_mistakes.Goals as goal

pub returns-in-Ok-clause-some : goal.returns-in-Ok-clause-some
returns-in-Ok-clause-some c = λ lt. let none = ap length c.new.ensures.items in absurd (omega arith)

pub returns-in-Ok-clause-all : goal.returns-in-Ok-clause-all
returns-in-Ok-clause-all c =
    none_listed c.args.source.now.text.now (table_view c.args.top.now) _ c.new.result.items c.requires.parsed
    c.in-Ok.ensures.catalogues c.new.ensures.items

pub returns-clause-none : goal.returns-clause-none
returns-clause-none c =
    not_none (IsReadable c.args.source.now.text.now) c.refused_mistakes.result c.refused_mistakes.ensures.some

pub returns-clause-some : goal.returns-clause-some
returns-clause-some c =
    refused_put c.args.source.now.text.now c.in-Err.error c.refused_mistakes.result
    (refused_document c.args.source.now.text.now (table_view c.args.top.now) c.in-Err.error c.requires.parsed
    c.in-Err.ensures.err) c.refused_mistakes.ensures.own
