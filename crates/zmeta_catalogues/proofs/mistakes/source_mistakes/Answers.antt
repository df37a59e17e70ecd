use Rattle.toml.specs.View.{table_view}
use Rattle.zmeta_catalogues.specs.Files.{IsReadable}
use Rattle.zmeta_catalogues.proofs.FileErrors.{refused_octets}
use Rattle.zmeta_catalogues.proofs.Told.{document_put, octets_put, not_none_of_one, refused_put}
use Rattle.zmeta_catalogues.proofs.mistakes.source_mistakes.Goals as goal

pub returns-in-Ok-clause-all : goal.returns-in-Ok-clause-all
returns-in-Ok-clause-all c =
    document_put c.args.source.now.text.now (table_view c.in-Ok.top) c.document_mistakes.result c.in-Ok.ensures.unmarked
    c.in-Ok.ensures.ok c.document_mistakes.ensures.all

pub returns-in-Err-clause-none : goal.returns-in-Err-clause-none
returns-in-Err-clause-none c =
    not_none_of_one (IsReadable c.args.source.now.text.now) c.in-Err.error c.alone.result c.alone.ensures.alone

pub returns-in-Err-clause-some : goal.returns-in-Err-clause-some
returns-in-Err-clause-some c =
    refused_put c.args.source.now.text.now c.in-Err.error c.alone.result
    (refused_octets c.args.source.now.text.now c.in-Err.error c.in-Err.ensures.err) c.alone.ensures.own

pub returns-in-Err-clause-all : goal.returns-in-Err-clause-all
returns-in-Err-clause-all c =
    octets_put c.args.source.now.text.now c.in-Err.error c.alone.result c.in-Err.ensures.err c.alone.ensures.own
    c.alone.ensures.alone
