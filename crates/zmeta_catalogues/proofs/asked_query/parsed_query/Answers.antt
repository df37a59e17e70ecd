use Rattle.std.proofs.Common.{sym, subst}
use Rattle.zmeta_catalogues.specs.declared.search.AskError.{AskError}
use Rattle.zmeta_catalogues.specs.AskErrors.{IsParsedError}
use Rattle.zmeta_catalogues.proofs.AskedTerms.{refused_given}
use Rattle.zmeta_catalogues.proofs.asked_query.parsed_query.Goals as goal

pub returns-in-Err-clause-err : goal.returns-in-Err-clause-err
returns-in-Err-clause-err c =
    subst (λ (e : AskError). IsParsedError c.args.text.now e) (sym c.given_error.ensures)
    (refused_given c.args.text.now c.in-Err.error.kind c.in-Err.error.at c.in-Err.ensures.err)
