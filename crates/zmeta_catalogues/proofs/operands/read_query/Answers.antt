use Rattle.std.proofs.Common.{sym, subst}
use Rattle.zmeta_catalogues.specs.declared.fault.Stop.{Stop}
use Rattle.zmeta_catalogues.specs.Operands.{IsQueryStop}
use Rattle.zmeta_catalogues.proofs.Prefixes.{refused_query}
use Rattle.zmeta_catalogues.proofs.operands.read_query.Goals as goal

pub returns-in-Err-clause-err : goal.returns-in-Err-clause-err
returns-in-Err-clause-err c =
    subst (λ (s : Stop). IsQueryStop c.args.key c.args.text.now s) (sym c.stop_of.ensures)
    (refused_query c.args.key c.args.text.now c.in-Err.error.kind c.in-Err.error.at c.in-Err.ensures.err)
