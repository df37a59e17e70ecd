use Rattle.std.proofs.Common.{sym, subst}
use Rattle.zmeta_catalogues.specs.declared.fault.Stop.{Stop}
use Rattle.zmeta_catalogues.specs.Operands.{IsOperandStop}
use Rattle.zmeta_catalogues.proofs.Prefixes.{operand_of, other_query, refused_operand}
use Rattle.zmeta_catalogues.proofs.operands.operand_attributes.Goals as goal

pub returns-in-Ok-clause-ok : goal.returns-in-Ok-clause-ok
returns-in-Ok-clause-ok c =
    operand_of c.args.text.now c.in-Ok.query c.in-Ok.ensures.ok.0 c.attributes_in.result c.attributes_in.ensures.ok

pub returns-in-Ok-clause-err : goal.returns-in-Ok-clause-err
returns-in-Ok-clause-err c =
    other_query c.one_answer.ensures c.args.key c.args.text.now c.in-Ok.query c.in-Ok.ensures.ok.0
    c.attributes_in.result c.attributes_in.ensures.err

pub returns-in-Err-clause-err : goal.returns-in-Err-clause-err
returns-in-Err-clause-err c =
    subst (λ (s : Stop). IsOperandStop c.args.key c.args.text.now s) (sym c.prefix_stop.ensures)
    (refused_operand c.one_answer.ensures c.args.key c.args.text.now c.in-Err.error.kind c.in-Err.error.at
    c.in-Err.ensures.err)
