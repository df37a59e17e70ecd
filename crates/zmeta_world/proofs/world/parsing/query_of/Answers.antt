use Rattle.std.proofs.Common.{sym, subst, Err}
use Rattle.zmeta_world.specs.WorldReading.{HasQuery}
use Rattle.zmeta_world.proofs.WorldParsing.{unasked}
use Rattle.zmeta_world.proofs.world.parsing.query_of.Goals as goal

pub returns-in-Err : goal.returns-in-Err
returns-in-Err c = subst (λ f. HasQuery c.args.text.now (Err f)) (sym c.fault_of.ensures) (unasked c.args.text.now c.in-Err.error c.one_answer.ensures c.in-Err.ensures.err)
