use Rattle.std.proofs.Common.{sym, subst, Err}
use Rattle.zquery.specs.Notation.Tokens.{AreTokens}
use Rattle.zmeta_world.specs.WorldReading.{ParseResult}
use Rattle.zmeta_world.proofs.WorldParsing.{parsed_of, unparsed}
use Rattle.zmeta_world.proofs.world.parsing.read_line.Goals as goal

pub returns-in-Ok : goal.returns-in-Ok
returns-in-Ok c =
    parsed_of c.args.text.now c.as_slice.result.now c.line_of.result c.one_lexing.ensures (subst (λ ts. AreTokens ts c.args.text.now) (sym c.as_slice.ensures.value) c.in-Ok.ensures.ok) c.line_of.ensures

pub returns-in-Err : goal.returns-in-Err
returns-in-Err c = subst (λ f. ParseResult c.args.text.now (Err f)) (sym c.fault_of.ensures) (unparsed c.args.text.now c.in-Err.error c.one_lexing.ensures c.in-Err.ensures.err)
