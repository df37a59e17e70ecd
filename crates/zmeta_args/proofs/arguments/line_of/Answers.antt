use Rattle.std.proofs.Common.{sym}
use Rattle.clap.specs.Words.{found_of}
use Rattle.zmeta_args.proofs.Parsing.{is_parsed}
use Rattle.zmeta_args.proofs.arguments.line_of.Goals as goal

pub returns-in-Some : goal.returns-in-Some
returns-in-Some c = record {
  asks = is_parsed _ c.in-Some.name.now (found_of c.args.found.now) c.named_line.result (sym c.in-Some.ensures)
      c.named_line.ensures.asks;
}
