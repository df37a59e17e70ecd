use Rattle.std.proofs.Common.{◌≤◌, arith}
use Rattle.zmeta_catalogues.specs.SortedLines.{ends_name}
use Rattle.zmeta_catalogues.proofs.SortedLines.{all_seen}
use Rattle.zmeta_catalogues.proofs.sorted_lines.least_number.Goals as goal

pub returns : goal.returns
returns c =
    all_seen (ends_name c.args.len) c.args.lines.now c.args.from c.args.to c.lines.at c.lines.least
    c.lines-test.false c.lines.auto.at-end c.lines.invariant.none_done c.lines.invariant.least
