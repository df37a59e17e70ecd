use Rattle.zmarc.proofs.SafeLines.{field_lines_are_safe}
use Rattle.zmarc.proofs.lines.gather_lines.Goals as goal

pub returns-clause-safe : goal.returns-clause-safe
returns-clause-safe c = field_lines_are_safe c.args.reading c.args.octets.now
