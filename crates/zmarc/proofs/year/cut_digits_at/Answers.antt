use Rattle.std.proofs.Common.{sym, arith}
use Rattle.zmarc.proofs.BriefTheory.{no_digits}
use Rattle.zmarc.proofs.year.cut_digits_at.Goals as goal

pub returns-else-at-octets : goal.returns-else-at-octets
returns-else-at-octets c = sym (no_digits c.args.octets.now c.args.at (omega arith))
