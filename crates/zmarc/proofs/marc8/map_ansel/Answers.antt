use Rattle.std.proofs.Common.{arith}
use Rattle.zmarc.proofs.AnselTheory.{from_table}
use Rattle.zmarc.proofs.marc8.map_ansel.Goals as goal

pub returns-else-octet-lt160 : goal.returns-else-octet-lt160
returns-else-octet-lt160 c =
    from_table c.args.octet c.from.result c.if-octet-lt160.false (omega arith) c.from.ensures
