use Rattle.std.proofs.Common.{take}
use Rattle.zmeta_conversions.specs.Catalogues.{untabled, table_text}
use Rattle.zmeta_conversions.proofs.Lines.{ArePut}
use Rattle.zmeta_conversions.proofs.catalogues.put_tables.Given as goal

abbrev pub invariant-loop-asked : goal.invariant-loop-asked
invariant-loop-asked l =
    ArePut (untabled l.hosts) (table_text l.hosts) (take l.asked-index l.questions) l.fn.out.items l.out.items
