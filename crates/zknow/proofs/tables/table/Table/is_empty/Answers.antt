use Rattle.std.proofs.Common.{length, ap}
use Rattle.zknow.proofs.ListTheory.Failures.{nil_of}
use Rattle.zknow.proofs.tables.table.Table.is_empty.Goals as goal

pub returns : goal.returns
returns g c = rw (← c.self.view_is) (λ h. nil_of c.self.inside.map.entries (c.is_empty.ensures.0 h), λ h. c.is_empty.ensures.1 (ap length h))
