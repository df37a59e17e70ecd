use Rattle.zknow.proofs.ListTheory.Failures.{failed_unless}
use Rattle.zknow.proofs.knowledge.Knowledge.has_failed.Goals as goal

pub returns : goal.returns
returns c = rw (← c.self.view_is) (failed_unless c.self.inside.tables c.self.invariant.lawful c.is_empty.result c.is_empty.ensures)
