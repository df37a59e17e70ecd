use Rattle.zknow.specs.Tables.FactRefs.{fact_of}
use Rattle.zknow.proofs.SavedTheory.SavedParts.{on_added}
use Rattle.zknow.proofs.saved.saving.Saving.put_fact.Goals as goal

pub returns-clause-ok : goal.returns-clause-ok
returns-clause-ok c = on_added (fact_of c.args.fact.now) c.args.self.now c.put.new.self c.put.result (c.put.ensures (fact_of c.args.fact.now) c.in_ok-node.ensures)
