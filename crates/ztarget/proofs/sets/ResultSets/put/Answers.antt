use Rattle.ztarget.proofs.NamedSets.{stand_put}
use Rattle.ztarget.proofs.sets.ResultSets.put.Goals as goal

pub returns-clause-stand : goal.returns-clause-stand
returns-clause-stand c = λ databases all here.
    stand_put databases c.args.name c.args.set c.args.self.now c.insert.new.self.entries (rw c.self.view_is at c.in_ok-insert.ensures.entries) all here
