use Rattle.std.proofs.Common.{None, Some}
use Rattle.ztarget.proofs.NamedSets.{found_set}
use Rattle.ztarget.proofs.sets.ResultSets.hits_of.Goals as goal

pub returns-in-Some-clause-found : goal.returns-in-Some-clause-found
returns-in-Some-clause-found c = λ databases.
    rw (← c.self.view_is, c.hits.ensures.hits) (found_set databases c.args.name.now c.self.inside.by_name.entries (Some c.in-Some.set) c.in-Some.ensures.value)

pub returns-in-None-clause-found : goal.returns-in-None-clause-found
returns-in-None-clause-found c = λ databases.
    rw (← c.self.view_is) (found_set databases c.args.name.now c.self.inside.by_name.entries None c.in-None.ensures.value)
