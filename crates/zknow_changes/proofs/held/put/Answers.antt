use Rattle.zknow_changes.specs.Indexes.{held_cmp}
use Rattle.zknow_changes.proofs.HeldTheory.{held_exact, put_members}
use Rattle.zknow_changes.proofs.held.put.Goals as goal

pub returns : goal.returns
returns c = λ q.
    rw c.in_ok-insert.ensures.keys (put_members held_cmp held_exact c.args.set.now.keys c.args.held q)
