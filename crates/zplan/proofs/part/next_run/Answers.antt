use Rattle.std.proofs.Common.{inl, inr, arith}
use Rattle.zplan.proofs.Lists.{run_of}
use Rattle.zplan.proofs.part.next_run.Goals as goal
use Rattle.zplan.proofs.part.next_run.Goals.{then-part-room, else-part-room}

pub returns-clause-some : goal.returns-clause-some
returns-clause-some c =
    let h = c.in_ok-part.ensures.some in
    let f = h.fits in
    run_of c.args.ranges.now c.args.place c.args.room c.args.step c.if-part-room.left c.in_ok-part.part h c.requires.step (elim c.if-part-room.branch [
      | then-part-room w ↦ inl (w.if-part-room.true, w.left-is)
      | else-part-room w ↦ inr (let n = w.if-part-room.false in omega (arith, f), w.left-is)
    ])
