use Rattle.std.proofs.Common.{arith}
use Rattle.zplan.proofs.Parts.{here, part_whole, part_cut}
use Rattle.zplan.proofs.part.next_part.Goals as goal

pub overflow_add-start : goal.overflow_add-start
overflow_add-start c =
    let h = here c.args.ranges.now c.args.place (record { start = 0; n = 0 }) c.requires.wanted c.requires.bounded c.requires.place c.if-place-ranges.false in
    let u = h.used in let b = h.bound in omega (arith, u, b)

pub returns-then-have-room-clause-some : goal.returns-then-have-room-clause-some
returns-then-have-room-clause-some c =
    part_whole c.args.ranges.now c.args.place c.args.room _ (here c.args.ranges.now c.args.place (record { start = 0; n = 0 }) c.requires.wanted c.requires.bounded c.requires.place c.if-place-ranges.false) c.if-have-room.true

pub returns-else-have-room-clause-some : goal.returns-else-have-room-clause-some
returns-else-have-room-clause-some c =
    part_cut c.args.ranges.now c.args.place c.args.room _ (here c.args.ranges.now c.args.place (record { start = 0; n = 0 }) c.requires.wanted c.requires.bounded c.requires.place c.if-place-ranges.false) c.requires.room c.if-have-room.false
