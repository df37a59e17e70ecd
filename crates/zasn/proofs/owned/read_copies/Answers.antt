use Rattle.zasn.proofs.Withins.{found_of_copies}
use Rattle.zasn.proofs.owned.read_copies.Goals as goal

pub returns-clause-finds : goal.returns-clause-finds
returns-clause-finds g c =
    found_of_copies g.T.Taken.table c.args.parts.now c.in_ok-own.own c.take-answer.new.parts c.leave.new.self c.len.result c.take-answer.result
    c.in_ok-own.ensures c.take-answer.ensures.finds c.len.ensures c.leave.ensures
