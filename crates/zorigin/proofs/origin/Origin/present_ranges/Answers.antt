use Rattle.zorigin.specs.Standings.{Present}
use Rattle.zorigin.proofs.CallSteps.{called_after, call_answered, call_admissible}
use Rattle.zorigin.proofs.origin.Origin.present_ranges.Goals as goal

pub returns-clause-returned : goal.returns-clause-returned
returns-clause-returned c = λ settings log after called. call_answered settings log (Present c.args.op c.args.set c.args.ranges.now) after (c.make_present.ensures.returned called)

pub returns-clause-after : goal.returns-clause-after
returns-clause-after c = λ settings log after called. called_after settings log (Present c.args.op c.args.set c.args.ranges.now) after (c.make_present.ensures.after called)

pub returns-clause-memory : goal.returns-clause-memory
returns-clause-memory c = λ e settings log after. call_admissible settings log (Present c.args.op c.args.set c.args.ranges.now) after (c.make_present.ensures.memory e)
