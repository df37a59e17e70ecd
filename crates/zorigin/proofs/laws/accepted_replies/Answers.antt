use Rattle.zorigin.proofs.Accepting.{accepted_so, so_accepted}
use Rattle.zorigin.proofs.laws.accepted_replies.Goals as goal

pub returns-clause-accepted : goal.returns-clause-accepted
returns-clause-accepted c = accepted_so

pub returns-clause-only : goal.returns-clause-only
returns-clause-only c = so_accepted
