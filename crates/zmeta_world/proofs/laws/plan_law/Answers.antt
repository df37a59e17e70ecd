use Rattle.zmeta_world.proofs.OnePlan.{plan_one}
use Rattle.zmeta_world.proofs.laws.plan_law.Goals as goal

pub returns : goal.returns
returns c = plan_one (record { lexing = c.one_lexing.ensures; query = c.one_answer.ensures })
