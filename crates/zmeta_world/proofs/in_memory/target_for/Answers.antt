use Rattle.zmeta_world.proofs.InMemoryTargets.{small_at}
use Rattle.zmeta_world.proofs.in_memory.target_for.Goals as goal

pub target-requires : goal.target-requires
target-requires c = small_at c.args.targets.now c.args.asked_question.now.end c.in-Some.target.now c.requires c.in-Some.ensures
