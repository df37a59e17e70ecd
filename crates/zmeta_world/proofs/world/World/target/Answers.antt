use Rattle.zmeta_world.proofs.InMemoryTargets.{small_target}
use Rattle.zmeta_world.proofs.world.World.target.Goals as goal

pub returns-clause-small : goal.returns-clause-small
returns-clause-small c =
    small_target c.args.name.now c.as_slice.result.now c.args.self.now.targets c.target_named.result c.as_slice.ensures c.requires.small c.target_named.ensures
