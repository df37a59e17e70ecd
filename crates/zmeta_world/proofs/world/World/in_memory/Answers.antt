use Rattle.zmeta_world.proofs.InMemoryTargets.{in_memory_run}
use Rattle.zmeta_world.proofs.world.World.in_memory.Goals as goal

pub returns-clause-in_memory_run : goal.returns-clause-in_memory_run
returns-clause-in_memory_run c =
    in_memory_run c.args.name c.args.self c.in_ok-parts.parts c.as_slice.result.now c.as_slice-2.result.now c.into_vec.result.items c.in_ok-targets.targets.items
    c.from_vec.result c.from_vec-2.result c.from_vec-3.result c.requires.fit c.requires.short c.as_slice.ensures c.as_slice-2.ensures c.into_vec.ensures
    c.in_ok-targets.ensures.found c.in_ok-parts.ensures c.from_vec.ensures c.from_vec-2.ensures c.from_vec-3.ensures
