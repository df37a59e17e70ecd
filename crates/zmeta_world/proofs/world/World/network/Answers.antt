use Rattle.zmeta_world.proofs.NetworkRuns.{network_run}
use Rattle.zmeta_world.proofs.world.World.network.Goals as goal

pub returns-clause-network : goal.returns-clause-network
returns-clause-network c =
    network_run c.args.name c.args.self c.in_ok-parts.parts c.as_slice.result.now c.as_slice-2.result.now c.into_vec.result.items c.in_ok-addresses.addresses.items
    c.from_vec.result c.from_vec-2.result c.from_vec-3.result c.requires.fit c.requires.short c.as_slice.ensures c.as_slice-2.ensures c.into_vec.ensures
    c.in_ok-addresses.ensures.found c.in_ok-parts.ensures c.from_vec.ensures c.from_vec-2.ensures c.from_vec-3.ensures
