use Rattle.std.proofs.Common.{sym, subst}
use Rattle.zoom.specs.NewTargets.{AreNew}
use Rattle.zmeta_commands.proofs.looped.loop_in_memory.Goals as goal

pub run_loopback-requires-clause-new : goal.run_loopback-requires-clause-new
run_loopback-requires-clause-new g c = subst AreNew (sym c.into_vec-2.ensures) c.requires.2.fresh
