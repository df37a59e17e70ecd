use Rattle.std.proofs.Common.{◌≡◌, drop}
use Rattle.zmeta_world.specs.InMemoryRuns.{target_named}
use Rattle.zmeta_world.proofs.in_memory.target_named.Given as goal

abbrev pub invariant-loop-target : goal.invariant-loop-target
invariant-loop-target l = target_named l.name (drop l.target-index l.targets) ≡ target_named l.name l.targets
