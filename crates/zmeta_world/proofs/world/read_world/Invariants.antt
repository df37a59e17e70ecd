use Rattle.std.specs.Option.{option_map}
use Rattle.zmeta_world.specs.WorldReading.{IsReading, octets_left}
use Rattle.zmeta_world.proofs.world.read_world.Given as goal

abbrev pub invariant-loop-rest : goal.invariant-loop-rest
invariant-loop-rest l = IsReading l.file l.number (option_map (λ r. r.now) l.rest) l.reader

abbrev pub decreases-loop-rest : goal.decreases-loop-rest
decreases-loop-rest l = octets_left (option_map (λ r. r.now) l.rest)
