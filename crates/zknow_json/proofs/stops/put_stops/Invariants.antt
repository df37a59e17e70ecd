use Rattle.std.proofs.Common.{◌≡◌, ◌++◌, drop, string_bytes}
use Rattle.zknow_json.specs.Stops.{lines_from}
use Rattle.zknow_json.proofs.stops.put_stops.Given as goal

abbrev pub invariant-loop-target : goal.invariant-loop-target
invariant-loop-target l = string_bytes l.out ++ lines_from l.names l.target (drop l.target l.stops)
    ≡ string_bytes l.fn.out ++ lines_from l.names 0 l.stops
