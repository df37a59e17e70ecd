use Rattle.std.proofs.Common.{◌≡◌, ◌++◌, map, drop, string_bytes}
use Rattle.zknow_html.specs.Catalogues.{stops_from}
use Rattle.zknow_html.proofs.catalogues.put_stops.Given as goal

abbrev pub invariant-loop-target : goal.invariant-loop-target
invariant-loop-target l =
    string_bytes l.out ++ stops_from (map string_bytes l.shown) l.target (drop l.target l.stops)
    ≡ string_bytes l.fn.out ++ stops_from (map string_bytes l.shown) 0 l.stops
