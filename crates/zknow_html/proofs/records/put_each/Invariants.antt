use Rattle.std.proofs.Common.{◌≡◌, ◌++◌, map, drop, string_bytes}
use Rattle.std.specs.Prelude.{codes}
use Rattle.std.specs.List.{flat_map}
use Rattle.zknow_html.specs.Records.{record_row}
use Rattle.zknow_html.proofs.records.put_each.Given as goal

abbrev pub invariant-loop-description : goal.invariant-loop-description
invariant-loop-description l = string_bytes l.out
    ++ flat_map (record_row (codes "differs") l.marked l.parts (map string_bytes l.shown) l.key)
    (drop l.description-index l.descriptions)
    ≡ string_bytes l.fn.out
    ++ flat_map (record_row (codes "differs") l.marked l.parts (map string_bytes l.shown) l.key) l.descriptions
