use Rattle.std.proofs.Common.{◌≡◌, ◌++◌, map, drop, string_bytes}
use Rattle.std.specs.List.{flat_map}
use Rattle.zknow_html.specs.Cells.{line}
use Rattle.zknow_html.proofs.cells.put_lines.Given as goal

abbrev pub invariant-loop-text : goal.invariant-loop-text
invariant-loop-text l = string_bytes l.out ++ flat_map line (map string_bytes (drop l.text-index l.texts))
    ≡ string_bytes l.fn.out ++ flat_map line (map string_bytes l.texts)
