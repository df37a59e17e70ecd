use Rattle.std.proofs.Common.{◌≡◌, ◌++◌, map, drop, string_bytes}
use Rattle.zmarc.specs.Lines.{ended_lines}
use Rattle.zmarc.proofs.lines.put_each.Given as goal

abbrev pub invariant-loop-line : goal.invariant-loop-line
invariant-loop-line l =
    string_bytes l.out ++ ended_lines (map string_bytes (drop l.line-index l.lines))
    ≡ string_bytes l.fn.out ++ ended_lines (map string_bytes l.lines)
