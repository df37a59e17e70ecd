use Rattle.std.proofs.Common.{◌≡◌, ◌++◌, map, drop, string_bytes}
use Rattle.zmarc.specs.Lines.{field_line}
use Rattle.zmarc.specs.References.{field_behind}
use Rattle.zmarc.proofs.lines.take_field_lines.Given as goal

abbrev pub invariant-loop-field : goal.invariant-loop-field
invariant-loop-field l =
    map string_bytes l.lines.items ++ map (field_line l.charset) (map field_behind (drop l.field-index l.fields))
    ≡ map string_bytes l.fn.lines.items ++ map (field_line l.charset) (map field_behind l.fields)
