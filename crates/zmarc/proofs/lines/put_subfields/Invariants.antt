use Rattle.std.proofs.Common.{◌≡◌, ◌++◌, length}
use Rattle.std.specs.List.{flat_map}
use Rattle.std.specs.String.{string_bytes}
use Rattle.zmarc.specs.Subfields.{subfields}
use Rattle.zmarc.specs.Lines.{subfield_text}
use Rattle.zmarc.proofs.lines.put_subfields.Given as goal

abbrev pub invariant-loop-part : goal.invariant-loop-part
invariant-loop-part l =
    string_bytes l.line ++ flat_map (subfield_text l.charset) (subfields l.rest)
    ≡ string_bytes l.fn.line ++ flat_map (subfield_text l.charset) (subfields l.field)

abbrev pub decreases-loop-part : goal.decreases-loop-part
decreases-loop-part l = length l.rest
