use Rattle.std.proofs.Common.{◌≡◌, drop}
use Rattle.std.specs.String.{string_bytes}
use Rattle.zmarc.specs.References.{behind_each}
use Rattle.zmarc.specs.Briefs.{joined}
use Rattle.zmarc.proofs.brief.put_pieces.Given as goal

abbrev pub invariant-loop-piece : goal.invariant-loop-piece
invariant-loop-piece l =
    joined l.charset (string_bytes l.line) (behind_each (drop l.piece-index l.pieces))
    ≡ joined l.charset (string_bytes l.fn.line) (behind_each l.pieces)
