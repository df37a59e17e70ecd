-- what was taken from the rest was appended
use Rattle.zoom_trace.proofs.TracedLines.{HasPut}
use Rattle.zoom_trace.proofs.tracing.write_pieces.Given as goal

abbrev pub invariant-loop : goal.invariant-loop
invariant-loop g l = HasPut (g.W.Write.contents l.initial.sink) (g.W.Write.contents l.sink) l.text l.rest
