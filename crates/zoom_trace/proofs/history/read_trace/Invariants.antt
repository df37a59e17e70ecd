use Rattle.std.proofs.Common.{◌≡◌, ◌++◌, length}
use Rattle.zoom_trace.specs.Lines.{trace_of, AreWritable}
use Rattle.zoom_trace.proofs.history.read_trace.Given as goal

abbrev pub invariant-loop-line : goal.invariant-loop-line
invariant-loop-line l = record {
  whole : l.text ≡ trace_of l.entries.items ++ l.rest;
  writable : AreWritable l.entries.items;
}

abbrev pub decreases-loop-line : goal.decreases-loop-line
decreases-loop-line l = length l.rest
