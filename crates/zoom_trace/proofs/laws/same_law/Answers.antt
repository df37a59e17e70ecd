use Rattle.zoom_trace.proofs.Repeating.{same_of}
use Rattle.zoom_trace.proofs.laws.same_law.Goals as goal

pub returns : goal.returns
returns c = same_of (record {
  numbers = c.number_law.ensures;
  driven = c.driven_laws.ensures;
  input = c.one_input.ensures;
  transcript = c.one_transcript.ensures;
})
