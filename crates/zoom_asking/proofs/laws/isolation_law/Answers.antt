use Rattle.zoom_asking.proofs.Isolation.{isolation_of}
use Rattle.zoom_asking.proofs.laws.isolation_law.Goals as goal

pub returns : goal.returns
returns c = isolation_of (record {
  numbers = c.number_law.ensures;
  driven = c.driven_laws.ensures;
  input = c.one_input.ensures;
  transcript = c.one_transcript.ensures;
})
