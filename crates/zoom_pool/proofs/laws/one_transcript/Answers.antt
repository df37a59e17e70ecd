use Rattle.zoom_pool.proofs.Uniqueness.{one_transcript_of}
use Rattle.zoom_pool.proofs.laws.one_transcript.Goals as goal

pub returns : goal.returns
returns c = one_transcript_of c.one_input.ensures
