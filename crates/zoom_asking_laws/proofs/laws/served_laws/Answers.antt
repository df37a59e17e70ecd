use Rattle.zoom_asking_laws.proofs.Serving.{served_of}
use Rattle.zoom_asking_laws.proofs.laws.served_laws.Goals as goal

pub returns : goal.returns
returns c = served_of (record {
  exchange = c.exchange_laws.ensures;
  transcripts = c.one_transcript.ensures;
  takes = c.take_laws.ensures;
}) c.catalogue_laws.ensures
