use Rattle.zoom_sim.proofs.RunCatalogue.{run_law}
use Rattle.zoom_sim.proofs.laws.run_law.Goals as goal

pub returns : goal.returns
returns c =
    run_law c.catalogue_laws.ensures c.length_laws.ensures c.exchange_laws.ensures.conversation
    c.one_transcript.ensures
