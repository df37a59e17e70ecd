use Rattle.std.proofs.Common.{[], ◌∙◌}
use Rattle.zoom_pool.specs.States.{is_stopped}
use Rattle.zoom_pool.proofs.Metas.{state_tells}
use Rattle.zoom_sim.proofs.drives.is_over.Goals as goal

pub returns : goal.returns
returns c = λ questions s h p a transcript. c.is_stopped.ensures
    ∙ state_tells c.one_transcript.ensures is_stopped c.args.c c.args.meta.now c.state.result c.requires
    c.state.ensures.state questions s [] h p a transcript
