use Rattle.zoom_asking.proofs.Taking.{stands_at}
use Rattle.zoom_asking.proofs.talk.condition.Goals as goal

pub returns : goal.returns
returns c =
    stands_at c.one_transcript.ensures c.args.c c.args.meta.now c.state.result c.condition_of.result c.requires
    c.state.ensures.state c.condition_of.ensures
