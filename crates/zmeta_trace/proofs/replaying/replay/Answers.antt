use Rattle.std.proofs.Common.{length}
use Rattle.zmeta_trace.specs.Replays.{inquiry_by}
use Rattle.zmeta_trace.proofs.Again.{replayed}
use Rattle.zmeta_trace.proofs.replaying.replay.Goals as goal

pub returns : goal.returns
returns c =
    replayed (inquiry_by c.args.questions.items c.args.settings c.args.begun.now c.args.addresses.now)
    c.args.entries.now (length c.args.addresses.now) c.in_ok-asking.asking c.replay.new.asking _
    c.in_ok-asking.ensures.after c.in_ok-asking.ensures.size c.in-Ok.ensures.fed.1 c.replay.ensures.size
    c.is_over-is_over.ensures c.into_meta.ensures c.requires.equal c.in_ok-notices.ensures
