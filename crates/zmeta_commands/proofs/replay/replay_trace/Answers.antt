use Rattle.zmeta_trace.specs.Heads.{head_texts}
use Rattle.zmeta_commands.proofs.Replaying.{head_unplanned}
use Rattle.zmeta_commands.proofs.replay.replay_trace.Goals as goal

pub returns-clause-replayed : goal.returns-clause-replayed
returns-clause-replayed c =
    let read = c.in-Ok.ensures in
    head_unplanned c.args.view c.args.trace.now (head_texts c.in-Ok.head) read.0 c.in-Err-network_of.fault
    (rw c.as_slice.ensures.value at read.1) c.in-Err-network_of.ensures.network
