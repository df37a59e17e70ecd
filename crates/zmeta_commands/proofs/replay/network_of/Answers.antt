use Rattle.std.proofs.Common.{sym, subst, Err}
use Rattle.zmeta_devices.specs.declared.fault.Fault.{Fault}
use Rattle.zmeta_trace.specs.Heads.{head_texts}
use Rattle.zmeta_commands.specs.Replay.{HeadNetworkResult}
use Rattle.zmeta_commands.proofs.Replaying.{no_plan}
use Rattle.zmeta_commands.proofs.replay.network_of.Goals as goal

pub returns-in-Err-plan-clause-network : goal.returns-in-Err-plan-clause-network
returns-in-Err-plan-clause-network c =
    let h = head_texts c.args.head.now in
    subst (λ (f : Fault). HeadNetworkResult h (Err f)) (sym c.at_world-in-Err-plan.ensures)
    (no_plan h c.in-Ok.world c.in-Err-plan.fault c.in-Ok.ensures.search c.in-Err-plan.ensures)
