use Rattle.std.proofs.Common.{subst, ℕ, List}
use Rattle.zoom.specs.Traces.{IsTrace}
use Rattle.zmeta_commands.proofs.Replaying.{file_replayed}
use Rattle.zmeta_commands.proofs.replay.replay_file.Goals as goal

pub returns-clause-replayed : goal.returns-clause-replayed
returns-clause-replayed g c =
    file_replayed c.args.view (g.F.Folder.octets c.args.files.now c.args.path.now) c.in_ok-octets.octets
    c.in_ok-trace.trace c.replay_trace.result c.in_ok-octets.ensures.octets
    (subst (λ (l : List ℕ). IsTrace l c.in_ok-trace.trace) c.as_slice.ensures c.in_ok-trace.ensures)
    c.replay_trace.ensures.replayed
