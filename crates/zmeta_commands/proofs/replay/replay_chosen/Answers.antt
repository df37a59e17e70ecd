use Rattle.std.proofs.Common.{subst, subst₂, ℕ, List, [], Option}
use Rattle.zmeta_trace.specs.Heads.{head_texts}
use Rattle.zmeta_trace.specs.Replays.{inquiry_by, IsReplayed}
use Rattle.zoom.specs.Notice.{Notice}
use Rattle.zoom.specs.Question.{Question}
use Rattle.zoom.specs.TraceEntry.{TraceEntry}
use Rattle.zmeta_commands.specs.Finished.{IsListed}
use Rattle.zmeta_commands.proofs.Replaying.{network_replayed}
use Rattle.zmeta_commands.proofs.replay.replay_chosen.Goals as goal

pub returns-clause-replayed : goal.returns-clause-replayed
returns-clause-replayed c =
    let e = c.args.network in
    let h = head_texts c.args.head.now in
    let chosen = c.args.chosen.items in
    let replayed = c.in-Ok.replayed in
    let limits = c.limits_by-limits.result in
    let finished = c.in_ok-finished.finished in
    let fed = subst₂ (λ (questions : List Question) (addresses : List (Option (List ℕ))).
    IsReplayed (inquiry_by questions e.settings h.begun addresses) c.as_slice.result.now replayed) c.into_vec.ensures
    c.as_slice-2.ensures.value c.in-Ok.ensures in
    let is = subst (λ (entries : List TraceEntry).
    IsReplayed (inquiry_by e.questions e.settings h.begun chosen) entries replayed) c.as_slice.ensures.value fed in
    let listed = subst (λ (noticed : List Notice).
    IsListed limits [] noticed replayed.meta e.names chosen c.args.view [] finished) c.as_slice-3.ensures.value
    c.in_ok-finished.ensures in
    network_replayed c.args.view c.args.trace.now h e finished c.is_cut.result chosen replayed limits c.requires.chosen
    is c.limits_by-limits.ensures listed c.is_cut.ensures
