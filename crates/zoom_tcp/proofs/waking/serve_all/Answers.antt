use Rattle.std.proofs.Common.{◌≡◌, ◌∙◌, subst, rules}
use Rattle.zoom_trace.proofs.Recorded.{none_recorded, more_recorded}
use Rattle.zoom_tcp.specs.Waking.{none_told, one_told, AreTold}
use Rattle.zoom_tcp.proofs.waking.serve_all.Goals as goal

pub loop-init : goal.loop-init
loop-init g c = (none_recorded g.T.Write.contents c.args.recorder.now, none_told)

pub loop-preserved : goal.loop-preserved
loop-preserved g c = (
  more_recorded g.T.Write.contents c.args.recorder.now c.loop.recorder c.serve_next.new.recorder c.loop.invariant.0
      c.in_ok-serve_next.ensures.recorded,
  one_told c.loop.invariant.1 c.in_ok-serve_next.ensures.told,
)

pub returns-clause-told : goal.returns-clause-told
returns-clause-told g c =
    let all : c.loop.counter ≡ c.queued-end.result = search rules in
    subst
    (λ n. AreTold g.R.Ready.IsServed g.T.Write.contents c.args.now c.args.ready.now c.args.recorder.now n c.loop.ready
    c.loop.recorder) (all ∙ c.queued-end.ensures) c.loop.invariant.1
