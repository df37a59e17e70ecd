use Rattle.std.proofs.Common.{ap, [], length, arith}
use Rattle.zoom_pool.specs.Metas.{MetaLinks}
use Rattle.zoom_trace.proofs.Recorded.{more_recorded, then_recorded}
use Rattle.zoom_tcp.proofs.asking.Shell.go.Goals as goal

pub returns-then-is_over-clause-recorded : goal.returns-then-is_over-clause-recorded
returns-then-is_over-clause-recorded g c =
    more_recorded g.T.Write.contents c.args.recorder.now c.loop.recorder c.act_all.new.recorder c.loop.invariant
    c.in_ok-act_all.ensures

pub look-again-requires : goal.look-again-requires
look-again-requires g c =
    let same = ap (λ (m : MetaLinks). length m.pool.connections) c.meta.ensures in
    omega (arith, same, c.in_ok-act_all.ensures.are.size, c.loop.invariant.are.size, c.requires.few)

pub loop-preserved : goal.loop-preserved
loop-preserved g c =
    let W = g.T.Write.contents in
    let old = c.args.recorder.now in
    let acted = more_recorded W old c.loop.recorder c.act_all.new.recorder c.loop.invariant c.in_ok-act_all.ensures in
    let written = then_recorded W [] old c.act_all.new.recorder c.write_out.new.self acted c.write_out.ensures.recorded
    in
    let found = more_recorded W old c.write_out.new.self c.look_up.new.recorder written c.in_ok-most.ensures in
    more_recorded W old c.look_up.new.recorder c.wake.new.recorder found c.in_ok-self.ensures.recorded
