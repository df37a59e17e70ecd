use Rattle.zmeta_commands.proofs.Stopping.{none_yet, one_more}
use Rattle.zmeta_commands.proofs.stops.stops_of.Goals as goal

pub loop-c-init : goal.loop-c-init
loop-c-init c =
    none_yet c.args.limits.now c.args.waits.now c.args.noticed.now c.args.meta.now c.new-stops.result.items
    c.new-stops.ensures.items

pub loop-c-preserved : goal.loop-c-preserved
loop-c-preserved c =
    one_more c.args.limits.now c.args.waits.now c.args.noticed.now c.args.meta.now c.loop-c.stops.items
    c.push.new.self.items c.loop-c.c c.state-state.result c.at-limits.result c.notice_at.result c.stop_of.result
    c.loop-c.invariant c.state-state.ensures.state c.at-limits.ensures c.notice_at.ensures c.stop_of.ensures
    c.in_ok-push.ensures.items
