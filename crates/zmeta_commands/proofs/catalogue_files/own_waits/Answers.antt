use Rattle.zmeta_commands.proofs.Unions.{no_waits, more_waits}
use Rattle.zmeta_commands.proofs.catalogue_files.own_waits.Goals as goal

pub loop-each-init : goal.loop-each-init
loop-each-init c = no_waits c.args.given.now c.new-waits.result.items c.new-waits.ensures.items

pub loop-each-preserved : goal.loop-each-preserved
loop-each-preserved c =
    more_waits c.args.given.now c.args.said.now c.loop-each.each-index _ c.own_wait.result c.loop-each.waits.items
    c.push.new.self.items c.loop-each-test.true c.loop-each.invariant c.own_wait.ensures c.in_ok-push.ensures.items
