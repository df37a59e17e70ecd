use Rattle.std.proofs.Common.{◌∙◌, sym}
use Rattle.zoom_tcp.proofs.Hosts.{no_hosts, one_host}
use Rattle.zoom_tcp.proofs.asking.hosts_of.Goals as goal

pub loop-c-init : goal.loop-c-init
loop-c-init c = c.new-hosts.ensures.items ∙ sym (no_hosts _ c.args.limits.now c.args.waits.now)

pub loop-c-preserved : goal.loop-c-preserved
loop-c-preserved c =
    one_host c.args.limits.now c.args.waits.now c.args.addresses.now c.loop-c.c c.index-addresses-c.result c.at.result
    c.host_of.result c.loop-c.hosts.items c.push.new.self.items c.loop-c-test.true c.index-addresses-c.is c.at.ensures
    c.host_of.ensures c.loop-c.invariant c.in_ok-push.ensures.items
