use Rattle.std.specs.List.{flat_map}
use Rattle.std.proofs.lemmas.Result.{err_from_is_err_and}
use Rattle.zmeta_conversions.specs.Worlds.{unsaid_host, host_line, first_unsaid}
use Rattle.zmeta_conversions.proofs.Lines.{none_put, one_put, all_put, first_unsaid_is, refused_as}
use Rattle.zmeta_conversions.proofs.worlds.put_hosts.Goals as goal

pub loop-host-init : goal.loop-host-init
loop-host-init c = none_put unsaid_host host_line c.args.out.now.items

pub loop-host-preserved : goal.loop-host-preserved
loop-host-preserved c =
    one_put unsaid_host host_line c.args.hosts.now c.loop-host.host-index c.host-item.result c.args.out.now.items
    c.loop-host.out.items c.put_host.new.out.items
    c.loop-host-test.true c.host-item.is c.loop-host.invariant c.in_ok-put_host.ensures

pub returns-in_err-put_host : goal.returns-in_err-put_host
returns-in_err-put_host c =
    let p = err_from_is_err_and c.from_residual.result c.from_residual.ensures.1 in
    refused_as (first_unsaid unsaid_host c.args.hosts.now) (flat_map host_line c.args.hosts.now) c.args.out.now.items
    c.put_host.new.out.items c.in_err-put_host.field-0.0 p.0 c.from_residual.result p.1 p.2
    (first_unsaid_is unsaid_host host_line c.args.hosts.now c.loop-host.host-index c.host-item.result
    c.args.out.now.items c.loop-host.out.items c.in_err-put_host.field-0.0
    c.loop-host-test.true c.host-item.is c.loop-host.invariant c.in_err-put_host.ensures)

pub returns : goal.returns
returns c =
    all_put unsaid_host host_line c.args.hosts.now c.loop-host.host-index c.args.out.now.items c.loop-host.out.items
    c.loop-host-test.false c.loop-host.invariant
