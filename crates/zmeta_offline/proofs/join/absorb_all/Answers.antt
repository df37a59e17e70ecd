use Rattle.std.proofs.lemmas.Result.{err_from_is_err_and}
use Rattle.zmeta_offline.proofs.Joining.{all_refused, joined_more, in_place}
use Rattle.zmeta_offline.proofs.join.absorb_all.Goals as goal

pub returns-in_err-absorb_named : goal.returns-in_err-absorb_named
returns-in_err-absorb_named g c =
    let p = err_from_is_err_and c.from_residual.result c.from_residual.ensures.1 in
    all_refused (g.F.Folder.octets c.args.files.now) c.args.names.now c.args.paths.now c.args.knowledge.now
    c.loop-path.knowledge c.absorb_named.new.knowledge c.loop-path.path-index _
    c.in_err-absorb_named.field-0.0 p.0 c.from_residual.result p.1 p.2 c.loop-path-test.true
    (in_place c.args.paths.now c.loop-path.path-index _ c.loop-path-test.true) c.loop-path.invariant c.in_err-absorb_named.ensures

pub loop-path-preserved : goal.loop-path-preserved
loop-path-preserved g c before joined =
    joined_more (g.F.Folder.octets c.args.files.now) c.args.names.now before c.args.paths.now c.loop-path.path-index _
    c.loop-path.knowledge c.absorb_named.new.knowledge c.loop-path-test.true
    (in_place c.args.paths.now c.loop-path.path-index _ c.loop-path-test.true)
    (c.loop-path.invariant before joined) c.in_ok-absorb_named.ensures
