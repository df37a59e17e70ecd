use Rattle.std.proofs.Common.{IfOk, [], sym, subst, subst₂}
use Rattle.zoom.specs.NewTargets.{AreNew}
use Rattle.zoom.specs.Run.{IsRun}
use Rattle.zoom.specs.RunMade.{IsMovedRunInMemory}
use Rattle.zoom.specs.RunRounds.{IsCompleteRun}
use Rattle.zmeta_commands.specs.Finished.{IsListed}
use Rattle.zmeta_commands.proofs.Listing.{listed_run}
use Rattle.zmeta_commands.proofs.run.run_in_memory.Goals as goal

pub run_all-requires-clause-new : goal.run_all-requires-clause-new
run_all-requires-clause-new c = subst AreNew (sym c.into_vec-2.ensures) c.requires.2.fresh

pub returns-clause-run : goal.returns-clause-run
returns-clause-run c =
    let meta = c.in_ok-meta.meta in
    let s = c.args.run.settings in
    let is = subst₂ (λ questions targets. IsRun questions s targets meta) c.into_vec.ensures c.into_vec-2.ensures
    c.in_ok-meta.ensures.is_run in
    let whole = subst₂ (λ questions targets. IsCompleteRun questions s targets meta) c.into_vec.ensures
    c.into_vec-2.ensures c.in_ok-meta.ensures.whole in
    let moved = subst (λ moves. IsMovedRunInMemory c.args.run.questions s c.args.run.targets moves meta)
    c.as_slice.ensures
    (subst₂ (λ questions targets. IsMovedRunInMemory questions s targets c.as_slice.result.now meta)
    c.into_vec.ensures c.into_vec-2.ensures c.in_ok-meta.ensures.moved) in
    let listed = subst (λ addresses. IfOk c.new-2.result
    (IsListed c.default-limits.result [] [] meta c.args.run.names addresses c.args.view []))
    c.new.ensures.items c.new-2.ensures in
    listed_run c.new-2.result c.args.view c.args.run meta is whole moved _ listed
