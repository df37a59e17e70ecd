use Rattle.std.proofs.Common.{◌≡◌, ◌-◌, ◌^◌, true, Ok, sym, subst, rules}
use Rattle.std.proofs.lemmas.Result.{err_from_is_err_and}
use Rattle.std.specs.declared.alloc.AllocError.{AllocError}
use Rattle.zoom_pool.specs.Hosts.{ReleaseResult}
use Rattle.zoom_io.specs.Answering.{AfterReleaseAll}
use Rattle.zoom_io.proofs.Answering.{releases_none, releases_more, releases_all, releases_starve, releases_many}
use Rattle.zoom_io.proofs.replies.release_all.Goals as goal

pub loop-init : goal.loop-init
loop-init c = releases_none c.args.host.now

pub loop-preserved : goal.loop-preserved
loop-preserved c =
    let put : ReleaseResult {E = AllocError} 0 (Ok true) c.loop.host c.release.new.self =
    subst (λ b. ReleaseResult {E = AllocError} 0 (Ok b) c.loop.host c.release.new.self) c.if-not-branch.false
    c.in_ok-release.ensures.releases in
    releases_more c.loop.counter c.args.host.now c.loop.host c.release.new.self c.loop.invariant put.1

pub returns-in_err-release : goal.returns-in_err-release
returns-in_err-release c =
    let p = err_from_is_err_and c.from_residual.result c.from_residual.ensures.1 in
    subst (λ z. AfterReleaseAll z c.args.host.now c.release.new.self) (sym p.1)
    (releases_starve AllocError p.0 c.loop.counter c.args.host.now c.loop.host c.release.new.self c.loop.invariant
    c.in_err-release.ensures.releases)

pub returns-then-not-branch : goal.returns-then-not-branch
returns-then-not-branch c =
    releases_all AllocError c.loop.counter c.args.host.now c.loop.host c.release.new.self c.loop.invariant
    (subst (λ b. ReleaseResult {E = AllocError} 0 (Ok b) c.loop.host c.release.new.self) c.if-not-branch.true
    c.in_ok-release.ensures.releases)

pub returns : goal.returns
returns c =
    let most : c.loop.counter ≡ 2 ^ 64 - 1 = search rules in
    releases_many AllocError _ c.loop.counter c.args.host.now c.loop.host most c.loop.invariant
