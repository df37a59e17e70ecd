use Rattle.std.specs.declared.alloc.AllocError.{AllocError}
use Rattle.std.proofs.Common.{◌≤◌, ◌-◌, ◌^◌, true, Ok, refl, subst, arith}
use Rattle.std.proofs.lemmas.Bool.Decides.{nat_tests}
use Rattle.zoom_pool.specs.Hosts.{ReleaseResult}
use Rattle.zoom_sim.specs.RunPeers.{ReleaseAllStep}
use Rattle.zoom_sim.proofs.RunCarries.{releases_none, releases_trans, released}
use Rattle.zoom_sim.proofs.RunReleases.{putting_none, putting_more, putting_fine, empties, empties_all, empties_fine}
use Rattle.zoom_sim.proofs.RunMoves.{released_more, released_last, released_most}
use Rattle.zoom_sim.proofs.peers.Peer.release_all.Goals as goal

pub loop-count-init : goal.loop-count-init
loop-count-init c = (releases_none c.args.self.now, putting_none c.args.self.now, refl, refl)

pub loop-count-preserved : goal.loop-count-preserved
loop-count-preserved c =
    let at = c.loop-count in
    let host = c.release.new.self in
    let laws = c.exchange_laws.ensures in
    let put : ReleaseResult {E = AllocError} 0 (Ok true) at.self.host host =
    subst (λ b. ReleaseResult {E = AllocError} 0 (Ok b) at.self.host host) c.if-not-branch.false
    c.in_ok-release.ensures.releases in (
      releases_trans c.args.self.now at.self (record at.self { host = host }) at.invariant.0
          (released AllocError 0 true at.self host put),
      putting_more laws.one_served laws.released at._count 0 c.args.self.now at.self host at.invariant.1 put.0 put.1,
      released_more AllocError at._count c.args.self.now at.self host at.invariant.2 put,
      grind (arith, nat_tests),
    )

pub returns-then-not-branch-clause-releases : goal.returns-then-not-branch-clause-releases
returns-then-not-branch-clause-releases c =
    let at = c.loop-count in
    let host = c.release.new.self in
    releases_trans c.args.self.now at.self (record at.self { host = host }) at.invariant.0
    (released AllocError 0 c.in_ok-release.field-0 at.self host c.in_ok-release.ensures.releases)

all_released : (c : goal.Then-not-branch)
    → ReleaseAllStep c.args.self.now (record c.loop-count.self { host = c.release.new.self })
all_released c =
    let at = c.loop-count in
    let host = c.release.new.self in
    let laws = c.exchange_laws.ensures in
    empties laws.one_served laws.empty at._count c.args.self.now at.self host at.invariant.1 AllocError
    (subst (λ b. ReleaseResult {E = AllocError} 0 (Ok b) at.self.host host) c.if-not-branch.true
    c.in_ok-release.ensures.releases)

pub returns-then-not-branch-clause-empties : goal.returns-then-not-branch-clause-empties
returns-then-not-branch-clause-empties c = all_released c

pub returns-then-not-branch-clause-fine : goal.returns-then-not-branch-clause-fine
returns-then-not-branch-clause-fine c =
    empties_fine c.args.self.now (record c.loop-count.self { host = c.release.new.self }) (all_released c)

pub returns-clause-fine : goal.returns-clause-fine
returns-clause-fine c = putting_fine c.loop-count._count c.args.self.now c.loop-count.self c.loop-count.invariant.1

pub returns-clause-empties : goal.returns-clause-empties
returns-clause-empties c =
    let laws = c.exchange_laws.ensures in
    let turns = c.loop-count-test.false in
    empties_all laws.count laws.few c.loop-count._count c.args.self.now c.loop-count.self (omega (arith, turns))
    c.loop-count.invariant.1

pub returns-then-not-branch-clause-all : goal.returns-then-not-branch-clause-all
returns-then-not-branch-clause-all c =
    let at = c.loop-count in
    released_last AllocError at.released at._count c.args.self.now at.self c.release.new.self at.invariant.3
    at.invariant.2
    (subst (λ b. ReleaseResult {E = AllocError} 0 (Ok b) at.self.host c.release.new.self) c.if-not-branch.true
    c.in_ok-release.ensures.releases)

pub returns-clause-all : goal.returns-clause-all
returns-clause-all c =
    let most : 2 ^ 64 - 1 ≤ c.loop-count._count = omega (arith, c.loop-count-test.false) in
    released_most c.loop-count.released c.loop-count._count c.args.self.now c.loop-count.self c.loop-count.invariant.3
    most c.loop-count.invariant.2
