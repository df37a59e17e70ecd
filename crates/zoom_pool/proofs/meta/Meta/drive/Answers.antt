use Rattle.std.proofs.Common.{◌<◌, Ok, subst, sym, arith}
use Rattle.std.specs.declared.alloc.AllocError.{AllocError}
use Rattle.zoom_pool.specs.Metas.{AdvanceResult}
use Rattle.zoom_pool.proofs.Pools.{else_more}
use Rattle.zoom_pool.proofs.Advancing.{drove_admitted, drove_skipped, drove_rests, drove_wanting, drove_all}
use Rattle.zoom_pool.proofs.meta.Meta.drive.Goals.{in-Admitted, in-Skipped}
use Rattle.zoom_pool.proofs.meta.Meta.drive.Goals as goal

pub advance-requires : goal.advance-requires
advance-requires c = subst (λ n. c.args.c < n) (sym c.loop.invariant.1.size) c.requires

pub returns-in_err-advance-clause-after : goal.returns-in_err-advance-clause-after
returns-in_err-advance-clause-after c = drove_wanting _ _ c.args.c c.loop.admitted c.loop.counter c.args.self.now c.loop.self
    c.advance.new.self c.in_err-advance.field-0.0 c.from_residual.result c.from_residual.ensures.0 c.loop.invariant.0
    c.in_err-advance.ensures.after

pub returns-in-Idle-clause-after : goal.returns-in-Idle-clause-after
returns-in-Idle-clause-after c = drove_rests AllocError c.args.c c.loop.admitted c.loop.counter c.args.self.now c.loop.self
    c.advance.new.self c.loop.invariant.0
    (subst (λ z. AdvanceResult {E = AllocError} c.args.c (Ok z) c.loop.self c.advance.new.self) c.in-Idle.is c.in_ok-advance.ensures.after)

pub loop-preserved : goal.loop-preserved
loop-preserved c = elim c.match-branch-2.branch [
  | in-Admitted w ↦ rw w.admitted-is (
    drove_admitted AllocError c.args.c c.loop.admitted c.loop.counter c.args.self.now c.loop.self c.advance.new.self
        c.loop.invariant.0 (subst (λ z. AdvanceResult {E = AllocError} c.args.c (Ok z) c.loop.self c.advance.new.self) w.in-Admitted.is
        c.in_ok-advance.ensures.after),
    else_more c.args.c c.args.self.now.pool c.loop.self.pool c.advance.new.self.pool c.loop.invariant.1
        c.in_ok-advance.ensures.rest,
    omega (arith, c.loop.invariant.2),
  )
  | in-Skipped w ↦ rw w.admitted-is (
    drove_skipped AllocError c.args.c c.loop.admitted c.loop.counter c.args.self.now c.loop.self c.advance.new.self
        c.loop.invariant.0 (subst (λ z. AdvanceResult {E = AllocError} c.args.c (Ok z) c.loop.self c.advance.new.self) w.in-Skipped.is
        c.in_ok-advance.ensures.after),
    else_more c.args.c c.args.self.now.pool c.loop.self.pool c.advance.new.self.pool c.loop.invariant.1
        c.in_ok-advance.ensures.rest,
    omega (arith, c.loop.invariant.2),
  )
]

pub returns-clause-after : goal.returns-clause-after
returns-clause-after c = drove_all AllocError c.args.c c.loop.admitted c.loop.counter c.args.self.now c.loop.self
    c.loop.invariant.0 c.requires (omega (arith, c.loop-test.false))
