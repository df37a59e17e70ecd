use Rattle.std.proofs.Common.{not, length, ap, ◌∙◌, arith, None}
use Rattle.std.proofs.lemmas.List.{length-replicate}
use Rattle.std.proofs.lemmas.Option.{slice_get-get_or}
use Rattle.zoom_clock.proofs.Planning.{none_planned, one_planned}
use Rattle.zoom_clock.proofs.clock.Clock.new.Goals as goal

pub loop-c-init : goal.loop-c-init
loop-c-init c =
    none_planned c.args.start (not c.args.in_order) c.args.plans.now c.new-courses.result.items
    c.in_ok-wakes.wakes c.new-courses.ensures.items
    (ap length c.in_ok-wakes.ensures ∙ length-replicate (length c.args.plans.now) None)

pub set-requires : goal.set-requires
set-requires c = let s = c.loop-c.invariant.size in omega arith

pub loop-c-preserved : goal.loop-c-preserved
loop-c-preserved c =
    one_planned c.args.start (not c.args.in_order) c.loop-c.c c.args.plans.now _ c.loop-c.courses.items c.push.new.self.items
    c.loop-c.wakes c.set.new.self c.first_course-course.result c.wake_at-time.result
    c.loop-c.invariant (slice_get-get_or c.args.plans.now c.loop-c.c _ (let t = c.loop-c-test.true in omega arith))
    c.first_course-course.ensures c.in_ok-push.ensures.items c.in_ok-set.ensures.ok c.wake_at-time.ensures
