use Rattle.std.proofs.Common.{◌≡◌, ◌<◌, ◌+◌, ℕ, List, Option, refl, length, ap, subst, ◌∙◌, arith}
use Rattle.std.proofs.lemmas.Option.{slice_get_read}
use Rattle.std.specs.Prelude.{count_by}
use Rattle.zoom_clock.specs.declared.signal.Signal.{Signal}
use Rattle.zoom_clock.specs.declared.signal.Signal.TheVariants.{Tick}
use Rattle.zoom_clock.specs.Clocks.{is_due}
use Rattle.zoom_clock.specs.Courses.{event, step, wake_of}
use Rattle.zoom_clock.specs.Times.{IsTime, never}
use Rattle.zoom_clock.proofs.Fewer.{one_fewer, none_due_after}
use Rattle.zoom_clock.proofs.Keeping.{noted}
use Rattle.zoom_clock.proofs.clock.Clock.note.Goals as goal

pub returns-clause-after : goal.returns-clause-after
returns-clause-after c =
    let old = c.args.self.now in
    let p = c.index_mut-course.result.now in
    let at = slice_get_read old.courses.items (length old.courses.items) c.args.c p refl c.requires c.index_mut-course.ensures.value in
    noted c.args.c (event c.args.at c.args.what) p c.note.new.self c.wake_at-time.result old _ at
    c.in_ok-note.ensures.step refl c.in_ok-note.ensures.tasks c.in_ok-set.ensures.ok c.wake_at-time.ensures refl refl refl

pub returns-clause-fewer : goal.returns-clause-fewer
returns-clause-fewer c is due =
    let at = c.args.at in
    let old = c.args.self.now in
    let p = c.index_mut-course.result.now in
    let fits : at < never = omega arith in
    let made : c.note.new.self ≡ step (event at Tick) p =
    c.in_ok-note.ensures.step ∙ ap (λ (w : Signal). step (event at w) p) is in
    let time : IsTime (wake_of (step (event at Tick) p)) c.wake_at-time.result =
    subst (λ q. IsTime (wake_of q) c.wake_at-time.result) made c.wake_at-time.ensures in
    ap (λ (l : List (Option ℕ)). count_by (is_due at) l + 1) c.in_ok-set.ensures.ok
    ∙ one_fewer at c.args.c old.wakes c.wake_at-time.result due.0 due.1 due.2 (none_due_after p at c.wake_at-time.result fits time)
