use Rattle.std.proofs.Common.{◌≡◌, ℕ, ◌<◌, ◌≤◌, true, Some}
use Rattle.std.specs.Prelude.{slice_get}
use Rattle.zoom_clock.specs.declared.course.Course.{Course}
use Rattle.zoom_clock.specs.Courses.{is_settled}
use Rattle.zoom_clock.proofs.turn.first_open.Given as goal

abbrev pub invariant-loop-c : goal.invariant-loop-c
invariant-loop-c l =
    (d : ℕ) (p : Course) → l.from ≤ d → d < l.c → slice_get l.courses d ≡ Some p → is_settled p.stage ≡ true
