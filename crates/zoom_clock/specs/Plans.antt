-- How one connection is to be asked.
use Rattle.std.specs.Prelude.{ℕ, Bool}
use Rattle.zoom_clock.specs.declared.course.Course.{Course}
use Rattle.zoom_clock.specs.declared.plan.Plan.{Plan}
use Rattle.zoom_clock.specs.Courses.{first_course}

-- the course of a connection at the start
abbrev pub planned : ℕ → Bool → Plan → Course
planned start wanted plan = first_course plan.limits plan.chosen start wanted
