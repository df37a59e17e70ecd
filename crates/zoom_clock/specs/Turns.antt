-- Whose turn it is.
use Rattle.std.specs.Prelude.{◌≡◌, ℕ, ◌<◌, ◌≤◌, true, false, List, slice_get, Some}
use Rattle.zoom_clock.specs.declared.course.Course.{Course}
use Rattle.zoom_clock.specs.Courses.{is_settled}

-- the first connection from this one on that is not over; past the end, there is none
pub record IsFirstOpen (ps : List Course) (from c : ℕ) : Type 0 where
  pub least : from ≤ c
  pub passed : (d : ℕ) (p : Course) → from ≤ d → d < c → slice_get ps d ≡ Some p → is_settled p.stage ≡ true
  pub at : (p : Course) → slice_get ps c ≡ Some p → is_settled p.stage ≡ false
