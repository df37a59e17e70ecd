-- The driver of a connection that is Fresh.
use Rattle.std.proofs.Common.{◌≡◌, ℕ, ◌<◌, ◌≤◌, false, List, [], length, map, refl, ap, subst, ◌∙◌, arith}
use Rattle.zplan.specs.Positions.{IsWanted}
use Rattle.zplan.specs.Ranges.{AreWanted, positions}
use Rattle.zorigin.specs.declared.settings.Settings.{Settings}
use Rattle.zoom_questions.specs.declared.question.Question.{Question}
use Rattle.zoom_pool.specs.declared.phase.Phase.TheVariants as phases
use Rattle.zoom_questions.specs.Askable.{HasFewArcs}
use Rattle.zoom_pool.specs.Steering.{Errand, ask_of, errand_with}
use Rattle.zoom_pool.specs.Drivers.{DriverState, IsDriver}
use Rattle.zoom_pool.proofs.Wants.{wanted_of}

abbrev pub fresh_driver : Question → ℕ → ℕ → DriverState
fresh_driver q step window = record {
  errand = record { ask = ask_of q; wanted = positions q.wanted; step = step; window = window };
  phase = phases.Fresh;
  left = 1;
  skipped = false;
  complete = false;
}

pub started : (q : Question) (step window : ℕ) (settings : Settings) → AreWanted q.wanted → HasFewArcs q.syntax
    → 0 < step → step ≤ 1000 → 0 < window → length settings.name ≤ 2000000
    → IsDriver (errand_with q step window) settings [] (fresh_driver q step window)
started q step window settings a arcs lo most wide name = record {
  steered = tt;
  driven = tt;
  errand = refl;
  fit = record { name = name; most = most; syntax = arcs; small = refl; large = refl; medium = refl };
  wanted = wanted_of q.wanted a;
  steps = lo;
  room = wide;
  skipped = refl;
  complete = refl;
  left = refl;
  few = omega arith;
  at = record { events = refl; opening = refl };
}
