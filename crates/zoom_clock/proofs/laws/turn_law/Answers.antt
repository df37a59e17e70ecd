use Rattle.zoom_clock.proofs.Readings.{reads_after}
use Rattle.zoom_clock.proofs.laws.turn_law.Goals as goal

pub returns : goal.returns
returns c limits start wanted es r = reads_after limits start wanted es r
