use Rattle.zoom_clock.proofs.Outcomes.{all_gone}
use Rattle.zoom_clock.proofs.laws.leave_law.Goals as goal

pub returns : goal.returns
returns c limits start k wanted es settled begun = all_gone limits start wanted es k settled begun
