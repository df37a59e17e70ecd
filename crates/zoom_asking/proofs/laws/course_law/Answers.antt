use Rattle.zoom_asking.proofs.Owning.{course_of_signals}
use Rattle.zoom_asking.proofs.laws.course_law.Goals as goal

pub returns : goal.returns
returns c = course_of_signals
