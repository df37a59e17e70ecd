use Rattle.zoom_asking.proofs.Owning.{own_of}
use Rattle.zoom_asking.proofs.laws.own_law.Goals as goal

pub returns : goal.returns
returns c = own_of
