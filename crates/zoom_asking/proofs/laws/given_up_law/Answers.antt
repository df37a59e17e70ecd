use Rattle.zoom_asking.proofs.GivenUp.{given_up_of}
use Rattle.zoom_asking.proofs.laws.given_up_law.Goals as goal

pub returns : goal.returns
returns c = given_up_of
