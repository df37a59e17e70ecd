use Rattle.std.proofs.Common.{◌∙◌}
use Rattle.ztarget.proofs.InCommon.{looked_up}
use Rattle.ztarget.proofs.common_places.is_place_among.Goals as goal

pub returns : goal.returns
returns c = λ up. c.is_ok.ensures.value ∙ looked_up c.args.places.now c.args.place c.binary_search.result c.binary_search.ensures.position up
