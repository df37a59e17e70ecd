use Rattle.std.proofs.Common.{◌∙◌}
use Rattle.zmeta_explain.specs.Places.{is_hyphen}
use Rattle.zmeta_explain.proofs.PlaceLemmas.{before_place, before_none}
use Rattle.zmeta_explain.proofs.places.before_hyphen.Goals as goal

pub returns-in-Some : goal.returns-in-Some
returns-in-Some c =
    c.split_at.ensures.front
    ∙ before_place is_hyphen c.args.text.now c.hyphen_place.result c.in-Some.place c.hyphen_place.ensures c.in-Some.is

pub returns-in-None : goal.returns-in-None
returns-in-None c = before_none is_hyphen c.args.text.now c.hyphen_place.result c.hyphen_place.ensures c.in-None.is
