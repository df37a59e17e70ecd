use Rattle.std.proofs.Common.{◌∙◌}
use Rattle.zmeta_explain.specs.Places.{is_space}
use Rattle.zmeta_explain.proofs.PlaceLemmas.{from_place, from_none}
use Rattle.zmeta_explain.proofs.places.from_space.Goals as goal

pub returns-in-Some : goal.returns-in-Some
returns-in-Some c =
    c.split_at.ensures.back
    ∙ from_place is_space c.args.text.now c.space_place.result c.in-Some.place c.space_place.ensures c.in-Some.is

pub returns-in-None : goal.returns-in-None
returns-in-None c = from_none is_space c.args.text.now c.space_place.result c.space_place.ensures c.in-None.is
