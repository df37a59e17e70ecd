use Rattle.std.proofs.Common.{◌∙◌}
use Rattle.zmeta_explain.specs.Places.{is_quote}
use Rattle.zmeta_explain.proofs.PlaceLemmas.{before_place, before_none}
use Rattle.zmeta_explain.proofs.places.before_quote.Goals as goal

pub returns-in-Some : goal.returns-in-Some
returns-in-Some c =
    c.split_at.ensures.front
    ∙ before_place is_quote c.args.text.now c.quote_place.result c.in-Some.place c.quote_place.ensures c.in-Some.is

pub returns-in-None : goal.returns-in-None
returns-in-None c = before_none is_quote c.args.text.now c.quote_place.result c.quote_place.ensures c.in-None.is
