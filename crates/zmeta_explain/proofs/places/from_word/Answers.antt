use Rattle.std.proofs.Common.{◌∙◌}
use Rattle.zmeta_explain.specs.Places.{is_token_octet}
use Rattle.zmeta_explain.proofs.PlaceLemmas.{from_place, from_none}
use Rattle.zmeta_explain.proofs.places.from_word.Goals as goal

pub returns-in-Some : goal.returns-in-Some
returns-in-Some c =
    c.split_at.ensures.back
    ∙ from_place is_token_octet c.args.text.now c.word_place.result c.in-Some.place c.word_place.ensures c.in-Some.is

pub returns-in-None : goal.returns-in-None
returns-in-None c = from_none is_token_octet c.args.text.now c.word_place.result c.word_place.ensures c.in-None.is
