use Rattle.std.proofs.Common.{rules, tests}
use Rattle.std.proofs.lemmas.Iterator.{YieldsList-from_slice}
use Rattle.std.proofs.lemmas.Iterator.Search.{position_from_yields_List}
use Rattle.zmeta_explain.specs.Places.{is_token_octet}
use Rattle.zmeta_explain.proofs.places.word_place.Goals as goal

pub returns : goal.returns
returns c =
    position_from_yields_List is_token_octet _ _ _ c.position.ensures.ran (YieldsList-from_slice c.args.text.now cc)
    (λ x b q k. search (rules, tests))
