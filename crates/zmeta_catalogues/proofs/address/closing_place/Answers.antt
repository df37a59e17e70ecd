use Rattle.std.proofs.Common.{rules, tests}
use Rattle.std.proofs.lemmas.Iterator.{YieldsList-from_slice}
use Rattle.std.proofs.lemmas.Iterator.Search.{position_from_yields_List}
use Rattle.zmeta_catalogues.specs.Addresses.{is_closing}
use Rattle.zmeta_catalogues.proofs.address.closing_place.Goals as goal

pub returns-clause-at : goal.returns-clause-at
returns-clause-at c =
    position_from_yields_List is_closing _ _ _ c.position.ensures.ran (YieldsList-from_slice c.args.text.now cc)
    (λ x b q k. search (rules, tests))
