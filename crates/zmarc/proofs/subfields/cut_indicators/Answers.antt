use Rattle.std.proofs.Common.{◌≡◌, sym, ◌∙◌, rules, tests}
use Rattle.std.specs.List.{position}
use Rattle.std.proofs.lemmas.Iterator.{YieldsList-from_slice}
use Rattle.std.proofs.lemmas.Iterator.Search.{position_from_yields_List}
use Rattle.zmarc.specs.Subfields.{is_delimiter}
use Rattle.zmarc.proofs.Cuts.{before_first_at, before_first_none}
use Rattle.zmarc.proofs.subfields.cut_indicators.Goals as goal

pub returns-in-Some : goal.returns-in-Some
returns-in-Some c =
    let xs = c.args.field.now in
    let found : c.position.result ≡ position is_delimiter xs =
    position_from_yields_List is_delimiter _ _ _ c.position.ensures.ran (YieldsList-from_slice xs cc)
    (λ x b q k. search (rules, tests)) in
    before_first_at is_delimiter xs c.in-Some.at (sym found ∙ c.in-Some.is)

pub returns-in-None : goal.returns-in-None
returns-in-None c =
    let xs = c.args.field.now in
    let found : c.position.result ≡ position is_delimiter xs =
    position_from_yields_List is_delimiter _ _ _ c.position.ensures.ran (YieldsList-from_slice xs cc)
    (λ x b q k. search (rules, tests)) in
    before_first_none is_delimiter xs (sym found ∙ c.in-None.is)
