use Rattle.std.proofs.Common.{rules, tests}
use Rattle.std.proofs.lemmas.Iterator.{YieldsList-from_slice}
use Rattle.std.proofs.lemmas.Iterator.Search.{position_from_yields_List}
use Rattle.zmeta_catalogues.specs.Lines.{is_no_front}
use Rattle.zmeta_catalogues.proofs.lines.front_end.Goals as goal

pub returns-clause-at : goal.returns-clause-at
returns-clause-at c =
    position_from_yields_List is_no_front _ _ _ c.position.ensures.ran (YieldsList-from_slice c.args.line.now cc)
    (λ x b q k. search (rules, tests))
