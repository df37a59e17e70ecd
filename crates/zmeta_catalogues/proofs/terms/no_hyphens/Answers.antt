use Rattle.std.proofs.Common.{not, rules, tests}
use Rattle.std.proofs.lemmas.Iterator.{YieldsList-from_slice, items_from_collect}
use Rattle.std.proofs.lemmas.Iterator.Consumers.{YieldsList-at, YieldsList-from_copied, YieldsList-from_filter}
use Rattle.zmeta_catalogues.specs.Terms.{is_hyphen}
use Rattle.zmeta_catalogues.proofs.terms.no_hyphens.Goals as goal

pub returns : goal.returns
returns c =
    items_from_collect _ c.collect.ensures.ran
    (YieldsList-from_copied
    (YieldsList-at c.copied.ensures.source
    (YieldsList-from_filter _ (λ b. not (is_hyphen b)) (YieldsList-from_slice c.args.octets.now cc)
    c.filter.ensures.closure (λ x r q k. search (rules, tests)))))
