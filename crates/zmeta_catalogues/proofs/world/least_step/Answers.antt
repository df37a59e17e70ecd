use Rattle.std.proofs.Common.{ℕ, sym, arith}
use Rattle.zmeta_catalogues.specs.declared.catalogue.Catalogue.{Catalogue}
use Rattle.zmeta_catalogues.specs.Asked.{number_or, least_step}
use Rattle.zmeta_catalogues.proofs.Asking.{least_next, least_end}
use Rattle.zmeta_catalogues.proofs.world.least_step.Goals as goal

pub catalogues-preserved : goal.catalogues-preserved
catalogues-preserved c =
    let at = c.catalogues in
    let is = c.number_or.ensures in
    let least = c.min-least.ensures in record {
      some = omega arith;
      most = omega arith;
      same =
          least_next (λ (x : Catalogue). number_or 10 x.settings.step) c.args.catalogues.now at.catalogue-index
          c.catalogue-item.result at.least c.number_or.result c.min-least.result (least_step c.args.catalogues.now)
          c.catalogues-test.true c.catalogue-item.is is least at.invariant.same;
    }

pub returns-clause-least : goal.returns-clause-least
returns-clause-least c =
    least_end (λ (x : Catalogue). number_or 10 x.settings.step) c.args.catalogues.now c.catalogues.catalogue-index
    c.catalogues.least (least_step c.args.catalogues.now) c.catalogues-test.false c.catalogues.invariant.same
