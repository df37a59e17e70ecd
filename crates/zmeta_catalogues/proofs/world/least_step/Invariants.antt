use Rattle.std.proofs.Common.{◌≡◌, ◌<◌, ◌≤◌, drop, map}
use Rattle.zmeta_catalogues.specs.declared.catalogue.Catalogue.{Catalogue}
use Rattle.zmeta_catalogues.specs.Asked.{least_of, number_or}
use Rattle.zmeta_catalogues.proofs.world.least_step.Given as goal

abbrev pub invariant-catalogues : goal.invariant-catalogues
invariant-catalogues l = record {
  some : 0 < l.least;
  most : l.least ≤ 1000;
  same :
      least_of 1000 (map (λ (c : Catalogue). number_or 10 c.settings.step) l.catalogues)
      ≡ least_of l.least (map (λ (c : Catalogue). number_or 10 c.settings.step) (drop l.catalogue-index l.catalogues));
}
