use Rattle.std.proofs.Common.{◌≡◌, ◌<◌, ◌≤◌, drop, map}
use Rattle.zmeta_catalogues.specs.declared.catalogue.Catalogue.{Catalogue}
use Rattle.zmeta_catalogues.specs.Asked.{least_of, number_or}
use Rattle.zmeta_catalogues.proofs.world.least_window.Given as goal

abbrev pub invariant-catalogues : goal.invariant-catalogues
invariant-catalogues l = record {
  some : 0 < l.least;
  most : l.least ≤ 64;
  same :
      least_of 64 (map (λ (c : Catalogue). number_or 4 c.settings.window) l.catalogues)
      ≡ least_of l.least (map (λ (c : Catalogue). number_or 4 c.settings.window) (drop l.catalogue-index l.catalogues));
}
