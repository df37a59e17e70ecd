use Rattle.std.proofs.Common.{subst, List}
use Rattle.zmeta_catalogue_files.specs.declared.unions.CatalogueWaits.{CatalogueWaits}
use Rattle.zmeta_commands.specs.CatalogueFiles.{AreOwnWaits}
use Rattle.zmeta_commands.proofs.Unions.{planned, unplanned}
use Rattle.zmeta_commands.proofs.catalogue_files.plan_union.Goals as goal

pub returns-clause-planned : goal.returns-clause-planned
returns-clause-planned g c =
    planned c.args.given.now c.args.search.now (g.F.Folder.octets c.args.files.now c.args.path.now)
    c.in_ok-union.union c.in-Ok.network c.in_ok-waits.waits.items c.in_ok-union.ensures.says c.in-Ok.ensures
    (subst (λ (said : List CatalogueWaits). AreOwnWaits c.args.given.now said c.in_ok-waits.waits.items)
    c.as_slice.ensures.value c.in_ok-waits.ensures)

pub returns-in-Err-clause-planned : goal.returns-in-Err-clause-planned
returns-in-Err-clause-planned g c =
    unplanned c.args.given.now c.args.search.now (g.F.Folder.octets c.args.files.now c.args.path.now)
    c.in_ok-union.union c.in-Err.fault c.in_ok-union.ensures.says c.in-Err.ensures
