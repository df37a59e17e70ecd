use Rattle.zmeta_catalogue_files.proofs.Converted.{world_of_union}
use Rattle.zmeta_catalogue_files.proofs.conversions.world_text.Goals as goal

pub returns-in-Ok : goal.returns-in-Ok
returns-in-Ok g c =
    world_of_union (g.F.Folder.octets c.args.files.now c.args.path.now) c.args.search.now c.in-Ok.union _
    c.in-Ok.ensures.says c.text_of_world.ensures
