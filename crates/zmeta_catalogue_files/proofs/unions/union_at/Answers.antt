use Rattle.zmeta_catalogue_files.proofs.Files.{union_unread}
use Rattle.zmeta_catalogue_files.proofs.unions.union_at.Goals as goal

pub returns-in-Err-clause-says : goal.returns-in-Err-clause-says
returns-in-Err-clause-says g c =
    union_unread (g.F.Folder.octets c.args.files.now c.args.path.now) c.args.path.now c.args.search.now c.in-Err.fault
    c.in-Err.ensures.fault
