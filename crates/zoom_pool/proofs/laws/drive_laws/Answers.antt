use Rattle.zoom_pool.proofs.DriveLaws.{drive_laws_of}
use Rattle.zoom_pool.proofs.laws.drive_laws.Goals as goal

pub returns : goal.returns
returns c = drive_laws_of c.number_law.ensures c.driven_laws.ensures c.one_transcript.ensures
