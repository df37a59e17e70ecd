use Rattle.zmeta_commands.specs.Serve.{ServedAt}
use Rattle.zmeta_commands.proofs.Others.{others}
use Rattle.zmeta_commands.proofs.laws.other_files_law.Goals as goal

pub returns : goal.returns
returns g c system =
    others g.row.S-Stream.Denot (ServedAt g.row.S.Denot g.row.S-Client.Denot {L = g.row.S-Door.Denot} g.S.Doors.IsAt
    (g.S.Doors.IsShut system))
