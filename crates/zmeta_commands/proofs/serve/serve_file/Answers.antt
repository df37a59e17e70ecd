use Rattle.std.proofs.Common.{subst}
use Rattle.std.specs.Option.{IfSome}
use Rattle.zmeta_world.specs.Worlds.{IsWorld}
use Rattle.zmeta_commands.specs.Serve.{ServedAt, service_of}
use Rattle.zmeta_commands.proofs.Running.{serve_result, service_end}
use Rattle.zmeta_commands.proofs.serve.serve_file.Goals as goal

pub returns-clause-serves : goal.returns-clause-serves
returns-clause-serves g c =
    let says = subst (λ z. IfSome z (λ file. IsWorld file c.in_ok-world.world)) c.file_at-file.ensures.octets
    c.in_ok-world.ensures.world in
    serve_result (service_of c.args.service)
    (ServedAt g.row.S.Denot g.row.S-Client.Denot g.S.Doors.IsAt (g.S.Doors.IsShut c.args.system.now))
    (g.S.Folder.octets c.args.system.now c.args.service.world.now) c.in_ok-world.world c.serve_world-served.result says
    c.serve_world-served.ensures.serves c.serve_world-served.ensures.end

pub returns-clause-end : goal.returns-clause-end
returns-clause-end g c =
    service_end c.args.service.world.now c.serve_world-served.result c.serve_world-served.ensures.end
