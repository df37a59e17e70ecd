use Rattle.zmeta_world.specs.WorldReading.{world_of}
use Rattle.zmeta_world.proofs.WorldParsing.{made}
use Rattle.zmeta_world.proofs.world.reader.Reader.read.Goals as goal

pub returns-in-Ok : goal.returns-in-Ok
returns-in-Ok c = made c.args.number c.args.text.now c.in-Ok.line (world_of c.args.self.now) c.add_line.new.self c.add_line.result c.in-Ok.ensures c.add_line.ensures
