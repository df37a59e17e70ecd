use Rattle.std.proofs.Common.{◌≡◌, ap}
use Rattle.zmeta_devices.specs.Devices.{input_device, streams}
use Rattle.zmeta_devices.specs.Files.{folder}
use Rattle.zmeta_commands.specs.Serve.{ServedAt}
use Rattle.zmeta_commands.proofs.Calling.{after_parsed}
use Rattle.zmeta_commands.proofs.commands.run_arguments.Goals as goal

pub returns : goal.returns
returns g c = (
  c.parse-asked.result,
  after_parsed g.row.S-Stream.Denot
      (ServedAt g.row.S.Denot g.row.S-Client.Denot {L = g.row.S-Door.Denot} g.S.Doors.IsAt
      (g.S.Doors.IsShut c.args.system.now)) _ c.parse-asked.result
      (c.run_parsed.new.system ≡ c.args.system.now) (c.run_parsed.new.input ≡ c.args.input.now)
      (folder g.S.Folder.octets g.S.Folder.are_one g.S.Folder.steps c.args.system.now)
      (folder g.S.Folder.octets g.S.Folder.are_one g.S.Folder.steps c.run_parsed.new.system)
      (streams g.R.Readable.remaining g.W.Write.contents g.E.Write.contents c.args.input.now c.args.output.now
      c.args.errors.now)
      (streams g.R.Readable.remaining g.W.Write.contents g.E.Write.contents c.run_parsed.new.input
      c.run_parsed.new.output c.run_parsed.new.errors)
      c.run_parsed.result c.parse-asked.ensures.asks c.run_parsed.ensures
      (λ same. ap (folder g.S.Folder.octets g.S.Folder.are_one g.S.Folder.steps) same)
      (λ same. ap (input_device g.R.Readable.remaining) same),
)
