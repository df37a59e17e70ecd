use Rattle.std.proofs.Common.{refl}
use Rattle.zmeta_args.specs.declared.arguments.Arguments.TheVariants.{Join}
use Rattle.zmeta_devices.specs.Devices.{outputs, streams}
use Rattle.zmeta_devices.specs.Files.{folder}
use Rattle.zmeta_commands.specs.Serve.{ServedAt}
use Rattle.zmeta_commands.proofs.Calling.{call_as, saved_joined}
use Rattle.zmeta_commands.proofs.commands.call.Goals as goal

pub returns-in-Join : goal.returns-in-Join
returns-in-Join g c =
    let j = c.in-Join in
    call_as g.row.S-Stream.Denot
    (ServedAt g.row.S.Denot g.row.S-Client.Denot {L = g.row.S-Door.Denot} g.S.Doors.IsAt
    (g.S.Doors.IsShut c.args.system.now)) c.args.asked (Join j.first j.others j.saved j.quiet j.view)
    (folder g.S.Folder.octets g.S.Folder.are_one g.S.Folder.steps c.args.system.now)
    (folder g.S.Folder.octets g.S.Folder.are_one g.S.Folder.steps c.join_saved.new.files)
    (streams g.R.Readable.remaining g.W.Write.contents g.E.Write.contents c.args.input.now c.args.output.now
    c.args.errors.now)
    (streams g.R.Readable.remaining g.W.Write.contents g.E.Write.contents c.args.input.now c.join_saved.new.output
    c.join_saved.new.errors) c.join_saved.result j.is (
      refl,
      saved_joined j.view j.first.now c.as_slice-others.result.now j.others.items j.saved j.quiet c.in-Some-2.path
          (folder g.S.Folder.octets g.S.Folder.are_one g.S.Folder.steps c.args.system.now)
          (folder g.S.Folder.octets g.S.Folder.are_one g.S.Folder.steps c.join_saved.new.files)
          (outputs g.W.Write.contents g.E.Write.contents c.args.output.now c.args.errors.now)
          (outputs g.W.Write.contents g.E.Write.contents c.join_saved.new.output c.join_saved.new.errors)
          c.join_saved.result c.as_slice-others.ensures.value c.in-Some-2.is c.if-quiet.false c.join_saved.ensures,
    )
