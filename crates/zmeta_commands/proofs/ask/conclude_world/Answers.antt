use Rattle.std.specs.Borrow.{Bor}
use Rattle.std.specs.Option.{option_map}
use Rattle.std.specs.Prelude.{ℕ, List, Ok}
use Rattle.zmeta_devices.specs.Devices.{outputs, output_device}
use Rattle.zmeta_devices.specs.Files.{folder}
use Rattle.zmeta_offline.specs.Saved.{saving_path}
use Rattle.zmeta_commands.proofs.Beginning.{asked_later, open_later, trace_ended}
use Rattle.zmeta_commands.proofs.ask.conclude_world.Goals as goal

pub returns-in-Ok : goal.returns-in-Ok
returns-in-Ok g c =
    trace_ended g.F.Log.Write.contents c.args.asked c.in-Ok.answered (saving_path c.args.saving)
    (option_map (λ (path : Bor (List ℕ)). path.now) c.args.trace)
    (folder g.F.Folder.octets g.F.Folder.are_one g.F.Folder.steps c.args.files.now)
    (folder g.F.Folder.octets g.F.Folder.are_one g.F.Folder.steps c.conclude-status.new.files)
    (folder g.F.Folder.octets g.F.Folder.are_one g.F.Folder.steps c.end_trace.new.files)
    (outputs g.W.Write.contents g.E.Write.contents c.args.output.now c.args.errors.now)
    (output_device g.W.Write.contents c.conclude-status.new.output)
    (output_device g.E.Write.contents c.conclude-status.new.errors)
    (output_device g.E.Write.contents c.end_trace.new.errors) c.conclude-status.result c.end_trace.result
    c.in-Ok.is c.conclude-status.ensures c.end_trace.ensures

pub end_trace-requires : goal.end_trace-requires
end_trace-requires g c =
    open_later (option_map (λ (path : Bor (List ℕ)). path.now) c.args.trace)
    (g.F.Folder.steps c.args.files.now) (g.F.Folder.steps c.conclude-status.new.files)
    (asked_later (Ok c.in-Ok.answered.finished) (saving_path c.args.saving)
    (folder g.F.Folder.octets g.F.Folder.are_one g.F.Folder.steps c.args.files.now)
    (folder g.F.Folder.octets g.F.Folder.are_one g.F.Folder.steps c.conclude-status.new.files)
    (outputs g.W.Write.contents g.E.Write.contents c.args.output.now c.args.errors.now)
    (outputs g.W.Write.contents g.E.Write.contents c.conclude-status.new.output c.conclude-status.new.errors)
    c.conclude-status.result c.conclude-status.ensures) (rw c.in-Ok.is at c.requires.open)
