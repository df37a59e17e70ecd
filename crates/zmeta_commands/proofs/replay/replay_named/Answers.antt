use Rattle.std.specs.Borrow.{Bor}
use Rattle.std.specs.Option.{option_map}
use Rattle.std.specs.Prelude.{ℕ, List, Ok}
use Rattle.std.proofs.Common.{refl}
use Rattle.zmeta_devices.specs.Devices.{output_device, outputs}
use Rattle.zmeta_devices.specs.Files.{folder}
use Rattle.zmeta_offline.specs.Saved.{saving_path}
use Rattle.zmeta_commands.proofs.Beginning.{unbegun_replay, replay_done, unplayed_done}
use Rattle.zmeta_commands.proofs.replay.replay_named.Goals as goal

pub returns-in-Err : goal.returns-in-Err
returns-in-Err g c =
    unbegun_replay c.args.paths.trace.now (option_map (λ (path : Bor (List ℕ)). path.now) c.args.paths.saved)
    (folder g.F.Folder.octets g.F.Folder.are_one g.F.Folder.steps c.args.files.now)
    (folder g.F.Folder.octets g.F.Folder.are_one g.F.Folder.steps c.begin_saving.new.files)
    (outputs g.W.Write.contents g.E.Write.contents c.args.output.now c.args.errors.now)
    (outputs g.W.Write.contents g.E.Write.contents c.args.output.now c.end.new.errors) c.end.result c.in-Err.fault
    c.in-Err.ensures.begun refl c.end.ensures c.args.view
    (g.F.Folder.octets c.args.files.now c.args.paths.trace.now)

pub returns-in-Ok-replay_file : goal.returns-in-Ok-replay_file
returns-in-Ok-replay_file g c =
    replay_done c.args.paths.trace.now (option_map (λ (path : Bor (List ℕ)). path.now) c.args.paths.saved)
    (saving_path c.in-Ok.saving)
    (folder g.F.Folder.octets g.F.Folder.are_one g.F.Folder.steps c.args.files.now)
    (folder g.F.Folder.octets g.F.Folder.are_one g.F.Folder.steps c.begin_saving.new.files)
    (folder g.F.Folder.octets g.F.Folder.are_one g.F.Folder.steps c.conclude-status.new.files)
    (outputs g.W.Write.contents g.E.Write.contents c.args.output.now c.args.errors.now)
    (outputs g.W.Write.contents g.E.Write.contents c.conclude-status.new.output c.conclude-status.new.errors)
    c.cut_status.result
    c.in-Ok.ensures.begun.0 c.in-Ok.ensures.begun.1 c.in-Ok.ensures.paths c.args.view (Ok c.in-Ok-replay_file.replay)
    (output_device g.E.Write.contents c.tell_cut.new.errors) c.conclude-status.result
    c.in-Ok-replay_file.ensures.replayed tt c.tell_cut.ensures c.conclude-status.ensures c.cut_status.ensures

pub returns-in-Err-replay_file : goal.returns-in-Err-replay_file
returns-in-Err-replay_file g c =
    unplayed_done c.args.paths.trace.now (option_map (λ (path : Bor (List ℕ)). path.now) c.args.paths.saved)
    (saving_path c.in-Ok.saving)
    (folder g.F.Folder.octets g.F.Folder.are_one g.F.Folder.steps c.args.files.now)
    (folder g.F.Folder.octets g.F.Folder.are_one g.F.Folder.steps c.begin_saving.new.files)
    (folder g.F.Folder.octets g.F.Folder.are_one g.F.Folder.steps c.conclude.new.files)
    (outputs g.W.Write.contents g.E.Write.contents c.args.output.now c.args.errors.now)
    (outputs g.W.Write.contents g.E.Write.contents c.conclude.new.output c.conclude.new.errors) c.conclude.result
    c.in-Ok.ensures.begun.0 c.in-Ok.ensures.begun.1 c.in-Ok.ensures.paths c.args.view c.in-Err-replay_file.fault
    c.in-Err-replay_file.ensures.replayed c.in-Err-replay_file.ensures.fault c.conclude.ensures
