use Rattle.std.specs.Borrow.{Bor}
use Rattle.std.specs.Option.{option_map}
use Rattle.std.specs.Prelude.{ℕ, List}
use Rattle.std.proofs.Common.{refl}
use Rattle.zmeta_devices.specs.Devices.{outputs}
use Rattle.zmeta_devices.specs.Files.{folder}
use Rattle.zmeta_offline.specs.Saved.{saving_path}
use Rattle.zmeta_searches.specs.Searches.{search_of}
use Rattle.zmeta_commands.specs.Loop.{IsOfLoop, LoopFileResult}
use Rattle.zmeta_commands.proofs.Beginning.{unbegun_command, command_done}
use Rattle.zmeta_commands.proofs.looped.loop_named.Goals as goal

pub returns-in-Err : goal.returns-in-Err
returns-in-Err g c =
    unbegun_command c.args.paths.world.now (option_map (λ (path : Bor (List ℕ)). path.now) c.args.paths.saved)
    (folder g.S.Folder.octets g.S.Folder.are_one g.S.Folder.steps c.args.system.now)
    (folder g.S.Folder.octets g.S.Folder.are_one g.S.Folder.steps c.begin_saving.new.files)
    (outputs g.W.Write.contents g.E.Write.contents c.args.output.now c.args.errors.now)
    (outputs g.W.Write.contents g.E.Write.contents c.args.output.now c.end.new.errors) c.end.result c.in-Err.fault
    c.in-Err.ensures.begun refl c.end.ensures
    (LoopFileResult g.row.S-Stream.Denot (search_of c.args.search.now) c.args.view) IsOfLoop
    (g.S.Folder.octets c.args.system.now c.args.paths.world.now)

pub returns : goal.returns
returns g c =
    command_done c.args.paths.world.now (option_map (λ (path : Bor (List ℕ)). path.now) c.args.paths.saved)
    (saving_path c.in-Ok.saving)
    (folder g.S.Folder.octets g.S.Folder.are_one g.S.Folder.steps c.args.system.now)
    (folder g.S.Folder.octets g.S.Folder.are_one g.S.Folder.steps c.begin_saving.new.files)
    (folder g.S.Folder.octets g.S.Folder.are_one g.S.Folder.steps c.conclude.new.files)
    (outputs g.W.Write.contents g.E.Write.contents c.args.output.now c.args.errors.now)
    (outputs g.W.Write.contents g.E.Write.contents c.conclude.new.output c.conclude.new.errors) c.conclude.result
    c.in-Ok.ensures.begun.0 c.in-Ok.ensures.begun.1 c.in-Ok.ensures.paths
    (LoopFileResult g.row.S-Stream.Denot (search_of c.args.search.now) c.args.view) IsOfLoop
    c.loop_file-asked.result c.loop_file-asked.ensures.ran c.loop_file-asked.ensures.fault c.conclude.ensures
