use Rattle.std.specs.Borrow.{Bor}
use Rattle.std.specs.Option.{option_map}
use Rattle.std.specs.Prelude.{ℕ, List}
use Rattle.std.proofs.Common.{refl}
use Rattle.zmeta_devices.specs.Devices.{outputs}
use Rattle.zmeta_devices.specs.Files.{folder}
use Rattle.zmeta_offline.specs.Saved.{saving_path}
use Rattle.zmeta_commands.specs.Choice.{choice_texts}
use Rattle.zmeta_commands.proofs.Beginning.{unbegun_union, union_done}
use Rattle.zmeta_commands.proofs.catalogue_files.ask_catalogues.Goals as goal

pub returns-in-Err : goal.returns-in-Err
returns-in-Err g c =
    let options = c.args.options in
    unbegun_union options.paths.world.now (option_map (λ (path : Bor (List ℕ)). path.now) options.paths.saved)
    (folder g.S.Folder.octets g.S.Folder.are_one g.S.Folder.steps c.args.system.now)
    (folder g.S.Folder.octets g.S.Folder.are_one g.S.Folder.steps c.begin_saving.new.files)
    (outputs g.W.Write.contents g.E.Write.contents c.args.output.now c.args.errors.now)
    (outputs g.W.Write.contents g.E.Write.contents c.args.output.now c.end.new.errors) c.end.result c.in-Err.fault
    c.in-Err.ensures.begun refl c.end.ensures (choice_texts options.choice) options.given.now options.search.now
    options.view (g.S.Folder.octets c.args.system.now options.paths.world.now)

pub returns : goal.returns
returns g c =
    let options = c.args.options in
    union_done options.paths.world.now (option_map (λ (path : Bor (List ℕ)). path.now) options.paths.saved)
    (saving_path c.in-Ok.saving)
    (folder g.S.Folder.octets g.S.Folder.are_one g.S.Folder.steps c.args.system.now)
    (folder g.S.Folder.octets g.S.Folder.are_one g.S.Folder.steps c.begin_saving.new.files)
    (folder g.S.Folder.octets g.S.Folder.are_one g.S.Folder.steps c.conclude_union.new.files)
    (outputs g.W.Write.contents g.E.Write.contents c.args.output.now c.args.errors.now)
    (outputs g.W.Write.contents g.E.Write.contents c.conclude_union.new.output c.conclude_union.new.errors)
    c.conclude_union.result
    c.in-Ok.ensures.begun.0 c.in-Ok.ensures.begun.1 c.in-Ok.ensures.paths (choice_texts options.choice)
    options.given.now options.search.now options.view c.ask_union-asked.result c.ask_union-asked.ensures.asked
    c.ask_union-asked.ensures.fault c.conclude_union.ensures
