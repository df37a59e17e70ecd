use Rattle.std.specs.Borrow.{Bor}
use Rattle.std.specs.Option.{option_map}
use Rattle.std.specs.Prelude.{ℕ, List}
use Rattle.std.proofs.Common.{refl}
use Rattle.zmeta_devices.specs.Devices.{outputs}
use Rattle.zmeta_devices.specs.Files.{folder}
use Rattle.zmeta_offline.specs.Saved.{saving_path}
use Rattle.zmeta_searches.specs.Searches.{search_of}
use Rattle.zmeta_commands.specs.Choice.{choice_texts}
use Rattle.zmeta_commands.proofs.Apart.{apart_by}
use Rattle.zmeta_commands.proofs.Beginning.{trace_later, saving_later, trace_open, traced_done, unbegun_ask, over_ask}
use Rattle.zmeta_commands.proofs.ask.ask_world.Goals as goal

pub returns-in-Err : goal.returns-in-Err
returns-in-Err g c =
    let options = c.args.options in
    over_ask (choice_texts options.choice) (search_of options.search.now) options.view
    (option_map (λ (path : Bor (List ℕ)). path.now) options.trace) options.paths.world.now
    (option_map (λ (path : Bor (List ℕ)). path.now) options.paths.saved)
    (g.S.Folder.octets c.args.system.now options.paths.world.now)
    (folder g.S.Folder.octets g.S.Folder.are_one g.S.Folder.steps c.args.system.now)
    (outputs g.W.Write.contents g.E.Write.contents c.args.output.now c.args.errors.now)
    (outputs g.W.Write.contents g.E.Write.contents c.args.output.now c.end.new.errors) c.end.result c.in-Err.fault
    c.in-Err.ensures refl c.end.ensures

pub returns-in-Err-begin_saving : goal.returns-in-Err-begin_saving
returns-in-Err-begin_saving g c =
    let options = c.args.options in
    unbegun_ask options.paths.world.now (option_map (λ (path : Bor (List ℕ)). path.now) options.paths.saved)
    (folder g.S.Folder.octets g.S.Folder.are_one g.S.Folder.steps c.args.system.now)
    (folder g.S.Folder.octets g.S.Folder.are_one g.S.Folder.steps c.begin_saving.new.files)
    (outputs g.W.Write.contents g.E.Write.contents c.args.output.now c.args.errors.now)
    (outputs g.W.Write.contents g.E.Write.contents c.args.output.now c.end-in-Err-begin_saving.new.errors)
    c.end-in-Err-begin_saving.result c.in-Err-begin_saving.fault c.in-Err-begin_saving.ensures.begun refl
    c.end-in-Err-begin_saving.ensures (choice_texts options.choice) (search_of options.search.now)
    options.view (option_map (λ (path : Bor (List ℕ)). path.now) options.trace)
    (g.S.Folder.octets c.args.system.now options.paths.world.now)

pub returns : goal.returns
returns g c =
    let options = c.args.options in
    traced_done g.S.Log.Write.contents (choice_texts options.choice) (search_of options.search.now) options.view
    (option_map (λ (path : Bor (List ℕ)). path.now) options.trace) options.paths.world.now
    (option_map (λ (path : Bor (List ℕ)). path.now) options.paths.saved) (saving_path c.in-Ok.saving)
    (folder g.S.Folder.octets g.S.Folder.are_one g.S.Folder.steps c.args.system.now)
    (folder g.S.Folder.octets g.S.Folder.are_one g.S.Folder.steps c.begin_saving.new.files)
    (folder g.S.Folder.octets g.S.Folder.are_one g.S.Folder.steps c.ask_file-asked.new.system)
    (folder g.S.Folder.octets g.S.Folder.are_one g.S.Folder.steps c.conclude_world.new.files)
    (outputs g.W.Write.contents g.E.Write.contents c.args.output.now c.args.errors.now)
    (outputs g.W.Write.contents g.E.Write.contents c.conclude_world.new.output c.conclude_world.new.errors)
    c.conclude_world.result c.ask_file-asked.result (apart_by
    (folder g.S.Folder.octets g.S.Folder.are_one g.S.Folder.steps c.args.system.now) options.paths.world.now
    (option_map (λ (path : Bor (List ℕ)). path.now) options.paths.saved)
    (option_map (λ (path : Bor (List ℕ)). path.now) options.trace) c.check_trace.result c.check_trace.ensures
    c.in_default.not-Err)
    c.in-Ok.ensures.begun.0 c.in-Ok.ensures.begun.1 c.in-Ok.ensures.paths c.ask_file-asked.ensures.asked
    c.ask_file-asked.ensures.fault c.ask_file-asked.ensures.begun c.ask_file-asked.ensures.traced
    c.conclude_world.ensures

pub conclude_world-requires-clause-open : goal.conclude_world-requires-clause-open
conclude_world-requires-clause-open g c =
    trace_open (option_map (λ (path : Bor (List ℕ)). path.now) c.args.options.trace)
    (folder g.S.Folder.octets g.S.Folder.are_one g.S.Folder.steps c.begin_saving.new.files)
    (folder g.S.Folder.octets g.S.Folder.are_one g.S.Folder.steps c.ask_file-asked.new.system)
    c.ask_file-asked.result c.ask_file-asked.ensures.begun

pub conclude_world-requires-clause-begun : goal.conclude_world-requires-clause-begun
conclude_world-requires-clause-begun g c =
    saving_later g.S.Draft.Write.contents (g.S.Folder.steps c.begin_saving.new.files)
    (g.S.Folder.steps c.ask_file-asked.new.system) c.in-Ok.saving
    (trace_later (option_map (λ (path : Bor (List ℕ)). path.now) c.args.options.trace)
    (folder g.S.Folder.octets g.S.Folder.are_one g.S.Folder.steps c.begin_saving.new.files)
    (folder g.S.Folder.octets g.S.Folder.are_one g.S.Folder.steps c.ask_file-asked.new.system)
    c.ask_file-asked.result c.ask_file-asked.ensures.begun) c.in-Ok.ensures.drafts
