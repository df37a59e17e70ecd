use Rattle.zmeta_commands.specs.Choice.{choice_texts}
use Rattle.zmeta_searches.specs.Searches.{search_of}
use Rattle.zmeta_commands.specs.Traced.{finished_of}
use Rattle.zmeta_commands.proofs.Planning.{asked_file}
use Rattle.zmeta_commands.proofs.ask.ask_file.Goals as goal

pub returns-clause-asked : goal.returns-clause-asked
returns-clause-asked g c =
    let options = c.args.options in
    asked_file (choice_texts options.choice) (search_of options.search.now) options.view
    (g.S.Folder.octets c.args.system.now options.paths.world.now) c.in_ok-planned.planned
    (finished_of c.ask_network.result)
    c.in_ok-planned.ensures.network c.ask_network.ensures.asked
