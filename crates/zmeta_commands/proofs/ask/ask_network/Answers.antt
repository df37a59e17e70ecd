use Rattle.zmeta_world.specs.Search.{search_texts}
use Rattle.zmeta_commands.specs.Choice.{choice_texts}
use Rattle.zmeta_commands.proofs.Tracing.{traced_network}
use Rattle.zmeta_commands.proofs.ask.ask_network.Goals as goal

pub returns-clause-traced : goal.returns-clause-traced
returns-clause-traced g c =
    traced_network g.S.Log.Write.contents (g.S.Folder.steps c.begin_trace.new.files)
    (choice_texts c.args.options.choice) (search_texts c.args.texts.now) c.args.planned
    c.in_ok-answered.answered.finished c.in_ok-chosen.chosen.items
    c.in_ok-begun.begun c.in_ok-answered.answered.trace c.in_ok-chosen.ensures.1 c.in_ok-begun.ensures.begun
    c.in_ok-answered.ensures.traced
