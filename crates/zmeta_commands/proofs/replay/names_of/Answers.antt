use Rattle.zmeta_commands.proofs.Replaying.{odd_name}
use Rattle.zmeta_commands.proofs.replay.names_of.Goals as goal

pub returns-in_default : goal.returns-in_default
returns-in_default c =
    odd_name c.args.only.now c.loop-name.name-index _ c.loop-name-test.true c.in_default.ensures.cases.0
