use Rattle.zmeta_commands.specs.Finished.{told_at}
use Rattle.zmeta_commands.proofs.Troubles.{next_line}
use Rattle.zmeta_commands.proofs.failures.failure_lines.Goals as goal

pub loop-c-preserved : goal.loop-c-preserved
loop-c-preserved c =
    next_line (told_at c.args.told.now) c.args.meta.now c.args.names.now c.loop-c.c c.index-names-c.result c.state.result c.loop-c.text.items
    c.put_lines.new.text.items
    c.loop-c-test.true c.index-names-c.is c.loop-c.invariant c.state.ensures.state c.in_ok-put_lines.ensures
