use Rattle.zmeta_trace.proofs.Talking.{hidden}
use Rattle.zmeta_trace.proofs.dialogue.put_entry_on.Goals as goal

pub returns-else-is_shown : goal.returns-else-is_shown
returns-else-is_shown c =
    hidden c.args.shown.now.names.now c.args.shown.now.chosen.now c.args.c c.args.entry.now c.args.talks.now.items
    c.args.out.now.items c.requires.there c.requires.named c.requires.chosen c.if-is_shown.false
