use Rattle.zknow_titles.proofs.FilledTheory.{other_entry}
use Rattle.zknow_titles.proofs.filled.add_one.Goals as goal

pub returns-clause-others : goal.returns-clause-others
returns-clause-others c =
    other_entry c.args.table.now.entries c.insert.new.self.entries c.args.key c.in-Some.more
    c.in_ok-insert.ensures.updates.0
