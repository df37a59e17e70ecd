use Rattle.std.proofs.Common.{◌∙◌}
use Rattle.ztarget.proofs.Lookups.{none_found}
use Rattle.ztarget.proofs.phrase.with_phrase.Goals as goal

pub returns-in-empty : goal.returns-in-empty
returns-in-empty c = c.new.ensures.items ∙ none_found c.args.used c.args.entries.now c.args.truncated c.args.asked.now c.in-empty.len_below
