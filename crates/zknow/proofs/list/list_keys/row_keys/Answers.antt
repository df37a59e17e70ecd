use Rattle.std.proofs.Common.{◌∙◌}
use Rattle.zknow.proofs.ListTheory.TableKeys.{row_keys_are}
use Rattle.zknow.proofs.list.list_keys.row_keys.Goals as goal

pub returns : goal.returns
returns c = c.sort_keys.ensures ∙ row_keys_are c.args.tables.now c.requires _ (rw c.new-keys.ensures.items at c.in_ok-put_all_rows.ensures)
