use Rattle.std.proofs.Common.{[], ◌∙◌}
use Rattle.std.specs.Map.{keys_of}
use Rattle.zknow.proofs.TableTheory.AtKeys.{written_three}
use Rattle.zknow.proofs.ListTheory.TableKeys.{block_keys_are}
use Rattle.zknow.proofs.list.list_keys.block_keys.Goals as goal

pub returns : goal.returns
returns c = c.sort_keys.ensures ∙ block_keys_are c.args.tables.now c.requires c.put_keys-3.new.out.items
    (written_three [] c.put_keys.new.out.items c.put_keys-2.new.out.items c.put_keys-3.new.out.items (keys_of c.args.tables.now.counts) (keys_of c.args.tables.now.failed) (keys_of c.args.tables.now.diags)
    (rw c.new-keys.ensures.items at c.in_ok-put_keys.ensures) c.in_ok-put_keys-2.ensures c.in_ok-put_keys-3.ensures)
