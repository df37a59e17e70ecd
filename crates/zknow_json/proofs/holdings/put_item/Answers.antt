use Rattle.std.proofs.Common.{append_assoc}
use Rattle.zknow_json.specs.Holdings.{item_members}
use Rattle.zknow_json.proofs.holdings.put_item.Goals as goal

pub returns : goal.returns
unfolding item_members
returns c = rw (c.in_ok-put_given.ensures, append_assoc) at c.put_given-2.ensures
