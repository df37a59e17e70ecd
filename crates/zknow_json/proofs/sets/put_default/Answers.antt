use Rattle.std.proofs.Common.{append_assoc}
use Rattle.zknow_json.specs.Sets.{default_members}
use Rattle.zknow_json.proofs.sets.put_default.Goals as goal

pub returns : goal.returns
unfolding default_members
returns c =
    rw (c.in_ok-put_condition.ensures, c.info_octets.ensures, append_assoc) at c.put_received.ensures
