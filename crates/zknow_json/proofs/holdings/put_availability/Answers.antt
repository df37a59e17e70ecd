use Rattle.std.proofs.Common.{append_assoc}
use Rattle.zknow_json.specs.Holdings.{availability_members}
use Rattle.zknow_json.proofs.holdings.put_availability.Goals as goal

pub returns : goal.returns
unfolding availability_members
returns c =
    let written = rw (c.in_ok-put_given.ensures, c.in_ok-put_boolean.ensures) at c.put_given-2.ensures in
    simp append_assoc (simp append_assoc at written)
