use Rattle.std.proofs.Common.{append_assoc}
use Rattle.zknow_json.specs.Holdings.{library_members}
use Rattle.zknow_json.proofs.holdings.put_library.Goals as goal

pub returns : goal.returns
unfolding library_members
returns c =
    let written = rw (c.in_ok-put_given-2.ensures, c.in_ok-put_given.ensures) at c.put_given-3.ensures in
    simp append_assoc (simp append_assoc at written)
