use mir.Val.{SFits}
use Rattle.std.specs.Int.{w64}
use Rattle.std.proofs.Common.{rules}
use Rattle.std.proofs.lemmas.Int.{to_z-of_z}
use Rattle.zknow_changes.proofs.between.known_in.Goals as goal

pub returns : goal.returns
returns c =
    let fits : SFits w64 c.args.row.now.position = search rules in
    rw (to_z-of_z w64 c.args.row.now.position fits) at c.at.ensures
