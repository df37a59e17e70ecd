use Rattle.std.proofs.Common.{arith}
use Rattle.std.proofs.lemmas.Grind.{common_steps}
use Rattle.zknow_json.specs.Members.{integer_member}
use Rattle.zknow_json.proofs.Numerals.{signed_is_numeral}
use Rattle.zknow_json.proofs.line.Line.put_integer.Goals as goal

pub returns : goal.returns
unfolding integer_member
returns c =
    let same = signed_is_numeral c.args.number c.ranges.number.sfits in
    rw (← same) (grind (arith, common_steps))
