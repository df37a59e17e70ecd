use Rattle.std.proofs.Common.{arith}
use Rattle.std.proofs.lemmas.Grind.{common_steps}
use Rattle.zknow_json.specs.Members.{natural_member}
use Rattle.zknow_json.proofs.Numerals.{decimal_is_numeral}
use Rattle.zknow_json.proofs.line.Line.put_natural.Goals as goal

pub returns : goal.returns
unfolding natural_member
returns c =
    let same = decimal_is_numeral c.args.number (omega arith) in
    rw (← same) (grind (arith, common_steps))
