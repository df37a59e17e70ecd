use mir.Val.{SFits}
use Rattle.std.specs.Int.{w64}
use Rattle.std.proofs.Common.{rules, append_assoc}
use Rattle.std.proofs.lemmas.Int.{to_z-of_z}
use Rattle.zknow_json.specs.Sets.{condition_members}
use Rattle.zknow_json.proofs.sets.put_condition.Goals as goal

pub returns : goal.returns
unfolding condition_members
returns c =
    let fits : SFits w64 c.args.diag.now.condition = search rules in
    rw (to_z-of_z w64 c.args.diag.now.condition fits, c.in_ok-put_text.ensures, c.as_str.ensures.value, c.in_ok-set.ensures, append_assoc) at c.put_integer.ensures
