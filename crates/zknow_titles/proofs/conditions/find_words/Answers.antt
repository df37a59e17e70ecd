use mir.Val.{SFits}
use Rattle.std.specs.Int.{w64}
use Rattle.std.proofs.Common.{rules}
use Rattle.std.proofs.lemmas.Int.{to_z-of_z}
use Rattle.zknow_titles.proofs.ConditionTheory.{all_words}
use Rattle.zknow_titles.proofs.conditions.find_words.Goals as goal

pub returns : goal.returns
returns c =
    let fits : SFits w64 c.args.condition = search rules in
    let same = to_z-of_z w64 c.args.condition fits in
    all_words c.args.condition c.or.result c.or-2.result c.or-3.result c.or-4.result c.find_in.result c.find_in-2.result
    c.find_in-3.result c.find_in-4.result c.find_in-5.result c.or.ensures c.or-2.ensures c.or-3.ensures c.or-4.ensures
    (rw same at c.find_in.ensures) (rw same at c.find_in-2.ensures) (rw same at c.find_in-3.ensures)
    (rw same at c.find_in-4.ensures) (rw same at c.find_in-5.ensures)
