use Rattle.std.proofs.lemmas.Result.{IfOk-weaker}
use Rattle.ztarget.proofs.InCommon.{first_looked_for, second_looked_for, both_walked}
use Rattle.ztarget.proofs.common_places.in_both.Goals as goal

pub returns-then-are_few : goal.returns-then-are_few
returns-then-are_few c = IfOk-weaker c.common_places.result _ _ (λ found told. first_looked_for c.args.first.now c.args.second.now found.items told) c.common_places.ensures

pub returns-then-are_few-2 : goal.returns-then-are_few-2
returns-then-are_few-2 c = IfOk-weaker c.common_places-then-are_few-2.result _ _ (λ found told. second_looked_for c.args.first.now c.args.second.now found.items told) c.common_places-then-are_few-2.ensures

pub returns-else-are_few-2 : goal.returns-else-are_few-2
returns-else-are_few-2 c = IfOk-weaker c.merged.result _ _ (λ found told. both_walked c.args.first.now c.args.second.now found.items told) c.merged.ensures
