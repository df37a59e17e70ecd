use Rattle.std.proofs.Common.{◌≡◌, rules}
use Rattle.zquery_rpn.specs.QueryTrees.{rpn_tree}
use Rattle.ztarget.specs.Asking.{query_meaning, is_satisfied}
use Rattle.ztarget.specs.TargetStates.{criterion_meaning}
use Rattle.ztarget.proofs.Repeats.{both_meet, either_meets, first_meets}
use Rattle.ztarget.proofs.criterion.+criterion_of.Goals as goal

pub returns-in_ok-right-in-And : goal.returns-in_ok-right-in-And
returns-in_ok-right-in-And t c =
    let first : is_satisfied (criterion_meaning c.in_ok-left-in-And.left.value) ≡ is_satisfied (query_meaning (rpn_tree c.in-And.left.value)) = search rules in
    let second : is_satisfied (criterion_meaning c.in_ok-right-in-And.right.value) ≡ is_satisfied (query_meaning (rpn_tree c.in-And.right.value)) = search rules in
    rw c.in-And.is (both_meet (is_satisfied (criterion_meaning c.both.result)) (is_satisfied (criterion_meaning c.in_ok-left-in-And.left.value)) (is_satisfied (criterion_meaning c.in_ok-right-in-And.right.value))
    (is_satisfied (query_meaning (rpn_tree c.in-And.left.value))) (is_satisfied (query_meaning (rpn_tree c.in-And.right.value))) first second c.both.ensures)

pub returns-in_ok-right-in-Or : goal.returns-in_ok-right-in-Or
returns-in_ok-right-in-Or t c =
    let first : is_satisfied (criterion_meaning c.in_ok-left-in-Or.left.value) ≡ is_satisfied (query_meaning (rpn_tree c.in-Or.left.value)) = search rules in
    let second : is_satisfied (criterion_meaning c.in_ok-right-in-Or.right.value) ≡ is_satisfied (query_meaning (rpn_tree c.in-Or.right.value)) = search rules in
    rw c.in-Or.is (either_meets (is_satisfied (criterion_meaning c.either.result)) (is_satisfied (criterion_meaning c.in_ok-left-in-Or.left.value)) (is_satisfied (criterion_meaning c.in_ok-right-in-Or.right.value))
    (is_satisfied (query_meaning (rpn_tree c.in-Or.left.value))) (is_satisfied (query_meaning (rpn_tree c.in-Or.right.value))) first second c.either.ensures)

pub returns-in_ok-right-in-Not : goal.returns-in_ok-right-in-Not
returns-in_ok-right-in-Not t c =
    let first : is_satisfied (criterion_meaning c.in_ok-left-in-Not.left.value) ≡ is_satisfied (query_meaning (rpn_tree c.in-Not.left.value)) = search rules in
    let second : is_satisfied (criterion_meaning c.in_ok-right-in-Not.right.value) ≡ is_satisfied (query_meaning (rpn_tree c.in-Not.right.value)) = search rules in
    rw c.in-Not.is (first_meets (is_satisfied (criterion_meaning c.without_reply.result)) (is_satisfied (criterion_meaning c.in_ok-left-in-Not.left.value)) (is_satisfied (criterion_meaning c.in_ok-right-in-Not.right.value))
    (is_satisfied (query_meaning (rpn_tree c.in-Not.left.value))) (is_satisfied (query_meaning (rpn_tree c.in-Not.right.value))) first second c.without_reply.ensures)
