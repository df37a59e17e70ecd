use Rattle.std.proofs.Common.{◌∙◌, true, false, rules}
use Rattle.std.proofs.lemmas.Result.{IfOk-weaker}
use Rattle.ztarget.specs.Asking.{is_satisfied}
use Rattle.ztarget.specs.Merging.{merged}
use Rattle.ztarget.specs.Narrowing.{IsNarrowed}
use Rattle.ztarget.specs.TargetStates.{criterion_meaning}
use Rattle.ztarget.proofs.Needs.{none_kept, kept_by_either, kept_without}
use Rattle.ztarget.proofs.evaluation.Evaluation.+narrow.Goals as goal

pub returns-in-Never-clause-narrowed : goal.returns-in-Never-clause-narrowed
returns-in-Never-clause-narrowed t c = rw c.in-Never.is (λ p are. c.new.ensures.items ∙ none_kept c.args.self.now c.args.among.now p are)

pub returns-in_ok-right-in-Or-clause-narrowed : goal.returns-in_ok-right-in-Or-clause-narrowed
returns-in_ok-right-in-Or-clause-narrowed t c =
    let entries = c.args.self.now in
    let among = c.args.among.now in
    let left = c.in_ok-left-in-Or.left.items in
    let right = c.in_ok-right-in-Or.right.items in
    let first : IsNarrowed (is_satisfied (criterion_meaning c.in-Or.left.value)) entries among left = search rules in
    let second : IsNarrowed (is_satisfied (criterion_meaning c.in-Or.right.value)) entries among right = search rules in
    rw c.in-Or.is (IfOk-weaker c.merged.result _ _ (λ out told p are.
    told
    ∙ (λ i. merged (record { both = true; first = true; second = true }) (c.deref-in-Or-3.ensures.value i) (c.deref-in-Or-4.ensures.value i))
    ∙ kept_by_either (is_satisfied (criterion_meaning c.in-Or.left.value)) (is_satisfied (criterion_meaning c.in-Or.right.value)) entries among left right first second p are) c.merged.ensures)

pub returns-in_ok-dropped-in-Not-clause-narrowed : goal.returns-in_ok-dropped-in-Not-clause-narrowed
returns-in_ok-dropped-in-Not-clause-narrowed t c =
    let entries = c.args.self.now in
    let among = c.args.among.now in
    let kept = c.in_ok-kept-in-Not.kept.items in
    let dropped = c.in_ok-dropped-in-Not.dropped.items in
    let first : IsNarrowed (is_satisfied (criterion_meaning c.in-Not.left.value)) entries among kept = search rules in
    let second : IsNarrowed (is_satisfied (criterion_meaning c.in-Not.right.value)) entries kept dropped = search rules in
    rw c.in-Not.is (IfOk-weaker c.merged-in-Not.result _ _ (λ out told p are.
    told
    ∙ (λ i. merged (record { both = false; first = true; second = false }) (c.deref-in-Not-4.ensures.value i) (c.deref-in-Not-5.ensures.value i))
    ∙ kept_without (is_satisfied (criterion_meaning c.in-Not.left.value)) (is_satisfied (criterion_meaning c.in-Not.right.value)) entries among kept dropped first second p are) c.merged-in-Not.ensures)
