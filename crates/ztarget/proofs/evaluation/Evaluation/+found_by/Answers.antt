use Rattle.std.proofs.Common.{◌≡◌, ◌∙◌, sym, true, false, rules}
use Rattle.std.proofs.lemmas.Result.{IfOk-weaker}
use Rattle.ztarget.specs.Asking.{is_satisfied}
use Rattle.ztarget.specs.Merging.{merged}
use Rattle.ztarget.specs.Narrowing.{IsNarrowed}
use Rattle.ztarget.specs.Searching.{places_from}
use Rattle.ztarget.specs.TargetStates.{criterion_meaning}
use Rattle.ztarget.proofs.Merges.{none_places, either_places}
use Rattle.ztarget.proofs.Needs.{found_without}
use Rattle.ztarget.proofs.evaluation.Evaluation.+found_by.Goals as goal

pub returns-in-Never-clause-places : goal.returns-in-Never-clause-places
returns-in-Never-clause-places t c = rw c.in-Never.is (IfOk-weaker c.new-in-Never.result _ _
    (λ places is. is ∙ c.new.ensures.items ∙ sym (none_places 0 c.args.self.now)) c.new-in-Never.ensures)

pub returns-in_ok-found-in-Or-clause-places : goal.returns-in_ok-found-in-Or-clause-places
returns-in_ok-found-in-Or-clause-places t c =
    let entries = c.args.self.now in
    let first : c.as_slice-in-Or.result.now ≡ places_from (is_satisfied (criterion_meaning c.in-Or.left.value)) 0 entries = search rules in
    let second : c.as_slice-in-Or-2.result.now ≡ places_from (is_satisfied (criterion_meaning c.in-Or.right.value)) 0 entries = search rules in
    rw c.in-Or.is (IfOk-weaker c.new-in-Or.result _ _ (λ places is.
    is
    ∙ c.in_ok-found-in-Or.ensures
    ∙ (λ i. merged (record { both = true; first = true; second = true }) (first i) (second i))
    ∙ either_places (is_satisfied (criterion_meaning c.in-Or.left.value)) (is_satisfied (criterion_meaning c.in-Or.right.value)) 0 entries) c.new-in-Or.ensures)

pub returns-in_ok-found-in-Not-clause-places : goal.returns-in_ok-found-in-Not-clause-places
returns-in_ok-found-in-Not-clause-places t c =
    let entries = c.args.self.now in
    let left = c.as_slice-in-Not.result.now in
    let right = c.in_ok-right-in-Not.right.items in
    let first : left ≡ places_from (is_satisfied (criterion_meaning c.in-Not.left.value)) 0 entries = search rules in
    let second : IsNarrowed (is_satisfied (criterion_meaning c.in-Not.right.value)) entries left right = search rules in
    let again : c.as_slice-in-Not-2.result.now ≡ left = search rules in
    rw c.in-Not.is (IfOk-weaker c.new-in-Not.result _ _ (λ places is.
    is
    ∙ c.in_ok-found-in-Not.ensures
    ∙ (λ i. merged (record { both = false; first = true; second = false }) (again i) (c.deref-in-Not-3.ensures.value i))
    ∙ found_without (is_satisfied (criterion_meaning c.in-Not.left.value)) (is_satisfied (criterion_meaning c.in-Not.right.value)) entries left right first second) c.new-in-Not.ensures)
