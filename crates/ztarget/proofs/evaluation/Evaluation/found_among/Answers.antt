use Rattle.std.proofs.Common.{◌≡◌, false, rules}
use Rattle.std.proofs.lemmas.Result.{IfOk-weaker}
use Rattle.ztarget.specs.Asking.{HasPhrase, is_satisfied}
use Rattle.ztarget.specs.Searching.{places_from}
use Rattle.ztarget.specs.TargetStates.{criterion_meaning}
use Rattle.ztarget.proofs.Needs.{kept_of_needed}
use Rattle.ztarget.proofs.evaluation.Evaluation.found_among.Goals as goal

pub returns-clause-places : goal.returns-clause-places
returns-clause-places c =
    let n = c.args.needed in
    let entries = c.args.self.now in
    let among : c.as_slice.result.now ≡ places_from (is_satisfied (HasPhrase n.used false n.asked.now)) 0 entries = search rules in
    IfOk-weaker c.narrow.result _ _
    (λ found told. kept_of_needed (is_satisfied (criterion_meaning c.args.criterion.now)) n entries c.as_slice.result.now found.items c.requires among (rw c.in_ok-among.ensures.same at told))
    c.narrow.ensures.narrowed
