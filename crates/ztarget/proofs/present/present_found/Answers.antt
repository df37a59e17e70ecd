use Rattle.std.proofs.Common.{◌≡◌, length, Some, refl, ◌∙◌}
use Rattle.ztarget.specs.Keeping.{all_found_at}
use Rattle.ztarget.specs.Responding.{present_response, presented}
use Rattle.ztarget.specs.TargetStates.{terms_of}
use Rattle.ztarget.proofs.Answered.{presented_all}
use Rattle.ztarget.proofs.Sendable.{known_ok}
use Rattle.ztarget.proofs.present.present_found.Goals as goal

pub returns-clause-value : goal.returns-clause-value
returns-clause-value c =
    let ds = c.args.databases.now in
    let r = c.args.request.now in
    let hits = c.args.found.now in
    let terms = terms_of c.args.terms in
    let records = c.in_ok-records.records.items in
    known_ok (λ response. response ≡ presented terms r (Some (all_found_at ds hits))) (present_response r (length hits) records) c.present_response.result c.present_response.ensures.value
    (presented_all ds c.args.terms.size terms r hits c.deref-2.result.now records refl (c.deref-2.ensures.value ∙ c.in_ok-ranges.ensures) c.in_default.ensures.fault c.in_ok-records.ensures.held)
