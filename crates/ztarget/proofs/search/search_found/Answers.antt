use Rattle.std.proofs.Common.{◌≡◌, ◌≤◌, length, length-take, arith}
use Rattle.zapdu.specs.declared.apdu.Apdu.TheVariants as apdus
use Rattle.ztarget.specs.Keeping.{all_found_at}
use Rattle.ztarget.specs.Levels.{HasElement}
use Rattle.ztarget.specs.Responding.{search_response, search_found}
use Rattle.ztarget.proofs.ReplyElements.{found_element}
use Rattle.ztarget.proofs.Answered.{found_all}
use Rattle.ztarget.proofs.Sendable.{known_ok}
use Rattle.ztarget.proofs.search.search_found.Goals as goal

pub returns-clause-element : goal.returns-clause-element
returns-clause-element c =
    let held = c.in_ok-records.records.items in
    let within : length held ≤ length c.args.found.now = omega (arith, c.in_ok-records.ensures.within, length-take c.due_count-due.result c.args.found.now) in
    known_ok (λ response. HasElement (apdus.SearchResponse response)) _ c.search_response.result c.search_response.ensures
    (found_element c.args.request.now (length c.args.found.now) c.due_count-due.result held c.requires.few within c.in_ok-records.ensures.showable)

pub returns-clause-value : goal.returns-clause-value
returns-clause-value c =
    let ds = c.args.databases.now in
    let r = c.args.request.now in
    let hits = c.args.found.now in
    let due = c.due_count-due.result in
    let records = c.in_ok-records.records.items in
    known_ok (λ response. response ≡ search_found c.args.size r (all_found_at ds hits)) (search_response r (length hits) due records) c.search_response.result c.search_response.ensures
    (found_all ds c.args.size r hits due records c.due_count-due.ensures.value c.in_ok-records.ensures.held)
