use Rattle.std.proofs.Common.{◌-◌, ◌≤◌, length, get_or, subst}
use Rattle.zapdu.specs.declared.apdu.Apdu.TheVariants as apdus
use Rattle.ztarget.specs.Levels.{HasElement}
use Rattle.zplan.specs.Ranges.{positions}
use Rattle.ztarget.proofs.AskedPositions.{within_all}
use Rattle.ztarget.proofs.ReplyElements.{presented_element}
use Rattle.ztarget.proofs.Sendable.{known_ok}
use Rattle.ztarget.proofs.present.present_response.Goals as goal

pub returns-clause-element : goal.returns-clause-element
returns-clause-element c =
    let k = length c.args.held.items - 1 in
    let last = subst (λ rs. get_or (positions rs) k 0 ≤ c.args.count) c.requires.ranges (within_all c.args.count c.args.ranges.now k c.requires.within) in
    known_ok (λ response. HasElement (apdus.PresentResponse response)) _ c.with_records.result c.with_records.ensures
    (presented_element c.args.request.now c.args.count c.args.held.items c.requires.few last c.requires.held c.requires.showable)
