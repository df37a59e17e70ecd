use Rattle.std.proofs.Common.{◌++◌, ◌==◌, ◌&&◌, None, ap, ◌∙◌, length}
use Rattle.zber.specs.Stream.{Counted}
use Rattle.zknow.proofs.SavedTheory.FrontElements.{found_is, fault_is}
use Rattle.zknow_merge.proofs.front.front_of.Goals as goal

pub returns-in-Ok-None : goal.returns-in-Ok-None
returns-in-Ok-None c =
    let start = c.new-framer.ensures in
    let fed_is = ap (λ (q : Counted). q.stream) (c.in_ok-feed.ensures.ok (ap (λ (q : Counted). q.stream.fault) start))
    ∙ ap (λ (q : Counted). record q.stream { octets = q.stream.octets ++ c.args.octets.now; asked = q.stream.asked && (length c.args.octets.now == 0) }) start in
    found_is c.feed.new.self.stream c.next.new.self.stream c.args.octets.now None fed_is (rw c.in-Ok-None.field-0-is at c.in-Ok-None.ensures.after)

pub returns-in-Err-Fault : goal.returns-in-Err-Fault
returns-in-Err-Fault c =
    let start = c.new-framer.ensures in
    let fed_is = ap (λ (q : Counted). q.stream) (c.in_ok-feed.ensures.ok (ap (λ (q : Counted). q.stream.fault) start))
    ∙ ap (λ (q : Counted). record q.stream { octets = q.stream.octets ++ c.args.octets.now; asked = q.stream.asked && (length c.args.octets.now == 0) }) start in
    fault_is c.feed.new.self.stream c.next.new.self.stream c.args.octets.now c.in-Err-Fault.field-0-0 c.in-Err-Fault.field-0-1 fed_is (rw c.in-Err-Fault.field-0-is at c.in-Err-Fault.ensures.after)
