use Rattle.std.proofs.Common.{arith, sym, ap, ◌∙◌, ◌<◌, ◌+◌, length}
use Rattle.zber.specs.declared.scan.Reading.TheVariants.{Front as AtFront}
use Rattle.zber.proofs.ScanLemmas.{path_room}
use Rattle.zber.proofs.ScanMoves.{looked_on, looked_bad, less_looked, looked_len}
use Rattle.zber.proofs.CountLemmas.{counts_looked, fault_looked}
use Rattle.zber.proofs.scan.Scan.look_on.Goals as goal

pub place-place-requires-clause-few : goal.place-place-requires-clause-few
place-place-requires-clause-few c = let g = rw c.in-Front.is at c.requires.holds.1 in omega (arith, path_room g.going.path)

pub returns-in-Ok-clause-ok : goal.returns-in-Ok-clause-ok
returns-in-Ok-clause-ok c = λ limit h.
    let g = rw c.in-Front.is at h in
    let e = c.place-place.ensures limit _ g.es g.place g.going in
    let room : c.args.self.now.at + c.in-Front.len < length c.args.octets.now = omega (arith, g.looked, c.if-octets-self.false) in
    let goes = rw e at c.in-Ok.ensures.goes in
    let lighter = less_looked (length c.args.octets.now) c.args.self.now c.in-Ok.reading (AtFront c.in-Front.front c.in-Front.len) c.in-Front.is room (looked_len g _ c.in-Ok.reading goes) in
    record { holds = looked_on g _ c.in-Ok.reading room c.examine-x.ensures.octet goes; no_heavier = omega (arith, lighter) }

pub returns-in-Err-clause-fault : goal.returns-in-Err-clause-fault
returns-in-Err-clause-fault c = λ limit h.
    let g = rw c.in-Front.is at h in
    let e = c.place-place.ensures limit _ g.es g.place g.going in
    let room : c.args.self.now.at + c.in-Front.len < length c.args.octets.now = omega (arith, g.looked, c.if-octets-self.false) in
    looked_bad g _ c.in-Err.kind room c.examine-x.ensures.octet (λ q. c.if-len-place.false (q ∙ sym (ap (λ z. z.size) e))) (rw e at c.in-Err.ensures.fault)

pub returns-in-Ok-clause-counts : goal.returns-in-Ok-clause-counts
returns-in-Ok-clause-counts c =
    let g = rw c.in-Front.is at c.requires.holds.1 in
    let e = c.place-place.ensures c.requires.holds.0 _ g.es g.place g.going in
    let goes = rw e at c.in-Ok.ensures.goes in
    counts_looked c.args.self.now c.in-Ok.reading (AtFront c.in-Front.front c.in-Front.len) _ _ c.in-Front.is (looked_len g _ c.in-Ok.reading goes) c.examine-x.ensures.counted

pub returns-in-Err-clause-at_fault : goal.returns-in-Err-clause-at_fault
returns-in-Err-clause-at_fault c =
    let g = rw c.in-Front.is at c.requires.holds.1 in
    fault_looked _ c.args.self.now (AtFront c.in-Front.front c.in-Front.len) _ _ c.in-Front.is (omega (arith, g.looked, c.if-octets-self.false)) c.examine-x.ensures.counted
