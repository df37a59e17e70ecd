use Rattle.std.proofs.Common.{◌<◌, sym, arith}
use Rattle.ztarget.specs.Words.{leading}
use Rattle.ztarget.proofs.Leading.{below, above}
use Rattle.ztarget.proofs.word.WordOrd.cmp.Goals as goal

pub returns-then-self-other : goal.returns-then-self-other
returns-then-self-other c =
    let us = c.self.inside.octets in
    let vs = c.other.inside.octets in
    let less : leading 0 8 us < leading 0 8 vs = omega (arith, c.if-self-other.true, c.self.invariant.0, c.other.invariant.0) in
    rw (← c.self.view_is, ← c.other.view_is) (sym (below 8 0 us vs c.self.invariant.1 c.other.invariant.1 less))

pub returns-then-other-self : goal.returns-then-other-self
returns-then-other-self c =
    let us = c.self.inside.octets in
    let vs = c.other.inside.octets in
    let more : leading 0 8 vs < leading 0 8 us = omega (arith, c.if-other-self.true, c.self.invariant.0, c.other.invariant.0) in
    rw (← c.self.view_is, ← c.other.view_is) (sym (above 8 0 us vs c.self.invariant.1 c.other.invariant.1 more))
