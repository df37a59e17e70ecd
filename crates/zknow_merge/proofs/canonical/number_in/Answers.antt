use Rattle.std.proofs.Common.{◌≤◌, ◌*◌, ◌+◌, ℕ, arith}
use Rattle.zknow_merge.proofs.CanonicalTheory.{three, four}
use Rattle.zknow_merge.proofs.canonical.number_in.Goals as goal

pub returns-in-len3 : goal.returns-in-len3
returns-in-len3 c =
    let high : 128 ≤ c.pair-in-len3.result = omega (
      arith,
      c.if-pair-ge128-2.true,
      c.pair-then-a-lt128-3.ensures,
      c.pair-in-len3.ensures,
    ) in
    let last = c.from-in-len3.ensures in
    three c.args.octets.now c.pair-in-len3.result (c.pair-in-len3.result * 256 + c.from-in-len3.result)
    c.in-len3.len_at_least c.in-len3.len_below (λ (k : ℕ). (c.type_inv.octets k).fits) c.pair-in-len3.ensures
    (omega (arith, last)) c.if-a-lt128-3.true high

pub returns-in-len4 : goal.returns-in-len4
returns-in-len4 c =
    let high : 128 ≤ c.pair-in-len4.result = omega (
      arith,
      c.if-pair-ge128-3.true,
      c.pair-then-a-lt128-4.ensures,
      c.pair-in-len4.ensures,
    ) in
    let third = c.from-in-len4.ensures in
    let last = c.from-in-len4-2.ensures in
    four c.args.octets.now c.pair-in-len4.result (c.pair-in-len4.result * 256 + c.from-in-len4.result)
    ((c.pair-in-len4.result * 256 + c.from-in-len4.result) * 256 + c.from-in-len4-2.result)
    c.in-len4.len_at_least c.in-len4.len_below (λ (k : ℕ). (c.type_inv.octets k).fits) c.pair-in-len4.ensures
    (omega (arith, third)) (omega (arith, last)) c.if-a-lt128-4.true high
