use Rattle.std.proofs.Common.{arith, ◌≡◌, ◌*◌, length, refl, ap, ◌∙◌}
use Rattle.std.proofs.lemmas.List.{take_all}
use Rattle.zber.specs.Bits.{all_bits}
use Rattle.zber.proofs.BitLemmas.{length-all_bits}
use Rattle.zber.proofs.bits.unpack.Goals as goal
use Rattle.zber.proofs.bits.unpack.Goals.{After-len}

whole : (c : After-len) → c.loop-octet.bits.items ≡ all_bits c.args.octets.now
whole c = c.loop-octet.invariant ∙ ap all_bits (take_all c.loop-octet.octet-index c.args.octets.now (omega arith))

counted : (c : After-len) → c.len.result ≡ 8 * length c.args.octets.now
counted c = omega (arith, ap length (whole c), length-all_bits c.args.octets.now)

pub overflow_sub-len : goal.overflow_sub-len
overflow_sub-len c = omega (arith, counted (goal.at.overflow_sub-len c).After-len)

pub returns : goal.returns
returns c = let e = whole (goal.at.returns c).After-len in let n = counted (goal.at.returns c).After-len in rw (c.truncate.ensures.items, n, e) refl
