use Rattle.std.proofs.Common.{◌≡◌, take}
use Rattle.zber.specs.Bits.{all_bits}
use Rattle.zber.proofs.bits.unpack.Given as goal

abbrev pub invariant-loop-octet : goal.invariant-loop-octet
invariant-loop-octet l = l.bits.items ≡ all_bits (take l.octet-index l.octets)
