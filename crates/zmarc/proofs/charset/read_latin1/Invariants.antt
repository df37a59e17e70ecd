use Rattle.std.proofs.Common.{◌≡◌, ◌++◌, drop}
use Rattle.std.specs.Prelude.{map}
use Rattle.zmarc.specs.Charsets.{latin1}
use Rattle.zmarc.proofs.charset.read_latin1.Given as goal

abbrev pub invariant-loop-octet : goal.invariant-loop-octet
invariant-loop-octet l = l.read.items ++ map latin1 (drop l.octet-index l.octets) ≡ map latin1 l.octets
