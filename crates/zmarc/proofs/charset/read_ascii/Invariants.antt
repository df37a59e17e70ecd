use Rattle.std.proofs.Common.{◌≡◌, ◌++◌, drop}
use Rattle.std.specs.Prelude.{map}
use Rattle.zmarc.specs.Marc8.{ascii}
use Rattle.zmarc.proofs.charset.read_ascii.Given as goal

abbrev pub invariant-loop-octet : goal.invariant-loop-octet
invariant-loop-octet l = l.read.items ++ map ascii (drop l.octet-index l.octets) ≡ map ascii l.octets
