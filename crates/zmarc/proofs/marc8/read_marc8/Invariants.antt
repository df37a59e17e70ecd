use Rattle.std.proofs.Common.{◌≡◌, ◌++◌, drop}
use Rattle.zmarc.specs.Marc8.{marc8, marc8_from}
use Rattle.zmarc.proofs.marc8.read_marc8.Given as goal

abbrev pub invariant-loop-octet : goal.invariant-loop-octet
invariant-loop-octet l =
    l.read.items ++ marc8_from l.mode l.marks.items (drop l.octet-index l.octets) ≡ marc8 l.octets
