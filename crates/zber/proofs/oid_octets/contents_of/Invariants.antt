use Rattle.std.proofs.Common.{◌≡◌, ◌++◌, take}
use Rattle.std.specs.List.{flat_map}
use Rattle.zber.specs.Oids.{groups}
use Rattle.zber.proofs.oid_octets.contents_of.Given as goal

abbrev pub invariant-loop-arc : goal.invariant-loop-arc
invariant-loop-arc l = l.octets.items ≡ groups l.root ++ flat_map groups (take l.arc-index l.rest)
