use Rattle.std.proofs.Common.{◌≡◌, true, take}
use Rattle.zber.specs.Elements.{forest}
use Rattle.zber.specs.Segments.{are_segments}
use Rattle.zber.proofs.node.Node.+string_room.Given as goal

abbrev pub invariant-loop-kid : goal.invariant-loop-kid
invariant-loop-kid l = are_segments (forest (take l.kid-index l.kid-items)) ≡ true
