use Rattle.std.proofs.Common.{◌≡◌, ◌++◌, take}
use Rattle.zber.specs.Elements.{forest}
use Rattle.zber.specs.Segments.{joined}
use Rattle.zber.proofs.node.Node.+append_string.Given as goal

abbrev pub invariant-loop-kid : goal.invariant-loop-kid
invariant-loop-kid l = l.out.items ≡ l.initial.out.items ++ joined (forest (take l.kid-index l.kid-items))
