use Rattle.std.proofs.Common.{◌≡◌, take}
use Rattle.zasn.proofs.parts.Parts.copies.Given as goal

abbrev pub invariant-loop-node : goal.invariant-loop-node
invariant-loop-node l = l.copies.items ≡ take l.node-index l.node-items
