use Rattle.std.proofs.Common.{◌≡◌, take}
use Rattle.zquery_rpn.proofs.attribute.copies.Given as goal

abbrev pub invariant-loop-attr : goal.invariant-loop-attr
invariant-loop-attr l = l.copies.items ≡ take l.attr-index l.attrs
