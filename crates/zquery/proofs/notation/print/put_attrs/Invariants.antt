use Rattle.std.proofs.Common.{◌≡◌, ◌++◌, take}
use Rattle.std.specs.List.{flat_map}
use Rattle.zquery.specs.Notation.Printing.{attr_text}
use Rattle.zquery.proofs.notation.print.put_attrs.Given as goal

abbrev pub invariant-loop-attr : goal.invariant-loop-attr
invariant-loop-attr l = l.out.items ≡ l.fn.out.items ++ flat_map attr_text (take l.attr-index l.attrs)
