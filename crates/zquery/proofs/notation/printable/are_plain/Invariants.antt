use Rattle.std.proofs.Common.{◌≡◌, true, List, ◌++◌, length}
use Rattle.zquery_rpn.specs.declared.query.Attr.{Attr}
use Rattle.zquery.specs.Lawful.{AreLawfulAttrs}
use Rattle.zquery.specs.Notation.Apart.{AreAttrKeys}
use Rattle.zquery.specs.Notation.Printing.{plain_attrs}
use Rattle.zquery.proofs.notation.printable.are_plain.Given as goal

abbrev pub invariant-loop-left : goal.invariant-loop-left
invariant-loop-left l = record {
  behind : (behind : List Attr) × (l.attrs ≡ l.left ++ behind) × AreAttrKeys l.seen behind
      × (plain_attrs l.own behind ≡ true) × AreLawfulAttrs behind;
}

abbrev pub decreases-loop-left : goal.decreases-loop-left
decreases-loop-left l = length l.left
