use Rattle.std.proofs.Common.{◌≡◌, ◌++◌, length}
use Rattle.std.specs.Vec.Iter.{into_iter_items, into_iter_len}
use Rattle.zmeta_catalogues.specs.Terms.{others}
use Rattle.zmeta_catalogues.proofs.terms.others.Given as goal

abbrev pub invariant-attrs : goal.invariant-attrs
invariant-attrs l = record {
  same :
      l.kept.items ++ others l.more (into_iter_items l.attr-iterator)
      ≡ others l.more (into_iter_items l.initial.attr-iterator);
  left : into_iter_len l.attr-iterator ≡ length (into_iter_items l.attr-iterator);
}
