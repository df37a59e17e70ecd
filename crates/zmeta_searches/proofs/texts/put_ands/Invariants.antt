use Rattle.std.proofs.Common.{◌≡◌, ◌++◌}
use Rattle.zmeta_searches.specs.Texts.{ands}
use Rattle.zmeta_searches.proofs.texts.put_ands.Given as goal

abbrev pub invariant-loop : goal.invariant-loop
invariant-loop l = l.text.items ≡ l.fn.text.items ++ ands l.counter
