use Rattle.std.proofs.Common.{◌≡◌, ◌++◌, take}
use Rattle.std.specs.List.{flat_map}
use Rattle.zquery.specs.Notation.Printing.{in_quotes}
use Rattle.zmeta_conversions.proofs.tokens.put_all_quoted.Given as goal

abbrev pub invariant-loop-text : goal.invariant-loop-text
invariant-loop-text l = l.out.items ≡ l.fn.out.items ++ flat_map in_quotes (take l.text-index l.texts)
