use Rattle.std.proofs.Common.{◌≡◌, ◌++◌, map, drop, string_bytes}
use Rattle.std.specs.Fmt.{signed_decimal}
use Rattle.zknow_titles.proofs.blocks.show_numbers.Given as goal

abbrev pub invariant-loop-number : goal.invariant-loop-number
invariant-loop-number l = map string_bytes l.shown.items ++ map signed_decimal (drop l.number-index l.numbers)
    ≡ map signed_decimal l.numbers
