use Rattle.std.proofs.Common.{◌≡◌, ◌++◌, eqb, string_bytes, not}
use Rattle.std.specs.Prelude.{filter}
use Rattle.std.specs.Str.{encode_utf8_all}
use Rattle.zhtml.proofs.markup.put_sheet.Given as goal

abbrev pub invariant-loop-c : goal.invariant-loop-c
invariant-loop-c l =
    string_bytes l.out ≡ string_bytes l.fn.out ++ encode_utf8_all (filter (λ c. not (eqb c 0x3C)) l.yielded)
