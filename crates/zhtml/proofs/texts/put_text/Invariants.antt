use Rattle.std.proofs.Common.{◌≡◌, ◌++◌, string_bytes}
use Rattle.std.specs.Prelude.{map}
use Rattle.std.specs.Str.{encode_utf8_all}
use Rattle.zhtml.specs.Texts.{shown, escaped}
use Rattle.zhtml.proofs.texts.put_text.Given as goal

abbrev pub invariant-loop-c : goal.invariant-loop-c
invariant-loop-c l = string_bytes l.out ≡ string_bytes l.fn.out ++ escaped (encode_utf8_all (map shown l.yielded))
