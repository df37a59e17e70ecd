use Rattle.std.proofs.Common.{◌≡◌, ◌++◌, drop, string_bytes}
use Rattle.std.specs.Str.{encode_utf8_all}
use Rattle.zknow_titles.proofs.characters.put_chars.Given as goal

abbrev pub invariant-loop-c : goal.invariant-loop-c
invariant-loop-c l = string_bytes l.line ++ encode_utf8_all (drop l.c-index l.read) ≡ string_bytes l.fn.line ++
    encode_utf8_all l.read
