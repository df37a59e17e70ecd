use Rattle.std.proofs.Common.{◌≡◌, ◌++◌, drop, string_bytes}
use Rattle.std.specs.Str.{encode_utf8_all}
use Rattle.zknow_titles.specs.Columns.{fitting}
use Rattle.zknow_titles.proofs.columns.put_fitting.Given as goal

abbrev pub invariant-loop-c : goal.invariant-loop-c
invariant-loop-c l = string_bytes l.out ++ encode_utf8_all (fitting l.room (drop l.c-index l.read)) ≡ string_bytes
    l.fn.out ++ encode_utf8_all (fitting l.fn.columns l.read)
