use Rattle.std.proofs.Common.{◌≡◌, ◌++◌, take}
use Rattle.std.specs.String.{string_bytes}
use Rattle.zmarc.specs.Shown.{shown_text}
use Rattle.zmarc.proofs.shown.append_chars.Given as goal

abbrev pub invariant-loop-c : goal.invariant-loop-c
invariant-loop-c l =
    string_bytes l.line ≡ string_bytes l.fn.line ++ shown_text (take l.c-index l.cs)
