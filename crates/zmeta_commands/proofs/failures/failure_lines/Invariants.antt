use Rattle.std.proofs.Common.{take}
use Rattle.zmeta_commands.specs.Finished.{told_at, AreLinesFrom}
use Rattle.zmeta_commands.proofs.failures.failure_lines.Given as goal

abbrev pub invariant-loop-c : goal.invariant-loop-c
invariant-loop-c l = AreLinesFrom (told_at l.told) l.meta 0 (take l.c l.names) l.text.items
