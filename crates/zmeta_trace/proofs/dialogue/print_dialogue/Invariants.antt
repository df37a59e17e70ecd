-- the lines of the first entries were appended
use Rattle.std.proofs.Common.{take}
use Rattle.zmeta_trace.proofs.Talking.{HasTold}
use Rattle.zmeta_trace.proofs.dialogue.print_dialogue.Given as goal

abbrev pub invariant-loop-index : goal.invariant-loop-index
invariant-loop-index l =
    HasTold l.shown.names.now l.shown.chosen.now (take l.index l.entries) l.talks.items l.initial.out.items l.out.items
