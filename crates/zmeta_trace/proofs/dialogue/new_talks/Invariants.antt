use Rattle.std.proofs.Common.{◌≡◌, replicate}
use Rattle.zmeta_trace.specs.Dialogue.{new_talk}
use Rattle.zmeta_trace.proofs.dialogue.new_talks.Given as goal

abbrev pub invariant-loop : goal.invariant-loop
invariant-loop l = l.talks.items ≡ replicate l.counter new_talk
