use Rattle.std.proofs.Common.{take}
use Rattle.zmeta_world.specs.Finding.{AreFound}
use Rattle.zmeta_world.specs.InMemoryRuns.{target_for}
use Rattle.zmeta_world.proofs.in_memory.targets_for.Given as goal

abbrev pub invariant-loop-asked_question : goal.invariant-loop-asked_question
invariant-loop-asked_question l = AreFound (target_for l.targets) (take l.asked_question-index l.asked_questions) l.found.items
