use Rattle.std.proofs.Common.{take}
use Rattle.zmeta_world.specs.Finding.{AreFound}
use Rattle.zmeta_world.specs.NetworkRuns.{address_for}
use Rattle.zmeta_world.proofs.network.addresses_for.Given as goal

abbrev pub invariant-loop-asked_question : goal.invariant-loop-asked_question
invariant-loop-asked_question l = AreFound (address_for l.hosts) (take l.asked_question-index l.asked_questions) l.found.items
