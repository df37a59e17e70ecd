use Rattle.std.proofs.Common.{◌≡◌, ◌++◌}
use Rattle.std.specs.Vec.Iter.{into_iter_items}
use Rattle.zmeta_world.specs.Finding.{AreParts}
use Rattle.zmeta_world.proofs.parts.split_questions.Given as goal

abbrev pub invariant-loop-asked_question : goal.invariant-loop-asked_question
invariant-loop-asked_question l =
    record {
      parts : AreParts l.yielded l.parts;
      whole : l.yielded ++ into_iter_items l.asked_question-iterator ≡ into_iter_items l.initial.asked_question-iterator;
    }
