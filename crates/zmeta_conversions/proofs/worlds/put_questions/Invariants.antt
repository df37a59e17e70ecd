use Rattle.std.proofs.Common.{take}
use Rattle.zmeta_conversions.specs.Worlds.{unsaid_question, ask_line, AreReadable}
use Rattle.zmeta_conversions.proofs.Lines.{ArePut}
use Rattle.zmeta_conversions.proofs.worlds.put_questions.Given as goal

abbrev pub invariant-loop-asked : goal.invariant-loop-asked
invariant-loop-asked l =
    ArePut unsaid_question ask_line (take l.asked-index l.questions) l.fn.out.items l.out.items
    × AreReadable (take l.asked-index l.questions)
