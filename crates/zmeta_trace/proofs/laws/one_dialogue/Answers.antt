use Rattle.zmeta_trace.proofs.OneDialogue.{one_dialogue}
use Rattle.zmeta_trace.proofs.laws.one_dialogue.Goals as goal

pub returns : goal.returns
returns c = one_dialogue (record {
  answer = c.one_answer.ensures;
  value = c.one_value.ensures;
  refusal = c.one_refusal.ensures;
})
