use Rattle.zoom_pool.proofs.Uniqueness.{one_input_of}
use Rattle.zoom_pool.proofs.laws.one_input.Goals as goal

pub returns : goal.returns
returns c = one_input_of (record {
  answer = c.one_answer.ensures;
  value = c.one_value.ensures;
  refusal =
      c.one_refusal.ensures;
})
