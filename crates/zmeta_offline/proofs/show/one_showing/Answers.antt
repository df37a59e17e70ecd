use Rattle.zmeta_offline.proofs.OneShowing.{one_showing}
use Rattle.zmeta_offline.proofs.show.one_showing.Goals as goal

pub returns : goal.returns
returns c = λ xs s t f g. one_showing (record { answer = c.one_answer.ensures; value = c.one_value.ensures; refusal = c.one_refusal.ensures }) t g
