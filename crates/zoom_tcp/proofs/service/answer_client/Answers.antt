use Rattle.std.proofs.Common.{Ok, Err, rules}
use Rattle.zoom_tcp.proofs.Serving.{answered_by, starved_by}
use Rattle.zoom_tcp.proofs.service.answer_client.Goals as goal

pub returns-in-Ok-clause-answered : goal.returns-in-Ok-clause-answered
returns-in-Ok-clause-answered g c =
    answered_by _ _ _ c.answer.new.host _ _ _ _ c.new-host.ensures.after (search rules) (Ok tt) c.in-Ok.ensures (λ is. absurd cc)

pub returns-in-Memory-clause-starved : goal.returns-in-Memory-clause-starved
returns-in-Memory-clause-starved g c =
    starved_by _ _ _ c.answer.new.host _ _ _ _ c.new-host.ensures.after (search rules) c.in-Err.error c.in-Memory.is
    c.in-Err.ensures

pub returns-clause-answered : goal.returns-clause-answered
returns-clause-answered g c =
    answered_by _ _ _ c.answer.new.host _ _ _ _ c.new-host.ensures.after (search rules) (Err c.in-Err.error) c.in-Err.ensures
    (λ is. c.in_default.not-Memory (cc))
