use Rattle.zplan.proofs.AgendaSteps.{asks_at, closes_at}
use Rattle.zplan.proofs.laws.next_laws.Goals as goal

pub returns : goal.returns
returns c = record { asks = asks_at; closes = closes_at }
