use Rattle.zplan.proofs.AgendaSteps.{idle_at, starts_at, sends_at, receives_at, stays_at}
use Rattle.zplan.proofs.laws.agenda_laws.Goals as goal

pub returns : goal.returns
returns c = record { idle = idle_at; starts = starts_at; sends = sends_at; receives = receives_at; stays = stays_at }
