use Rattle.zber.proofs.Stays.{message_stays, fault_stays}
use Rattle.zber.proofs.laws.answers_stay.Goals as goal

pub returns : goal.returns
returns c = record { message = message_stays; fault = fault_stays }
