use Rattle.zoom_laws.proofs.ExchangeTheory.Events.{one_served}
use Rattle.zoom_laws.proofs.ExchangeTheory.Steps.{starts, calls, gives, host_fed, handed, fed, takes, released}
use Rattle.zoom_laws.proofs.ExchangeTheory.Endings.{took, keeps_converse, keeps_owed, ends, rests}
use Rattle.zoom_laws.proofs.ExchangeTheory.Longer.{longer}
use Rattle.zoom_laws.proofs.ExchangeTheory.Counts.{count, few}
use Rattle.zoom_laws.proofs.ExchangeTheory.Over.{empty, over}
use Rattle.zoom_laws.proofs.ExchangeTheory.Ended.{ended}
use Rattle.zoom_laws.proofs.ExchangeTheory.Tried.{tried}
use Rattle.zoom_laws.proofs.laws.exchange_laws.Goals as goal

pub returns : goal.returns
returns c = record {
  one_served = one_served;
  starts = starts;
  calls = calls;
  gives = gives;
  host_fed = host_fed c.accord_laws.ensures;
  handed = handed;
  fed = fed;
  takes = takes c.accord_laws.ensures;
  released = released;
  took = took;
  conversation = keeps_converse;
  ends = ends;
  rests = rests c.accord_laws.ensures;
  pending = keeps_owed;
  longer = longer;
  count = count;
  empty = empty c.accord_laws.ensures;
  over = over c.accord_laws.ensures;
  ended = ended c.next_laws.ensures c.agenda_laws.ensures c.driven_laws.ensures;
  tried = tried;
  few = few c.meta_laws.ensures c.one_transcript.ensures;
}
