use Rattle.std.proofs.Common.{subst}
use Rattle.zoom_asking.specs.Hosts.{AskedAfter}
use Rattle.zoom_asking.proofs.Turned.{turns_of, own_history}
use Rattle.zoom_asking.proofs.laws.asked_laws.Goals as goal

pub returns : goal.returns
returns c = record {
  turns = turns_of;
  over = λ i history hosts k h ending asks after reported at over.
      let o = own_history i history hosts k h asks after reported at in
      c.end_laws.ensures.over i asks.host asks.question o.0 h ending o.1 o.2 over;
  not_chosen = λ i history hosts k h asks none after at.
      let o = turns_of i history hosts k h asks after at in
      c.end_laws.ensures.not_chosen i asks.question o.0 h
      (subst (λ host. AskedAfter i host asks.question o.0 h) none o.1);
}
