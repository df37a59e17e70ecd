use Rattle.std.proofs.Common.{List, ℕ, subst}
use Rattle.zknow.specs.Saved.SavedFacts.{saved_fact}
use Rattle.zknow_merge.specs.Fronts.{IsFrontFault}
use Rattle.zknow_merge.proofs.FaultTheory.{fact_fault}
use Rattle.zknow_merge.proofs.ReadTheory.{next_head, refuse_step}
use Rattle.zknow_merge.proofs.source.Source.read_any_fact.Goals as goal

pub take_head-requires-clause-head : goal.take_head-requires-clause-head
take_head-requires-clause-head c = (
  c.in-Ok.fact,
  next_head c.as_slice.result.now c.args.self.now.octets.items c.in-Ok.fact c.in-Ok.element.items c.in_ok-head-in-Ok.head
      c.as_slice.ensures c.in-Ok.ensures.taken c.in_ok-head-in-Ok.ensures.key c.in_ok-head-in-Ok.ensures.element c.in_ok-head-in-Ok.ensures.lawful,
)

pub returns-in-Err-clause-step : goal.returns-in-Err-clause-step
returns-in-Err-clause-step c =
    refuse_step c.args.self.now c.refuse.new.self c.in-Err.error c.refuse.result c.refuse.ensures.ok c.refuse.ensures.err
    (λ merged i r. fact_fault merged i c.args.self.now c.in-Err.error c.requires.named c.requires.some r
    (subst (λ (l : List ℕ). IsFrontFault saved_fact l c.in-Err.error) c.as_slice.ensures c.in-Err.ensures.fault))
