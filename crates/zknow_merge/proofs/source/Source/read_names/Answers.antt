use Rattle.std.proofs.Common.{◌≡◌, List, ℕ, length, drop, refl, ap, subst, ◌∙◌, arith}
use Rattle.zknow.specs.Saved.SavedFacts.{saved_names}
use Rattle.zknow.specs.Saved.Fronts.{IsTakenFront}
use Rattle.zknow_merge.specs.Fronts.{IsFrontFault}
use Rattle.zknow_merge.proofs.FaultTheory.{names_fault}
use Rattle.zknow_merge.proofs.ReadTheory.{names_read, refuse_step}
use Rattle.zknow_merge.proofs.source.Source.read_names.Goals as goal

pub returns-in-Ok-clause-step : goal.returns-in-Ok-clause-step
returns-in-Ok-clause-step c = λ merged i r.
    let ok = c.in-Ok.element.ok in
    let size : c.len.result ≡ length c.in-Ok.element.items = omega (arith, ok, c.len.ensures) in
    names_read merged i c.args.self.now _ c.in-Ok.field-0-0 (length c.in-Ok.element.items)
    (subst (λ (l : List ℕ). IsTakenFront saved_names l c.in-Ok.field-0-0 (length c.in-Ok.element.items)) c.as_slice.ensures c.in-Ok.ensures.taken.front)
    (record {
      octets = c.advance.ensures.items ∙ ap (λ (n : ℕ). drop n c.args.self.now.octets.items) size;
      ended = refl;
      named = c.in-Ok.ensures.taken.is;
      last = refl;
      waiting = refl;
      count = refl;
    })
    c.requires r

pub returns-clause-step : goal.returns-clause-step
returns-clause-step c =
    refuse_step c.args.self.now c.refuse.new.self c.in-Err.error c.refuse.result c.refuse.ensures.ok c.refuse.ensures.err
    (λ merged i r. names_fault merged i c.args.self.now c.in-Err.error c.requires r
    (subst (λ (l : List ℕ). IsFrontFault saved_names l c.in-Err.error) c.as_slice.ensures c.in-Err.ensures.fault))
