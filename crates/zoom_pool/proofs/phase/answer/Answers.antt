use Rattle.std.proofs.Common.{◌≡◌, ◌-◌, length, sym, subst, arith}
use Rattle.zapdu.specs.declared.apdu.Apdu.TheVariants as apdus
use Rattle.zorigin.specs.Fitting.{records_in}
use Rattle.zoom_pool.specs.declared.phase.Phase.TheVariants as phases
use Rattle.zoom_pool.specs.Drivers.{AnswerStep, IsAnsweredAgenda}
use Rattle.zoom_pool.proofs.phase.answer.Goals.{then-op-eq0, else-op-eq0}
use Rattle.zoom_pool.proofs.phase.answer.Goals as goal

pub returns-after-op-eq0 : goal.returns-after-op-eq0
returns-after-op-eq0 c =
    let first : c.if-op-eq0.first ≡ c.args.op - 1 = elim c.if-op-eq0.branch [
      | then-op-eq0 w ↦ omega (arith, w.first-is, w.if-op-eq0.true)
      | else-op-eq0 w ↦ w.first-is
    ] in
    let was = c.in-Asking.schedule in
    let now = c.answer_list.new.schedule in
    subst (λ z. AnswerStep c.args.op z c.args.phase.now (phases.Asking now)) (sym c.in-PresentResponse.is)
    (subst (λ z. AnswerStep c.args.op (apdus.PresentResponse c.in-PresentResponse.response) z (phases.Asking now))
    (sym c.in-Asking.is)
    (subst (λ n. IsAnsweredAgenda n (length (records_in c.in-PresentResponse.response.records)) was (phases.Asking now))
    first
    (subst (λ n. IsAnsweredAgenda c.if-op-eq0.first n was (phases.Asking now)) c.count_records.ensures
    (c.answer_list.ensures.noted, c.answer_list.ensures.same))))
