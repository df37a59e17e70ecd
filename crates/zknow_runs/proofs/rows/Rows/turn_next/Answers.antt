use Rattle.std.proofs.Common.{◌≡◌, List, sym, subst, ◌∙◌}
use Rattle.std.specs.Prelude.{true, Contains}
use Rattle.zknow_runs.specs.declared.run.Run.{Run}
use Rattle.zknow_runs.specs.Rows.{HoldsRows}
use Rattle.zknow_runs.proofs.StepTheory.{turned_next}
use Rattle.zknow_runs.proofs.rows.Rows.turn_next.Goals as goal

pub returns-in-None-clause-holds : goal.returns-in-None-clause-holds
returns-in-None-clause-holds c = λ s t text h. (
  h.0,
  subst (λ (l : List Run). HoldsRows s.files (Contains s.known) (s.unknown ≡ true) t text h.0
      (record c.args.self.now { runs = l }))
      (c.in-None.ensures.none ∙ sym c.in-None.ensures.empty) h.1,
)

pub returns-in-Some-clause-holds : goal.returns-in-Some-clause-holds
returns-in-Some-clause-holds c = λ s t text h. (
  h.0,
  turned_next s.files (Contains s.known) (s.unknown ≡ true) t text h.0 c.args.self.now c.in-Some.field-0.number
      c.in-Some.field-0.run c.take.new.self c.requires c.in-Some.ensures.some c.in-Some.ensures.least h.1,
)
