use Rattle.std.proofs.Common.{refl, subst, sym}
use Rattle.std.proofs.lemmas.Result.{IfOk-weaker}
use Rattle.zoom_pool.specs.Drivers.{PrepareStep}
use Rattle.zoom_pool.proofs.Nexts.{gives}
use Rattle.zoom_pool.proofs.DriverAgreement.{stays}
use Rattle.zoom_pool.proofs.driver.Driver.next_call.Goals as goal

pub returns-clause-ok : goal.returns-clause-ok
returns-clause-ok c = IfOk-weaker c.give.result _ _ (λ g x. gives c.next_laws.ensures c.driven_laws.ensures c.due_laws.ensures c.bound_laws.ensures _ c.args.state g x) c.give.ensures.ok

pub returns-clause-stays : goal.returns-clause-stays
returns-clause-stays c =
    stays c.agenda_laws.ensures c.driven_laws.ensures c.args.self.now _ _
    (subst (PrepareStep c.args.self.now) (sym c.self.view_is) c.in_ok-prepare.ensures.ok) c.give.ensures.same refl refl refl refl refl
