use Rattle.std.proofs.Common.{refl, rules}
use Rattle.zoom_pool.specs.CallsOf.{call_of}
use Rattle.zoom_pool.proofs.DriverAgreement.{knows_sent}
use Rattle.zoom_pool.proofs.driver.Driver.note_sent.Goals as goal

pub returns : goal.returns
returns c = rw (← c.self.view_is) (
    knows_sent c.agenda_laws.ensures c.driven_laws.ensures c.number_law.ensures (call_of c.args.call.now) _ _ c.send.ensures
    refl refl (search rules) refl)
