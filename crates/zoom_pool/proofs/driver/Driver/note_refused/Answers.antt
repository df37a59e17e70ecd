use Rattle.std.proofs.Common.{refl}
use Rattle.zoom_pool.proofs.DriverAgreement.{knows_refused}
use Rattle.zoom_pool.proofs.driver.Driver.note_refused.Goals as goal

pub returns : goal.returns
returns c = rw (← c.self.view_is) (knows_refused _ _ refl refl refl refl refl)
