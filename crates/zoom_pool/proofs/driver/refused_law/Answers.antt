use Rattle.zoom_pool.proofs.DriverAgreement.{refused_reply}
use Rattle.zoom_pool.proofs.driver.refused_law.Goals as goal

pub returns : goal.returns
returns c = refused_reply
