use Rattle.zorigin.proofs.Sendable.{sendable_requests}
use Rattle.zorigin.proofs.laws.sendable_requests.Goals as goal

pub returns : goal.returns
returns c = sendable_requests
