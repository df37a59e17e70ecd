use Rattle.zorigin.proofs.Orderly.{sent_request}
use Rattle.zorigin.proofs.laws.sent_requests.Goals as goal

pub returns : goal.returns
returns c = sent_request
