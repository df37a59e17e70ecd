-- the next message is received by the target that all messages before it left
use Rattle.std.proofs.Common.{length}
use Rattle.zoom_pool.specs.HostSteps.{ReceiptStep, IsFollowing}
use Rattle.zoom_pool.proofs.receiving.receive_all.Given as goal

abbrev pub invariant-messages : goal.invariant-messages
invariant-messages l = ReceiptStep (IsFollowing l.initial.framer.stream) (IsFollowing l.framer.stream) l.initial.target l.target

abbrev pub decreases-messages : goal.decreases-messages
decreases-messages l = length l.framer.stream.octets
