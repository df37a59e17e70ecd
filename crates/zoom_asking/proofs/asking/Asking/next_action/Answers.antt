use Rattle.std.proofs.Common.{refl}
use Rattle.std.specs.Prelude.{option_to_list}
use Rattle.zoom_asking.proofs.Entering.{popped}
use Rattle.zoom_asking.proofs.asking.Asking.next_action.Goals as goal

pub returns-clause-after : goal.returns-clause-after
returns-clause-after c =
    popped c.args.self.now _ (option_to_list c.next_action.result) refl refl c.next_action.ensures.courses
    c.next_action.ensures.passed
    c.next_action.ensures.in_order c.next_action.ensures.orderly c.next_action.ensures.queue
