use Rattle.zmeta_args.specs.Texts.{texts_of}
use Rattle.zmeta_trace.specs.Heads.{head_texts}
use Rattle.zmeta_commands.proofs.Showing.{of_head, unplanned_of}
use Rattle.zmeta_commands.proofs.dialogue.text_of.Goals as goal

pub returns-in-Ok-network_of : goal.returns-in-Ok-network_of
returns-in-Ok-network_of c =
    let read = c.in-Ok.ensures in
    of_head (λ text. text.items) (texts_of c.args.only.now) c.args.trace.now (head_texts c.in-Ok.head) read.0
    c.in-Ok-network_of.network c.text_by.result (rw c.as_slice.ensures.value at read.1)
    c.in-Ok-network_of.ensures.network c.text_by.ensures

pub returns : goal.returns
returns c =
    let read = c.in-Ok.ensures in
    unplanned_of (texts_of c.args.only.now) c.args.trace.now (head_texts c.in-Ok.head) read.0 c.in-Err-network_of.fault
    (rw c.as_slice.ensures.value at read.1) c.in-Err-network_of.ensures.network
