use Rattle.std.proofs.Common.{subst, Bool}
use Rattle.zmeta_trace.specs.Dialogue.{place_text}
use Rattle.zmeta_trace.specs.Messages.{NextResult}
use Rattle.zmeta_trace.proofs.Talking.{taken_end}
use Rattle.zmeta_trace.proofs.way.put_messages.Goals as goal

pub returns : goal.returns
returns c =
    let place = place_text c.args.place.now.at c.args.place.now.name.now c.args.place.now.mark.now in
    let s = c.loop.framer.stream in
    let t = c.put_next.new.framer.stream in
    let over = c.put_next.new.is_over in
    let now = c.loop.out.items in
    let then = c.put_next.new.out.items in
    taken_end place c.args.framer.now.stream.octets s t c.loop.is_over over c.args.out.now.items now then
    c.loop.invariant
    (subst (λ (b : Bool). NextResult place s t over now then b) c.if-branch.false c.in_ok-put_next.ensures)
