-- the lines of the messages before those that are left were appended
use Rattle.std.proofs.Common.{length}
use Rattle.zmeta_trace.specs.Dialogue.{place_text}
use Rattle.zmeta_trace.proofs.Talking.{HasShown}
use Rattle.zmeta_trace.proofs.way.put_messages.Given as goal

abbrev pub invariant-loop : goal.invariant-loop
invariant-loop l =
    HasShown (place_text l.place.at l.place.name.now l.place.mark.now) l.initial.framer.stream.octets l.framer.stream
    l.is_over l.initial.out.items l.out.items

abbrev pub decreases-loop : goal.decreases-loop
decreases-loop l = length l.framer.stream.octets
