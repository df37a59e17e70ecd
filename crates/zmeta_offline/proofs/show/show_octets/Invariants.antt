-- the framer holds the rest, and the text of the rest follows the text so far
use Rattle.std.proofs.Common.{◌≡◌, None, length}
use Rattle.zber.specs.declared.framer.TheConstants.{MESSAGE_LIMIT}
use Rattle.zmeta_offline.proofs.Showing.{HasShown}
use Rattle.zmeta_offline.proofs.show.show_octets.Given as goal

abbrev pub invariant-loop-framer : goal.invariant-loop-framer
invariant-loop-framer l = record {
  limited : l.framer.stream.limit ≡ MESSAGE_LIMIT;
  no_fault : l.framer.stream.fault ≡ None;
  so_far : HasShown l.octets l.framer.stream.octets l.initial.text.items l.text.items;
}

abbrev pub decreases-loop-framer : goal.decreases-loop-framer
decreases-loop-framer l = length l.framer.stream.octets
