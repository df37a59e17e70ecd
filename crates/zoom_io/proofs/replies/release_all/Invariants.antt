use Rattle.zoom_io.proofs.Answering.{Releases}
use Rattle.zoom_io.proofs.replies.release_all.Given as goal

abbrev pub invariant-loop : goal.invariant-loop
invariant-loop l = Releases l.counter l.initial.host l.host
