use Rattle.zoom_io.proofs.AnswerEnds.{Begun}
use Rattle.zoom_io.proofs.replies.answer.Given as goal

abbrev pub invariant-loop : goal.invariant-loop
invariant-loop g l =
    Begun l.counter l.initial.host l.host (g.R.Source.state l.initial.source) (g.R.Source.state l.source)
    (g.W.Sink.state l.initial.sink) (g.W.Sink.state l.sink)
