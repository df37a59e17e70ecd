use Rattle.zoom_pool.specs.Links.{SameOthers}
use Rattle.zoom_io.specs.TalkTraces.{Due}
use Rattle.zoom_io.proofs.Sending.{Begun, BegunPartial}
use Rattle.zoom_io.proofs.conversation.converse.Given as goal

abbrev pub invariant-loop : goal.invariant-loop
invariant-loop g l =
    Begun l.c l.counter Due l.initial.meta l.meta (g.R.Source.state l.initial.source) (g.R.Source.state l.source)
    (g.W.Sink.state l.initial.sink) (g.W.Sink.state l.sink)
    × BegunPartial l.c l.counter l.initial.meta l.meta (g.R.Source.state l.initial.source) (g.R.Source.state l.source)
    (g.W.Sink.state l.initial.sink) (g.W.Sink.state l.sink)
    × SameOthers l.c l.initial.meta.pool l.meta.pool
