use Rattle.std.proofs.Common.{subst, Err}
use Rattle.zoom_io.specs.Talking.{AfterConverse}
use Rattle.zoom_io.proofs.Ending.{ends_starved, ends_well, ends_refused}
use Rattle.zoom_io.proofs.Others.{others_more, else_others}
use Rattle.zoom_devices.specs.Devices.{HasNoFailure}
use Rattle.zoom_io.specs.Blameless.{IfTalkMemory}
use Rattle.zoom_io.proofs.conversation.talk.Goals as goal

pub returns-in-Ok-clause-talks : goal.returns-in-Ok-clause-talks
returns-in-Ok-clause-talks g c =
    ends_well c.args.c c.args.turns c.args.meta.now c.converse.new.meta _ _ _ _ c.in-Ok.ensures.talks

pub returns-in-Memory-clause-talks : goal.returns-in-Memory-clause-talks
returns-in-Memory-clause-talks g c =
    ends_starved c.args.c c.args.turns c.args.meta.now c.converse.new.meta c.stop.new.self _ _ _ _
    (subst
    (λ z. AfterConverse c.args.c c.args.turns (Err z) c.args.meta.now c.converse.new.meta (g.R.Source.state c.args.source.now)
    (g.R.Source.state c.converse.new.source) (g.W.Sink.state c.args.sink.now) (g.W.Sink.state c.converse.new.sink))
    c.in-Memory.is c.in-Err.ensures.talks)
    c.stop.ensures.after c.stop.ensures.stopped

pub returns-in_default : goal.returns-in_default
returns-in_default g c =
    let talks = ends_refused c.args.c c.args.turns c.in-Err.error c.args.meta.now c.converse.new.meta _ _ _ _
    c.in_default.not-Memory c.in-Err.ensures.talks in
    record {
      talks = talks;
      no_failure = c.in-Err.ensures.no_failure;
      stopped = talks.stopped;
      others = c.converse.ensures.others;
    }

pub returns-in-Memory-clause-others : goal.returns-in-Memory-clause-others
returns-in-Memory-clause-others g c =
    others_more c.args.c c.args.meta.now.pool c.converse.new.meta.pool c.stop.new.self.pool c.converse.ensures.others
    (else_others c.args.c c.converse.new.meta.pool c.stop.new.self.pool c.stop.ensures.rest)

pub returns-in-Memory-clause-no_failure : goal.returns-in-Memory-clause-no_failure
returns-in-Memory-clause-no_failure g c =
    subst
    (λ z. IfTalkMemory {A = Unit {0}} (Err z) (HasNoFailure (g.R.Source.state c.args.source.now)
    (g.R.Source.state c.converse.new.source)
    × HasNoFailure (g.W.Sink.state c.args.sink.now) (g.W.Sink.state c.converse.new.sink)))
    c.in-Memory.is c.in-Err.ensures.no_failure
