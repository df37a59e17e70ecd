use Rattle.std.proofs.Common.{◌∙◌, ◌<◌, subst, sym}
use Rattle.std.specs.declared.alloc.AllocError.{AllocError}
use Rattle.zoom_asking.proofs.Driving.{driven_on}
use Rattle.zoom_asking.proofs.talk.drive.Goals as goal

pub returns-clause-driven : goal.returns-clause-driven
returns-clause-driven c =
    driven_on c.one_transcript.ensures AllocError c.args.c c.in_ok-drive.field-0 c.args.meta.now c.drive.new.self
    c.outgoing.new.self c.args.unsent.now.items c.outgoing.new.out.items
    (subst (λ n. c.args.c < n) (sym (c.outgoing.ensures.rest.size ∙ c.drive.ensures.rest.size)) c.requires)
    c.in_ok-drive.ensures.after c.in_ok-outgoing.ensures.after c.in_ok-outgoing.ensures.all
    c.in_ok-outgoing.ensures.gives
