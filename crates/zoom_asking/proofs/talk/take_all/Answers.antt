use Rattle.std.proofs.Common.{◌∙◌, ◌<◌, subst, sym, refl}
use Rattle.zoom_asking.proofs.Taking.{taken_none, taken_more, taken_end}
use Rattle.zoom_asking.proofs.talk.take_all.Goals as goal

pub loop-init : goal.loop-init
loop-init c = record { taken = taken_none c.args.c c.args.meta.now c.args.unsent.now.items; size = refl }

pub take-requires : goal.take-requires
take-requires c = subst (λ n. c.args.c < n) (sym c.loop.invariant.size) c.requires

pub drive-requires : goal.drive-requires
drive-requires c =
    subst (λ n. c.args.c < n) (sym (c.take.ensures.size ∙ c.loop.invariant.size)) c.requires

pub returns-in_err-take-clause-size : goal.returns-in_err-take-clause-size
returns-in_err-take-clause-size c = c.take.ensures.size ∙ c.loop.invariant.size

pub returns-in_err-drive-in-Message-clause-size : goal.returns-in_err-drive-in-Message-clause-size
returns-in_err-drive-in-Message-clause-size c =
    c.drive.ensures.size ∙ c.take.ensures.size ∙ c.loop.invariant.size

pub returns-in-Nothing : goal.returns-in-Nothing
returns-in-Nothing c = record {
  taken = taken_end c.args.c c.args.meta.now c.loop.meta c.take.new.meta c.args.unsent.now.items c.loop.unsent.items
      c.in_ok-take.field-0 c.in-Nothing.is c.loop.invariant.taken c.in_ok-take.ensures.received;
  size = c.take.ensures.size ∙ c.loop.invariant.size;
}

pub loop-preserved : goal.loop-preserved
loop-preserved c = record {
  taken = taken_more c.args.c c.args.meta.now c.loop.meta c.take.new.meta c.drive.new.meta c.args.unsent.now.items
      c.loop.unsent.items c.drive.new.unsent.items c.in_ok-take.field-0 c.in-Message.is c.loop.invariant.taken
      c.in_ok-take.ensures.received c.in_ok-drive-in-Message.ensures.driven;
  size = c.drive.ensures.size ∙ c.take.ensures.size ∙ c.loop.invariant.size;
}

pub returns-clause-size : goal.returns-clause-size
returns-clause-size c = c.loop.invariant.size
