use Rattle.std.proofs.Common.{sym, ◌∙◌}
use Rattle.zoom_asking.proofs.Feeding.{not_fed, fed}
use Rattle.zoom_asking.proofs.asking.Asking.feed.Goals as goal

pub returns-in-None-clause-fed : goal.returns-in-None-clause-fed
returns-in-None-clause-fed c =
    not_fed c.args.c c.args.at c.args.piece.now c.args.self.now c.course.result.now c.course.ensures
    (sym c.lost_of.ensures ∙ c.in-None.is)

pub returns-in_ok-tell-in-Some-clause-fed : goal.returns-in_ok-tell-in-Some-clause-fed
returns-in_ok-tell-in-Some-clause-fed c =
    fed c.args.c c.args.at c.args.piece.now c.args.self.now c.hear.new.self c.tell.new.self c.course.result.now
    c.in-Some.lost c.in_ok-condition-in-Some.condition c.course.ensures (sym c.lost_of.ensures ∙ c.in-Some.is)
    c.in_ok-condition-in-Some.ensures.talked c.in_ok-condition-in-Some.ensures.condition
    c.in_ok-tell-in-Some.ensures.told
