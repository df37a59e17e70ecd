use Rattle.std.proofs.lemmas.Result.{on_ok_weaker}
use Rattle.zoom_asking.proofs.Taking.{heard_on}
use Rattle.zoom_asking.proofs.talk.hear.Goals as goal

pub returns-clause-heard : goal.returns-clause-heard
returns-clause-heard c =
    on_ok_weaker c.take_all.result
    (heard_on c.args.c c.args.piece.now c.args.meta.now c.feed.new.self c.take_all.new.meta c.args.unsent.now.items
    c.take_all.new.unsent.items c.in_ok-feed.ensures.after)
    c.take_all.ensures.taken
