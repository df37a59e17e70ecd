use Rattle.std.proofs.Common.{◌++◌, ◌∙◌, ap}
use Rattle.ztarget.proofs.Truncations.{one_word}
use Rattle.ztarget.proofs.phrase.last_places.Goals as goal

pub returns-then-truncated : goal.returns-then-truncated
returns-then-truncated c = rw c.if-truncated.true c.truncated_places.ensures

pub returns : goal.returns
returns c =
    rw c.if-truncated.false
    (c.in_ok-extend_from_slice.ensures.items
    ∙ ap (λ l. l ++ c.places.result.now) c.new-found.ensures.items
    ∙ c.places.ensures
    ∙ c.requires c.args.word.now
    ∙ one_word c.args.entries.now c.args.word.now)
